-- What was told to a buffer was told to the sink behind it.
use Rattle.std.proofs.Common.{◌≡◌, List, [], ℕ, Option, Some, None, Result, Ok, Err, sym, subst, append-nil}
use Rattle.std.specs.Prelude.{IfSome}
use Rattle.std.specs.Io.KnownBytes.{Keeps}
use Rattle.mesh_io.specs.Puts.{AppendsPrefix}
use Rattle.mesh_io.proofs.Writing.{AppendsPrefix-keeps}
use Rattle.mesh_shell.specs.Fold.{RunText, whole}
use Rattle.mesh_shell.specs.Outputs.{IsOutputOf}
use Rattle.mesh_shell.specs.declared.fault.Fault.{Fault}
use Rattle.mesh_shell.specs.declared.fault.Fault.TheVariants.{ReadFault, WriteFault, NoMemory}

-- whatever was answered, a prefix was written
from_front : {M V : Type 0} (text : List ℕ → RunText M V) (bytes : List ℕ) (new a b : Option (List ℕ)) (s : Result V Fault) → IsOutputOf text bytes new a b s → AppendsPrefix a b (whole (text bytes))
from_front text bytes new a b (Ok v) t = record { prefix = whole (text bytes); rest = []; whole = sym (append-nil (whole (text bytes))); grown = t.1 }
from_front text bytes new a b (Err ReadFault) t = t.prefix
from_front text bytes new a b (Err WriteFault) t = t
from_front text bytes new a b (Err NoMemory) t = t

-- and then a write failed
pub then_faulted : {M V : Type 0} (text : List ℕ → RunText M V) (left here new there a b c : Option (List ℕ)) (s : Result V Fault) → left ≡ here → IfSome left (λ bytes. IsOutputOf text bytes new a b s) → Keeps b c
    → IfSome here (λ bytes. IsOutputOf {M = M} {V = V} text bytes there a c (Err WriteFault))
then_faulted {M} {V} text left here new there a b c s same t k = by_known here (subst (λ (o : Option (List ℕ)). IfSome o (λ bytes. IsOutputOf text bytes new a b s)) same t)
  where
    by_known : (o : Option (List ℕ)) → IfSome o (λ bytes. IsOutputOf text bytes new a b s) → IfSome o (λ bytes. IsOutputOf {M = M} {V = V} text bytes there a c (Err WriteFault))
    by_known None t = tt
    by_known (Some bytes) t = AppendsPrefix-keeps a b c _ (from_front text bytes new a b s t) k
