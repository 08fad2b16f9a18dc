-- A text that was handed on whole, or a prefix of it.
use Rattle.std.proofs.Common.{◌≡◌, ℕ, Bool, true, false, List, [], ◌++◌, Option, refl, sym, ap, subst, ◌∙◌, append-nil}
use Rattle.std.specs.Prelude.{Result, Ok, Err, is_err, IsErrOf}
use Rattle.std.specs.Io.KnownBytes.{Appends}
use Rattle.mesh_io.specs.Cause.{HasCause}
use Rattle.mesh_run.specs.Causes.{HasCauseIf}
use Rattle.mesh_io.specs.Puts.{AppendsPrefix, Puts}
use Rattle.mesh_io.proofs.Writing.{Appends-none}
use Rattle.mesh_save.specs.Encoders.{HasFailed, HasWritten, IsPut}
use Rattle.mesh_save.specs.EncoderLaws.{written_both}

-- what was put of what is gathered and a text
pub put_whole : {T E : Type 0} (r : Result T E) (failed : Bool) (x y : Option (List ℕ)) (m n : ℕ) (gathered left text whole : List ℕ) → failed ≡ is_err r → left ≡ [] → whole ≡ gathered ++ text → Puts x y whole r → HasCause m n r → HasWritten false failed x y m n gathered left text
put_whole (Ok t) true x y m n gathered left text whole f l w puts cause = cc
put_whole (Ok t) false x y m n gathered left text whole f l w puts cause =
    (record { handed = whole; whole = sym w ∙ sym (append-nil whole) ∙ ap (λ (ls : List ℕ). whole ++ ls) (sym l); grown = puts }, cause.none)
put_whole (Err e) true x y m n gathered left text whole f l w puts cause = (subst (AppendsPrefix x y) w puts, (cause.later, cause.failed))
put_whole (Err e) false x y m n gathered left text whole f l w puts cause = cc

-- a text that was gathered
pub gathered_more : (x : Option (List ℕ)) (m : ℕ) (gathered left text : List ℕ) → left ≡ gathered ++ text → HasWritten false false x x m m gathered left text
gathered_more x m gathered left text e = (record { handed = []; whole = sym e; grown = Appends-none x }, refl)

-- nothing is gathered before or after
all_on : (failed : Bool) (x y : Option (List ℕ)) (m n : ℕ) (left text : List ℕ) → left ≡ [] → HasWritten false failed x y m n [] left text → IsPut text failed x y m n
all_on true x y m n left text none is = is
all_on false x y m n left text none is =
    let whole : (is.0).handed ≡ text = sym (append-nil (is.0).handed) ∙ ap (λ (l : List ℕ). (is.0).handed ++ l) (sym none) ∙ sym (is.0).whole in
    (subst (Appends x y) whole (is.0).grown, is.1)

-- the last bytes that are gathered are handed on
pub flushed : (failed : Bool) (x y z : Option (List ℕ)) (l m n : ℕ) (left rest text : List ℕ) → rest ≡ [] → HasWritten false false x y l m [] left text → HasWritten false failed y z m n left rest [] → IsPut text failed x z l n
flushed failed x y z l m n left rest text none one two =
    subst (λ (t : List ℕ). IsPut t failed x z l n) (append-nil text) (all_on failed x z l n rest (text ++ []) none (written_both false false failed x y z l m n [] left rest text [] one two))

-- a fault as the cause of an answer
pub a_fault : {T E : Type 0} (answer : Result T E) (e : E) (m n : ℕ) → IsErrOf answer e → HasFailed m n → HasCauseIf (IsErrOf answer e) m n
a_fault answer e m n is failed = record { later = failed.0; failed = λ _. failed.1; none = λ not. absurd (not is) }
