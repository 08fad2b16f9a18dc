-- Answers, and what they are no error of.
use Rattle.std.proofs.Common.{◌≡◌, Result, Ok, Err, sym, ◌∙◌, ap}
use Rattle.std.specs.Prelude.{IsErrOf}
use Rattle.mesh_shell.specs.declared.fault.Fault.{Fault}

-- an answer is no error
pub no_error : {T : Type 0} (result : Result T Fault) (x : T) (fault : Fault) → result ≡ Ok x → ¬ IsErrOf result fault
no_error {T} result x fault is e = let clash : ◌≡◌ {A = Result T Fault} (Ok x) (Err fault) = sym is ∙ e in let P : ⊥ = cc in P

-- an error of another call
pub err_as : {A B E : Type 0} (x y : E) → IsErrOf {T = A} (Err x) y → IsErrOf {T = B} (Err x) y
err_as {A} {B} {E} x y h = let same : x ≡ y = cc in ap (λ (e : E). let r : Result B E = Err e in r) same
