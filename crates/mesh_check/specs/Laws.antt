-- Each text has one right answer.
use Rattle.std.specs.Prelude.{ℕ, ◌≡◌, List}
use Rattle.mesh_check.specs.Says.{Says}
use Rattle.mesh_check.specs.Verdicts.{IsRight}
use Rattle.mesh_check.specs.declared.status.CheckStatus.{CheckStatus}

-- there is a right answer
abbrev pub HasRightAnswer : Type 0
HasRightAnswer = (s : Says) → (status : CheckStatus) × (text : List ℕ) × IsRight s status text

-- there is no other right answer, with its line
abbrev pub HasOneAnswer : Type 0
HasOneAnswer =
    (s : Says) (a b : CheckStatus) (x y : List ℕ) → IsRight s a x → IsRight s b y
    → (a ≡ b) × (x ≡ y)
