-- By how much a line of a watched run lets the lines and the steps grow: as it does in the run.
use Rattle.std.proofs.Common.{◌≡◌, ◌∙◌, ℕ, ◌≤◌, List, [], Option, Result, Ok, Err, OnOk, length, is_some, true, sym, ap}
use Rattle.mesh_base.specs.declared.limits.TheConstants.{MOST_NODES}
use Rattle.mesh_text.specs.Schedule.{RunState, AcceptedLine, line_of}
use Rattle.mesh_text.specs.Text.{LineOutcome, On, Refused, Full, outcome_of_line}
use Rattle.mesh_run.specs.declared.stop.Stop.{Stop}
use Rattle.mesh_run.specs.Runs.{IsLineRun}
use Rattle.mesh_run.proofs.Growth.{LineGrows, line_grows}
use Rattle.mesh_blocks.specs.declared.below.Below.{Below}
use Rattle.mesh_blocks.specs.Text.{watched_line}
use Rattle.mesh_blocks.proofs.SameRun.{bare, bare_line}

-- what is done, but for its text, is done with some text
on_bare : (k : LineOutcome) (n : RunState) → bare k ≡ On [] n → (text : List ℕ) × (k ≡ On text n)
on_bare (On text m) n same = (text, let next : m ≡ n = cc in ap (On text) next)
on_bare (Refused why) n same = absurd (let P : ⊥ = cc in P)
on_bare (Full text m e field) n same = absurd (let P : ⊥ = cc in P)

-- where it was done
pub watched_grows : {P : Type 0} (form : Below) (m n : RunState) (bytes : List ℕ) (a : AcceptedLine) (before now : Option (List ℕ)) (r : Result (Unit {0}) Stop) → (LineGrows m n (length bytes) → P) → length m.mesh ≤ MOST_NODES
    → line_of m.mesh (is_some m.world) bytes ≡ Ok a → IsLineRun true m (watched_line form m a) n before now r → OnOk r P
watched_grows form m n bytes a before now (Ok done) of few is run =
    let on = on_bare (outcome_of_line m a) n (sym (bare_line form m a) ∙ ap bare run.is) in
    of (line_grows m n bytes on.0 a few is on.1)
watched_grows form m n bytes a before now (Err stop) of few is run = tt
