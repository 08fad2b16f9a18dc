-- What a line comes to, by what is read of it.
use Rattle.std.proofs.Common.{◌≡◌, ℕ, Bool, List, Option, Ok, Err, is_some, refl, sym, ap, subst, ◌∙◌}
use Rattle.mesh_grammar.specs.declared.fault.LineFault.{LineFault}
use Rattle.mesh_grammar.specs.declared.fault.BadWhy.TheVariants.{Fault}
use Rattle.mesh_shell.specs.Pieces.{Whole}
use Rattle.mesh_text.specs.Schedule.{RunState, AcceptedLine, line_of}
use Rattle.mesh_text.specs.Text.{LineOutcome, outcome_of_piece, outcome_of_read, outcome_of_line, Refused}
use Rattle.mesh_run.specs.declared.stop.Stop.{Stop}
use Rattle.mesh_run.specs.Runs.{IsLineDone, IsLineStopped}

came-whole : (m : RunState) (bytes : List ℕ) → outcome_of_piece m (Whole bytes) ≡ outcome_of_read m (line_of m.mesh (is_some m.world) bytes)
unfolding outcome_of_piece
came-whole m bytes = refl

came-accepted : (m : RunState) (bytes : List ℕ) (a : AcceptedLine) → line_of m.mesh (is_some m.world) bytes ≡ Ok a → outcome_of_piece m (Whole bytes) ≡ outcome_of_line m a
came-accepted m bytes a e = came-whole m bytes ∙ ap (outcome_of_read m) e

pub came-refused : (m : RunState) (bytes : List ℕ) (f : LineFault) → line_of m.mesh (is_some m.world) bytes ≡ Err f → outcome_of_piece m (Whole bytes) ≡ Refused (Fault f)
came-refused m bytes f e = came-whole m bytes ∙ ap (outcome_of_read m) e

-- an allowed line that was done
pub goes_accepted : (say : Bool) (m n : RunState) (bytes : List ℕ) (l : AcceptedLine) (a b : Option (List ℕ)) → line_of m.mesh (is_some m.world) bytes ≡ Ok l
    → IsLineDone say (outcome_of_line m l) n a b → IsLineDone say (outcome_of_piece m (Whole bytes)) n a b
goes_accepted say m n bytes l a b e g =
    let P : LineOutcome → Type 0 = λ k. IsLineDone say k n a b in
    subst P (sym (came-accepted m bytes l e)) g

-- an allowed line that was not done whole
pub stops_accepted : (say : Bool) (m n : RunState) (bytes : List ℕ) (l : AcceptedLine) (a b : Option (List ℕ)) (stop : Stop) → line_of m.mesh (is_some m.world) bytes ≡ Ok l
    → IsLineStopped say m (outcome_of_line m l) n a b stop → IsLineStopped say m (outcome_of_piece m (Whole bytes)) n a b stop
stops_accepted say m n bytes l a b stop e g =
    let P : LineOutcome → Type 0 = λ k. IsLineStopped say m k n a b stop in
    subst P (sym (came-accepted m bytes l e)) g
