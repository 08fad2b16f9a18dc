-- What is known of a run of lines, whatever is done with them.
use Rattle.std.specs.Prelude.{ℕ, ◌≡◌, ◌≤◌, List, [], ◌∷◌, ◌++◌, Option, Some, IfSome}
use Rattle.std.specs.Io.KnownBytes.{Consumes, IsAtEnd}
use Rattle.mesh_io.specs.Cause.{Rose}
use Rattle.mesh_io.specs.Cutting.{HasNoLf}
use Rattle.mesh_io.specs.declared.limits.Limits.{Limits}
use Rattle.mesh_shell.specs.Pieces.{Piece, pieces_within}
use Rattle.mesh_shell.specs.Scripts.{size_of_pieces}
use Rattle.mesh_shell.specs.Outputs.{EndsWithLf}
use Rattle.mesh_shell.specs.declared.reader.LineReader as readers
use Rattle.mesh_shell.specs.declared.runner.Runner as runners

-- where a run has ended: at the end of the input, at a line, before a read, or at a read that
-- failed
pub data End : Type 0 where
  AtEnd : End
  AtLine : Piece → End
  AtWait : End
  AtFault : End

-- what the runner did at this end
abbrev pub HasEnded : {R A : Type 0} → runners.Ghosts R A → End → R → R → A → Type 0
HasEnded r AtEnd mid new answer = r.ends mid new answer
HasEnded r (AtLine piece) mid new answer = r.stops mid piece new answer
HasEnded r AtWait mid new answer = r.breaks mid new answer
HasEnded r AtFault mid new answer = r.cuts mid new answer

-- a read failed after some lines, each with its LF, and bytes without one were taken: the lines
-- are those that were done
pub record IsCutAt (most : Limits) (bytes : List ℕ) (left : Option (List ℕ)) (done : List Piece)
    : Type 0 where
  pub lines : List ℕ
  pub others : List ℕ
  pub whole_lines : EndsWithLf lines
  pub unended : HasNoLf others
  pub consumed : Consumes (Some bytes) left (lines ++ others)
  pub pieces : pieces_within most lines ≡ done

-- a read has failed at the end of the run
pub record HasFailed (most : Limits) (bytes left : Option (List ℕ)) (faults faults_now : ℕ)
    (done : List Piece) : Type 0 where
  pub later : faults ≤ faults_now
  pub rose : Rose faults faults_now
  pub cut : IfSome bytes (λ b. IsCutAt most b left done)

-- what is left of the input at this end, after the lines that were done: the lines to come, and
-- whether a read has failed
abbrev pub LeavesOf : Limits → (bytes left : Option (List ℕ)) → (faults faults_now : ℕ)
    → (done later : List Piece) → End → Type 0
LeavesOf most bytes left faults faults_now done later AtEnd =
    (later ≡ []) × IsAtEnd left × (faults_now ≡ faults)
LeavesOf most bytes left faults faults_now done later (AtLine piece) =
    ((rest : List Piece) × (later ≡ piece ∷ rest)) × (faults_now ≡ faults)
LeavesOf most bytes left faults faults_now done later AtWait = faults_now ≡ faults
LeavesOf most bytes left faults faults_now done later AtFault =
    HasFailed most bytes left faults faults_now done

-- the lines of a reader were run, from the old state to the new one, and this was answered: the
-- first of the lines were done, and then the run ended
pub record IsRan {R A L : Type 0} (r : runners.Ghosts R A) (l : readers.Ghosts L) (lines after : L)
    (old new : R) (answer : A) : Type 0 where
  pub done : List Piece
  pub later : List Piece
  pub mid : R
  pub at : End
  -- if the source's bytes are known, these are all of its lines
  pub all : IfSome (l.left lines) (λ b. pieces_within (l.limits lines) b ≡ done ++ later)
  pub few : size_of_pieces done ≤ (l.limits lines).input
  pub led : r.leads old done mid
  pub ended : HasEnded r at mid new answer
  pub leaves : LeavesOf (l.limits lines) (l.left lines) (l.left after) (l.faults lines)
      (l.faults after) done later at
