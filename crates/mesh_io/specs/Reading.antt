-- What contracts see of a reader of lines.
use Rattle.std.specs.Prelude.{ℕ, Bool, List, Option}
use Rattle.std.specs.Borrow.{MutBor}
use Rattle.mesh_io.specs.NextLines.{limits_of}
use Rattle.mesh_io.specs.Decisions.{decides}
use Rattle.mesh_io.specs.Cutting.{line_in, pending_in, ahead_in, faults_in, refusal_in}
use Rattle.mesh_io.specs.declared.source.Source.{Ghosts}
use Rattle.mesh_io.specs.declared.cutter.Cutter.{Cutter}
use Rattle.mesh_io.specs.declared.lines.LinesWithin.{LinesWithin}
use Rattle.mesh_io.specs.declared.line_error.LineError.{LineError}

-- the source that is read
abbrev pub source_of : {S : Type 0} {l i c : ℕ} {G : Ghosts S} → LinesWithin S l i c G → MutBor S
source_of lines = (lines.cutter).source

-- the bytes that were read and not yet given
abbrev pub pending_of : {S : Type 0} {l i c : ℕ} {G : Ghosts S} → LinesWithin S l i c G → List ℕ
pending_of lines = pending_in lines.cutter

-- the line that was found last
abbrev pub line_of : {S : Type 0} {l i c : ℕ} {G : Ghosts S} → LinesWithin S l i c G → List ℕ
line_of lines = line_in lines.cutter

-- how many bytes were given, each LF included
abbrev pub given_of : {S : Type 0} {l i c : ℕ} {G : Ghosts S} → LinesWithin S l i c G → ℕ
given_of lines = (lines.cutter).given

-- the source has answered that it has ended
abbrev pub has_ended : {S : Type 0} {l i c : ℕ} {G : Ghosts S} → LinesWithin S l i c G → Bool
has_ended lines = (lines.cutter).ended

-- the pending bytes decide what comes next
abbrev pub is_decided_at : {S : Type 0} {l i c : ℕ} {G : Ghosts S} → LinesWithin S l i c G → Bool
is_decided_at {l = l} {i = i} lines =
    decides (limits_of l i) (given_of lines) (has_ended lines) (pending_of lines)

-- the refusal that each call from now on answers, if there is one
abbrev pub refusal_of : {S : Type 0} {l i c : ℕ} {G : Ghosts S} → LinesWithin S l i c G
    → Option LineError
refusal_of lines = refusal_in lines.cutter

-- the bytes to come, if they are known
abbrev pub ahead_of : {S : Type 0} {l i c : ℕ} {G : Ghosts S} → (S → Option (List ℕ))
    → LinesWithin S l i c G → Option (List ℕ)
ahead_of left lines = ahead_in left lines.cutter

-- how often the source has failed
abbrev pub faults_of : {S : Type 0} {l i c : ℕ} {G : Ghosts S} → (S → ℕ) → LinesWithin S l i c G → ℕ
faults_of faults lines = faults_in faults lines.cutter

-- the cutter of the source
abbrev pub cutter_of : {S : Type 0} {l i c : ℕ} {G : Ghosts S} → LinesWithin S l i c G
    → Cutter S c G
cutter_of lines = lines.cutter
