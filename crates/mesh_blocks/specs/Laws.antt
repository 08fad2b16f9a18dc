-- The statements that this crate proves of its definitions.
use Rattle.std.specs.Prelude.{ℕ, ◌≡◌, ◌+◌, List, []}
use Rattle.mesh_base.specs.declared.events.Variant.{Variant}
use Rattle.mesh_text.specs.Accounts.{IsBalanced}
use Rattle.mesh_text.specs.Text.{text_of_input}
use Rattle.mesh_text.specs.Runs.{run_state_at}
use Rattle.mesh_blocks.specs.declared.below.Below.{Below}
use Rattle.mesh_blocks.specs.Changes.{changes, lines_gone, lines_come, times}
use Rattle.mesh_blocks.specs.Text.{watched_of_input}
use Rattle.mesh_blocks.specs.RunStates.{state_within}
use Rattle.mesh_blocks.specs.Parts.{HasBlocksBelowEvents}

-- ---- a watched run

-- a watched run differs from the run in its lines alone: it comes to the same state, verdict and
-- last line
abbrev pub WatchedRunIsTheRun : Type 0
WatchedRunIsTheRun = (below : Below) (variant : Variant) (input : List ℕ) →
    let w = watched_of_input below variant input in
    w ≡ record (text_of_input variant input) { lines = w.lines }

-- its states are those of the run: after the first i lines, and k events of the next
abbrev pub StateIsTheRuns : Type 0
StateIsTheRuns = (below : Below) (variant : Variant) (input : List ℕ) (i k : ℕ)
    → state_within below variant input i k ≡ run_state_at variant input i k

-- so as many data were given or doubled as were delivered, wait in a store or a queue, are in
-- flight, or were dropped
abbrev pub DataAreAccountedFor : Type 0
DataAreAccountedFor = (below : Below) (variant : Variant) (input : List ℕ)
    → IsBalanced (watched_of_input below variant input).after

-- its text is that of the run and, directly below each event that has changed a node, the block of
-- that node in the state after the event, or the changes of that block. The lines of events, what
-- is below them, and what is between them are whole lines
abbrev pub BlocksAreAllThatIsAdded : Type 0
BlocksAreAllThatIsAdded =
    (below : Below) (variant : Variant) (input : List ℕ) → HasBlocksBelowEvents below variant input

-- ---- the changes of a block

-- the changes lead from the lines before to the lines after: for any line, how often it occurs
-- after, plus how often it went, is how often it occurs before, plus how often it came
abbrev pub ChangesLeadOn : Type 0
ChangesLeadOn = (before after : List (List ℕ)) (l : List ℕ) →
    let made = changes before after in
    times l after + times l (lines_gone made) ≡ times l before + times l (lines_come made)

-- if the lines are the same, nothing has changed
abbrev pub SameLinesHaveNoChanges : Type 0
SameLinesHaveNoChanges = (lines : List (List ℕ)) → changes lines lines ≡ []
