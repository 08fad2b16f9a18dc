-- The statements that this crate proves of its definitions.
use Rattle.std.specs.Prelude.{◌≡◌, ◌≢◌, ◌≤◌, ◌+◌, ◌*◌, ℕ, List, ◌++◌, length, take, Bool, Ok, codes}
use Rattle.std.specs.List.{AllByRecursion}
use Rattle.mesh_base.specs.declared.limits.TheConstants.{MOST_NODES, MOST_EVENTS, LONGEST_INPUT}
use Rattle.mesh_base.specs.declared.events.Full.{Full as Counter}
use Rattle.mesh_base.specs.declared.events.Variant.{Variant}
use Rattle.mesh_base.specs.Meshes.{Nodes, IsMesh}
use Rattle.mesh_model.specs.Walks.{Cycle}
use Rattle.mesh_model.specs.Worlds as worlds
use Rattle.mesh_model.specs.Worlds.{Event, run, start, first_numbers}
use Rattle.mesh_model.specs.InMesh.{IsInMesh, IsEvent}
use Rattle.mesh_model.specs.Invariants.{IsInvariant}
use Rattle.mesh_text.specs.Schedule.{RunState, AcceptedLine, Chooses, line_of, world_of, with_world, next_state, outcome_at}
use Rattle.mesh_grammar.specs.Lines.{complete}
use Rattle.mesh_shell.specs.Pieces.{Piece, Whole}
use Rattle.mesh_text.specs.Lines.{words_of, done_line}
use Rattle.mesh_text.specs.Text.{Full, outcome_of_piece, lines_before, text_on, text_of_input}
use Rattle.mesh_text.specs.declared.verdict.Verdict.TheVariants.{Finished, FullAt}
use Rattle.mesh_text.specs.Accounts.{IsBalanced, lines_with}
use Rattle.mesh_text.specs.Runs.{events_of_piece, events_of_input, run_state_after, prefix_of_input, run_state_at, mesh_of_input, world_after}
use Rattle.mesh_text.specs.EveryWorld.{IsAccountedRun}
use Rattle.mesh_text.specs.NamedData.{IsNamedRun}
use Rattle.mesh_text.specs.Ranges.{IsInRange, IsInTime, IsEcho}

-- ---- lines

-- a line that is read is in its range
abbrev pub ReadLineIsInRange : Type 0
ReadLineIsInRange = (mesh : Nodes) (started : Bool) (line : List ℕ) (a : AcceptedLine)
    → length mesh ≤ MOST_NODES → line_of mesh started line ≡ Ok a
    → IsInRange mesh a × IsInTime started a

-- a line that is written back is read as that line
abbrev pub PrintedLineParses : Type 0
PrintedLineParses = (mesh : Nodes) (started : Bool) (a : AcceptedLine)
    → IsMesh mesh → IsInRange mesh a → IsInTime started a
    → line_of mesh started (words_of mesh a) ≡ Ok a

-- a line that is read, and isn't blank, is written back as it was, except for `node ADDR`
abbrev pub ReadLineIsWrittenAsItWas : Type 0
ReadLineIsWrittenAsItWas = (mesh : Nodes) (started : Bool) (line : List ℕ) (a : AcceptedLine)
    → line_of mesh started line ≡ Ok a → IsEcho mesh line a

-- a line of chosen events has at least 4 bytes
abbrev pub AutoLineHasFourBytes : Type 0
AutoLineHasFourBytes = (mesh : Nodes) (started : Bool) (line : List ℕ) (count : ℕ)
    → line_of mesh started line ≡ Ok (Chooses count) → 4 ≤ length line

-- so a line does at most `MOST_EVENTS` / 4 events for each of its bytes
abbrev pub LineHasFewEvents : Type 0
LineHasFewEvents = (m : RunState) (line : List ℕ) → length m.mesh ≤ MOST_NODES
    → 4 * length (events_of_piece m (Whole line)) ≤ MOST_EVENTS * length line

-- ---- runs

-- if the counts of data add up before an event of the mesh, they do so after it
abbrev pub EventKeepsAccount : Type 0
EventKeepsAccount = (m : RunState) (e : Event) → IsInMesh (world_of m)
    → IsEvent (length (world_of m).nodes) e → IsBalanced m → IsBalanced (next_state m e)

-- after the last allowed line of any input the counts of data add up
abbrev pub DataAreAccountedFor : Type 0
DataAreAccountedFor = (variant : Variant) (input : List ℕ)
    → IsBalanced (text_of_input variant input).after

-- each datum by itself is accounted for, in each world of an input's run
abbrev pub EachDatumIsAccountedFor : Type 0
EachDatumIsAccountedFor = (variant : Variant) (input : List ℕ) → IsAccountedRun variant input

-- unless a full counter has ended the run, its text has as many lines of delivered data, and of
-- dropped data, as were counted
abbrev pub DataAreNamed : Type 0
DataAreNamed = (variant : Variant) (input : List ℕ)
    → ((number : ℕ) → (text_of_input variant input).verdict ≢ FullAt number)
    → let w = text_of_input variant input in
    (lines_with (codes "  delivered ") w.lines ≡ w.after.sums.delivered)
    × (lines_with (codes "  dropped ") w.lines ≡ w.after.sums.lost)

-- the text has a line for each time that a datum was delivered or dropped, however the run ends
abbrev pub EachDatumIsNamed : Type 0
EachDatumIsNamed = (variant : Variant) (input : List ℕ) → IsNamedRun variant input

-- idle events, given data and doubled data together are no more than the events; and no more data
-- were delivered and dropped than were given and doubled
abbrev pub SumsAreInOrder : Type 0
SumsAreInOrder = (variant : Variant) (input : List ℕ) →
    let sums = (text_of_input variant input).after.sums in
    (sums.idle + sums.given + sums.copied ≤ sums.events)
    × (sums.delivered + sums.lost ≤ sums.given + sums.copied)

-- the world after the last allowed line is the world after as many of the input's events as were
-- counted
abbrev pub RunIsRunOfEvents : Type 0
RunIsRunOfEvents = (variant : Variant) (input : List ℕ)
    → world_of (text_of_input variant input).after
    ≡ world_after variant input (text_of_input variant input).after.sums.events

-- the same holds for each state before: after the first i lines, if all of them were done, and k
-- events of the next line
abbrev pub StateIsOfRun : Type 0
StateIsOfRun = (variant : Variant) (input : List ℕ) (i k : ℕ)
    → (prefix_of_input variant input i).verdict ≡ Finished
    → let m = run_state_at variant input i k in
    world_of m
    ≡ run (start variant (first_numbers m.mesh))
    (take m.sums.events (events_of_input variant input))

-- unless a full counter has ended the run, each event of the input was counted
abbrev pub AllEventsCount : Type 0
AllEventsCount = (variant : Variant) (input : List ℕ)
    → ((number : ℕ) → (text_of_input variant input).verdict ≢ FullAt number)
    → (text_of_input variant input).after.sums.events ≡ length (events_of_input variant input)

-- each event of an input is an event of its mesh
abbrev pub EventsAreOfMesh : Type 0
EventsAreOfMesh = (variant : Variant) (input : List ℕ)
    → AllByRecursion (IsEvent (length (mesh_of_input variant input)))
    (events_of_input variant input)

-- after any number of an input's events no destination's valid routes have a loop
abbrev pub RunsAreLoopFree : Type 0
RunsAreLoopFree = (variant : Variant) (input : List ℕ) (k d : ℕ)
    → ¬ (Cycle (world_after variant input k) d)

-- nor do they in any state of a run: after the first i lines, and k events of the next
abbrev pub RunStateIsLoopFree : Type 0
RunStateIsLoopFree = (variant : Variant) (input : List ℕ) (i k d : ℕ)
    → ¬ (Cycle (world_of (run_state_at variant input i k)) d)

-- after any number of an input's events the world has the invariant
abbrev pub RunKeepsInvariant : Type 0
RunKeepsInvariant = (variant : Variant) (input : List ℕ) (k : ℕ)
    → IsInvariant (world_after variant input k)

-- ---- runs that go on

-- in an input within its limit, the run of complete lines that were all done, and of what follows,
-- is the run of the lines and then, from their last state on, the run of what follows
abbrev pub RunGoesOn : Type 0
RunGoesOn = (m : RunState) (front rest : List ℕ) → complete front ≡ front
    → length (front ++ rest) ≤ LONGEST_INPUT → (text_on m front).verdict ≡ Finished
    → text_on m (front ++ rest)
    ≡ lines_before (text_on m front).lines (text_on (text_on m front).after rest)

-- on any input the steps increase by as many as the counted events
abbrev pub StepsAreEvents : Type 0
StepsAreEvents = (m : RunState) (input : List ℕ) →
    let n = (text_on m input).after in
    n.steps + m.sums.events ≡ m.steps + n.sums.events

-- if a full counter ends a line, the event is refused in the state after some of the line's events
abbrev pub FullEventStands : Type 0
FullEventStands = (m : RunState) (piece : Piece) (text : List ℕ) (n : RunState) (e : Event)
    (field : Counter) → outcome_of_piece m piece ≡ Full text n e field
    → (k : ℕ) × (n ≡ run_state_after (with_world m) (take k (events_of_piece m piece)))
    × (node : ℕ) × (outcome_at n e ≡ worlds.Full node field)

-- ---- the last line

-- the last line of a finished run says what was counted up to its last state, and where data are in
-- that state
abbrev pub LastLineIsOfLastState : Type 0
LastLineIsOfLastState = (m : RunState) (input : List ℕ) → (text_on m input).verdict ≡ Finished
    → (text_on m input).last ≡ done_line (text_on m input).after
