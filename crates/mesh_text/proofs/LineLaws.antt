-- How many bytes a line has at least, and how many events it does at most.
use Rattle.std.proofs.Common.{◌≡◌, ℕ, zero, suc, ◌*◌, ◌≤◌, List, Option, Some, None, Result, Ok, Err, length, ap, arith, is_some}
use Rattle.mesh_base.specs.declared.limits.TheConstants.{MOST_EVENTS}
use Rattle.mesh_base.specs.Meshes.{Nodes}
use Rattle.mesh_model.specs.Worlds as worlds
use Rattle.mesh_model.specs.Worlds.{Event, Give, Turn, Send, Ask, Link, Cut, Deliver, Lose, Double, Outcome, Idle, Next}
use Rattle.mesh_model.specs.Choices.{pick}
use Rattle.mesh_grammar.specs.declared.fault.LineFault.{LineFault}
use Rattle.mesh_grammar.specs.Written.{command_text}
use Rattle.mesh_text.specs.Schedule.{RunState, AcceptedLine, Does, Chooses, line_of, world_of, with_world, next_state, outcome_at}
use Rattle.mesh_text.specs.Lines.{words_of, event_words}
use Rattle.mesh_text.specs.Auto.{event_then, choice_then, events_chosen}
use Rattle.mesh_text.specs.Runs.{events_read}
use Rattle.mesh_text.specs.Laws.{AutoLineHasFourBytes, LineHasFewEvents}
use Rattle.mesh_text.proofs.InRange.{Allowed, line_allowed}
use Rattle.mesh_text.proofs.Echoes.{read_line_is_written_as_it_was, Echoed, echoed}

-- ---- bytes

auto_words : (mesh : Nodes) (count : ℕ) → 4 ≤ length (words_of mesh (Chooses count))
unfolding words_of command_text
auto_words mesh count = omega arith

event_has_words : (mesh : Nodes) (e : Event) → 1 ≤ length (event_words mesh e)
unfolding event_words command_text
event_has_words mesh (Give x d body) = omega arith
event_has_words mesh (Turn x) = omega arith
event_has_words mesh (Send x d) = omega arith
event_has_words mesh (Ask x d) = omega arith
event_has_words mesh (Link a b) = omega arith
event_has_words mesh (Cut a b) = omega arith
event_has_words mesh (Deliver id) = omega arith
event_has_words mesh (Lose id) = omega arith
event_has_words mesh (Double id) = omega arith

pub auto_line_has_four_bytes : AutoLineHasFourBytes
auto_line_has_four_bytes mesh with_world line count is =
    let same : length line ≡ length (words_of mesh (Chooses count)) = ap length (read_line_is_written_as_it_was mesh with_world line (Chooses count) is) in
    let four = auto_words mesh count in
    omega arith

-- ---- events

event_few : (most : ℕ) (m : RunState) (e : Event) (o : Outcome) (more : RunState → List Event) → length (more (next_state m e)) ≤ most
    → length (event_then m e o more) ≤ suc most
event_few most m e Idle more few = omega arith
event_few most m e (worlds.Full x field) more few = omega arith
event_few most m e (Next w world_effect) more few = omega arith

choice_few : (most : ℕ) (m : RunState) (o : Option Event) (more : RunState → List Event) → ((n : RunState) → length (more n) ≤ most)
    → length (choice_then m o more) ≤ suc most
choice_few most m None more few = omega arith
choice_few most m (Some e) more few = event_few most m e (outcome_at m e) more (few (next_state m e))

pub chosen_few : (most : ℕ) (m : RunState) → length (events_chosen most m) ≤ most
unfolding events_chosen
chosen_few zero m = omega arith
chosen_few (suc most) m = choice_few most m (pick (world_of m)) (λ n. events_chosen most n) (chosen_few most)

read_few : (m : RunState) (line : List ℕ) (r : Result AcceptedLine LineFault) → Allowed m.mesh (is_some m.world) r → Echoed m.mesh line r
    → 4 * length (events_read m r) ≤ MOST_EVENTS * length line
unfolding Allowed Echoed words_of
read_few m line (Err f) allowed echo = omega arith
read_few m line (Ok (Does e)) allowed echo =
    let same : length line ≡ length (event_words m.mesh e) = ap length echo in
    let some = event_has_words m.mesh e in
    omega arith
read_few m line (Ok (Chooses count)) allowed echo =
    let same : length line ≡ length (words_of m.mesh (Chooses count)) = ap length echo in
    let four = auto_words m.mesh count in
    let few = chosen_few count (with_world m) in
    let most : count ≤ MOST_EVENTS = allowed.0.2 in
    omega arith
read_few m line (Ok others) allowed echo = omega arith

pub line_has_few_events : LineHasFewEvents
line_has_few_events m line few =
    read_few m line (line_of m.mesh (is_some m.world) line) (line_allowed m.mesh (is_some m.world) line few) (echoed m.mesh (is_some m.world) line)
