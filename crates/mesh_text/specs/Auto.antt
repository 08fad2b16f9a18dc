-- Part of what the headline says.
-- Events one after another, their outcome, and the events that a run chooses.
use Rattle.std.specs.Prelude.{ℕ, zero, suc, List, [], ◌∷◌, ◌++◌, codes, Option, Some, None}
use Rattle.mesh_base.specs.declared.events.Full.{Full as Counter}
use Rattle.mesh_model.specs.Worlds as worlds
use Rattle.mesh_model.specs.Worlds.{Event, Outcome, Idle, Next}
use Rattle.mesh_model.specs.Choices.{pick}
use Rattle.mesh_text.specs.Schedule.{RunState, world_of, outcome_at, next_state}
use Rattle.mesh_grammar.specs.Written.{line, label_number}
use Rattle.mesh_text.specs.Effects.{outcome_lines}

-- ---- what comes of events

-- their text and the state after them; or the text before an event that is refused for a full
-- counter, the state in which it is refused, and that event
pub data EventsOutcome : Type 0 where
  Ended : (text : List ℕ) (after : RunState) → EventsOutcome
  Full : (text : List ℕ) (at : RunState) → Event → Counter → EventsOutcome

-- this outcome with a text before its own
abbrev pub before : List ℕ → EventsOutcome → EventsOutcome
before text (Ended others after) = Ended (text ++ others) after
before text (Full others n e field) = Full (text ++ others) n e field

-- one event, and then the others from the state after it
abbrev pub done_then : RunState → Event → Outcome → (RunState → EventsOutcome) → EventsOutcome
done_then m e Idle others = before (outcome_lines m.mesh e Idle) (others (next_state m e))
done_then m e (worlds.Full x field) others = Full [] m e field
done_then m e (Next w world_effect) others =
    before (outcome_lines m.mesh e (Next w world_effect)) (others (next_state m e))

-- the outcome of these events from a state on, each done in the state after the event before it
unfoldable pub outcome_of_events : RunState → List Event → EventsOutcome
outcome_of_events m [] = Ended [] m
outcome_of_events m (e ∷ events) =
    done_then m e (outcome_at m e) (λ n. outcome_of_events n events)

-- ---- events that are chosen, each by what is enabled at that time

-- an event, and then the others from the state after it; an event that is refused for a full
-- counter is the last
abbrev pub event_then : RunState → Event → Outcome → (RunState → List Event) → List Event
event_then m e Idle others = e ∷ others (next_state m e)
event_then m e (worlds.Full x field) others = e ∷ []
event_then m e (Next w world_effect) others = e ∷ others (next_state m e)

-- the event that is chosen, if any, and then the others
abbrev pub choice_then : RunState → Option Event → (RunState → List Event) → List Event
choice_then m None others = []
choice_then m (Some e) others = event_then m e (outcome_at m e) others

-- up to this many events that are chosen from a state on
unfoldable pub events_chosen : ℕ → RunState → List Event
events_chosen zero m = []
events_chosen (suc most) m = choice_then m (pick (world_of m)) (λ n. events_chosen most n)

-- the line after this many chosen events
abbrev pub auto_end : ℕ → List ℕ
auto_end did = line (label_number (codes "auto did ") did)
