-- The events that a line of the input comes to, and the channel after them.
use Rattle.std.specs.Prelude.{ℕ, zero, suc, ◌+◌, ◌-◌, List, [], ◌∷◌, Option, Some, None}
use Rattle.mesh_model.specs.Worlds as worlds
use Rattle.mesh_model.specs.Worlds.{World, Event, Outcome, Idle, Next}
use Rattle.mesh_text.specs.Schedule as schedule
use Rattle.mesh_text.specs.Schedule.{with_world, world_of, outcome_at, next_state}
use Rattle.mesh_fates.specs.declared.rates.Rates.{Rates}
use Rattle.mesh_fates.specs.Channels.{Channel, after_given, after_chosen}
use Rattle.mesh_channel.specs.declared.until.TheConstants.{MOST_CHOSEN}
use Rattle.mesh_channel.specs.Choices.{Choice, Chosen, Nothing, next_choice}
use Rattle.mesh_channel.specs.declared.until.Until.{Until}

-- events, and the channel after them
pub record Drawn : Type 0 where
  pub events : List Event
  pub channel : Channel

abbrev pub none : Channel → Drawn
none c = record { events = []; channel = c }

abbrev pub before : Event → Drawn → Drawn
before e others = record others { events = e ∷ others.events }

-- ---- an event of the input

-- the event, and then what is decided of the copies that it made
abbrev pub given : Rates → schedule.RunState → Event → Channel → Drawn
given rates m e c =
    let after = after_given rates (world_of m) (outcome_at m e) c in
    record { events = e ∷ after.left; channel = record after { left = [] } }

-- ---- events that the channel chooses

-- an event, and then the others from the state after it; an event that is refused for a full
-- counter is the last
abbrev pub event_then : Event → Outcome → Channel → Drawn → Drawn
event_then e (worlds.Full x field) c others = record { events = e ∷ []; channel = c }
event_then e Idle c others = before e others
event_then e (Next w world_effect) c others = before e others

abbrev pub choice_then : Rates → schedule.RunState → Choice → (schedule.RunState → Channel → Drawn)
    → Drawn
choice_then rates m (Nothing c) others = none c
choice_then rates m (Chosen e c) others =
    event_then e (outcome_at m e) c
    (others (next_state m e) (after_chosen rates (world_of m) (outcome_at m e) c))

-- at most `most` events, from a state on in which the line has done `did` events
unfoldable pub chosen_from : (most : ℕ) → Rates → Until → (did : ℕ) → schedule.RunState → Channel
    → Drawn
chosen_from zero rates until did m c = none c
chosen_from (suc most) rates until did m c =
    choice_then rates m (next_choice until did (world_of m) c)
    (λ n after. chosen_from most rates until (did + 1) n after)

-- before the run has started there is nothing to choose
abbrev pub chosen_in : Rates → Until → schedule.RunState → Option World → Channel → Drawn
chosen_in rates until m None c = none c
chosen_in rates until m (Some w) c =
    chosen_from (MOST_CHOSEN - m.steps) rates until 0 m c

-- the events that a line chooses, as long as the run has gone through fewer than MOST_CHOSEN events
abbrev pub chosen : Rates → Until → schedule.RunState → Channel → Drawn
chosen rates until m c = chosen_in rates until m m.world c
