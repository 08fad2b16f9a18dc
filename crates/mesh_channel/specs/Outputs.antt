-- What a run over a channel has written and answered: what the sink held before, and holds now.
use Rattle.std.specs.Prelude.{ℕ, ◌≡◌, List, map, Option, take}
use Rattle.mesh_shell.specs.Pieces.{Whole}
use Rattle.mesh_base.specs.declared.events.Variant.{Variant}
use Rattle.mesh_model.specs.Walks.{Cycle}
use Rattle.mesh_model.specs.Accounts.{Test}
use Rattle.mesh_text.specs.Schedule as schedule
use Rattle.mesh_text.specs.Text as text
use Rattle.mesh_text.specs.EveryWorld.{IsAccountedAfter}
use Rattle.mesh_run.specs.Outputs.{IsOutputOf}
use Rattle.mesh_run.specs.declared.say.Say.{Say}
use Rattle.mesh_run.specs.declared.status.Status.{Status}
use Rattle.mesh_fates.specs.declared.rates.Rates.{Rates}
use Rattle.mesh_channel.specs.Text.{RunState, opening, text_on, text_of_input}
use Rattle.mesh_channel.specs.Schedule.{chosen_schedule}
use Rattle.mesh_channel.specs.Runs.{events_of_input, opening_world, world_after}
use Rattle.mesh_channel.specs.Laws.{IsReplay}
use Rattle.mesh_channel.specs.declared.words.Options.{Options}

-- a run over a channel of these bytes from a state on has answered, and the source has this left.
-- After a failed read, what was written is the text of the lines that were read whole
abbrev pub IsOutputFrom : Say → Rates → RunState → List ℕ → Option (List ℕ) → Option (List ℕ)
    → Option (List ℕ) → Status → Type 0
IsOutputFrom say rates m bytes left before now s =
    IsOutputOf say (text_on rates m) bytes left before now s

-- what holds for the run of every input over every channel: `mesh run` replays the schedule that it
-- chooses; the world after it is the one to which its events lead; in no world that they lead
-- through does a destination have a loop; and in each of them every datum is accounted for
pub record IsChannelRun (rates : Rates) (variant : Variant) (seed : ℕ) (input : List ℕ)
    : Type 0 where
  pub replayed : IsReplay
      (text.text_from (schedule.opening variant)
      (map Whole (chosen_schedule rates variant seed input)))
      (text_of_input rates variant seed input)
  pub worlds : let w = text_of_input rates variant seed input in
      schedule.world_of w.after.run
      ≡ world_after rates variant seed input w.after.run.sums.events
  pub loop_free : (k d : ℕ) → ¬ (Cycle (world_after rates variant seed input k) d)
  pub accounted : (t : Test) (k : ℕ)
      → IsAccountedAfter t (opening_world rates variant seed input)
      (take k (events_of_input rates variant seed input))

-- such a run of the input that a source had has written and answered this
abbrev pub IsRun : Options → List ℕ → Option (List ℕ) → Option (List ℕ) → Option (List ℕ)
    → Status → Type 0
IsRun o input left before now s =
    IsOutputFrom o.say o.rates (opening o.variant o.seed) input left before now s
    × IsChannelRun o.rates o.variant o.seed input
