-- What a run with places has written and answered: what the sink held before, and what it holds
-- now.
use Rattle.std.specs.Prelude.{ℕ, ◌≡◌, List, Option}
use Rattle.mesh_base.specs.declared.events.Variant.TheVariants.{Base}
use Rattle.mesh_model.specs.Walks.{Cycle}
use Rattle.mesh_model.specs.Worlds.{are_linked}
use Rattle.mesh_text.specs.Schedule.{world_of}
use Rattle.mesh_run.specs.Outputs.{IsOutputOf}
use Rattle.mesh_run.specs.declared.say.Say.TheVariants.{All}
use Rattle.mesh_run.specs.declared.status.Status.{Status}
use Rattle.mesh_grid.specs.Links.{is_in_reach}
use Rattle.mesh_grid.specs.Text.{RunState, opening, text_on, text_of_input}
use Rattle.mesh_grid.specs.Runs.{AreDone, run_state_at, state_within, world_after, IsOfEvents}

-- ---- what is written and answered

-- a run of these bytes from a state on has answered, and the source has this left. After a failed
-- read, what was written is the text of the lines that were read whole
abbrev pub IsOutputFrom : ℕ → RunState → List ℕ → Option (List ℕ) → Option (List ℕ)
    → Option (List ℕ) → Status → Type 0
IsOutputFrom reach m bytes left before now s =
    IsOutputOf All (text_on reach m) bytes left before now s

-- ---- the run that is written

-- its worlds are those of its events: the last one, the one after each line, and the one after each
-- event of the next line. In none of them does a destination have a loop; and after each line the
-- links that stand are those between nodes with places within reach of each other
pub record IsPlacedRun (reach : ℕ) (schedule : List ℕ) : Type 0 where
  pub worlds : let w = text_of_input reach Base schedule in
      world_of w.after.run ≡ world_after reach Base schedule w.after.run.sums.events
  pub run_states : (i k : ℕ) → AreDone reach Base schedule i
      → IsOfEvents reach Base schedule (state_within reach Base schedule i k)
  pub loop_free : (k d : ℕ) → ¬ (Cycle (world_after reach Base schedule k) d)
  pub states_loop_free : (i k d : ℕ)
      → ¬ (Cycle (world_of (state_within reach Base schedule i k)) d)
  pub links : (i a b : ℕ) → let m = run_state_at reach Base schedule i in
      are_linked (world_of m.run).links a b ≡ is_in_reach reach m.places a b

-- such a run of the schedule that a source had has written and answered this
abbrev pub IsRun : ℕ → List ℕ → Option (List ℕ) → Option (List ℕ) → Option (List ℕ) → Status
    → Type 0
IsRun reach schedule left before now s =
    IsOutputFrom reach (opening Base) schedule left before now s × IsPlacedRun reach schedule
