-- What a watched run has written and answered: what the sink held before, and what it holds now.
use Rattle.std.specs.Prelude.{ℕ, ◌≡◌, List, Option}
use Rattle.mesh_base.specs.declared.events.Variant.{Variant}
use Rattle.mesh_model.specs.Walks.{Cycle}
use Rattle.mesh_text.specs.Schedule.{RunState, opening, world_of}
use Rattle.mesh_text.specs.Runs.{run_state_at, world_after}
use Rattle.mesh_run.specs.Outputs.{IsOutputOf}
use Rattle.mesh_run.specs.declared.say.Say.TheVariants.{All}
use Rattle.mesh_run.specs.declared.status.Status.{Status}
use Rattle.mesh_blocks.specs.declared.below.Below.{Below}
use Rattle.mesh_blocks.specs.Text.{watched_on, watched_of_input}
use Rattle.mesh_blocks.specs.RunStates.{AreDone, state_within, IsOfEvents}
use Rattle.mesh_blocks.specs.Parts.{HasBlocksBelowEvents}

-- ---- what is written and answered

-- a watched run of these bytes from a state on has answered, and the source has this left. After a
-- failed read, what was written is the text of the lines that were read whole
abbrev pub IsOutputFrom : Below → RunState → List ℕ → Option (List ℕ) → Option (List ℕ)
    → Option (List ℕ) → Status → Type 0
IsOutputFrom below m bytes left before now s =
    IsOutputOf All (watched_on below m) bytes left before now s

-- ---- the run that is written

-- its worlds are those of the schedule's run: the last one, the one after each line, and the one
-- after each event of the next line. In none of them does a destination have a loop. Its text is
-- that of the run and, directly below each event that has changed a node, that node's block or the
-- changes of that block
pub record IsWatchedRun (below : Below) (variant : Variant) (schedule : List ℕ) : Type 0 where
  pub worlds : let w = watched_of_input below variant schedule in
      world_of w.after ≡ world_after variant schedule w.after.sums.events
  pub same : (i k : ℕ) → state_within below variant schedule i k ≡ run_state_at variant schedule i k
  pub run_states : (i k : ℕ) → AreDone below variant schedule i
      → IsOfEvents variant schedule (state_within below variant schedule i k)
  pub loop_free : (k d : ℕ) → ¬ (Cycle (world_after variant schedule k) d)
  pub states_loop_free : (i k d : ℕ)
      → ¬ (Cycle (world_of (state_within below variant schedule i k)) d)
  pub blocks : HasBlocksBelowEvents below variant schedule

-- such a run of the schedule that a source had has written and answered this
abbrev pub IsRun : Below → Variant → List ℕ → Option (List ℕ) → Option (List ℕ) → Option (List ℕ)
    → Status → Type 0
IsRun below variant schedule left before now s =
    IsOutputFrom below (opening variant) schedule left before now s
    × IsWatchedRun below variant schedule
