-- What the run of a schedule can have counted, far below the greatest numbers of a checkpoint.
use Rattle.std.specs.Prelude.{◌≤◌, ◌<◌, ◌^◌}
use Rattle.mesh_base.specs.declared.limits.TheConstants.{LONGEST_INPUT}
use Rattle.mesh_text.specs.Schedule.{RunState, world_of}
use Rattle.mesh_run.specs.Room.{steps_of_input_end}

-- the steps, the id of the next copy, the lines and the sums are small
pub record IsSmall (m : RunState) : Type 0 where
  pub steps : m.steps < steps_of_input_end
  pub next : (world_of m).next_copy < 2 ^ 50
  pub lines : m.lines ≤ LONGEST_INPUT
  pub events : (m.sums).events < steps_of_input_end
  pub idle : (m.sums).idle < steps_of_input_end
  pub given : (m.sums).given < steps_of_input_end
  pub delivered : (m.sums).delivered < steps_of_input_end
  pub lost : (m.sums).lost < steps_of_input_end
  pub copied : (m.sums).copied < steps_of_input_end
