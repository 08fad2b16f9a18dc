-- How far lines can lead, and the room that they need.
use Rattle.std.specs.Prelude.{ℕ, ◌≤◌, ◌<◌, ◌+◌, ◌*◌, ◌^◌}
use Rattle.mesh_base.specs.Bounds.{most_lines}
use Rattle.mesh_base.specs.declared.limits.TheConstants.{MOST_EVENTS}
use Rattle.mesh_text.specs.Schedule.{RunState}

-- the lines of one input lead to fewer steps than this
abbrev pub steps_of_input_end : ℕ
steps_of_input_end = 2 ^ 42

-- lines of this many bytes in all, their LFs included, can be done from this state on
pub record HasRoomFor (m : RunState) (size : ℕ) : Type 0 where
  pub lines : m.lines + size < most_lines
  pub steps : 4 * m.steps + MOST_EVENTS * size < 2 ^ 49

-- lines of this many bytes can lead from run state m to run state n
pub record CanLead (m : RunState) (size : ℕ) (n : RunState) : Type 0 where
  pub lines : n.lines ≤ m.lines + size
  pub steps : 4 * n.steps ≤ 4 * m.steps + MOST_EVENTS * size
