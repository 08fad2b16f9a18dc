-- How far lines can lead, and the room that they need.
use Rattle.std.specs.Prelude.{ℕ, ◌≤◌, ◌<◌, ◌+◌, ◌*◌, length, max}
use Rattle.mesh_base.specs.Bounds.{most_lines, most_steps_before_line}
use Rattle.mesh_base.specs.declared.limits.TheConstants.{MOST_NODES}
use Rattle.mesh_text.specs.Schedule.{RunState, world_of}
use Rattle.mesh_channel.specs.declared.until.TheConstants.{LAST_TICK, MOST_CHOSEN}
use Rattle.mesh_channel.specs.declared.channeled.Channeled.{Channeled}

-- the most events that can be left to do: for each copy of a cast its doubling, its loss, and the
-- loss of its double
abbrev pub most_left : ℕ
most_left = 3 * MOST_NODES

-- the most events that a byte of the input stands for, besides those that the channel chooses
abbrev pub most_events : ℕ
most_events = 1 + 2 * most_left

-- copies are numbered from 1 on, and each event has taken at most MOST_NODES + 1 numbers
pub record HasFewCopies (m : RunState) : Type 0 where
  pub some : 1 ≤ (world_of m).next_copy
  pub few : (world_of m).next_copy ≤ 1 + (MOST_NODES + 1) * m.steps

-- lines of this many bytes in all, their LFs included, can be done from this state on
pub record HasRoomFor (p : Channeled) (size : ℕ) : Type 0 where
  pub lines : (p.point).lines + size < most_lines
  pub steps : max (p.point).steps MOST_CHOSEN + most_events * size < most_steps_before_line
  pub left : length (p.channel).left ≤ most_left
  pub tick : (p.channel).tick ≤ LAST_TICK
  pub copies : HasFewCopies p.point

-- lines of this many bytes can lead from run p to run q
pub record CanLead (p : Channeled) (size : ℕ) (q : Channeled) : Type 0 where
  pub lines : (q.point).lines ≤ (p.point).lines + size
  pub steps : (q.point).steps ≤ max (p.point).steps MOST_CHOSEN + most_events * size
  pub left : length (p.channel).left ≤ most_left → length (q.channel).left ≤ most_left
  pub tick : (p.channel).tick ≤ LAST_TICK → (q.channel).tick ≤ LAST_TICK
  pub copies : HasFewCopies p.point → HasFewCopies q.point
