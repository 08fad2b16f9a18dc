-- How large the counts of a run may be, and how they grow.
use Rattle.std.specs.Prelude.{ℕ, ◌≡◌, ◌≤◌, ◌+◌, ◌*◌, ◌^◌}
use Rattle.mesh_text.specs.Schedule as model
use Rattle.mesh_base.specs.declared.limits.TheConstants.{MOST_NODES}
use Rattle.mesh_text.specs.Schedule.{RunState, world_of}

-- the most that may have been counted before a world's first step
abbrev pub counted_before : ℕ
counted_before = 2 ^ 60

-- no sum is above that and the steps since
pub record AreCounts (s : model.Sums) (steps : ℕ) : Type 0 where
  pub events : s.events ≤ counted_before + steps
  pub idle : s.idle ≤ counted_before + steps
  pub given : s.given ≤ counted_before + steps
  pub delivered : s.delivered ≤ counted_before + steps
  pub lost : s.lost ≤ counted_before + steps
  pub copied : s.copied ≤ counted_before + steps

-- the number of events has grown by exactly as much as the steps, and no other sum by more; the
-- next copy's number, which is 1 before there is a world, has grown by at most MOST_NODES for each
-- step
pub record IsGrown (m n : RunState) : Type 0 where
  pub steps : m.steps ≤ n.steps
  pub events : n.sums.events + m.steps ≡ m.sums.events + n.steps
  pub idle : n.sums.idle + m.steps ≤ m.sums.idle + n.steps
  pub given : n.sums.given + m.steps ≤ m.sums.given + n.steps
  pub delivered : n.sums.delivered + m.steps ≤ m.sums.delivered + n.steps
  pub lost : n.sums.lost + m.steps ≤ m.sums.lost + n.steps
  pub copied : n.sums.copied + m.steps ≤ m.sums.copied + n.steps
  pub copies : (world_of n).next_copy + MOST_NODES * m.steps ≤ (world_of m).next_copy
      + MOST_NODES * n.steps
