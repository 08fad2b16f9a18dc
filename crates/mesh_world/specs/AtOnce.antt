-- A copy that its receiver takes as soon as it is delivered: two events that are done as one.
use Rattle.std.specs.Prelude.{◌≡◌, ◌<◌, ℕ, length, Some, Ok}
use Rattle.mesh_model.specs.Worlds.{Deliver, Turn}
use Rattle.mesh_model.specs.Choices.{first_turn}
use Rattle.mesh_world.specs.Seen.{WorldSeen, IsSoundWorld}
use Rattle.mesh_world.specs.CountsOfEvents.{IsStepCounted}
use Rattle.mesh_world.specs.Accounts.{KeepsAccount}
use Rattle.mesh_world.specs.declared.event_counts.EventCounts.{EventCounts}
use Rattle.mesh_world.specs.declared.event_counts.EventCounts.TheVariants as counted

-- the copy of this id was delivered, and node `to`, which is then the least that may take a turn,
-- took one: these are the counts of the turn. Between the two events there is a sound world, and
-- each of them has its own account of the data
pub record IsTakenAtOnce (id : ℕ) (old : WorldSeen) (to : ℕ) (event_counts : EventCounts)
    (new : WorldSeen) : Type 0 where
  pub between : WorldSeen
  pub delivered : IsStepCounted (Deliver id) old (Ok counted.Moved) between
  pub arrived : KeepsAccount (Deliver id) old (Ok counted.Moved) between
  pub sound : IsSoundWorld between
  pub within : to < length between.mesh
  pub next : first_turn between.world ≡ Some to
  pub taken : IsStepCounted (Turn to) between (Ok event_counts) new
  pub kept : KeepsAccount (Turn to) between (Ok event_counts) new
  pub ends : IsSoundWorld new
