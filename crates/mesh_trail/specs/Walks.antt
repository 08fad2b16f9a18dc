-- What a trail answers.
use Rattle.std.specs.Prelude.{◌≡◌, ◌≤◌, ℕ, List, length, Some, Result, Err, ⊤}
use Rattle.std.specs.FinMap as maps
use Rattle.mesh_base.specs.declared.events.Full.TheVariants as counters
use Rattle.mesh_base.specs.declared.events.Done.{Done}
use Rattle.aodv_model.specs.declared.entry.Entry.{Entry}
use Rattle.aodv_model.specs.declared.entry.Flag.TheVariants.{Val}
use Rattle.mesh_model.specs.Worlds.{World}
use Rattle.mesh_model.specs.Walks.{table}
use Rattle.mesh_model.specs.Trails.{IsHonestWalk}
use Rattle.mesh_world.specs.declared.steps.StepError.{StepError}
use Rattle.mesh_world.specs.declared.steps.StepError.TheVariants as errors

-- x has a valid route to d, and the list is an honest walk of as many links as the route has hops;
-- these are at most as many as the nodes
pub record IsRouteWalk (w : World) (x d : ℕ) (walk : List ℕ) : Type 0 where
  pub entry : Entry
  pub there : maps.get (table w x) d ≡ Some entry
  pub valid : entry.flag ≡ Val
  pub honest : IsHonestWalk w.ever x d entry.hops walk
  pub few : entry.hops ≤ length w.nodes

-- if a counter is full, it is a sequence number
abbrev pub FillsNumber : Result Done StepError → Type 0
FillsNumber (Err (errors.Full node field)) = field ≡ counters.Number
FillsNumber others = ⊤
