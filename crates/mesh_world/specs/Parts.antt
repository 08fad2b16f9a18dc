-- The parts of a world, and an event as it is done to them. No public contract cites this file.
use Rattle.std.specs.Prelude.{◌≡◌, ◌<◌, ℕ, ◌+◌, Bool, true, List, [], ◌∷◌, length, Some, Result, Ok, ⊤}
use Rattle.mesh_base.specs.Members.{NodeIds}
use Rattle.mesh_base.specs.Meshes.{Nodes, first_at}
use Rattle.mesh_base.specs.declared.events.Air.{Air}
use Rattle.mesh_base.specs.declared.events.Cast.{Cast}
use Rattle.mesh_base.specs.declared.events.Done.{Done}
use Rattle.mesh_base.specs.declared.events.Done.TheVariants as done
use Rattle.mesh_base.specs.declared.events.Variant.{Variant}
use Rattle.aodv_model.specs.Cores.{opening}
use Rattle.aodv_node.specs.Seen.{NodeSeen}
use Rattle.mesh_model.specs.Worlds.{Event, Deliver, Turn, receivers}
use Rattle.mesh_model.specs.Choices.{first_turn}
use Rattle.mesh_radio.specs.Radios.{RadioState, with_copies}
use Rattle.mesh_meaning.specs.Answers.{cast_in}
use Rattle.mesh_world.specs.Seen.{WorldSeen}
use Rattle.mesh_world.specs.Steps.{IsStep}
use Rattle.mesh_world.specs.CountsOfEvents.{answer_with, HasEventCounts, AreEventCountsOf}
use Rattle.mesh_world.specs.Kept.{seen_of, IsKept}
use Rattle.mesh_world.specs.declared.parts.Parts.{Parts}
use Rattle.mesh_world.specs.declared.steps.StepError.{StepError}
use Rattle.mesh_world.specs.declared.event_counts.EventCounts.{EventCounts}

-- the world of these parts
abbrev pub seen_in : Parts → WorldSeen
seen_in p = seen_of p.mesh (p.nodes).items p.radio p.steps

-- the parts are in order
abbrev pub AreKept : Parts → Type 0
AreKept p = IsKept p.mesh (p.nodes).items p.radio p.ready p.steps

-- an event was done to the parts, or refused, and they are in order
pub record IsDoneTo (e : Event) (old : Parts) (answer : Result Done StepError) (new : Parts)
    (packet : List ℕ) : Type 0 where
  pub step : IsStep e (seen_in old) answer (seen_in new) packet
  pub kept : AreKept new

-- an event was done to the parts, or refused: its counts, or the refusal, are the result; and if
-- the answer is wanted, it is what was left
pub record IsAnsweredTo (e : Event) (old : Parts) (wanted : Bool)
    (result : Result EventCounts StepError) (left : Done) (new : Parts) (packet : List ℕ)
    : Type 0 where
  pub answer : Result Done StepError
  pub done : IsDoneTo e old answer new packet
  pub event_counts : HasEventCounts answer result
  pub leaves : wanted ≡ true → answer_with result left ≡ answer

-- the copy of this id was delivered, and node `to` took it: between the two events the parts are in
-- order, and no node before `to` may take a turn
pub record IsTakenFrom (id : ℕ) (old : Parts) (to : ℕ) (event_counts : EventCounts) (new : Parts)
    (packet : List ℕ) : Type 0 where
  pub from : ℕ
  pub between : Parts
  pub mesh : between.mesh ≡ old.mesh
  pub delivered : IsDoneTo (Deliver id) old (Ok (done.Heard from to)) between packet
  pub within : to < length between.mesh
  pub next : first_turn (seen_in between).world ≡ Some to
  pub answer : Done
  pub taken : IsDoneTo (Turn to) between (Ok answer) new packet
  pub counted : AreEventCountsOf answer event_counts

-- a node of the mesh in its opening state, with this variant
pub record IsOpened (v : Variant) (mesh : Nodes) (me : ℕ) (n : NodeSeen) : Type 0 where
  pub core : n.core ≡ opening v me (first_at mesh me)
  pub items : n.items ≡ []
  pub size : n.size ≡ length mesh

-- nodes from `me` on, each in its opening state
abbrev pub AreOpened : Variant → Nodes → ℕ → List NodeSeen → Type 0
AreOpened v mesh me [] = ⊤
AreOpened v mesh me (n ∷ ns) = IsOpened v mesh me n × AreOpened v mesh (me + 1) ns

-- the nodes in range to which a cast goes
abbrev pub near_receivers : Nodes → NodeIds → Cast → List ℕ → NodeIds
near_receivers mesh range cast packet = receivers range (cast_in mesh cast packet)

-- the radio after such a cast by node x
abbrev pub with_cast : Nodes → RadioState → ℕ → NodeIds → Cast → List ℕ → RadioState
with_cast mesh radio x range cast packet =
    with_copies radio x packet (near_receivers mesh range cast packet)

-- the copies of such a cast
abbrev pub air_of : Nodes → RadioState → NodeIds → Cast → List ℕ → Air
air_of mesh radio range cast packet = record {
  first = radio.next_copy;
  to = near_receivers mesh range cast packet;
}
