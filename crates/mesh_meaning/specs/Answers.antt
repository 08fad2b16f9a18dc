-- What a step's answer, with the packet that goes with it, says of what happened.
use Rattle.std.specs.Prelude.{◌≡◌, ℕ, ◌+◌, ◌<◌, ◌^◌, List, [], length, IfSome, ⊤}
use Rattle.mesh_base.specs.declared.limits.TheConstants.{MOST_NODES}
use Rattle.mesh_base.specs.Meshes.{Nodes}
use Rattle.mesh_base.specs.declared.events.Air.{Air}
use Rattle.mesh_base.specs.declared.events.Cast as cast
use Rattle.mesh_base.specs.declared.events.Cast.TheVariants as casts
use Rattle.mesh_base.specs.declared.events.Effect as effects
use Rattle.mesh_base.specs.declared.events.Took as taken
use Rattle.mesh_base.specs.declared.events.Took.TheVariants as takes
use Rattle.mesh_base.specs.declared.events.Done.{Done}
use Rattle.mesh_base.specs.declared.events.Done.TheVariants as done
use Rattle.aodv_model.specs.Soundness.{AreBelow, IsDatum, IsMessageInMesh}
use Rattle.aodv_model.specs.Handlers.{Cast, Nothing, One, Many, All, Effect, Took, Own, Stored, FromNeighbour}
use Rattle.aodv_meaning.specs.Meaning.{meaning}
use Rattle.aodv_meaning.specs.Effects.{kind_of}
use Rattle.mesh_model.specs.Worlds.{World, Copy, WorldEffect, Changed, Taken, Sent, CopyHeard, CopyLost, CopyDoubled, Outcome, Idle, Next, members_below, copies_of}
use Rattle.mesh_meaning.specs.Packets.{IsWritten, copy_in}

-- ---- what is said

-- a cast, with the message that the packet means
abbrev pub cast_in : Nodes → cast.Cast → List ℕ → Cast
cast_in mesh casts.Nothing packet = Nothing
cast_in mesh (casts.One y) packet = One y (meaning mesh packet)
cast_in mesh (casts.Many s) packet = Many s (meaning mesh packet)
cast_in mesh casts.All packet = All (meaning mesh packet)

abbrev pub effect_in : Nodes → effects.Effect → List ℕ → Effect
effect_in mesh e packet = record {
  deliver = e.deliver;
  lost = e.lost;
  broken = e.broken;
  cast = cast_in mesh e.cast packet;
}

-- what was taken, with what a neighbour's packet means
abbrev pub took_in : Nodes → taken.Took → Took
took_in mesh (takes.Own body) = Own body
took_in mesh (takes.Stored dest) = Stored dest
took_in mesh (takes.Heard from kind bytes) = FromNeighbour from (meaning mesh bytes)

-- the copies of a cast of node x, by rising receiver
unfoldable pub copies_in : Nodes → ℕ → cast.Cast → Air → List ℕ → List Copy
copies_in mesh x cast air packet =
    copies_of (cast_in mesh cast packet) (members_below (length mesh) air.to) air.first x

-- what happened at node x. For an idle event this is a placeholder, which `outcome_in` passes over
abbrev pub world_effect_in : Nodes → ℕ → Done → List ℕ → WorldEffect
world_effect_in mesh x done.Idle packet = Changed
world_effect_in mesh x done.Changed packet = Changed
world_effect_in mesh x (done.Taken took effect air) packet =
    Taken (took_in mesh took) (effect_in mesh effect packet)
    (copies_in mesh x effect.cast air packet)
world_effect_in mesh x (done.Sent effect air) packet =
    Sent (effect_in mesh effect packet) (copies_in mesh x effect.cast air packet)
world_effect_in mesh x (done.Heard from to) packet = CopyHeard from to
world_effect_in mesh x (done.Lost flying) packet = CopyLost (copy_in mesh flying)
world_effect_in mesh x (done.Doubled id to parcel) packet = CopyDoubled id to parcel

-- what came of an event at node x, after which the world is w
abbrev pub outcome_in : Nodes → ℕ → World → Done → List ℕ → Outcome
outcome_in mesh x w done.Idle packet = Idle
outcome_in mesh x w d packet = Next w (world_effect_in mesh x d packet)

-- ---- what an answer keeps: all that it names is in the mesh, and its packets are written of
-- messages of the mesh

-- the packet is written of a message that names only nodes of the mesh
pub record IsPacketInMesh (mesh : Nodes) (bytes : List ℕ) : Type 0 where
  pub written : IsWritten mesh bytes
  pub in_mesh : IsMessageInMesh (length mesh) (meaning mesh bytes)

-- the packet of a cast is so; it is empty if nothing is cast
abbrev pub IsCastWritten : Nodes → cast.Cast → List ℕ → Type 0
IsCastWritten mesh casts.Nothing packet = packet ≡ []
IsCastWritten mesh (casts.One y) packet = (y < length mesh) × IsPacketInMesh mesh packet
IsCastWritten mesh (casts.Many s) packet = AreBelow (length mesh) s × IsPacketInMesh mesh packet
IsCastWritten mesh casts.All packet = IsPacketInMesh mesh packet

-- an effect and the copies of its cast are in the mesh
pub record IsEffectInMesh (mesh : Nodes) (e : effects.Effect) (air : Air)
    (packet : List ℕ) : Type 0 where
  pub broken : IfSome e.broken (λ y. y < length mesh)
  pub cast : IsCastWritten mesh e.cast packet
  pub receivers : AreBelow (length mesh) air.to
  pub few : air.first + MOST_NODES < 2 ^ 64

abbrev pub IsTookInMesh : Nodes → taken.Took → Type 0
IsTookInMesh mesh (takes.Own body) = IsDatum body
IsTookInMesh mesh (takes.Stored dest) = dest < length mesh
IsTookInMesh mesh (takes.Heard from kind bytes) =
    (from < length mesh) × (kind ≡ kind_of (meaning mesh bytes)) × IsPacketInMesh mesh bytes

abbrev pub IsDoneInMesh : Nodes → Done → List ℕ → Type 0
IsDoneInMesh mesh done.Idle packet = ⊤
IsDoneInMesh mesh done.Changed packet = ⊤
IsDoneInMesh mesh (done.Taken took effect air) packet =
    IsTookInMesh mesh took × IsEffectInMesh mesh effect air packet
IsDoneInMesh mesh (done.Sent effect air) packet = IsEffectInMesh mesh effect air packet
IsDoneInMesh mesh (done.Heard from to) packet = (from < length mesh) × (to < length mesh)
IsDoneInMesh mesh (done.Lost flying) packet =
    (flying.from < length mesh) × (flying.to < length mesh) × IsPacketInMesh mesh flying.bytes
IsDoneInMesh mesh (done.Doubled id to parcel) packet = to < length mesh
