-- What an answer names by its index is in the mesh. Its packets may be any bytes.
use Rattle.std.specs.Prelude.{◌+◌, ◌<◌, ◌^◌, length, IfSome, ⊤}
use Rattle.mesh_base.specs.declared.limits.TheConstants.{MOST_NODES}
use Rattle.mesh_base.specs.Meshes.{Nodes}
use Rattle.mesh_base.specs.declared.events.Air.{Air}
use Rattle.mesh_base.specs.declared.events.Cast as casts
use Rattle.mesh_base.specs.declared.events.Cast.TheVariants as cast
use Rattle.mesh_base.specs.declared.events.Effect.{Effect}
use Rattle.mesh_base.specs.declared.events.Took as taken
use Rattle.mesh_base.specs.declared.events.Took.TheVariants as takes
use Rattle.mesh_base.specs.declared.events.Done as dones
use Rattle.mesh_base.specs.declared.events.Done.TheVariants as done
use Rattle.aodv_model.specs.Soundness.{AreBelow}

abbrev pub IsTookOfMesh : Nodes → taken.Took → Type 0
IsTookOfMesh mesh (takes.Own body) = ⊤
IsTookOfMesh mesh (takes.Stored dest) = dest < length mesh
IsTookOfMesh mesh (takes.Heard from kind bytes) = from < length mesh

abbrev pub IsCastOfMesh : Nodes → casts.Cast → Type 0
IsCastOfMesh mesh cast.Nothing = ⊤
IsCastOfMesh mesh (cast.One y) = y < length mesh
IsCastOfMesh mesh (cast.Many s) = AreBelow (length mesh) s
IsCastOfMesh mesh cast.All = ⊤

-- an effect and the copies of its cast, whose ids fit in 64 bits
pub record IsEffectOfMesh (mesh : Nodes) (e : Effect) (air : Air) : Type 0 where
  pub broken : IfSome e.broken (λ y. y < length mesh)
  pub cast : IsCastOfMesh mesh e.cast
  pub receivers : AreBelow (length mesh) air.to
  pub few : air.first + MOST_NODES < 2 ^ 64

abbrev pub IsDoneOfMesh : Nodes → dones.Done → Type 0
IsDoneOfMesh mesh done.Idle = ⊤
IsDoneOfMesh mesh done.Changed = ⊤
IsDoneOfMesh mesh (done.Taken took e air) = IsTookOfMesh mesh took × IsEffectOfMesh mesh e air
IsDoneOfMesh mesh (done.Sent e air) = IsEffectOfMesh mesh e air
IsDoneOfMesh mesh (done.Heard from to) = (from < length mesh) × (to < length mesh)
IsDoneOfMesh mesh (done.Lost f) = (f.from < length mesh) × (f.to < length mesh)
IsDoneOfMesh mesh (done.Doubled id to parcel) = to < length mesh
