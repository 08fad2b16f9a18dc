use Rattle.std.proofs.Common.{◌≡◌, ◌<◌, ℕ, Some, take, length}
use Rattle.std.specs.Prelude.{slice_get}
use Rattle.std.specs.List.{flat_map}
use Rattle.mesh_model.specs.Worlds.{Node}
use Rattle.mesh_checkpoint.specs.Points.{node_of}
use Rattle.mesh_save.specs.Bytes.{node_bytes}
use Rattle.mesh_save.specs.Narrow.{IsNarrow}
use Rattle.mesh_save.proofs.body.put_nodes.Given as goal

abbrev pub invariant-loop-i : goal.invariant-loop-i
invariant-loop-i g l = g.P.Encoder.wrote l.initial.encoder (flat_map (λ n. node_bytes (node_of l.world.mesh n)) (take l.i l.world.world.nodes)) l.encoder × ((k : ℕ) (n : Node) → k < l.i → slice_get l.world.world.nodes k ≡ Some n → IsNarrow (length l.world.mesh) n.core)
