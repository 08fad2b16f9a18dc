use Rattle.std.proofs.Common.{◌≡◌, ◌<◌, ℕ, Some}
use Rattle.std.specs.List.{flat_map}
use Rattle.std.specs.FinMap as maps
use Rattle.aodv_model.specs.declared.entry.Entry.{Entry}
use Rattle.mesh_checkpoint.specs.Points.{route_of}
use Rattle.mesh_save.specs.Bytes.{route_bytes}
use Rattle.mesh_save.specs.Narrow.{IsNarrowEntry}
use Rattle.aodv_model.proofs.Keys.{below}
use Rattle.mesh_save.proofs.routes.put_routes.Given as goal

abbrev pub invariant-loop-d : goal.invariant-loop-d
invariant-loop-d g l = g.P.Encoder.wrote l.initial.encoder (flat_map (λ e. route_bytes (route_of e)) (below l.d l.node.core.rt)) l.encoder × ((k : ℕ) (e : Entry) → k < l.d → maps.get l.node.core.rt k ≡ Some e → IsNarrowEntry e)
