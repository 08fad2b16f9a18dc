use Rattle.std.specs.List.{flat_map}
use Rattle.mesh_checkpoint.specs.Points.{waits_of}
use Rattle.mesh_save.specs.Bytes.{waits_bytes}
use Rattle.aodv_model.proofs.Keys.{below}
use Rattle.mesh_save.proofs.store.put_store.Given as goal

abbrev pub invariant-loop-dest : goal.invariant-loop-dest
invariant-loop-dest g l = g.P.Encoder.wrote l.initial.encoder (flat_map (λ e. waits_bytes (waits_of e)) (below l.dest l.waiting.store)) l.encoder
