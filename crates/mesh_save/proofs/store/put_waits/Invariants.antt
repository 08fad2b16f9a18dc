use Rattle.std.proofs.Common.{take}
use Rattle.std.specs.List.{flat_map}
use Rattle.std.specs.FinMap as maps
use Rattle.aodv_model.specs.Cores.{bodies_in}
use Rattle.mesh_checkpoint.specs.Checkpoint.{datum}
use Rattle.mesh_save.proofs.store.put_waits.Given as goal

abbrev pub invariant-loop-k : goal.invariant-loop-k
invariant-loop-k g l = g.P.Encoder.wrote l.initial.encoder (flat_map datum.put (take l.k (bodies_in (maps.get l.waiting.store l.dest)))) l.encoder
