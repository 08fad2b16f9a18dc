use Rattle.std.proofs.Common.{take}
use Rattle.std.specs.List.{flat_map}
use Rattle.mesh_checkpoint.specs.Checkpoint.{station}
use Rattle.mesh_save.proofs.body.put_mesh.Given as goal

abbrev pub invariant-loop-i : goal.invariant-loop-i
invariant-loop-i g l = g.P.Encoder.wrote l.initial.encoder (flat_map station.put (take l.i l.mesh)) l.encoder
