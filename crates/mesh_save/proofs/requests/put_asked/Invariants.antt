use Rattle.std.specs.List.{flat_map}
use Rattle.mesh_save.specs.Bytes.{request_bytes}
use Rattle.mesh_save.proofs.Rows.{rows_before}
use Rattle.mesh_save.proofs.requests.put_asked.Given as goal

abbrev pub invariant-loop-origin : goal.invariant-loop-origin
invariant-loop-origin g l = g.P.Encoder.wrote l.initial.encoder (flat_map request_bytes (rows_before l.asked.pairs l.origin)) l.encoder
