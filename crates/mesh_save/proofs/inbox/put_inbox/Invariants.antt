use Rattle.std.proofs.Common.{take}
use Rattle.std.specs.List.{flat_map}
use Rattle.mesh_save.specs.Bytes.{item_bytes}
use Rattle.mesh_save.proofs.inbox.put_inbox.Given as goal

abbrev pub invariant-loop-k : goal.invariant-loop-k
invariant-loop-k g l = g.P.Encoder.wrote l.initial.encoder (flat_map item_bytes (take l.k l.inbox.items)) l.encoder
