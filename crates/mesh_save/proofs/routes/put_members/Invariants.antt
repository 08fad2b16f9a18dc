use Rattle.std.proofs.Common.{take}
use Rattle.std.specs.List.{flat_map}
use Rattle.std.specs.Int.{w16, to_be_bytes}
use Rattle.mesh_base.specs.Members.{member_list}
use Rattle.mesh_save.proofs.routes.put_members.Given as goal

abbrev pub invariant-loop-k : goal.invariant-loop-k
invariant-loop-k g l = g.P.Encoder.wrote l.initial.encoder (flat_map (to_be_bytes w16) (take l.k (member_list l.set))) l.encoder
