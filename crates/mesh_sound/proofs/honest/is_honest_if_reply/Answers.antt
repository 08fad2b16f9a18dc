use Rattle.std.proofs.Common.{◌≤◌, length, sym, subst, arith}
use Rattle.aodv_model.specs.Cores.{Message}
use Rattle.aodv_wire.specs.declared.message.Message.TheVariants as messages
use Rattle.aodv_node.proofs.Readings.{means}
use Rattle.mesh_sound.specs.Claims.{table, IsHonestIfReply}
use Rattle.mesh_sound.proofs.Readings.{known_in, says, spelled}
use Rattle.mesh_sound.proofs.honest.is_honest_if_reply.Goals as goal

pub is_honest_reply-requires-clause-known : goal.is_honest_reply-requires-clause-known
is_honest_reply-requires-clause-known c =
    let some : 1 ≤ length c.args.mesh.now = (let lt = c.requires.from in omega arith) in
    let s = spelled c.args.bytes.now c.in-Ok-Rrep.field-0 (messages.Rrep c.in-Ok-Rrep.m) c.in-Ok-Rrep.ensures.exact c.in-Ok-Rrep.field-0-is in
    known_in c.args.mesh.now c.args.bytes.now (messages.Rrep c.in-Ok-Rrep.m) c.len-nodes.ensures.is_mesh some s c.requires.written

pub is_honest_reply-requires-clause-says : goal.is_honest_reply-requires-clause-says
is_honest_reply-requires-clause-says c =
    let some : 1 ≤ length c.args.mesh.now = (let lt = c.requires.from in omega arith) in
    let s = spelled c.args.bytes.now c.in-Ok-Rrep.field-0 (messages.Rrep c.in-Ok-Rrep.m) c.in-Ok-Rrep.ensures.exact c.in-Ok-Rrep.field-0-is in
    says c.args.mesh.now c.args.bytes.now (messages.Rrep c.in-Ok-Rrep.m) s
    (known_in c.args.mesh.now c.args.bytes.now (messages.Rrep c.in-Ok-Rrep.m) c.len-nodes.ensures.is_mesh some s c.requires.written)

pub returns-in-Ok-Rrep : goal.returns-in-Ok-Rrep
returns-in-Ok-Rrep c =
    let m = messages.Rrep c.in-Ok-Rrep.m in
    let s = spelled c.args.bytes.now c.in-Ok-Rrep.field-0 m c.in-Ok-Rrep.ensures.exact c.in-Ok-Rrep.field-0-is in
    let is = means c.args.mesh.now c.args.bytes.now m s in
    let P : Message → Type 0 = λ x. IsHonestIfReply (table c.args.nodes.now c.args.from) c.args.from x in
    (λ t. subst P (sym is) (c.is_honest_reply.ensures.0 t), λ honest. c.is_honest_reply.ensures.1 (subst P is honest))
