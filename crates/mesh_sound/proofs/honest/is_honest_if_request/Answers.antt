use Rattle.std.proofs.Common.{◌≤◌, length, sym, subst, arith}
use Rattle.aodv_model.specs.Cores.{Message}
use Rattle.aodv_wire.specs.declared.message.Message.TheVariants as messages
use Rattle.aodv_node.proofs.Readings.{means}
use Rattle.mesh_sound.specs.Claims.{table, IsHonestIfRequest}
use Rattle.mesh_sound.proofs.Readings.{known_in, says, spelled}
use Rattle.mesh_sound.proofs.honest.is_honest_if_request.Goals as goal

pub is_honest_request-requires-clause-known : goal.is_honest_request-requires-clause-known
is_honest_request-requires-clause-known c =
    let some : 1 ≤ length c.args.mesh.now = (let lt = c.requires.from in omega arith) in
    let s = spelled c.args.bytes.now c.in-Ok-Rreq.field-0 (messages.Rreq c.in-Ok-Rreq.m) c.in-Ok-Rreq.ensures.exact c.in-Ok-Rreq.field-0-is in
    known_in c.args.mesh.now c.args.bytes.now (messages.Rreq c.in-Ok-Rreq.m) c.len-nodes.ensures.is_mesh some s c.requires.written

pub is_honest_request-requires-clause-says : goal.is_honest_request-requires-clause-says
is_honest_request-requires-clause-says c =
    let some : 1 ≤ length c.args.mesh.now = (let lt = c.requires.from in omega arith) in
    let s = spelled c.args.bytes.now c.in-Ok-Rreq.field-0 (messages.Rreq c.in-Ok-Rreq.m) c.in-Ok-Rreq.ensures.exact c.in-Ok-Rreq.field-0-is in
    says c.args.mesh.now c.args.bytes.now (messages.Rreq c.in-Ok-Rreq.m) s
    (known_in c.args.mesh.now c.args.bytes.now (messages.Rreq c.in-Ok-Rreq.m) c.len-nodes.ensures.is_mesh some s c.requires.written)

pub returns-in-Ok-Rreq : goal.returns-in-Ok-Rreq
returns-in-Ok-Rreq c =
    let m = messages.Rreq c.in-Ok-Rreq.m in
    let s = spelled c.args.bytes.now c.in-Ok-Rreq.field-0 m c.in-Ok-Rreq.ensures.exact c.in-Ok-Rreq.field-0-is in
    let is = means c.args.mesh.now c.args.bytes.now m s in
    let P : Message → Type 0 = λ x. IsHonestIfRequest (table c.args.nodes.now c.args.from) c.args.from x in
    (λ t. subst P (sym is) (c.is_honest_request.ensures.0 t), λ honest. c.is_honest_request.ensures.1 (subst P is honest))
