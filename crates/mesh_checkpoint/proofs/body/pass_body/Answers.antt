use Rattle.std.proofs.Common.{rules}
use Rattle.mesh_checkpoint.proofs.Bodies.{has_mesh, body_passed, no_body}
use Rattle.mesh_checkpoint.proofs.body.pass_body.Goals as goal

pub returns-in_err-amount-clause-body : goal.returns-in_err-amount-clause-body
returns-in_err-amount-clause-body c =
    let mesh = has_mesh _ c.args.bytes.now c.in_ok-head.head c.in_ok-head.rest.now c.in_ok-nodes.nodes c.from-nodes.result c.in_ok-nodes.rest.now c.in_ok-rest.field-0-0 c.in_ok-rest.rest.now c.in_ok-head.ensures.value c.in_ok-head.ensures.shorter c.in_ok-nodes.ensures.value c.in_ok-nodes.ensures.shorter c.from-nodes.ensures c.in_ok-rest.ensures in
    let none = no_body c.args.bytes.now c.in_ok-head.head c.from-nodes.result c.in_ok-rest.rest.now mesh c.in_err-amount.ensures in
    search rules

pub returns-clause-body : goal.returns-clause-body
returns-clause-body c =
    let mesh = has_mesh _ c.args.bytes.now c.in_ok-head.head c.in_ok-head.rest.now c.in_ok-nodes.nodes c.from-nodes.result c.in_ok-nodes.rest.now c.in_ok-rest.field-0-0 c.in_ok-rest.rest.now c.in_ok-head.ensures.value c.in_ok-head.ensures.shorter c.in_ok-nodes.ensures.value c.in_ok-nodes.ensures.shorter c.from-nodes.ensures c.in_ok-rest.ensures in
    body_passed c.args.bytes.now c.in_ok-head.head c.from-nodes.result c.in_ok-rest.rest.now c.in_ok-amount.amount c.in_ok-amount.rest.now mesh c.in_ok-amount.ensures
