use Rattle.mesh_world.proofs.Openings.{made}
use Rattle.mesh_world.proofs.world.WorldSteps.with.Goals as goal

pub invariant_of-result : goal.invariant_of-result
invariant_of-result c =
    (made c.args.variant c.args.mesh.now c.copy.result c.in_ok-nodes.nodes.items c.in_ok-radio.radio c.new-2.result c.len.result c.len.ensures.is_mesh c.requires c.copy.ensures c.len.ensures.value c.in_ok-radio.ensures c.new-2.ensures
    c.in_ok-nodes.ensures.count c.in_ok-nodes.ensures.opened).kept

pub returns : goal.returns
returns c =
    (made c.args.variant c.args.mesh.now c.copy.result c.in_ok-nodes.nodes.items c.in_ok-radio.radio c.new-2.result c.len.result c.len.ensures.is_mesh c.requires c.copy.ensures c.len.ensures.value c.in_ok-radio.ensures c.new-2.ensures
    c.in_ok-nodes.ensures.count c.in_ok-nodes.ensures.opened).seen
