use Rattle.mesh_world.proofs.Openings.{opens_more}
use Rattle.mesh_world.proofs.world.opening_nodes.Goals as goal

pub loop-i-preserved : goal.loop-i-preserved
loop-i-preserved c =
    let o = opens_more c.args.variant c.args.mesh.now c.loop-i.i c.loop-i.nodes.items c.push.new.self.items c.in_ok-with.field-0 c.in_ok-push.ensures.items c.loop-i.invariant.count c.loop-i.invariant.opened
    c.in_ok-with.ensures.core c.in_ok-with.ensures.items c.in_ok-with.ensures.size in
    record { count = o.count; opened = o.opened }
