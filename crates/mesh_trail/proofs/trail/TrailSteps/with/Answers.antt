use Rattle.std.proofs.Common.{length, ap, ◌∙◌}
use Rattle.mesh_trail.proofs.Starts.{starts}
use Rattle.mesh_trail.proofs.trail.TrailSteps.with.Goals as goal

pub invariant_of-result : goal.invariant_of-result
invariant_of-result c = starts c.args.variant c.args.mesh.now c.in_ok-world.world c.in_ok-nodes.nodes.items c.new-5.result.items c.len.result c.in_ok-world.ensures c.mesh.ensures.sound (c.len.ensures.value ∙ ap length c.mesh.ensures.value) c.in_ok-nodes.ensures.count c.in_ok-nodes.ensures.blank c.new-5.ensures.items
