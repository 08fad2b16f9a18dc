use Rattle.mesh_world.proofs.TakenAtOnce.{answer_seen, answer_kept}
use Rattle.mesh_world.proofs.world.WorldSteps.take_copy.Goals as goal

pub invariant_of-self : goal.invariant_of-self
invariant_of-self c = answer_kept c.args.id c.self.inside.parts c.take_copy.result c.take_copy.new.self c.take_copy.new.out.items c.take_copy.ensures.taken c.take_copy.ensures.none

pub returns-clause-taken : goal.returns-clause-taken
returns-clause-taken c =
    answer_seen c.args.id c.args.self.now c.self.inside.parts c.take_copy.result c.take_copy.new.self c.take_copy.new.out.items c.self.invariant c.self.view_is c.take_copy.ensures.taken
