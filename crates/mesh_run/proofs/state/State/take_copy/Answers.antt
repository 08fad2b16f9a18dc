use Rattle.std.proofs.Common.{Some, sym, ap, ◌∙◌}
use Rattle.std.specs.Option.{option_map}
use Rattle.mesh_model.specs.Choices.{pick}
use Rattle.mesh_report.specs.Sums.{sums_of}
use Rattle.mesh_run.proofs.AtOnce.{both, safe_still, world_at}
use Rattle.mesh_run.proofs.Choices.{no_turn}
use Rattle.mesh_run.proofs.state.State.take_copy.Goals as goal

pub take_copy-requires-clause-idle : goal.take_copy-requires-clause-idle
take_copy-requires-clause-idle g c =
    let here = world_at c.args.self.now c.self.inside.variant c.self.inside.mesh (option_map g.S.Steps.seen c.self.inside.world) (g.S.Steps.seen c.in-Some.world) (sums_of c.self.inside.sums) c.self.inside.lines
    c.self.view_is (ap (option_map g.S.Steps.seen) c.in-Some.is) in
    no_turn _ c.args.id (ap pick (sym here) ∙ c.requires.chosen)

pub returns-in_default-take_copy-clause-safe : goal.returns-in_default-take_copy-clause-safe
returns-in_default-take_copy-clause-safe g c =
    safe_still c.self.inside.variant c.self.inside.mesh (option_map g.S.Steps.seen c.self.inside.world) (g.S.Steps.seen c.take_copy.new.self) (sums_of c.self.inside.sums) c.self.inside.lines
    (ap (option_map g.S.Steps.seen) c.in-Some.is ∙ ap Some (sym (c.take_copy.ensures.none c.in_default-take_copy.is))) c.self.invariant

pub invariant_of-self-2 : goal.invariant_of-self-2
invariant_of-self-2 g c =
    (both c.args.self.now c.self.inside.variant c.self.inside.mesh (option_map g.S.Steps.seen c.self.inside.world) (g.S.Steps.seen c.in-Some.world) (g.S.Steps.seen c.take_copy.new.self)
    (sums_of c.self.inside.sums) (sums_of c.count.new.sums) (sums_of c.count-2.new.sums) c.self.inside.lines c.args.id c.in-Some-take_copy.to c.in-Some-take_copy.event_counts
    c.self.view_is (ap (option_map g.S.Steps.seen) c.in-Some.is) c.self.invariant c.in-Some-take_copy.ensures.taken c.count.ensures.counts c.count.ensures.counted c.count-2.ensures.counts c.count-2.ensures.counted).sound

pub returns-clause-taken : goal.returns-clause-taken
returns-clause-taken g c = λ _.
    (both c.args.self.now c.self.inside.variant c.self.inside.mesh (option_map g.S.Steps.seen c.self.inside.world) (g.S.Steps.seen c.in-Some.world) (g.S.Steps.seen c.take_copy.new.self)
    (sums_of c.self.inside.sums) (sums_of c.count.new.sums) (sums_of c.count-2.new.sums) c.self.inside.lines c.args.id c.in-Some-take_copy.to c.in-Some-take_copy.event_counts
    c.self.view_is (ap (option_map g.S.Steps.seen) c.in-Some.is) c.self.invariant c.in-Some-take_copy.ensures.taken c.count.ensures.counts c.count.ensures.counted c.count-2.ensures.counts c.count-2.ensures.counted).taken

pub returns-clause-safe : goal.returns-clause-safe
returns-clause-safe g c =
    (both c.args.self.now c.self.inside.variant c.self.inside.mesh (option_map g.S.Steps.seen c.self.inside.world) (g.S.Steps.seen c.in-Some.world) (g.S.Steps.seen c.take_copy.new.self)
    (sums_of c.self.inside.sums) (sums_of c.count.new.sums) (sums_of c.count-2.new.sums) c.self.inside.lines c.args.id c.in-Some-take_copy.to c.in-Some-take_copy.event_counts
    c.self.view_is (ap (option_map g.S.Steps.seen) c.in-Some.is) c.self.invariant c.in-Some-take_copy.ensures.taken c.count.ensures.counts c.count.ensures.counted c.count-2.ensures.counts c.count-2.ensures.counted).safe
