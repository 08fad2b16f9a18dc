use Rattle.std.proofs.Common.{ap, subst}
use Rattle.std.specs.Option.{option_map}
use Rattle.mesh_meaning.specs.Events.{event_of}
use Rattle.mesh_world.specs.Steps.{IsDone, IsStep}
use Rattle.mesh_report.specs.Sums.{sums_of}
use Rattle.mesh_run.proofs.Sound.{answered_at, sum_by}
use Rattle.mesh_run.proofs.state.State.step_made.Goals as goal

pub invariant_of-self : goal.invariant_of-self
invariant_of-self g c =
    let e = event_of c.args.e.now in
    let old = g.S.Steps.seen c.in-Some.world in
    let new = g.S.Steps.seen c.step-answer.new.self in
    let s = sums_of c.self.inside.sums in
    let t = sums_of c.count.new.sums in
    let done : IsDone e old c.in-Ok.done new c.step-answer.new.out.items = subst (λ r. IsStep e old r new c.step-answer.new.out.items) c.in-Ok.is c.step-answer.ensures.step in
    (answered_at c.args.self.now c.self.inside.variant c.self.inside.mesh (option_map g.S.Steps.seen c.self.inside.world) old new s t c.self.inside.lines e
    c.step-answer.result c.in-Ok.done c.step-answer.new.out.items c.self.view_is (ap (option_map g.S.Steps.seen) c.in-Some.is) c.self.invariant c.requires.event
    c.step-answer.ensures.step c.in-Ok.is c.step-answer.ensures.sound c.count.ensures.counts (sum_by e old new c.in-Ok.done c.step-answer.new.out.items _ s t done c.event_counts_of.ensures c.count.ensures.counted)).sound

pub returns-in-Ok-clause-done : goal.returns-in-Ok-clause-done
returns-in-Ok-clause-done g c =
    let e = event_of c.args.e.now in
    let old = g.S.Steps.seen c.in-Some.world in
    let new = g.S.Steps.seen c.step-answer.new.self in
    let s = sums_of c.self.inside.sums in
    let t = sums_of c.count.new.sums in
    let done : IsDone e old c.in-Ok.done new c.step-answer.new.out.items = subst (λ r. IsStep e old r new c.step-answer.new.out.items) c.in-Ok.is c.step-answer.ensures.step in
    rw c.in-Ok.is (answered_at c.args.self.now c.self.inside.variant c.self.inside.mesh (option_map g.S.Steps.seen c.self.inside.world) old new s t c.self.inside.lines e
    c.step-answer.result c.in-Ok.done c.step-answer.new.out.items c.self.view_is (ap (option_map g.S.Steps.seen) c.in-Some.is) c.self.invariant c.requires.event
    c.step-answer.ensures.step c.in-Ok.is c.step-answer.ensures.sound c.count.ensures.counts (sum_by e old new c.in-Ok.done c.step-answer.new.out.items _ s t done c.event_counts_of.ensures c.count.ensures.counted)).answer

pub returns-in-Ok-clause-safe : goal.returns-in-Ok-clause-safe
returns-in-Ok-clause-safe g c =
    let e = event_of c.args.e.now in
    let old = g.S.Steps.seen c.in-Some.world in
    let new = g.S.Steps.seen c.step-answer.new.self in
    let s = sums_of c.self.inside.sums in
    let t = sums_of c.count.new.sums in
    let done : IsDone e old c.in-Ok.done new c.step-answer.new.out.items = subst (λ r. IsStep e old r new c.step-answer.new.out.items) c.in-Ok.is c.step-answer.ensures.step in
    (answered_at c.args.self.now c.self.inside.variant c.self.inside.mesh (option_map g.S.Steps.seen c.self.inside.world) old new s t c.self.inside.lines e
    c.step-answer.result c.in-Ok.done c.step-answer.new.out.items c.self.view_is (ap (option_map g.S.Steps.seen) c.in-Some.is) c.self.invariant c.requires.event
    c.step-answer.ensures.step c.in-Ok.is c.step-answer.ensures.sound c.count.ensures.counts (sum_by e old new c.in-Ok.done c.step-answer.new.out.items _ s t done c.event_counts_of.ensures c.count.ensures.counted)).safe
