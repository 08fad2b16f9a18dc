use Rattle.std.proofs.Common.{Ok, ap, refl, subst}
use Rattle.std.specs.Option.{option_map}
use Rattle.mesh_meaning.specs.Events.{event_of}
use Rattle.mesh_world.specs.Steps.{IsStep}
use Rattle.mesh_world.specs.CountsOfEvents.{IsStepCounted, answer_with}
use Rattle.mesh_report.specs.Sums.{sums_of}
use Rattle.mesh_run.proofs.Sound.{answered_at, sum_by}
use Rattle.mesh_run.proofs.state.State.step_counted.Goals as goal

pub invariant_of-self : goal.invariant_of-self
invariant_of-self g c =
    let e = event_of c.args.e.now in
    let old = g.S.Steps.seen c.in-Some.world in
    let new = g.S.Steps.seen c.step_counted.new.self in
    let s = sums_of c.self.inside.sums in
    let t = sums_of c.count.new.sums in
    let is = subst (λ r. IsStepCounted e old r new) c.in-Ok.is c.step_counted.ensures.counted in
    (answered_at c.args.self.now c.self.inside.variant c.self.inside.mesh (option_map g.S.Steps.seen c.self.inside.world) old new s t c.self.inside.lines e
    (Ok is.answer) is.answer is.packet c.self.view_is (ap (option_map g.S.Steps.seen) c.in-Some.is) c.self.invariant c.requires.event
    is.done refl c.step_counted.ensures.sound c.count.ensures.counts (sum_by e old new is.answer is.packet _ s t is.done is.counted c.count.ensures.counted)).sound

pub returns-in-Ok-clause-safe : goal.returns-in-Ok-clause-safe
returns-in-Ok-clause-safe g c =
    let e = event_of c.args.e.now in
    let old = g.S.Steps.seen c.in-Some.world in
    let new = g.S.Steps.seen c.step_counted.new.self in
    let s = sums_of c.self.inside.sums in
    let t = sums_of c.count.new.sums in
    let is = subst (λ r. IsStepCounted e old r new) c.in-Ok.is c.step_counted.ensures.counted in
    (answered_at c.args.self.now c.self.inside.variant c.self.inside.mesh (option_map g.S.Steps.seen c.self.inside.world) old new s t c.self.inside.lines e
    (Ok is.answer) is.answer is.packet c.self.view_is (ap (option_map g.S.Steps.seen) c.in-Some.is) c.self.invariant c.requires.event
    is.done refl c.step_counted.ensures.sound c.count.ensures.counts (sum_by e old new is.answer is.packet _ s t is.done is.counted c.count.ensures.counted)).safe

pub returns-in-Ok-clause-done : goal.returns-in-Ok-clause-done
returns-in-Ok-clause-done g c =
    let e = event_of c.args.e.now in
    let old = g.S.Steps.seen c.in-Some.world in
    let new = g.S.Steps.seen c.step_counted.new.self in
    let s = sums_of c.self.inside.sums in
    let t = sums_of c.count.new.sums in
    let is = subst (λ r. IsStepCounted e old r new) c.in-Ok.is c.step_counted.ensures.counted in
    record {
      done = is.answer;
      packet = is.packet;
      answer = (answered_at c.args.self.now c.self.inside.variant c.self.inside.mesh (option_map g.S.Steps.seen c.self.inside.world) old new s t c.self.inside.lines e
          (Ok is.answer) is.answer is.packet c.self.view_is (ap (option_map g.S.Steps.seen) c.in-Some.is) c.self.invariant c.requires.event
          is.done refl c.step_counted.ensures.sound c.count.ensures.counts (sum_by e old new is.answer is.packet _ s t is.done is.counted c.count.ensures.counted)).answer;
    }

pub returns-in-Ok-clause-left : goal.returns-in-Ok-clause-left
returns-in-Ok-clause-left g c = λ wanted.
    let e = event_of c.args.e.now in
    let old = g.S.Steps.seen c.in-Some.world in
    let new = g.S.Steps.seen c.step_counted.new.self in
    let s = sums_of c.self.inside.sums in
    let t = sums_of c.count.new.sums in
    let is = subst (λ r. IsStepCounted e old r new) c.in-Ok.is c.step_counted.ensures.counted in
    let step = subst (λ r. IsStep e old (answer_with r c.step_counted.new.answer) new c.step_counted.new.out.items) c.in-Ok.is (c.step_counted.ensures.left wanted) in
    (answered_at c.args.self.now c.self.inside.variant c.self.inside.mesh (option_map g.S.Steps.seen c.self.inside.world) old new s t c.self.inside.lines e
    (Ok c.step_counted.new.answer) c.step_counted.new.answer c.step_counted.new.out.items c.self.view_is (ap (option_map g.S.Steps.seen) c.in-Some.is) c.self.invariant c.requires.event
    step refl c.step_counted.ensures.sound c.count.ensures.counts (sum_by e old new is.answer is.packet _ s t is.done is.counted c.count.ensures.counted)).answer
