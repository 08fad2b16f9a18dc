use Rattle.std.proofs.Common.{◌∙◌, ◌-◌, length, Ok, Err, ap, arith}
use Rattle.mesh_meaning.specs.Events.{event_of}
use Rattle.mesh_run.proofs.Events.{stepped_started, stepped_lines, stepped_steps}
use Rattle.mesh_run.proofs.Chosen.{chosen_none}
use Rattle.mesh_blocks.proofs.Chosen.{chosen_all, chosen_counts, nothing_more, ran_goes, ran_stops}
use Rattle.mesh_blocks.proofs.auto.do_events.Goals as goal

pub returns-in_default-clause-ran : goal.returns-in_default-clause-ran
returns-in_default-clause-ran g c =
    c.events.invariant.ran (g.O.Sink.held c.events.out) c.events.at (Ok c.events.did)
    (nothing_more c.args.below c.events.at _ _ (chosen_none _ c.events.at c.in_default.ensures.value))

pub returns-in_default-clause-did : goal.returns-in_default-clause-did
returns-in_default-clause-did g c =
    let none = ap length (chosen_none (c.args.count - c.events.did) c.events.at c.in_default.ensures.value) in
    omega (arith, c.events.invariant.left)

pub returns-in-Err-clause-ran : goal.returns-in-Err-clause-ran
returns-in-Err-clause-ran g c =
    c.events.invariant.ran (g.O.Sink.held c.do_event.new.out) c.do_event.new.at (Err c.in-Err.stop)
    (ran_stops c.args.below c.args.count c.events.did c.events.at c.do_event.new.at (event_of c.in-Some.event) _ _ c.in-Err.stop c.events-test.true c.in-Some.ensures.value c.in-Err.ensures.comes)

pub events-preserved : goal.events-preserved
events-preserved g c =
    let next = c.in_default-do_event.ensures.run_state in
    let lines = stepped_lines c.events.at c.do_event.new.at (event_of c.in-Some.event) next in
    let steps = stepped_steps c.events.at c.do_event.new.at (event_of c.in-Some.event) next in
    let counts = chosen_counts c.args.below c.args.count c.events.did c.events.at c.do_event.new.at (event_of c.in-Some.event) _ _
    c.events-test.true c.in-Some.ensures.value c.in_default-do_event.ensures.comes next in
    record {
      left = omega (arith, counts, c.events.invariant.left);
      ran = λ now n r p. c.events.invariant.ran now n r
          (ran_goes c.args.below c.args.count c.events.did c.events.at c.do_event.new.at n (event_of c.in-Some.event) (g.O.Sink.held c.events.out) (g.O.Sink.held c.do_event.new.out) now r
          c.events-test.true c.in-Some.ensures.value c.in_default-do_event.ensures.comes p);
      started = stepped_started c.events.at c.do_event.new.at (event_of c.in-Some.event) next;
      lines = lines ∙ c.events.invariant.lines;
      faults = c.in_default-do_event.ensures.cause.none (λ e. cc) ∙ c.events.invariant.faults;
      within = omega (arith, c.events-test.true);
      steps = omega (arith, steps, c.events.invariant.steps);
    }

pub returns-clause-ran : goal.returns-clause-ran
returns-clause-ran g c =
    c.events.invariant.ran (g.O.Sink.held c.events.out) c.events.at (Ok c.events.did)
    (nothing_more c.args.below c.events.at _ _ (chosen_all c.args.count c.events.did c.events.at c.events-test.false))

pub returns-clause-did : goal.returns-clause-did
returns-clause-did g c =
    let none = ap length (chosen_all c.args.count c.events.did c.events.at c.events-test.false) in
    omega (arith, c.events.invariant.left)
