use Rattle.std.proofs.Common.{◌∙◌, ◌∷◌, [], ◌-◌, ◌+◌, ◌≤◌, ◌≡◌, length, Some, Ok, Err, refl, sym, ap, subst, arith}
use Rattle.mesh_meaning.specs.Events.{event_of}
use Rattle.mesh_model.specs.Choices.{pick}
use Rattle.mesh_text.specs.Schedule.{RunState, next_state, world_of}
use Rattle.mesh_text.specs.Auto.{outcome_of_events, events_chosen}
use Rattle.mesh_run.specs.declared.stop.Stop.{Stop}
use Rattle.mesh_run.specs.Stops.{stop_of}
use Rattle.mesh_run.specs.Runs.{IsEventsRun, IsLineDone, IsLineStopped, IsReached, line_outcome_at}
use Rattle.mesh_run.proofs.Chosen.{chosen_all, chosen_none, chosen_counts, nothing_more, ran_goes, ran_stops}
use Rattle.mesh_run.proofs.Events.{stepped_started, stepped_lines, stepped_steps}
use Rattle.mesh_run.proofs.Ways.{reached_none, way_goes, way_stops}
use Rattle.mesh_run.proofs.Twice.{two_counts, two_lines, two_ran, two_started, two_steps, two_way}
use Rattle.mesh_run.proofs.auto.do_events.Goals as goal

pub returns-in_default-clause-ran : goal.returns-in_default-clause-ran
returns-in_default-clause-ran g c =
    let m = c.events.at in
    let still = c.take_two.ensures.same c.if-take_two.false in
    let left = c.args.count - c.events.did in
    let n = c.take_two.new.at in
    let held = g.O.Sink.held c.events.out in
    let none = subst (λ (k : RunState). events_chosen left k ≡ []) still (chosen_none left n c.in_default.ensures.value) in
    c.events.invariant.ran held n (Ok c.events.did)
    (subst (λ (k : RunState). IsEventsRun c.args.say m (outcome_of_events m (events_chosen left m)) k held held (Ok c.events.did)) (sym still)
    (nothing_more c.args.say m (events_chosen left m) held none))

pub returns-in_default-clause-did : goal.returns-in_default-clause-did
returns-in_default-clause-did g c =
    let still = c.take_two.ensures.same c.if-take_two.false in
    let left = c.args.count - c.events.did in
    let none = ap length (subst (λ (k : RunState). events_chosen left k ≡ []) still (chosen_none left c.take_two.new.at c.in_default.ensures.value)) in
    omega (arith, c.events.invariant.left, none)

pub returns-in_default-clause-way : goal.returns-in_default-clause-way
returns-in_default-clause-way g c =
    c.events.invariant.way c.take_two.new.at
    (reached_none c.events.at c.take_two.new.at (events_chosen _ c.events.at) (c.take_two.ensures.same c.if-take_two.false))

pub returns-in-Err-clause-ran : goal.returns-in-Err-clause-ran
returns-in-Err-clause-ran g c =
    let still = c.take_two.ensures.same c.if-take_two.false in
    let why : Stop = stop_of c.in-Some.event c.in-Err.stop in
    let e = event_of c.in-Some.event in
    let value = subst (λ (m : RunState). Some e ≡ pick (world_of m)) still c.in-Some.ensures.value in
    let comes = subst (λ (m : RunState). IsLineStopped c.args.say m (line_outcome_at m e) c.do_event.new.at (g.O.Sink.held c.events.out) (g.O.Sink.held c.do_event.new.out) why)
    still c.in-Err.ensures.comes in
    rw c.of_event.ensures (c.events.invariant.ran (g.O.Sink.held c.do_event.new.out) c.do_event.new.at (Err why)
    (ran_stops c.args.say c.args.count c.events.did c.events.at c.do_event.new.at e _ _ why c.events-test.true value comes))

pub returns-in-Err-clause-way : goal.returns-in-Err-clause-way
returns-in-Err-clause-way g c =
    let still = c.take_two.ensures.same c.if-take_two.false in
    let e = event_of c.in-Some.event in
    let value = subst (λ (m : RunState). Some e ≡ pick (world_of m)) still c.in-Some.ensures.value in
    let way = subst (λ (m : RunState). IsReached m (e ∷ []) c.do_event.new.at) still c.in-Err.ensures.way in
    c.events.invariant.way c.do_event.new.at (way_stops c.args.count c.events.did c.events.at c.do_event.new.at e c.events-test.true value way)

pub overflow_add-did : goal.overflow_add-did
overflow_add-did g c =
    let left = c.take_two.ensures.left c.if-take_two.true in
    omega (arith, c.events.invariant.fits, left)

pub events-preserved-then-take_two : goal.events-preserved-then-take_two
events-preserved-then-take_two g c =
    let quiet = c.take_two.ensures.quiet c.if-take_two.true in
    let left = c.take_two.ensures.left c.if-take_two.true in
    let two : c.events.did + 2 ≤ c.args.count = omega (arith, left, c.events-test.true) in
    let m = c.events.at in
    let n = c.take_two.new.at in
    let are = c.take_two.ensures.done c.if-take_two.true in
    let steps = two_steps m n are in
    let counts = two_counts c.args.say c.args.count c.events.did m n quiet two are in
    record {
      ran = λ now k r p. c.events.invariant.ran now k r (two_ran c.args.say c.args.count c.events.did m n quiet two are k (g.O.Sink.held c.events.out) now r p);
      way = λ k p. c.events.invariant.way k (two_way c.args.say c.args.count c.events.did m n quiet two are k p);
      left = omega (arith, counts, c.events.invariant.left);
      started = two_started m n are;
      lines = two_lines m n are ∙ c.events.invariant.lines;
      faults = c.events.invariant.faults;
      fits = c.events.invariant.fits;
      within = two;
      few = omega (arith, steps, c.events.invariant.few, two);
    }

pub events-preserved : goal.events-preserved
events-preserved g c =
    let m = c.events.at in
    let n = c.do_event.new.at in
    let e = event_of c.in-Some.event in
    let still = c.take_two.ensures.same c.if-take_two.false in
    let value = subst (λ (m : RunState). Some e ≡ pick (world_of m)) still c.in-Some.ensures.value in
    let next = c.in_default-do_event.ensures.run_state ∙ ap (λ (m : RunState). next_state m e) still in
    let comes = subst (λ (m : RunState). IsLineDone c.args.say (line_outcome_at m e) n (g.O.Sink.held c.events.out) (g.O.Sink.held c.do_event.new.out)) still c.in_default-do_event.ensures.comes in
    let lines = stepped_lines m n e next in
    let steps = stepped_steps m n e next in
    let counts = chosen_counts c.args.say c.args.count c.events.did m n e _ _ c.events-test.true value comes next in
    record {
      ran = λ now k r p. c.events.invariant.ran now k r
          (ran_goes c.args.say c.args.count c.events.did m n k e (g.O.Sink.held c.events.out) (g.O.Sink.held c.do_event.new.out) now r c.events-test.true value comes p);
      way = λ k p. c.events.invariant.way k (way_goes c.args.say c.args.count c.events.did m n k e _ _ c.events-test.true value comes next p);
      left = omega (arith, counts, c.events.invariant.left);
      started = stepped_started m n e next;
      lines = lines ∙ c.events.invariant.lines;
      faults = c.in_default-do_event.ensures.cause.none (λ e. cc) ∙ c.events.invariant.faults;
      fits = c.events.invariant.fits;
      within = omega (arith, c.events-test.true);
      few = omega (arith, steps, c.events.invariant.few, c.events-test.true);
    }

pub returns-clause-ran : goal.returns-clause-ran
returns-clause-ran g c =
    c.events.invariant.ran (g.O.Sink.held c.events.out) c.events.at (Ok c.events.did)
    (nothing_more c.args.say c.events.at _ _ (chosen_all c.args.count c.events.did c.events.at c.events-test.false))

pub returns-clause-did : goal.returns-clause-did
returns-clause-did g c =
    let none = ap length (chosen_all c.args.count c.events.did c.events.at c.events-test.false) in
    omega (arith, c.events.invariant.left)

pub returns-clause-way : goal.returns-clause-way
returns-clause-way g c = c.events.invariant.way c.events.at (reached_none c.events.at c.events.at (events_chosen _ c.events.at) refl)
