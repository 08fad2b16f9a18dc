use Rattle.std.proofs.Common.{◌≡◌, ◌∙◌, sym, rules}
use Rattle.mesh_meaning.specs.Events.{event_of}
use Rattle.mesh_text.specs.Schedule.{with_world}
use Rattle.mesh_run.proofs.Chosen.{does_goes, does_stops}
use Rattle.mesh_run.proofs.Events.{step_lines}
use Rattle.mesh_run.proofs.Ways.{way_of_event}
use Rattle.mesh_run.proofs.commands.do_uncounted.Goals as goal

pub returns-in-Err-clause-comes : goal.returns-in-Err-clause-comes
returns-in-Err-clause-comes g c =
    let begun_is : c.begin.new.self ≡ with_world c.args.at.now = search rules in
    rw c.of_event.ensures (rw c.in-Step.is (does_stops c.args.say c.args.at.now c.begin.new.self c.do_event.new.at (event_of c.in-Step.event) (g.O.Sink.held c.args.out.now) (g.O.Sink.held c.do_event.new.out) _
    begun_is c.in-Err.ensures.comes))

pub returns-in-Err-clause-way : goal.returns-in-Err-clause-way
returns-in-Err-clause-way g c =
    let begun_is : c.begin.new.self ≡ with_world c.args.at.now = search rules in
    rw c.in-Step.is (way_of_event c.args.at.now c.begin.new.self c.do_event.new.at (event_of c.in-Step.event) begun_is c.in-Err.ensures.way)

pub returns-clause-comes : goal.returns-clause-comes
returns-clause-comes g c =
    let begun_is : c.begin.new.self ≡ with_world c.args.at.now = search rules in
    rw c.in-Step.is (does_goes c.args.say c.args.at.now c.begin.new.self c.do_event.new.at (event_of c.in-Step.event) (g.O.Sink.held c.args.out.now) (g.O.Sink.held c.do_event.new.out)
    begun_is c.in_default-do_event.ensures.comes)

pub returns-clause-lines : goal.returns-clause-lines
returns-clause-lines g c =
    let begun_is : c.begin.new.self ≡ with_world c.args.at.now = search rules in
    step_lines c.args.at.now c.begin.new.self c.do_event.new.at (event_of c.in-Step.event) begun_is c.in_default-do_event.ensures.run_state
