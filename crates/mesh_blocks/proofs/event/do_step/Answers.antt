use Rattle.std.proofs.Common.{arith}
use Rattle.mesh_meaning.specs.Events.{event_of}
use Rattle.mesh_run.proofs.Events.{step_lines}
use Rattle.mesh_blocks.proofs.Events.{step_goes, step_stops}
use Rattle.mesh_blocks.proofs.event.do_step.Goals as goal

pub returns-in-Err-clause-comes : goal.returns-in-Err-clause-comes
returns-in-Err-clause-comes g c = step_stops c.args.below c.args.at.now c.begin.new.self c.do_event.new.at (event_of c.args.event) _ _ c.in-Err.stop c.in_ok-begin.ensures.ok c.in-Err.ensures.comes

pub count_line-requires : goal.count_line-requires
count_line-requires g c =
    let e = step_lines c.args.at.now c.begin.new.self c.do_event.new.at (event_of c.args.event) c.in_ok-begin.ensures.ok c.in_default.ensures.run_state in
    omega (arith, e, c.requires.few)

pub returns-clause-comes : goal.returns-clause-comes
returns-clause-comes g c =
    step_goes c.args.below c.args.at.now c.begin.new.self c.do_event.new.at c.count_line.new.self (event_of c.args.event) _ _ c.in_ok-begin.ensures.ok c.in_default.ensures.comes c.count_line.ensures
