use Rattle.std.proofs.Common.{◌≡◌, ◌∙◌, ◌+◌, true, false, [], Ok, Err, is_some, refl, sym, ap, subst, arith}
use Rattle.mesh_text.specs.Schedule.{RunState, with_line_read}
use Rattle.mesh_run.specs.Outputs.{says_lines}
use Rattle.mesh_run.specs.Runs.{IsLineDone}
use Rattle.mesh_run.proofs.Shown.{shown_none}
use Rattle.mesh_channel.specs.RunStates.{run_state_of}
use Rattle.mesh_channel.specs.declared.channeled.Channeled.{Channeled}
use Rattle.mesh_channel.proofs.Doing.{moved_on, moved_point}
use Rattle.mesh_channel.proofs.Lining.{chosen_is, chosen_not, filled_goes, filled_stops, unfilled_is, few_read}
use Rattle.mesh_channel.proofs.chosen.do_chosen.Goals as goal

pub returns-then-not-started-clause-comes : goal.returns-then-not-started-clause-comes
returns-then-not-started-clause-comes g c =
    let p = c.args.at.now in
    let made : is_some p.point.world ≡ false = let a = c.world.ensures.some in let b = c.is_some-started.ensures in let d = c.if-not-started.true in cc in
    record { text = []; is = unfilled_is p.rates c.args.until.now p.point c.count_line.new.self p.channel made c.count_line.ensures; grown = shown_none (says_lines p.say) _ }

pub returns-then-not-started-clause-channel : goal.returns-then-not-started-clause-channel
returns-then-not-started-clause-channel g c =
    let p = c.args.at.now in
    let made : is_some p.point.world ≡ false = let a = c.world.ensures.some in let b = c.is_some-started.ensures in let d = c.if-not-started.true in cc in
    sym (ap (λ d. d.channel) (chosen_not p.rates c.args.until.now p.point p.channel made))

pub returns-then-not-started-clause-led : goal.returns-then-not-started-clause-led
returns-then-not-started-clause-led g c =
    let lines = ap (λ (m : RunState). m.lines) c.count_line.ensures in
    let steps = ap (λ (m : RunState). m.steps) c.count_line.ensures in
    record { lines = omega (arith, lines); steps = omega (arith, steps); left = λ few. few; tick = λ few. few; copies = few_read c.args.at.now.point c.count_line.new.self c.count_line.ensures }

pub returns-in-Err-clause-comes : goal.returns-in-Err-clause-comes
returns-in-Err-clause-comes g c =
    let p = c.args.at.now in
    let made : is_some p.point.world ≡ true = let a = c.world.ensures.some in let b = c.is_some-started.ensures in let d = c.if-not-started.false in cc in
    filled_stops (says_lines p.say) p.rates c.args.until.now p.point c.do_events.new.at.point p.channel c.most_of-most.result _ _ c.in-Err.stop made c.most_of-most.ensures c.in-Err.ensures.ran

pub returns-clause-comes : goal.returns-clause-comes
returns-clause-comes g c =
    let p = c.args.at.now in
    let made : is_some p.point.world ≡ true = let a = c.world.ensures.some in let b = c.is_some-started.ensures in let d = c.if-not-started.false in cc in
    filled_goes (says_lines p.say) p.rates c.args.until.now p.point c.do_events.new.at.point c.count_line-2.new.self p.channel c.most_of-most.result _ _ made c.most_of-most.ensures c.in_default.ensures.ran c.count_line-2.ensures

pub returns-clause-channel : goal.returns-clause-channel
returns-clause-channel g c =
    let p = c.args.at.now in
    let made : is_some p.point.world ≡ true = let a = c.world.ensures.some in let b = c.is_some-started.ensures in let d = c.if-not-started.false in cc in
    c.in_default.ensures.channel ∙ sym (ap (λ d. d.channel) (chosen_is p.rates c.args.until.now p.point p.channel c.most_of-most.result made c.most_of-most.ensures))

pub returns-clause-only : goal.returns-clause-only
returns-clause-only g c =
    let z : Channeled = record c.do_events.new.at { point = c.count_line-2.new.self } in
    moved_on c.args.at.now c.do_events.new.at z c.do_events.ensures.only (moved_point c.do_events.new.at z refl)

pub returns-clause-led : goal.returns-clause-led
returns-clause-led g c =
    let lines = ap (λ (m : RunState). m.lines) c.count_line-2.ensures in
    let steps = ap (λ (m : RunState). m.steps) c.count_line-2.ensures in
    record {
      lines = omega (arith, lines, c.in_default.ensures.lines);
      steps = omega (arith, steps, c.in_default.ensures.steps);
      left = λ few. c.in_default.ensures.left;
      tick = λ few. c.in_default.ensures.tick;
      copies = λ few. few_read c.do_events.new.at.point c.count_line-2.new.self c.count_line-2.ensures c.in_default.ensures.copies;
    }
