use Rattle.std.proofs.Common.{◌≡◌, ◌∙◌, ◌+◌, ◌≤◌, [], Bool, List, ℕ, Option, Ok, Err, is_some, true, length, refl, sym, ap, subst, arith}
use Rattle.std.proofs.lemmas.Result.{err_from_is_err_and}
use Rattle.mesh_io.proofs.Writing.{AppendsPrefix-none}
use Rattle.mesh_base.specs.Meshes.{Nodes}
use Rattle.mesh_meaning.specs.Events.{event_of}
use Rattle.mesh_text.specs.Schedule.{RunState, Does, with_world, with_line_read, world_of, outcome_at}
use Rattle.mesh_script.specs.Seen.{IsPrintable}
use Rattle.mesh_script.specs.declared.line.Line.TheVariants as line
use Rattle.mesh_run.specs.Outputs.{says_lines}
use Rattle.mesh_run.specs.Runs.{IsEventsRun, IsLineDone, IsLineOf, line_outcome_at}
use Rattle.mesh_text.specs.Auto.{outcome_of_events}
use Rattle.mesh_run.specs.declared.stop.Stop.TheVariants as stop
use Rattle.mesh_run.proofs.Events.{stepped_started, stepped_mesh, stepped_lines, stepped_steps}
use Rattle.mesh_fates.specs.declared.rates.Rates.{Rates}
use Rattle.mesh_fates.specs.Channels.{Channel, after_given}
use Rattle.mesh_channel.specs.RunStates.{run_state_of}
use Rattle.mesh_channel.specs.Room.{HasFewCopies}
use Rattle.mesh_channel.specs.declared.channeled.Channeled.{Channeled}
use Rattle.mesh_channel.proofs.Doing.{moved_on, moved_point, moved_channel}
use Rattle.mesh_channel.proofs.Lining.{given_stops, given_breaks, given_left_stops, given_goes, given_channel, few_started, few_read}
use Rattle.mesh_channel.proofs.given.do_given.Goals as goal

pub do_event-requires : goal.do_event-requires
do_event-requires g c =
    let m = c.args.at.now.point in
    let same : c.begin.new.self ≡ with_world m = c.in_ok-begin.ensures.ok in
    let mesh = ap (λ (x : RunState). x.mesh) same in
    let steps = ap (λ (x : RunState). x.steps) same in
    record {
      started = ap (λ (x : RunState). is_some x.world) same;
      few = omega (arith, steps, c.requires.steps);
      copies = few_started m c.begin.new.self same c.requires.copies;
      printable = subst (λ (k : Nodes). IsPrintable k (line.Step c.args.event)) (sym mesh) c.requires.printable;
      echo = subst (λ (k : Nodes). IsLineOf k (Does (event_of c.args.event)) c.args.bytes.now) (sym mesh) c.requires.echo;
    }

pub returns-in_err-begin-clause-comes : goal.returns-in_err-begin-clause-comes
returns-in_err-begin-clause-comes g c =
    let p = err_from_is_err_and c.from_residual.result c.from_residual.ensures.1 in
    rw (p.1, p.2) (AppendsPrefix-none _ _)

pub returns-in-Err-clause-comes : goal.returns-in-Err-clause-comes
returns-in-Err-clause-comes g c =
    let p = c.args.at.now in
    given_stops (says_lines p.say) p.rates p.point c.begin.new.self c.do_event.new.at.point (event_of c.args.event) p.channel _ _ c.in-Err.stop c.in_ok-begin.ensures.ok c.in-Err.ensures.comes

pub returns-in-Err-clause-only : goal.returns-in-Err-clause-only
returns-in-Err-clause-only g c =
    let q : Channeled = record c.args.at.now { point = c.begin.new.self } in
    moved_on c.args.at.now q c.do_event.new.at (moved_point c.args.at.now q refl) (moved_point q c.do_event.new.at c.do_event.ensures.only)

pub returns-in_err-after_given-clause-comes : goal.returns-in_err-after_given-clause-comes
returns-in_err-after_given-clause-comes g c =
    let p = c.args.at.now in
    let gives = err_from_is_err_and c.from_residual-in_err-after_given.result c.from_residual-in_err-after_given.ensures.1 in
    rw (gives.1, gives.2) (given_breaks (says_lines p.say) p.rates p.point c.begin.new.self c.do_event.new.at.point c.do_event.new.at.point (event_of c.args.event) p.channel _ _ c.in_ok-begin.ensures.ok c.in_default.ensures.comes)

pub returns-in_err-after_given-clause-only : goal.returns-in_err-after_given-clause-only
returns-in_err-after_given-clause-only g c =
    let q : Channeled = record c.args.at.now { point = c.begin.new.self } in
    let z : Channeled = record c.do_event.new.at { channel = c.after_given.new.channel } in
    moved_on c.args.at.now c.do_event.new.at z (moved_on c.args.at.now q c.do_event.new.at (moved_point c.args.at.now q refl) (moved_point q c.do_event.new.at c.do_event.ensures.only)) (moved_channel c.do_event.new.at z refl)

-- what is decided after the event
pub do_left-requires : goal.do_left-requires
do_left-requires g c =
    let m = c.args.at.now.point in
    let r = c.do_event.new.at in
    let run_state = c.in_default.ensures.answer.answer.run_state in
    let e = event_of c.args.event in
    let same : c.begin.new.self ≡ with_world m = c.in_ok-begin.ensures.ok in
    let steps = ap (λ (x : RunState). x.steps) same in
    let stepped = stepped_steps c.begin.new.self r.point e run_state in
    let mesh = ap (λ (x : RunState). length x.mesh) same in
    let size = ap length (stepped_mesh c.begin.new.self r.point e run_state) in
    let kept = ap (λ (x : Channeled). length x.channel.left) c.do_event.ensures.only in
    record {
      started = stepped_started c.begin.new.self r.point e run_state;
      some = omega (arith, mesh, size, c.requires.printable.0);
      copies = c.in_default.ensures.copies;
      few = omega (arith, steps, stepped, kept, c.in_ok-after_given.ensures.few, c.requires.left, c.requires.steps);
    }

pub returns-in-Err-do_left-clause-comes : goal.returns-in-Err-do_left-clause-comes
returns-in-Err-do_left-clause-comes g c =
    let p = c.args.at.now in
    let r = c.do_event.new.at in
    let s = c.begin.new.self in
    let e = event_of c.args.event in
    let z : Channeled = record r { channel = c.after_given.new.channel } in
    let told : says_lines r.say ≡ says_lines p.say = ap (λ (x : Channeled). says_lines x.say) c.do_event.ensures.only in
    let rated : r.rates ≡ p.rates = ap (λ (x : Channeled). x.rates) c.do_event.ensures.only in
    let kept : r.channel ≡ p.channel = ap (λ (x : Channeled). x.channel) c.do_event.ensures.only in
    let then = c.in_ok-after_given.ensures.decided s r.point e c.in_default.ensures.answer ∙ ap (λ (x : Rates). after_given x (world_of s) (outcome_at s e) r.channel) rated ∙ ap (after_given p.rates (world_of s) (outcome_at s e)) kept in
    given_left_stops (says_lines p.say) p.rates p.point s r.point c.do_left.new.at.point e p.channel z.channel _ (g.O.Sink.held c.do_event.new.out) _ c.in-Err-do_left.stop c.in_ok-begin.ensures.ok then c.in_default.ensures.comes
    (subst (λ (b : Bool). IsEventsRun b r.point (outcome_of_events r.point z.channel.left) c.do_left.new.at.point (g.O.Sink.held c.do_event.new.out) (g.O.Sink.held c.do_left.new.out) (Err c.in-Err-do_left.stop)) told c.in-Err-do_left.ensures.ran)

pub returns-in-Err-do_left-clause-only : goal.returns-in-Err-do_left-clause-only
returns-in-Err-do_left-clause-only g c =
    let q : Channeled = record c.args.at.now { point = c.begin.new.self } in
    let z : Channeled = record c.do_event.new.at { channel = c.after_given.new.channel } in
    moved_on c.args.at.now z c.do_left.new.at (moved_on c.args.at.now c.do_event.new.at z (moved_on c.args.at.now q c.do_event.new.at (moved_point c.args.at.now q refl) (moved_point q c.do_event.new.at c.do_event.ensures.only)) (moved_channel c.do_event.new.at z refl)) c.do_left.ensures.only

pub count_line-requires : goal.count_line-requires
count_line-requires g c =
    let m = c.args.at.now.point in
    let before = ap (λ (x : RunState). x.lines) c.in_ok-begin.ensures.ok in
    let event = stepped_lines c.begin.new.self c.do_event.new.at.point (event_of c.args.event) c.in_default.ensures.answer.answer.run_state in
    omega (arith, before, event, c.in_default-do_left.ensures.lines, c.requires.few)

pub returns-clause-comes : goal.returns-clause-comes
returns-clause-comes g c =
    let p = c.args.at.now in
    let r = c.do_event.new.at in
    let s = c.begin.new.self in
    let e = event_of c.args.event in
    let z : Channeled = record r { channel = c.after_given.new.channel } in
    let told : says_lines r.say ≡ says_lines p.say = ap (λ (x : Channeled). says_lines x.say) c.do_event.ensures.only in
    let rated : r.rates ≡ p.rates = ap (λ (x : Channeled). x.rates) c.do_event.ensures.only in
    let kept : r.channel ≡ p.channel = ap (λ (x : Channeled). x.channel) c.do_event.ensures.only in
    let then = c.in_ok-after_given.ensures.decided s r.point e c.in_default.ensures.answer ∙ ap (λ (x : Rates). after_given x (world_of s) (outcome_at s e) r.channel) rated ∙ ap (after_given p.rates (world_of s) (outcome_at s e)) kept in
    given_goes (says_lines p.say) p.rates p.point s r.point c.do_left.new.at.point c.count_line.new.self e p.channel z.channel _ (g.O.Sink.held c.do_event.new.out) _ c.in_ok-begin.ensures.ok then c.in_default.ensures.comes
    (subst (λ (b : Bool). IsEventsRun b r.point (outcome_of_events r.point z.channel.left) c.do_left.new.at.point (g.O.Sink.held c.do_event.new.out) (g.O.Sink.held c.do_left.new.out) (Ok 0)) told c.in_default-do_left.ensures.ran) c.count_line.ensures

pub returns-clause-channel : goal.returns-clause-channel
returns-clause-channel g c =
    let p = c.args.at.now in
    let r = c.do_event.new.at in
    let s = c.begin.new.self in
    let e = event_of c.args.event in
    let rated : r.rates ≡ p.rates = ap (λ (x : Channeled). x.rates) c.do_event.ensures.only in
    let kept : r.channel ≡ p.channel = ap (λ (x : Channeled). x.channel) c.do_event.ensures.only in
    let then = c.in_ok-after_given.ensures.decided s r.point e c.in_default.ensures.answer ∙ ap (λ (x : Rates). after_given x (world_of s) (outcome_at s e) r.channel) rated ∙ ap (after_given p.rates (world_of s) (outcome_at s e)) kept in
    c.in_default-do_left.ensures.channel ∙ given_channel p.rates p.point s e p.channel c.after_given.new.channel c.in_ok-begin.ensures.ok then

pub returns-clause-only : goal.returns-clause-only
returns-clause-only g c =
    let q : Channeled = record c.args.at.now { point = c.begin.new.self } in
    let z : Channeled = record c.do_event.new.at { channel = c.after_given.new.channel } in
    let w : Channeled = record c.do_left.new.at { point = c.count_line.new.self } in
    moved_on c.args.at.now c.do_left.new.at w (moved_on c.args.at.now z c.do_left.new.at (moved_on c.args.at.now c.do_event.new.at z (moved_on c.args.at.now q c.do_event.new.at (moved_point c.args.at.now q refl) (moved_point q c.do_event.new.at c.do_event.ensures.only)) (moved_channel c.do_event.new.at z refl)) c.do_left.ensures.only)
    (moved_point c.do_left.new.at w refl)

pub returns-clause-led : goal.returns-clause-led
returns-clause-led g c =
    let p = c.args.at.now in
    let r = c.do_event.new.at in
    let e = event_of c.args.event in
    let run_state = c.in_default.ensures.answer.answer.run_state in
    let same : c.begin.new.self ≡ with_world p.point = c.in_ok-begin.ensures.ok in
    let lines = ap (λ (x : RunState). x.lines) same in
    let steps = ap (λ (x : RunState). x.steps) same in
    let event_lines = stepped_lines c.begin.new.self r.point e run_state in
    let event_steps = stepped_steps c.begin.new.self r.point e run_state in
    let last_lines = ap (λ (x : RunState). x.lines) c.count_line.ensures in
    let last_steps = ap (λ (x : RunState). x.steps) c.count_line.ensures in
    let left = ap (λ (x : Channel). length x.left) c.in_default-do_left.ensures.channel in
    let tick = ap (λ (x : Channel). x.tick) c.in_default-do_left.ensures.channel in
    let kept = ap (λ (x : Channeled). length x.channel.left) c.do_event.ensures.only in
    let kept_tick = ap (λ (x : Channeled). x.channel.tick) c.do_event.ensures.only in
    record {
      lines = omega (arith, lines, event_lines, c.in_default-do_left.ensures.lines, last_lines);
      steps = omega (arith, steps, event_steps, c.in_default-do_left.ensures.steps, last_steps, kept, c.in_ok-after_given.ensures.few, c.requires.left);
      left = λ few. omega (arith, left);
      tick = λ few. omega (arith, tick, kept_tick, c.in_ok-after_given.ensures.tick, few);
      copies = λ few. few_read c.do_left.new.at.point c.count_line.new.self c.count_line.ensures c.in_default-do_left.ensures.copies;
    }
