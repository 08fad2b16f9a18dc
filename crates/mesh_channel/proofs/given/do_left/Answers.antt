use Rattle.std.proofs.Common.{◌≡◌, ◌∙◌, ◌+◌, Bool, List, ℕ, Option, Some, None, Ok, Err, length, refl, sym, ap, subst, arith}
use Rattle.std.specs.Prelude.{option_map}
use Rattle.mesh_meaning.specs.Events.{event_of}
use Rattle.mesh_text.specs.Schedule.{RunState}
use Rattle.mesh_text.specs.Auto.{outcome_of_events}
use Rattle.mesh_run.specs.Outputs.{says_lines}
use Rattle.mesh_run.specs.Runs.{IsEventsDone, IsEventsRun, IsLineStopped, line_outcome_at}
use Rattle.mesh_run.proofs.Chosen.{nothing_more}
use Rattle.mesh_fates.specs.Channels.{Channel}
use Rattle.mesh_channel.specs.RunStates.{run_state_of}
use Rattle.mesh_channel.specs.declared.channeled.Channeled.{Channeled}
use Rattle.mesh_channel.proofs.Doing.{moved_on, moved_channel, moved_point, no_left, left_stops, left_one, left_over, left_goes_on}
use Rattle.mesh_channel.proofs.given.do_left.Goals as goal

pub left-preserved : goal.left-preserved
left-preserved g c =
    left_goes_on c.args.at.now c.left.at c.next_left.new.at c.do_event.new.at (event_of c.in-Some.event) (option_map event_of c.next_left.result) _ (g.O.Sink.held c.left.out) (g.O.Sink.held c.do_event.new.out) _ _ _ c.left.invariant
    c.next_left.ensures.only c.next_left.ensures.left c.next_left.ensures.next (ap (option_map event_of) c.in-Some.is) c.do_event.ensures.only c.in_default-do_event.ensures.comes
    c.in_default-do_event.ensures.answer.answer.run_state (c.in_default-do_event.ensures.cause.none (λ x. cc)) c.in_default-do_event.ensures.copies

pub left-preserved-in_default-do_event : goal.left-preserved-in_default-do_event
left-preserved-in_default-do_event g c =
    left_goes_on c.args.at.now c.left.at c.next_left.new.at c.do_event.new.at (event_of c.in-Some.event) (option_map event_of c.next_left.result) _ (g.O.Sink.held c.left.out) (g.O.Sink.held c.do_event.new.out) _ _ _ c.left.invariant
    c.next_left.ensures.only c.next_left.ensures.left c.next_left.ensures.next (ap (option_map event_of) c.in-Some.is) c.do_event.ensures.only c.in_default-do_event.ensures.comes
    c.in_default-do_event.ensures.answer.answer.run_state (c.in_default-do_event.ensures.cause.none (λ x. cc)) c.in_default-do_event.ensures.copies

pub left-preserved-in_default-do_event-2 : goal.left-preserved-in_default-do_event-2
left-preserved-in_default-do_event-2 g c =
    left_goes_on c.args.at.now c.left.at c.next_left.new.at c.do_event.new.at (event_of c.in-Some.event) (option_map event_of c.next_left.result) _ (g.O.Sink.held c.left.out) (g.O.Sink.held c.do_event.new.out) _ _ _ c.left.invariant
    c.next_left.ensures.only c.next_left.ensures.left c.next_left.ensures.next (ap (option_map event_of) c.in-Some.is) c.do_event.ensures.only c.in_default-do_event.ensures.comes
    c.in_default-do_event.ensures.answer.answer.run_state (c.in_default-do_event.ensures.cause.none (λ x. cc)) c.in_default-do_event.ensures.copies

pub left-preserved-in_default-do_event-3 : goal.left-preserved-in_default-do_event-3
left-preserved-in_default-do_event-3 g c =
    left_goes_on c.args.at.now c.left.at c.next_left.new.at c.do_event.new.at (event_of c.in-Some.event) (option_map event_of c.next_left.result) _ (g.O.Sink.held c.left.out) (g.O.Sink.held c.do_event.new.out) _ _ _ c.left.invariant
    c.next_left.ensures.only c.next_left.ensures.left c.next_left.ensures.next (ap (option_map event_of) c.in-Some.is) c.do_event.ensures.only c.in_default-do_event.ensures.comes
    c.in_default-do_event.ensures.answer.answer.run_state (c.in_default-do_event.ensures.cause.none (λ x. cc)) c.in_default-do_event.ensures.copies

pub left-preserved-in_default-do_event-4 : goal.left-preserved-in_default-do_event-4
left-preserved-in_default-do_event-4 g c =
    left_goes_on c.args.at.now c.left.at c.next_left.new.at c.do_event.new.at (event_of c.in-Some.event) (option_map event_of c.next_left.result) _ (g.O.Sink.held c.left.out) (g.O.Sink.held c.do_event.new.out) _ _ _ c.left.invariant
    c.next_left.ensures.only c.next_left.ensures.left c.next_left.ensures.next (ap (option_map event_of) c.in-Some.is) c.do_event.ensures.only c.in_default-do_event.ensures.comes
    c.in_default-do_event.ensures.answer.answer.run_state (c.in_default-do_event.ensures.cause.none (λ x. cc)) c.in_default-do_event.ensures.copies

pub left-preserved-in_default-do_event-5 : goal.left-preserved-in_default-do_event-5
left-preserved-in_default-do_event-5 g c =
    left_goes_on c.args.at.now c.left.at c.next_left.new.at c.do_event.new.at (event_of c.in-Some.event) (option_map event_of c.next_left.result) _ (g.O.Sink.held c.left.out) (g.O.Sink.held c.do_event.new.out) _ _ _ c.left.invariant
    c.next_left.ensures.only c.next_left.ensures.left c.next_left.ensures.next (ap (option_map event_of) c.in-Some.is) c.do_event.ensures.only c.in_default-do_event.ensures.comes
    c.in_default-do_event.ensures.answer.answer.run_state (c.in_default-do_event.ensures.cause.none (λ x. cc)) c.in_default-do_event.ensures.copies

pub left-preserved-in_default-do_event-6 : goal.left-preserved-in_default-do_event-6
left-preserved-in_default-do_event-6 g c =
    left_goes_on c.args.at.now c.left.at c.next_left.new.at c.do_event.new.at (event_of c.in-Some.event) (option_map event_of c.next_left.result) _ (g.O.Sink.held c.left.out) (g.O.Sink.held c.do_event.new.out) _ _ _ c.left.invariant
    c.next_left.ensures.only c.next_left.ensures.left c.next_left.ensures.next (ap (option_map event_of) c.in-Some.is) c.do_event.ensures.only c.in_default-do_event.ensures.comes
    c.in_default-do_event.ensures.answer.answer.run_state (c.in_default-do_event.ensures.cause.none (λ x. cc)) c.in_default-do_event.ensures.copies

pub left-preserved-in_default-do_event-7 : goal.left-preserved-in_default-do_event-7
left-preserved-in_default-do_event-7 g c =
    left_goes_on c.args.at.now c.left.at c.next_left.new.at c.do_event.new.at (event_of c.in-Some.event) (option_map event_of c.next_left.result) _ (g.O.Sink.held c.left.out) (g.O.Sink.held c.do_event.new.out) _ _ _ c.left.invariant
    c.next_left.ensures.only c.next_left.ensures.left c.next_left.ensures.next (ap (option_map event_of) c.in-Some.is) c.do_event.ensures.only c.in_default-do_event.ensures.comes
    c.in_default-do_event.ensures.answer.answer.run_state (c.in_default-do_event.ensures.cause.none (λ x. cc)) c.in_default-do_event.ensures.copies

pub left-preserved-in_default-do_event-8 : goal.left-preserved-in_default-do_event-8
left-preserved-in_default-do_event-8 g c =
    left_goes_on c.args.at.now c.left.at c.next_left.new.at c.do_event.new.at (event_of c.in-Some.event) (option_map event_of c.next_left.result) _ (g.O.Sink.held c.left.out) (g.O.Sink.held c.do_event.new.out) _ _ _ c.left.invariant
    c.next_left.ensures.only c.next_left.ensures.left c.next_left.ensures.next (ap (option_map event_of) c.in-Some.is) c.do_event.ensures.only c.in_default-do_event.ensures.comes
    c.in_default-do_event.ensures.answer.answer.run_state (c.in_default-do_event.ensures.cause.none (λ x. cc)) c.in_default-do_event.ensures.copies

pub left-preserved-in_default-do_event-9 : goal.left-preserved-in_default-do_event-9
left-preserved-in_default-do_event-9 g c =
    left_goes_on c.args.at.now c.left.at c.next_left.new.at c.do_event.new.at (event_of c.in-Some.event) (option_map event_of c.next_left.result) _ (g.O.Sink.held c.left.out) (g.O.Sink.held c.do_event.new.out) _ _ _ c.left.invariant
    c.next_left.ensures.only c.next_left.ensures.left c.next_left.ensures.next (ap (option_map event_of) c.in-Some.is) c.do_event.ensures.only c.in_default-do_event.ensures.comes
    c.in_default-do_event.ensures.answer.answer.run_state (c.in_default-do_event.ensures.cause.none (λ x. cc)) c.in_default-do_event.ensures.copies

pub left-preserved-in_default-do_event-10 : goal.left-preserved-in_default-do_event-10
left-preserved-in_default-do_event-10 g c =
    left_goes_on c.args.at.now c.left.at c.next_left.new.at c.do_event.new.at (event_of c.in-Some.event) (option_map event_of c.next_left.result) _ (g.O.Sink.held c.left.out) (g.O.Sink.held c.do_event.new.out) _ _ _ c.left.invariant
    c.next_left.ensures.only c.next_left.ensures.left c.next_left.ensures.next (ap (option_map event_of) c.in-Some.is) c.do_event.ensures.only c.in_default-do_event.ensures.comes
    c.in_default-do_event.ensures.answer.answer.run_state (c.in_default-do_event.ensures.cause.none (λ x. cc)) c.in_default-do_event.ensures.copies

pub left-smaller : goal.left-smaller
left-smaller g c =
    let p = c.left.at in
    let kept = ap (λ (x : Channeled). x.channel) c.do_event.ensures.only ∙ c.next_left.ensures.left in
    let less = ap (λ (x : Channel). length x.left) kept in
    let one = left_one p.channel.left (event_of c.in-Some.event) (option_map event_of c.next_left.result) (ap (option_map event_of) c.in-Some.is) c.next_left.ensures.next in
    omega (arith, one, less)

pub returns-in-Err-clause-ran : goal.returns-in-Err-clause-ran
returns-in-Err-clause-ran g c =
    let p = c.left.at in
    let q = c.next_left.new.at in
    let r = c.do_event.new.at in
    let say = says_lines c.args.at.now.say in
    let e = event_of c.in-Some.event in
    let o = option_map event_of c.next_left.result in
    let told : says_lines q.say ≡ say = ap (λ (x : Channeled). says_lines x.say) c.next_left.ensures.only ∙ ap (λ (x : Channeled). says_lines x.say) c.left.invariant.only in
    let here = subst (λ (s : Bool). IsLineStopped s q.point (line_outcome_at q.point e) r.point (g.O.Sink.held c.left.out) (g.O.Sink.held c.do_event.new.out) c.in-Err.stop) told c.in-Err.ensures.comes in
    let stop = subst (λ (m : RunState). IsLineStopped say m (line_outcome_at m e) r.point (g.O.Sink.held c.left.out) (g.O.Sink.held c.do_event.new.out) c.in-Err.stop) (ap (λ (x : Channeled). x.point) c.next_left.ensures.only) here in
    c.left.invariant.ran (g.O.Sink.held c.do_event.new.out) r.point (Err c.in-Err.stop) (left_stops say p.point r.point e p.channel.left o _ _ c.in-Err.stop (ap (option_map event_of) c.in-Some.is) c.next_left.ensures.next stop)

pub returns-in-Err-clause-only : goal.returns-in-Err-clause-only
returns-in-Err-clause-only g c =
    moved_on c.args.at.now c.left.at c.do_event.new.at c.left.invariant.only
    (moved_on c.left.at c.next_left.new.at c.do_event.new.at (moved_channel c.left.at c.next_left.new.at c.next_left.ensures.only) (moved_point c.next_left.new.at c.do_event.new.at c.do_event.ensures.only))

pub returns-clause-ran : goal.returns-clause-ran
returns-clause-ran g c =
    let p = c.left.at in
    let q = c.next_left.new.at in
    let say = says_lines c.args.at.now.say in
    let held = g.O.Sink.held c.left.out in
    let none = no_left p.channel.left (option_map event_of c.next_left.result) (ap (option_map event_of) c.in_default.is) c.next_left.ensures.next in
    c.left.invariant.ran held q.point (Ok 0)
    (subst (λ (n : RunState). IsEventsDone say (outcome_of_events p.point p.channel.left) n held held) (sym (ap (λ (x : Channeled). x.point) c.next_left.ensures.only)) (nothing_more say p.point p.channel.left held none))

pub returns-clause-channel : goal.returns-clause-channel
returns-clause-channel g c =
    let p = c.left.at in
    let none = no_left p.channel.left (option_map event_of c.next_left.result) (ap (option_map event_of) c.in_default.is) c.next_left.ensures.next in
    left_over c.args.at.now.channel p.channel c.next_left.new.at.channel c.left.invariant.channel c.next_left.ensures.left none

pub returns-clause-only : goal.returns-clause-only
returns-clause-only g c = moved_on c.args.at.now c.left.at c.next_left.new.at c.left.invariant.only (moved_channel c.left.at c.next_left.new.at c.next_left.ensures.only)

pub returns-clause-steps : goal.returns-clause-steps
returns-clause-steps g c =
    let p = c.left.at in
    let none = ap length (no_left p.channel.left (option_map event_of c.next_left.result) (ap (option_map event_of) c.in_default.is) c.next_left.ensures.next) in
    let kept = ap (λ (x : Channeled). x.point.steps) c.next_left.ensures.only in
    omega (arith, none, kept, c.left.invariant.steps)
