use Rattle.std.proofs.Common.{◌∙◌, ℕ, List, Ok, Err, refl, sym, ap, subst, rules}
use Rattle.mesh_text.specs.Schedule.{RunState, Chooses, with_line_read}
use Rattle.mesh_text.specs.Auto.{auto_end, events_chosen}
use Rattle.mesh_text.specs.Text.{outcome_of_line}
use Rattle.std.specs.Io.KnownBytes.{Appends}
use Rattle.std.proofs.lemmas.Result.{err_from_is_err_and}
use Rattle.mesh_io.specs.Puts.{AppendsPrefix}
use Rattle.mesh_run.specs.Runs.{IsLineDone, IsLineStopped, IsReached}
use Rattle.mesh_run.proofs.Shown.{echoed, unsaid_none, loud_whole, loud_front}
use Rattle.mesh_run.proofs.Ways.{err_of, reached_none}
use Rattle.mesh_run.proofs.Begun.{started_same}
use Rattle.mesh_run.proofs.Chosen.{auto_goes, auto_front, auto_end_front, auto_stops}
use Rattle.mesh_run.proofs.auto.do_auto.Goals as goal

pub returns-in_err-say_echo-clause-comes : goal.returns-in_err-say_echo-clause-comes
returns-in_err-say_echo-clause-comes g c =
    let p = err_from_is_err_and c.from_residual.result c.from_residual.ensures.1 in
    let P : List ℕ → Type 0 = λ l. AppendsPrefix (g.O.Sink.held c.args.out.now) (g.O.Sink.held c.say_echo.new.out) l in
    rw (p.1, p.2) (auto_front c.args.say c.args.at.now c.args.at.now c.args.count _ _ (started_same c.args.at.now c.requires.started) (subst P (echoed c.args.say c.args.bytes.now _ (λ loud. (c.requires.echo loud).1)) c.in_err-say_echo.ensures.text))

pub returns-in_err-say_echo-clause-way : goal.returns-in_err-say_echo-clause-way
returns-in_err-say_echo-clause-way g c =
    let p = err_from_is_err_and c.from_residual.result c.from_residual.ensures.1 in
    rw p.1 (reached_none c.args.at.now _ (events_chosen c.args.count c.args.at.now) refl)

pub returns-in-Err-clause-comes : goal.returns-in-Err-clause-comes
returns-in-Err-clause-comes g c =
    let P : List ℕ → Type 0 = λ l. Appends (g.O.Sink.held c.args.out.now) (g.O.Sink.held c.say_echo.new.out) l in
    auto_stops c.args.say c.args.at.now c.args.at.now c.do_events.new.at c.args.count _ (g.O.Sink.held c.say_echo.new.out) _ c.in-Err.stop (started_same c.args.at.now c.requires.started)
    (subst P (echoed c.args.say c.args.bytes.now _ (λ loud. (c.requires.echo loud).1)) c.in_ok-say_echo.ensures.text) c.in-Err.ensures.ran

pub returns-then-not-say-clause-comes : goal.returns-then-not-say-clause-comes
returns-then-not-say-clause-comes g c =
    let P : List ℕ → Type 0 = λ l. Appends (g.O.Sink.held c.args.out.now) (g.O.Sink.held c.say_echo.new.out) l in
    auto_goes c.args.say c.args.at.now c.args.at.now c.do_events.new.at _ c.args.count c.in-Ok.did _ (g.O.Sink.held c.say_echo.new.out) (g.O.Sink.held c.do_events.new.out) _ (started_same c.args.at.now c.requires.started) c.in-Ok.ensures.did
    (subst P (echoed c.args.say c.args.bytes.now _ (λ loud. (c.requires.echo loud).1)) c.in_ok-say_echo.ensures.text) c.in-Ok.ensures.ran (unsaid_none c.args.say (auto_end c.in-Ok.did) _ c.if-not-say.true) refl

pub returns-in_err-put_auto_end-clause-comes : goal.returns-in_err-put_auto_end-clause-comes
returns-in_err-put_auto_end-clause-comes g c =
    let p = err_from_is_err_and c.from_residual-in_err-put_auto_end.result c.from_residual-in_err-put_auto_end.ensures.1 in
    let P : List ℕ → Type 0 = λ l. Appends (g.O.Sink.held c.args.out.now) (g.O.Sink.held c.say_echo.new.out) l in
    rw (p.1, p.2) (auto_end_front c.args.say c.args.at.now c.args.at.now c.do_events.new.at c.args.count _ _ (g.O.Sink.held c.say_echo.new.out) (g.O.Sink.held c.do_events.new.out) _ (started_same c.args.at.now c.requires.started) c.in-Ok.ensures.did
    (subst P (echoed c.args.say c.args.bytes.now _ (λ loud. (c.requires.echo loud).1)) c.in_ok-say_echo.ensures.text) c.in-Ok.ensures.ran (loud_front c.args.say _ _ _ c.if-not-say.false c.in_err-put_auto_end.ensures.text))

pub returns-clause-comes : goal.returns-clause-comes
returns-clause-comes g c =
    let P : List ℕ → Type 0 = λ l. Appends (g.O.Sink.held c.args.out.now) (g.O.Sink.held c.say_echo.new.out) l in
    auto_goes c.args.say c.args.at.now c.args.at.now c.do_events.new.at _ c.args.count c.in-Ok.did _ (g.O.Sink.held c.say_echo.new.out) (g.O.Sink.held c.do_events.new.out) _ (started_same c.args.at.now c.requires.started) c.in-Ok.ensures.did
    (subst P (echoed c.args.say c.args.bytes.now _ (λ loud. (c.requires.echo loud).1)) c.in_ok-say_echo.ensures.text) c.in-Ok.ensures.ran (loud_whole c.args.say _ _ _ c.if-not-say.false c.in_ok-put_auto_end.ensures.text) refl
