use Rattle.std.proofs.Common.{◌∙◌, ℕ, List, ap, subst}
use Rattle.std.specs.Io.KnownBytes.{Appends}
use Rattle.std.proofs.lemmas.Result.{err_from_is_err_and}
use Rattle.mesh_io.specs.Puts.{AppendsPrefix}
use Rattle.mesh_grammar.specs.Written.{line}
use Rattle.mesh_text.specs.Schedule.{with_line_read}
use Rattle.mesh_blocks.proofs.Chosen.{auto_goes, auto_front, auto_end_front, auto_stops}
use Rattle.mesh_blocks.proofs.auto.do_auto.Goals as goal

pub returns-in_err-put_echo-clause-comes : goal.returns-in_err-put_echo-clause-comes
returns-in_err-put_echo-clause-comes g c =
    let p = err_from_is_err_and c.from_residual-in_err-put_echo.result c.from_residual-in_err-put_echo.ensures.1 in
    let P : List ℕ → Type 0 = λ l. AppendsPrefix (g.O.Sink.held c.args.out.now) (g.O.Sink.held c.put_echo.new.out) (line l) in
    rw (p.1, p.2) (auto_front c.args.below c.args.at.now c.begin.new.self c.args.count _ _ c.in_ok-begin.ensures.ok (subst P c.requires.echo.1 c.in_err-put_echo.ensures.text))

pub returns-in-Err-clause-comes : goal.returns-in-Err-clause-comes
returns-in-Err-clause-comes g c =
    let P : List ℕ → Type 0 = λ l. Appends (g.O.Sink.held c.args.out.now) (g.O.Sink.held c.put_echo.new.out) (line l) in
    auto_stops c.args.below c.args.at.now c.begin.new.self c.do_events.new.at c.args.count _ (g.O.Sink.held c.put_echo.new.out) _ c.in-Err.stop c.in_ok-begin.ensures.ok
    (subst P c.requires.echo.1 c.in_ok-put_echo.ensures.text) c.in-Err.ensures.ran

pub returns-in_err-put_auto_end-clause-comes : goal.returns-in_err-put_auto_end-clause-comes
returns-in_err-put_auto_end-clause-comes g c =
    let p = err_from_is_err_and c.from_residual-in_err-put_auto_end.result c.from_residual-in_err-put_auto_end.ensures.1 in
    let P : List ℕ → Type 0 = λ l. Appends (g.O.Sink.held c.args.out.now) (g.O.Sink.held c.put_echo.new.out) (line l) in
    rw (p.1, p.2) (auto_end_front c.args.below c.args.at.now c.begin.new.self c.do_events.new.at c.args.count _ _ (g.O.Sink.held c.put_echo.new.out) (g.O.Sink.held c.do_events.new.out) _ c.in_ok-begin.ensures.ok c.in-Ok.ensures.did
    (subst P c.requires.echo.1 c.in_ok-put_echo.ensures.text) c.in-Ok.ensures.ran c.in_err-put_auto_end.ensures.text)

pub returns-clause-comes : goal.returns-clause-comes
returns-clause-comes g c =
    let P : List ℕ → Type 0 = λ l. Appends (g.O.Sink.held c.args.out.now) (g.O.Sink.held c.put_echo.new.out) (line l) in
    auto_goes c.args.below c.args.at.now c.begin.new.self c.do_events.new.at c.count_line.new.self c.args.count _ _ (g.O.Sink.held c.put_echo.new.out) (g.O.Sink.held c.do_events.new.out) _ c.in_ok-begin.ensures.ok c.in-Ok.ensures.did
    (subst P c.requires.echo.1 c.in_ok-put_echo.ensures.text) c.in-Ok.ensures.ran c.in_ok-put_auto_end.ensures.text c.count_line.ensures
