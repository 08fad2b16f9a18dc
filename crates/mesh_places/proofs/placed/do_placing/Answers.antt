use Rattle.std.proofs.Common.{◌∙◌, refl, sym, ap, subst, arith}
use Rattle.std.proofs.lemmas.Result.{err_from_is_err_and}
use Rattle.mesh_run.specs.declared.stop.Stop.{Stop}
use Rattle.mesh_text.specs.Schedule.{with_line_read}
use Rattle.mesh_grid.specs.Links.{with_placing}
use Rattle.mesh_grid.proofs.PlaceSteps.{places-placing}
use Rattle.mesh_places.specs.RunStates.{IsWant, run_state_of, moved}
use Rattle.mesh_places.specs.declared.placed.Placed.{Placed}
use Rattle.mesh_places.proofs.Placings.{line_done, unwritten, half_written, steps_grow, lines_same, lines_grow}
use Rattle.mesh_places.proofs.placed.do_placing.Goals as goal

pub returns-in_err-put_echo-clause-comes : goal.returns-in_err-put_echo-clause-comes
returns-in_err-put_echo-clause-comes g c =
    let p = err_from_is_err_and c.from_residual.result c.from_residual.ensures.1 in
    rw p.1 (record {
      comes = unwritten c.args.at.now.reach (run_state_of c.args.at.now) c.args.bytes.now c.args.new.now _ (g.O.Sink.held c.args.out.now) (g.O.Sink.held c.put_echo.new.out) p.0 c.requires.said (subst (λ (s : Stop). IsWant s) (sym p.2) tt) c.in_err-put_echo.ensures.text;
      only = refl;
      places = tt;
      lines = tt;
      steps = tt;
    })

pub returns-in_err-do_coming-clause-comes : goal.returns-in_err-do_coming-clause-comes
returns-in_err-do_coming-clause-comes g c =
    let p = err_from_is_err_and c.from_residual-in_err-do_coming.result c.from_residual-in_err-do_coming.ensures.1 in
    rw p.1 (record {
      comes = half_written c.args.at.now.reach (run_state_of c.args.at.now) c.args.bytes.now c.args.new.now _ (g.O.Sink.held c.args.out.now) (g.O.Sink.held c.put_echo.new.out) (g.O.Sink.held c.do_coming.new.out) p.0 c.requires.said
          (subst (λ (s : Stop). IsWant s) (sym p.2) c.in_err-do_coming.ensures.stops) c.in_ok-put_echo.ensures.text c.in_err-do_coming.ensures.text;
      only = c.do_coming.ensures.only ∙ ap (λ (q : Placed). moved c.args.at.now (record { run = c.do_coming.new.at.point; places = q.places })) (sym c.do_coming.ensures.only);
      places = tt;
      lines = tt;
      steps = tt;
    })

pub count_line-requires : goal.count_line-requires
count_line-requires g c =
    let same = lines_same c.args.at.now.reach (run_state_of c.args.at.now) c.args.new.now c.do_coming.new.at.point c.in_ok-do_coming.ensures.run_state in
    omega (arith, c.requires.few)

pub returns-clause-comes : goal.returns-clause-comes
returns-clause-comes g c =
    let is = c.count_line.ensures ∙ ap with_line_read c.in_ok-do_coming.ensures.run_state in
    record {
      comes = line_done c.args.at.now.reach (run_state_of c.args.at.now) c.args.bytes.now c.args.new.now c.count_line.new.self (g.O.Sink.held c.args.out.now) (g.O.Sink.held c.put_echo.new.out) (g.O.Sink.held c.do_coming.new.out)
          c.requires.said is c.in_ok-put_echo.ensures.text c.in_ok-do_coming.ensures.text;
      only = ap (λ (q : Placed). record q { point = c.count_line.new.self; places = c.come.new.self }) c.do_coming.ensures.only;
      places = c.come.ensures ∙ ap (λ (q : Placed). with_placing q.places c.args.new.now) c.do_coming.ensures.only ∙ sym (places-placing (run_state_of c.args.at.now) c.args.bytes.now c.args.new.now c.requires.said);
      lines = lines_grow c.args.at.now.reach (run_state_of c.args.at.now) c.args.new.now c.count_line.new.self is;
      steps = steps_grow c.args.at.now.reach (run_state_of c.args.at.now) c.args.bytes.now c.args.new.now c.count_line.new.self c.requires.nodes c.requires.said is;
    }
