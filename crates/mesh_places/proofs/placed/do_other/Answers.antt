use Rattle.std.proofs.Common.{true, refl, sym, subst}
use Rattle.mesh_io.proofs.Writing.{Keeps-same}
use Rattle.mesh_text.specs.Text.{LineOutcome}
use Rattle.mesh_run.specs.Runs.{IsLineRun}
use Rattle.mesh_grid.proofs.PlaceSteps.{places-other}
use Rattle.mesh_places.specs.RunStates.{run_state_of}
use Rattle.mesh_places.proofs.Placings.{refused_so, on_ok}
use Rattle.mesh_places.proofs.placed.do_other.Goals as goal

pub returns-in-Err-clause-comes : goal.returns-in-Err-clause-comes
returns-in-Err-clause-comes g c = record {
  comes = (refused_so c.args.at.now.reach (run_state_of c.args.at.now) c.args.bytes.now c.in-Err.fault c.requires.said c.in-Err.ensures.refused, refl, Keeps-same _);
  only = refl;
  places = tt;
  lines = tt;
  steps = tt;
}

pub returns-in-Ok-clause-comes : goal.returns-in-Ok-clause-comes
returns-in-Ok-clause-comes g c = record {
  comes = subst (λ (k : LineOutcome). IsLineRun true c.args.at.now.point k c.one.new.at (g.O.Sink.held c.args.out.now) (g.O.Sink.held c.one.new.out) c.one.result) (sym c.in-Ok.ensures.same) c.one.ensures.comes;
  only = refl;
  places = on_ok c.one.result (sym (places-other (run_state_of c.args.at.now) c.args.bytes.now c.requires.said));
  lines = c.one.ensures.lines;
  steps = c.one.ensures.steps;
}
