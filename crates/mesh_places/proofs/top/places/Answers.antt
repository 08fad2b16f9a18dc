use Rattle.std.proofs.Common.{◌∙◌, sym}
use Rattle.mesh_places.proofs.Runs.{run_completes}
use Rattle.mesh_places.proofs.top.places.Goals as goal

pub returns-in-Some-clause-complete : goal.returns-in-Some-clause-complete
returns-in-Some-clause-complete g c =
    run_completes _ c.in-Some.reach (g.I.Source.left c.args.input.now) _ _ _ c.run.result _ _ _ _ (sym c.in-Some.is ∙ c.reach_of.ensures) c.run.ensures.known c.run.ensures.read.failed c.run.ensures.write.failed
