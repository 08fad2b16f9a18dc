use Rattle.std.proofs.Common.{◌∙◌, sym}
use Rattle.mesh_channel.proofs.WholeRuns.{run_completes}
use Rattle.mesh_channel.proofs.top.channel.Goals as goal

pub returns-in-Some-clause-complete : goal.returns-in-Some-clause-complete
returns-in-Some-clause-complete g c =
    run_completes _ c.in-Some.options (g.I.Source.left c.args.input.now) _ _ _ c.run.result _ _ _ _ (sym c.in-Some.is ∙ c.options_of.ensures) c.run.ensures.known c.run.ensures.read.failed c.run.ensures.write.failed
