use Rattle.mesh_save.proofs.Whole.{fits}
use Rattle.mesh_save.proofs.saving.measure.Goals as goal

pub returns-clause-fits : goal.returns-clause-fits
returns-clause-fits c = fits c.args.point.now c.requires.sums c.put_body.ensures.mesh c.put_body.ensures.narrow c.requires.steps c.requires.next
