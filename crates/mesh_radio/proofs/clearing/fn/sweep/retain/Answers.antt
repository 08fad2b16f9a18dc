use Rattle.std.proofs.Common.{◌∙◌, refl}
use Rattle.mesh_radio.proofs.Sweeps.{some-left}
use Rattle.mesh_radio.proofs.clearing.fn.sweep.retain.Goals as goal

pub returns : goal.returns
returns c = (c.is_some.ensures ∙ some-left c.args.cast.now c.next_from.result c.next_from.ensures.least c.next_from.ensures.below, refl)
