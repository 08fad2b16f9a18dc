use Rattle.mesh_base.proofs.TableLaws.{pair_is}
use Rattle.mesh_base.proofs.text.pair.Goals as goal

pub returns : goal.returns
returns c = pair_is c.args.n c.requires
