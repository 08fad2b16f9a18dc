use Rattle.mesh_base.proofs.TableLaws.{chunk_is}
use Rattle.mesh_base.proofs.octets.chunk.Goals as goal

pub returns : goal.returns
returns c = chunk_is c.args.n c.requires
