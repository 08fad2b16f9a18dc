use Rattle.aodv_meaning.proofs.Means.{spelled_in}
use Rattle.aodv_meaning.proofs.laws.spelled_is_in_mesh.Goals as goal

pub returns : goal.returns
returns c = spelled_in
