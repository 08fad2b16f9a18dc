use Rattle.aodv_meaning.proofs.Writings.{written_is_sent}
use Rattle.aodv_meaning.proofs.laws.written_is_sent.Goals as goal

pub returns : goal.returns
returns c = written_is_sent
