use Rattle.mesh_channel.proofs.ChannelRuns as lemmas
use Rattle.mesh_channel.proofs.laws.each_datum_is_accounted_for.Goals as goal

pub returns : goal.returns
returns c = lemmas.each_datum_is_accounted_for
