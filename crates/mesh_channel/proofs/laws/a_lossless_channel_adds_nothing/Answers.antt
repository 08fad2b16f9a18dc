use Rattle.mesh_channel.proofs.Lossless as lemmas
use Rattle.mesh_channel.proofs.laws.a_lossless_channel_adds_nothing.Goals as goal

pub returns : goal.returns
returns c = lemmas.lossless_channel_adds_nothing
