use Rattle.mesh_channel.proofs.ChannelRuns as lemmas
use Rattle.mesh_channel.proofs.laws.runs_over_channels_are_loop_free.Goals as goal

pub returns : goal.returns
returns c = lemmas.runs_over_channels_are_loop_free
