use Rattle.mesh_channel.proofs.ChannelRuns as lemmas
use Rattle.mesh_channel.proofs.laws.worlds_are_of_events.Goals as goal

pub returns : goal.returns
returns c = lemmas.worlds_are_of_events
