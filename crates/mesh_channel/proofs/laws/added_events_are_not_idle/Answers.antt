use Rattle.mesh_channel.proofs.NotIdle as lemmas
use Rattle.mesh_channel.proofs.laws.added_events_are_not_idle.Goals as goal

pub returns : goal.returns
returns c = lemmas.added_events_are_not_idle
