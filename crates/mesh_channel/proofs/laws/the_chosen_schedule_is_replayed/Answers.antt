use Rattle.mesh_channel.proofs.ScheduleRuns as lemmas
use Rattle.mesh_channel.proofs.laws.the_chosen_schedule_is_replayed.Goals as goal

pub returns : goal.returns
returns c = lemmas.chosen_schedule_is_replayed
