use Rattle.mesh_text.proofs.StepLaws as lemmas
use Rattle.mesh_text.proofs.laws.steps_are_events.Goals as goal

pub returns : goal.returns
returns c = lemmas.steps_are_events
