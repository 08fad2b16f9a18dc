use Rattle.mesh_text.proofs.StepLaws as lemmas
use Rattle.mesh_text.proofs.laws.a_refused_event_stands_in_its_line.Goals as goal

pub returns : goal.returns
returns c = lemmas.refused_event_stands
