use Rattle.mesh_text.proofs.LineLaws as lemmas
use Rattle.mesh_text.proofs.laws.a_line_has_few_events.Goals as goal

pub returns : goal.returns
returns c = lemmas.line_has_few_events
