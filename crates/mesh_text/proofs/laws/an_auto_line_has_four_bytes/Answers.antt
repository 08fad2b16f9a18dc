use Rattle.mesh_text.proofs.LineLaws as lemmas
use Rattle.mesh_text.proofs.laws.an_auto_line_has_four_bytes.Goals as goal

pub returns : goal.returns
returns c = lemmas.auto_line_has_four_bytes
