use Rattle.mesh_text.proofs.InRange as lemmas
use Rattle.mesh_text.proofs.laws.a_read_line_is_in_range.Goals as goal

pub returns : goal.returns
returns c = lemmas.in_range
