use Rattle.mesh_text.proofs.Echoes as lemmas
use Rattle.mesh_text.proofs.laws.a_read_line_is_written_as_it_was.Goals as goal

pub returns : goal.returns
returns c = lemmas.read_line_is_written_as_it_was
