use Rattle.mesh_shell.proofs.Pieces.{no_pieces}
use Rattle.mesh_shell.proofs.laws.an_empty_text_has_no_line.Goals as goal

pub returns : goal.returns
returns c = no_pieces
