use Rattle.mesh_text.proofs.Printed as lemmas
use Rattle.mesh_text.proofs.laws.a_printed_line_parses.Goals as goal

pub returns : goal.returns
returns c = lemmas.printed_line_parses
