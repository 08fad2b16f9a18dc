use Rattle.mesh_shell.proofs.Joined.{lines_are_the_text}
use Rattle.mesh_shell.proofs.laws.lines_are_the_text.Goals as goal

pub returns : goal.returns
returns c = lines_are_the_text
