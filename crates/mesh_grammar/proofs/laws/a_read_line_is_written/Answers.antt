use Rattle.mesh_grammar.specs.declared.command.Command.{Command}
use Rattle.mesh_grammar.proofs.Readings as lemmas
use Rattle.mesh_grammar.proofs.laws.a_read_line_is_written.Goals as goal

pub returns : goal.returns
returns c = lemmas.read_line_is_written Command
