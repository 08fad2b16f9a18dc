use Rattle.mesh_grammar.specs.declared.command.Command.{Command}
use Rattle.mesh_grammar.proofs.CommandLines as lemmas
use Rattle.mesh_grammar.proofs.laws.a_written_line_is_read.Goals as goal

pub returns : goal.returns
returns c = lemmas.written_line_is_read Command
