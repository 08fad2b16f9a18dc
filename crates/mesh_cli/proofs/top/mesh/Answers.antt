use Rattle.std.proofs.Common.{◌∙◌, sym}
use Rattle.mesh_cli.proofs.Runs.{no_command_bad, command_completes}
use Rattle.mesh_cli.proofs.top.mesh.Goals as goal

pub returns-in-Some-clause-no_bad_line : goal.returns-in-Some-clause-no_bad_line
returns-in-Some-clause-no_bad_line g c =
    no_command_bad _ c.in-Some.command (g.I.Source.left c.args.input.now) _ _ _ c.do_command.result (sym c.in-Some.is ∙ c.command_of.ensures.value) c.in-Some.ensures.allowed c.do_command.ensures.known

pub returns-in-Some-clause-complete : goal.returns-in-Some-clause-complete
returns-in-Some-clause-complete g c =
    command_completes _ c.in-Some.command (g.I.Source.left c.args.input.now) _ _ _ c.do_command.result _ _ _ _ (sym c.in-Some.is ∙ c.command_of.ensures.value) c.do_command.ensures.known c.do_command.ensures.read.failed c.do_command.ensures.write.failed
