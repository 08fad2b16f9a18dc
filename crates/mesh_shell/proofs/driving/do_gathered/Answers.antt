use Rattle.std.proofs.Common.{refl}
use Rattle.mesh_shell.specs.Fold.{text_on}
use Rattle.mesh_shell.proofs.Buffers.{then_faulted}
use Rattle.mesh_shell.proofs.driving.do_gathered.Goals as goal

pub returns-in-Err-clause-known : goal.returns-in-Err-clause-known
returns-in-Err-clause-known g c =
    let left = g.R.LineReader.left in
    then_faulted (text_on g.S.Script.fold (g.R.LineReader.limits c.args.lines.now) c.args.script.now) _ _ _ (left c.args.lines.now) _ _ _ c.do_lines-result.result refl c.do_lines-result.ensures.known c.flush.ensures.held
