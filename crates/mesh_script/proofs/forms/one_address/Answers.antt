use Rattle.std.proofs.Common.{sym}
use Rattle.mesh_script.specs.Arguments.{spanned_of}
use Rattle.mesh_script.proofs.Cuts.{only_address}
use Rattle.mesh_script.proofs.forms.one_address.Goals as goal

pub returns-in-Ok : goal.returns-in-Ok
returns-in-Ok c =
    let m = spanned_of c.in-Ok.spanned in
    rw c.in-Some.is (sym (only_address c.args.at c.in-Some.words.now m c.in-Ok.ensures.value c.in-Ok.ensures.span))
