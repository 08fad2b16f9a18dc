use Rattle.std.proofs.Common.{sym}
use Rattle.mesh_grammar.specs.Forms.{OneNumber}
use Rattle.mesh_script.proofs.Cuts.{only_number}
use Rattle.mesh_script.proofs.forms.one_number.Goals as goal

pub returns-in-Ok : goal.returns-in-Ok
returns-in-Ok c =
    let is = only_number c.args.most c.args.at c.in-Some.words.now c.in-Ok.n c.in-Ok.ensures.value OneNumber in
    rw c.in-Some.is (sym is)
