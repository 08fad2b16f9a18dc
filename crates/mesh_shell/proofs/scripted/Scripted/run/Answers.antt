use Rattle.std.proofs.Common.{sym, subst}
use Rattle.std.specs.Prelude.{IsErrOf}
use Rattle.mesh_io.specs.Puts.{AppendsPrefix}
use Rattle.mesh_io.specs.Buffering.{held_by}
use Rattle.mesh_shell.specs.Pieces.{pieces_within}
use Rattle.mesh_shell.specs.Fold.{text_from, text_on}
use Rattle.mesh_shell.specs.Outputs.{IsHeadWritten, IsHeadRun}
use Rattle.mesh_shell.specs.declared.fault.Fault.TheVariants.{ReadFault}
use Rattle.mesh_shell.proofs.Faults.{err_as}
use Rattle.mesh_shell.proofs.Steps.{text_on-pieces}
use Rattle.mesh_shell.proofs.Told.{head_broken, run_told, run_after, run_leads}
use Rattle.mesh_shell.proofs.scripted.Scripted.run.Goals as goal

pub returns-in-Err-clause-known : goal.returns-in-Err-clause-known
returns-in-Err-clause-known g c =
    let fold = g.S.Script.fold in
    let most = g.R.LineReader.limits c.args.lines.now in
    let m = c.args.self.now.script.now in
    let held = held_by g.O.Sink.held in
    let front : AppendsPrefix (held c.args.self.now.out.now) (held c.begin.new.out) (fold.head m) =
    subst (λ r. IsHeadRun (fold.head m) m c.begin.new.self (held c.args.self.now.out.now) (held c.begin.new.out) r) c.in-Err.is c.begin.ensures.comes in
    head_broken (text_on fold most m) (λ bytes. text_from fold m (pieces_within most bytes)) (fold.head m) (g.R.LineReader.left c.args.lines.now) (g.R.LineReader.left c.args.lines.now) (held c.args.self.now.out.now) (held c.begin.new.out) c.in-Err.fault
    (text_on-pieces fold most m) (λ e. c.begin.ensures.read (subst (λ r. IsErrOf r ReadFault) (sym c.in-Err.is) (err_as c.in-Err.fault ReadFault e))) front

pub returns-clause-known : goal.returns-clause-known
returns-clause-known g c =
    let m = c.args.self.now.script.now in
    let held = held_by g.O.Sink.held in
    let wrote : IsHeadWritten (g.S.Script.fold.head m) m c.begin.new.self (held c.args.self.now.out.now) (held c.begin.new.out) =
    subst (λ r. IsHeadRun (g.S.Script.fold.head m) m c.begin.new.self (held c.args.self.now.out.now) (held c.begin.new.out) r) c.in_default.is c.begin.ensures.comes in
    run_told g.S.Script g.O.Sink g.R.LineReader c.args.lines.now c.run_lines.new.lines _ c.run_lines.new.runner c.run_lines.result c.run_lines.ensures.ran m (held c.args.self.now.out.now) wrote.same wrote.grown

pub returns-clause-after : goal.returns-clause-after
returns-clause-after g c =
    let m = c.args.self.now.script.now in
    let held = held_by g.O.Sink.held in
    let wrote : IsHeadWritten (g.S.Script.fold.head m) m c.begin.new.self (held c.args.self.now.out.now) (held c.begin.new.out) =
    subst (λ r. IsHeadRun (g.S.Script.fold.head m) m c.begin.new.self (held c.args.self.now.out.now) (held c.begin.new.out) r) c.in_default.is c.begin.ensures.comes in
    run_after g.S.Script g.O.Sink g.R.LineReader c.args.lines.now c.run_lines.new.lines _ c.run_lines.new.runner c.run_lines.result c.run_lines.ensures.ran m (held c.args.self.now.out.now) wrote.same wrote.grown

pub returns-clause-leads : goal.returns-clause-leads
returns-clause-leads g c =
    let m = c.args.self.now.script.now in
    let held = held_by g.O.Sink.held in
    let wrote : IsHeadWritten (g.S.Script.fold.head m) m c.begin.new.self (held c.args.self.now.out.now) (held c.begin.new.out) =
    subst (λ r. IsHeadRun (g.S.Script.fold.head m) m c.begin.new.self (held c.args.self.now.out.now) (held c.begin.new.out) r) c.in_default.is c.begin.ensures.comes in
    run_leads g.S.Script g.O.Sink g.R.LineReader c.args.lines.now c.run_lines.new.lines _ c.run_lines.new.runner c.run_lines.result c.run_lines.ensures.ran m wrote.same g.met.S.Script.stays g.met.S.Script.joins
