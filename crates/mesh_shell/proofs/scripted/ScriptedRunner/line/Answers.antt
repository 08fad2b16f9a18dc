use Rattle.std.proofs.Common.{◌≡◌, Ok, None, ap, subst, sym, ◌∙◌, add-zero, refl}
use Rattle.mesh_io.specs.Buffering.{held_by}
use Rattle.mesh_shell.specs.Pieces.{Whole}
use Rattle.mesh_shell.specs.Scripts.{size_of_line, GoesOn}
use Rattle.mesh_shell.specs.Outputs.{IsLineDone, IsLineRun}
use Rattle.mesh_shell.specs.declared.fault.Fault.TheVariants.{WriteFault}
use Rattle.mesh_shell.proofs.Faults.{no_error}
use Rattle.mesh_shell.proofs.Steps.{line_on}
use Rattle.mesh_shell.proofs.scripted.ScriptedRunner.line.Goals as goal

pub returns-in-Ok-None-clause-goes : goal.returns-in-Ok-None-clause-goes
returns-in-Ok-None-clause-goes g c =
    let fold = g.S.Script.fold in
    let old = c.args.self.now in
    let m = old.script.now in
    let line = c.args.line.now in
    let held = held_by g.O.Sink.held in
    let went : c.line.result ≡ Ok None = c.in-Ok-None.is ∙ ap Ok c.in-Ok-None.field-0-is in
    let did : IsLineDone (fold.outcome m (Whole line)) c.line.new.self (held old.out.now) (held c.line.new.out) = subst (λ r. IsLineRun (fold.outcome m (Whole line)) c.line.new.self (held old.out.now) (held c.line.new.out) r) went c.line.ensures.comes in
    let led : g.S.Script.leads m (size_of_line line) c.line.new.self = subst (λ r. GoesOn r (g.S.Script.leads m (size_of_line line) c.line.new.self)) went c.line.ensures.leads in
    record {
      same = record { script = refl {a = c.args.self.now.script.ghost_name}; out = refl {a = c.args.self.now.out.ghost_name} };
      text = did.text;
      goes = λ others. line_on fold m c.line.new.self (Whole line) (held old.out.now) (held c.line.new.out) did others;
      grown = did.grown;
      leads = subst (λ n. g.S.Script.leads m n c.line.new.self) (sym (add-zero (size_of_line line))) led;
      write = c.line.ensures.cause.none (no_error c.line.result None WriteFault went);
    }
