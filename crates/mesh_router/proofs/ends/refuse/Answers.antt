use Rattle.std.proofs.Common.{◌+◌, ℕ, refl, sym, ap, subst}
use Rattle.mesh_grammar.specs.Faults.{bad_line}
use Rattle.std.specs.Io.KnownBytes.{Appends}
use Rattle.mesh_io.specs.Puts.{AppendsPrefix}
use Rattle.mesh_text.specs.declared.verdict.Verdict.TheVariants.{RefusedAt}
use Rattle.mesh_router.proofs.Logging.{adds-text, prefix-text}
use Rattle.mesh_router.proofs.ends.refuse.Goals as goal

pub returns-in-Err-clause-written : goal.returns-in-Err-clause-written
returns-in-Err-clause-written g c = λ sent. prefix-text _ _ _ _ (bad_line (c.args.at.now.lines + 1) c.args.why) refl
    (subst (λ (n : ℕ). AppendsPrefix (g.O.Sink.held c.args.out.now) (g.O.Sink.held c.put_bad.new.out) (bad_line (n + 1) c.args.why)) c.lines-line.ensures c.in-Err.ensures.text)

pub returns-in-Ok-clause-written : goal.returns-in-Ok-clause-written
returns-in-Ok-clause-written g c = λ sent. (
  ap (λ (n : ℕ). RefusedAt (n + 1)) (sym c.lines-line.ensures),
  adds-text _ _ _ _ (bad_line (c.args.at.now.lines + 1) c.args.why) refl
      (subst (λ (n : ℕ). Appends (g.O.Sink.held c.args.out.now) (g.O.Sink.held c.put_bad.new.out) (bad_line (n + 1) c.args.why)) c.lines-line.ensures c.in-Ok.ensures.text),
)
