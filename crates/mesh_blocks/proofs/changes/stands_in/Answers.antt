use Rattle.std.proofs.Common.{◌∙◌, sym, ap}
use Rattle.mesh_blocks.specs.Changes.{stands_in}
use Rattle.mesh_blocks.proofs.ChangeTexts.{stands_here, stands_on}
use Rattle.mesh_blocks.proofs.changes.stands_in.Goals as goal

pub returns-then-eq : goal.returns-then-eq
returns-then-eq c = sym (c.lines.invariant ∙ stands_here c.args.line.now c.in-Some.first.now _ _ c.in-Some.ensures.lines (sym c.eq.ensures ∙ c.if-eq.true))

pub lines-preserved : goal.lines-preserved
lines-preserved c = c.lines.invariant ∙ stands_on c.args.line.now c.in-Some.first.now _ _ c.in-Some.ensures.lines (sym c.eq.ensures ∙ c.if-eq.false)

pub returns : goal.returns
returns c = sym (c.lines.invariant ∙ ap (stands_in c.args.line.now) c.in_default.ensures.lines)
