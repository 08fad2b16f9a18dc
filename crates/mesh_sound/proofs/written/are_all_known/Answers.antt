use Rattle.std.proofs.Common.{sym, ◌∙◌}
use Rattle.std.proofs.lemmas.Option.{none-some}
use Rattle.aodv_node.proofs.Strangers.{hit, miss}
use Rattle.mesh_sound.proofs.written.are_all_known.Goals as goal

pub returns-then-not-is_some : goal.returns-then-not-is_some
returns-then-not-is_some c = (
  λ t. absurd (let same = t in cc),
  λ none. absurd (none-some _ (sym (hit c.args.mesh.now c.args.m.now c.loop-k.k c.pair.result c.index_of.result c.pair.ensures c.index_of.ensures.value (sym c.is_some.ensures ∙ c.if-not-is_some.true) c.loop-k.invariant ∙ none))),
)

pub loop-k-preserved : goal.loop-k-preserved
loop-k-preserved c =
    miss c.args.mesh.now c.args.m.now c.loop-k.k c.pair.result c.index_of.result c.pair.ensures c.index_of.ensures.value (sym c.is_some.ensures ∙ c.if-not-is_some.false) c.loop-k.invariant
