use Rattle.std.proofs.Common.{refl, sym, ◌∙◌, eq-eqb}
use Rattle.std.proofs.lemmas.Option.{slice_get_read}
use Rattle.mesh_sound.proofs.Backed.{backed_at, at_backed, next_near, inv_val}
use Rattle.mesh_sound.proofs.edges.is_backed.Goals as goal

pub has_at_least-requires-clause-node : goal.has_at_least-requires-clause-node
has_at_least-requires-clause-node c =
    let here = slice_get_read c.args.nodes.now _ c.args.x c.index-nodes-x.result refl c.requires.node c.index-nodes-x.is in
    next_near c.args.nodes.now c.args.x c.args.d c.index-nodes-x.result c.in-Some.entry c.requires.sizes here c.sn-number.ensures.sound (sym c.entry.ensures ∙ c.in-Some.is)

pub returns-in-Inv : goal.returns-in-Inv
returns-in-Inv c =
    let here = slice_get_read c.args.nodes.now _ c.args.x c.index-nodes-x.result refl c.requires.node c.index-nodes-x.is in (
      λ _. backed_at c.args.nodes.now c.args.x c.args.d c.index-nodes-x.result c.in-Some.entry here (sym c.entry.ensures ∙ c.in-Some.is) (λ valid. absurd (inv_val (sym c.in-Inv.is ∙ valid))),
      λ _. refl,
    )

pub returns-then-entry-d : goal.returns-then-entry-d
returns-then-entry-d c =
    let here = slice_get_read c.args.nodes.now _ c.args.x c.index-nodes-x.result refl c.requires.node c.index-nodes-x.is in (
      λ _. backed_at c.args.nodes.now c.args.x c.args.d c.index-nodes-x.result c.in-Some.entry here (sym c.entry.ensures ∙ c.in-Some.is) (λ _ apart. absurd (apart c.if-entry-d.true)),
      λ _. eq-eqb c.in-Some.entry.next c.args.d c.if-entry-d.true,
    )

pub returns-else-entry-d : goal.returns-else-entry-d
returns-else-entry-d c =
    let nodes = c.args.nodes.now in
    let e = c.in-Some.entry in
    let here = slice_get_read nodes _ c.args.x c.index-nodes-x.result refl c.requires.node c.index-nodes-x.is in
    let there = sym c.entry.ensures ∙ c.in-Some.is in (
      λ t. backed_at nodes c.args.x c.args.d c.index-nodes-x.result e here there (λ _ _. c.has_at_least.ensures.0 t),
      λ backed. c.has_at_least.ensures.1 (at_backed nodes c.args.x c.args.d c.index-nodes-x.result e here there backed c.in-Val.is c.if-entry-d.false),
    )
