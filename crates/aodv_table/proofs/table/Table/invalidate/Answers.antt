use Rattle.std.proofs.Common.{ap, ◌∙◌, sym, refl, arith}
use Rattle.aodv_table.proofs.Changes.{left_first, left_step, left_last, one_invalid, none_invalid}
use Rattle.aodv_table.proofs.table.Table.invalidate.Goals as goal
use Rattle.aodv_table.proofs.table.Table.invalidate.Goals.{then-d-nodes+in-Some, then-d-nodes+in_default, else-d-nodes}

pub loop-k-init : goal.loop-k-init
loop-k-init g c = record { left = left_first (g.Self.Table.entries c.args.self.now) c.args.dests.now; rooms = refl; nodes = refl; end = c.len-k-end.ensures.value }

pub loop-k-preserved : goal.loop-k-preserved
loop-k-preserved g c =
    let start = g.Self.Table.entries c.args.self.now in
    let now = g.Self.Table.entries c.loop-k.self in
    let is = c.loop-k.invariant in
    elim c.if-d-nodes.branch [
      | then-d-nodes+in-Some w ↦ record {
        left =
            left_step start now (g.Self.Table.entries c.if-d-nodes.self) c.args.dests.now c.loop-k.k c.pair-d.result c.pair-d.ensures
            (ap g.Self.Table.entries w.self-is ∙ w.put.ensures.entries ∙ one_invalid now c.pair-d.result.0 c.pair-d.result.1 w.in-Some.entry w.in-Some.ensures.value) is.left;
        rooms = ap g.Self.Table.rooms w.self-is ∙ w.put.ensures.rooms ∙ is.rooms;
        nodes = ap g.Self.Table.nodes w.self-is ∙ w.put.ensures.nodes ∙ is.nodes;
        end = is.end;
      }
      | then-d-nodes+in_default w ↦ record {
        left =
            left_step start now (g.Self.Table.entries c.if-d-nodes.self) c.args.dests.now c.loop-k.k c.pair-d.result c.pair-d.ensures
            (ap g.Self.Table.entries w.self-is ∙ none_invalid now c.pair-d.result.0 c.pair-d.result.1 w.in_default.ensures.value) is.left;
        rooms = ap g.Self.Table.rooms w.self-is ∙ is.rooms;
        nodes = ap g.Self.Table.nodes w.self-is ∙ is.nodes;
        end = is.end;
      }
      | else-d-nodes w ↦ record {
        left =
            left_step start now (g.Self.Table.entries c.if-d-nodes.self) c.args.dests.now c.loop-k.k c.pair-d.result c.pair-d.ensures
            (ap g.Self.Table.entries w.self-is ∙ none_invalid now c.pair-d.result.0 c.pair-d.result.1 (sym (c.nodes.ensures.below c.pair-d.result.0 (omega (arith, c.nodes.ensures.value, w.if-d-nodes.false))))) is.left;
        rooms = ap g.Self.Table.rooms w.self-is ∙ is.rooms;
        nodes = ap g.Self.Table.nodes w.self-is ∙ is.nodes;
        end = is.end;
      }
    ]

pub returns-clause-entries : goal.returns-clause-entries
returns-clause-entries g c =
    left_last (g.Self.Table.entries c.args.self.now) (g.Self.Table.entries c.loop-k.self) c.args.dests.now c.loop-k.k (omega (arith, c.loop-k.invariant.end)) c.loop-k.invariant.left
