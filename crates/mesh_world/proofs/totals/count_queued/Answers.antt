use Rattle.std.proofs.Common.{arith, ap, sym, ◌∙◌, ◌+◌}
use Rattle.mesh_world.specs.Counted.{one_if}
use Rattle.mesh_world.proofs.Counts.{none_queued, item_next, item_fits}
use Rattle.mesh_world.proofs.totals.count_queued.Goals as goal
use Rattle.mesh_world.proofs.totals.count_queued.Goals.{then-has_datum, else-has_datum}

pub loop-k-init : goal.loop-k-init
loop-k-init c = none_queued

pub overflow_add-count : goal.overflow_add-count
overflow_add-count c =
    let fits = item_fits c.args.inbox.now.items c.loop-k.k c.at.result.now c.has_datum.result c.loop-k.count c.at.ensures.value (c.has_datum.ensures) c.loop-k.invariant c.if-has_datum.true in
    let few = c.requires in
    omega arith

pub loop-k-preserved : goal.loop-k-preserved
loop-k-preserved c =
    item_next c.args.inbox.now.items c.loop-k.k c.at.result.now c.has_datum.result c.loop-k.count c.if-has_datum.count c.at.ensures.value (c.has_datum.ensures) c.loop-k.invariant
    (elim c.if-has_datum.branch [ then-has_datum w ↦ w.count-is ∙ ap (λ b. c.loop-k.count + one_if b) (sym w.if-has_datum.true) | else-has_datum w ↦ w.count-is ∙ (omega arith ∙ ap (λ b. c.loop-k.count + one_if b) (sym w.if-has_datum.false)) ])
