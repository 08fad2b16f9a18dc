use Rattle.std.proofs.Common.{◌≡◌, ◌+◌, sym, subst, arith}
use Rattle.mesh_radio.proofs.Joins.{IsFrontBelow, front-start, front-removed, front-stays, front-is}
use Rattle.mesh_radio.proofs.joining.front.Goals as goal
use Rattle.mesh_radio.proofs.joining.front.Goals.{then-count_below-count, else-count_below-count}

pub nodes-init : goal.nodes-init
nodes-init c = front-start c.args.to.now c.args.count

pub nodes-preserved : goal.nodes-preserved
nodes-preserved c =
    let whole = c.args.to.now in
    let node = c.nodes.node in
    elim c.if-count_below-count.branch [
      | then-count_below-count w ↦
          let removed = front-removed whole c.args.count node c.nodes.front c.nodes.invariant (omega (arith, c.count_below.ensures.value)) in
          subst (IsFrontBelow whole c.args.count (node + 1)) (sym (w.front-is)) (subst (IsFrontBelow whole c.args.count (node + 1)) (sym w.remove.ensures) removed)
      | else-count_below-count w ↦
          let stays = front-stays whole c.args.count node c.nodes.front c.nodes.invariant (omega (arith, c.count_below.ensures.value)) in
          subst (IsFrontBelow whole c.args.count (node + 1)) (sym (w.front-is)) stays
    ]

pub returns : goal.returns
returns c =
    let all : c.nodes.node ≡ 256 = omega arith in
    front-is c.args.to.now c.args.count c.nodes.front (subst (λ n. IsFrontBelow c.args.to.now c.args.count n c.nodes.front) all c.nodes.invariant)
