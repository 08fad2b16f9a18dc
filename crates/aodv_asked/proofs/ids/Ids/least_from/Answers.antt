use Rattle.std.proofs.Common.{◌<◌, length, sym, subst, arith, Some, None}
use Rattle.mesh_base.specs.Members.{IsLeastFrom}
use Rattle.aodv_asked.specs.Spots.{IsPosition, position_of}
use Rattle.aodv_asked.proofs.FindLaws.{least_past, least_first, least_inside}
use Rattle.aodv_asked.proofs.ids.Ids.least_from.Goals as goal

pub returns-in_err-spot : goal.returns-in_err-spot
returns-in_err-spot c =
    let vs = c.self.inside.intervals.items in
    let at : IsPosition vs c.args.from (length vs) = c.in_err-spot.ensures in
    rw c.from_residual.ensures (subst (λ s. IsLeastFrom s.ids c.args.from None) c.self.view_is (least_past vs c.args.from (length vs) c.self.invariant at (omega arith)))

pub returns-then-from : goal.returns-then-from
returns-then-from c =
    let vs = c.self.inside.intervals.items in
    let k = position_of c.self.inside.intervals c.in_ok-spot.spot in
    let at : IsPosition vs c.args.from k = c.in_ok-spot.ensures.0 in
    let lt : k < length vs = c.in_ok-spot.ensures.1 in
    let v = c.at-here.result in
    subst (λ s. IsLeastFrom s.ids c.args.from (Some v.first)) c.self.view_is (least_first vs c.args.from k v c.self.invariant at lt (sym c.at-here.ensures) (omega arith))

pub returns : goal.returns
returns c =
    let vs = c.self.inside.intervals.items in
    let k = position_of c.self.inside.intervals c.in_ok-spot.spot in
    let at : IsPosition vs c.args.from k = c.in_ok-spot.ensures.0 in
    let lt : k < length vs = c.in_ok-spot.ensures.1 in
    rw c.narrowed.ensures (subst (λ s. IsLeastFrom s.ids c.args.from (Some c.args.from)) c.self.view_is (least_inside vs c.args.from k c.at-here.result c.self.invariant at lt (sym c.at-here.ensures) (omega arith)))
