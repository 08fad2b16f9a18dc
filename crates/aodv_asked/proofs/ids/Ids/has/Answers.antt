use Rattle.std.proofs.Common.{◌<◌, length, ap, sym, subst, ◌∙◌, arith}
use Rattle.std.specs.FinSet as sets
use Rattle.aodv_asked.specs.Spots.{IsPosition, position_of}
use Rattle.aodv_asked.proofs.FindLaws.{has_at, none_from}
use Rattle.aodv_asked.proofs.ids.Ids.has.Goals as goal

pub returns-in-Some : goal.returns-in-Some
returns-in-Some c =
    let vs = c.self.inside.intervals.items in
    let k = position_of c.self.inside.intervals c.in-Some.spot in
    let at : IsPosition vs c.args.id k = subst (λ from. IsPosition vs from k) c.from.ensures c.in-Some.ensures.0 in
    let lt : k < length vs = c.in-Some.ensures.1 in
    has_at vs c.args.id k c.at.result c.self.invariant at lt (sym c.at.ensures) ∙ ap (λ s. sets.contains s.ids c.args.id) c.self.view_is

pub returns-in-None : goal.returns-in-None
returns-in-None c =
    let vs = c.self.inside.intervals.items in
    let at : IsPosition vs c.args.id (length vs) = subst (λ from. IsPosition vs from (length vs)) c.from.ensures c.in-None.ensures in
    sym (none_from vs c.args.id (length vs) c.args.id c.self.invariant at (omega arith) (omega arith)) ∙ ap (λ s. sets.contains s.ids c.args.id) c.self.view_is
