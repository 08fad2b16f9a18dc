use Rattle.std.proofs.Common.{◌≡◌, ◌<◌, ◌≤◌, ◌+◌, ◌-◌, length, take, ap, sym, subst, ◌∙◌, arith}
use Rattle.aodv_asked.specs.Intervals.{AreApart, ids_in, with_range}
use Rattle.aodv_asked.specs.Spots.{position_of}
use Rattle.aodv_asked.specs.Tops.{AreBefore}
use Rattle.aodv_asked.proofs.TopLaws.{removed_last, last_of, last_here, last_before, last_some, last_taken, last_apart, last_apart_ids, none_taken, none_before}
use Rattle.aodv_asked.proofs.ids.Ids.take_up_to.Goals as goal

pub overflow_add-last : goal.overflow_add-last
overflow_add-last c =
    let vs = c.self.inside.intervals.items in
    let k = position_of c.self.inside.intervals c.in-Some.spot in
    let end : k + 1 ≡ length vs = c.in-Some.ensures in
    let v = c.at-last.result in
    let at = last_of vs c.args.self.now.ids k v c.self.invariant (ap (λ s. s.ids) c.self.view_is) end (sym c.at-last.ensures) in
    let below : v.last < c.args.id = c.requires v.last (last_here vs c.args.self.now.ids k v at) in
    omega (arith, c.ranges.id.fits)

pub returns-then-last-id-clause-ids : goal.returns-then-last-id-clause-ids
returns-then-last-id-clause-ids c = none_taken c.args.self.now.ids c.args.id

pub returns-then-last-id-clause-apart : goal.returns-then-last-id-clause-apart
returns-then-last-id-clause-apart c =
    let vs = c.self.inside.intervals.items in
    let k = position_of c.self.inside.intervals c.in-Some.spot in
    let end : k + 1 ≡ length vs = c.in-Some.ensures in
    let v = c.at-last.result in
    let at = last_of vs c.args.self.now.ids k v c.self.invariant (ap (λ s. s.ids) c.self.view_is) end (sym c.at-last.ensures) in
    last_before vs c.args.self.now.ids k v c.args.id at c.if-last-id.true

pub invariant_of-self : goal.invariant_of-self
invariant_of-self c =
    let vs = c.self.inside.intervals.items in
    let k = position_of c.self.inside.intervals c.in-Some.spot in
    let end : k + 1 ≡ length vs = c.in-Some.ensures in
    let v = c.at-last.result in
    let at = last_of vs c.args.self.now.ids k v c.self.invariant (ap (λ s. s.ids) c.self.view_is) end (sym c.at-last.ensures) in
    let fewer : c.remove.new.self.items ≡ take k vs = c.remove.ensures.items ∙ removed_last vs k end in
    subst (AreApart 0) (sym fewer) (last_apart vs c.args.self.now.ids k v at)

pub returns-else-last-id-clause-within : goal.returns-else-last-id-clause-within
returns-else-last-id-clause-within c =
    let vs = c.self.inside.intervals.items in
    let k = position_of c.self.inside.intervals c.in-Some.spot in
    let end : k + 1 ≡ length vs = c.in-Some.ensures in
    let v = c.at-last.result in
    let at = last_of vs c.args.self.now.ids k v c.self.invariant (ap (λ s. s.ids) c.self.view_is) end (sym c.at-last.ensures) in
    let below : v.last < c.args.id = c.requires v.last (last_here vs c.args.self.now.ids k v at) in
    let some : v.first ≤ v.last = last_some vs c.args.self.now.ids k v at in
    omega arith

pub returns-else-last-id-clause-ids : goal.returns-else-last-id-clause-ids
returns-else-last-id-clause-ids c =
    let vs = c.self.inside.intervals.items in
    let k = position_of c.self.inside.intervals c.in-Some.spot in
    let end : k + 1 ≡ length vs = c.in-Some.ensures in
    let v = c.at-last.result in
    let at = last_of vs c.args.self.now.ids k v c.self.invariant (ap (λ s. s.ids) c.self.view_is) end (sym c.at-last.ensures) in
    let fewer : c.remove.new.self.items ≡ take k vs = c.remove.ensures.items ∙ removed_last vs k end in
    let below : v.last < c.args.id = c.requires v.last (last_here vs c.args.self.now.ids k v at) in
    let next : v.last + 1 ≡ c.args.id = omega (arith, c.if-last-id.false) in
    ap (λ xs. with_range (ids_in xs) v.first (c.args.id - v.first)) fewer
    ∙ last_taken vs c.args.self.now.ids k v c.args.id at next

pub returns-else-last-id-clause-apart : goal.returns-else-last-id-clause-apart
returns-else-last-id-clause-apart c =
    let vs = c.self.inside.intervals.items in
    let k = position_of c.self.inside.intervals c.in-Some.spot in
    let end : k + 1 ≡ length vs = c.in-Some.ensures in
    let v = c.at-last.result in
    let at = last_of vs c.args.self.now.ids k v c.self.invariant (ap (λ s. s.ids) c.self.view_is) end (sym c.at-last.ensures) in
    let fewer : c.remove.new.self.items ≡ take k vs = c.remove.ensures.items ∙ removed_last vs k end in
    subst (λ xs. AreBefore (ids_in xs) v.first) (sym fewer) (last_apart_ids vs c.args.self.now.ids k v at)

pub returns-in-None-clause-ids : goal.returns-in-None-clause-ids
returns-in-None-clause-ids c = none_taken c.args.self.now.ids c.args.id

pub returns-in-None-clause-apart : goal.returns-in-None-clause-apart
returns-in-None-clause-apart c = none_before c.self.inside.intervals.items c.args.self.now.ids c.args.id (ap (λ s. s.ids) c.self.view_is) c.in-None.ensures
