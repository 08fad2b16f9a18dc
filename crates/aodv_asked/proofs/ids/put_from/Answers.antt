use Rattle.std.proofs.Common.{◌≡◌, ◌<◌, ◌≤◌, ◌+◌, ◌-◌, length, set, get_or, refl, ap, sym, ◌∙◌, arith}
use Rattle.std.specs.List.{remove}
use Rattle.aodv_asked.specs.declared.interval.Interval.{Interval}
use Rattle.aodv_asked.specs.Insertions.{interval}
use Rattle.aodv_asked.specs.Spots.{IsPosition, position_at, position_of}
use Rattle.aodv_asked.proofs.IntervalLaws.{all_before}
use Rattle.aodv_asked.proofs.PositionLaws.{put_early, put_touch, put_within, put_both, put_behind, room_early}
use Rattle.aodv_asked.proofs.ids.put_from.Goals as goal

pub insert-requires-clause-room : goal.insert-requires-clause-room
insert-requires-clause-room c =
    let vs = c.args.intervals.now.items in
    let k = position_of c.args.intervals.now c.args.spot in
    let at : IsPosition vs (c.args.id - 1) k = c.requires.near.0 in
    let h : k < length vs = c.requires.near.1 in
    let before = all_before vs vs k c.args.id refl at.within (λ i lt. let b = at.before i lt in omega (arith, b)) in
    let v = c.at-here.result in
    let is : get_or vs k (interval 0 0) ≡ v = sym c.at-here.ensures in
    room_early vs k c.args.id v _ c.requires.apart before h is (omega arith) c.requires.room

pub returns-then-next-from-clause-items : goal.returns-then-next-from-clause-items
returns-then-next-from-clause-items c =
    let vs = c.args.intervals.now.items in
    let k = position_of c.args.intervals.now c.args.spot in
    let at : IsPosition vs (c.args.id - 1) k = c.requires.near.0 in
    let h : k < length vs = c.requires.near.1 in
    let before = all_before vs vs k c.args.id refl at.within (λ i lt. let b = at.before i lt in omega (arith, b)) in
    let v = c.at-here.result in
    let is : get_or vs k (interval 0 0) ≡ v = sym c.at-here.ensures in
    c.insert.ensures.items ∙ put_early vs k c.args.id v c.requires.apart before h is (omega arith)

pub returns-then-next-from-2-clause-items : goal.returns-then-next-from-2-clause-items
returns-then-next-from-2-clause-items c =
    let vs = c.args.intervals.now.items in
    let k = position_of c.args.intervals.now c.args.spot in
    let at : IsPosition vs (c.args.id - 1) k = c.requires.near.0 in
    let h : k < length vs = c.requires.near.1 in
    let before = all_before vs vs k c.args.id refl at.within (λ i lt. let b = at.before i lt in omega (arith, b)) in
    let v = c.at-here.result in
    let is : get_or vs k (interval 0 0) ≡ v = sym c.at-here.ensures in
    c.set.ensures.items ∙ put_touch vs k c.args.id v c.requires.apart before h is (omega arith)

pub returns-then-id-here-clause-items : goal.returns-then-id-here-clause-items
returns-then-id-here-clause-items c =
    let vs = c.args.intervals.now.items in
    let k = position_of c.args.intervals.now c.args.spot in
    let at : IsPosition vs (c.args.id - 1) k = c.requires.near.0 in
    let h : k < length vs = c.requires.near.1 in
    let before = all_before vs vs k c.args.id refl at.within (λ i lt. let b = at.before i lt in omega (arith, b)) in
    let v = c.at-here.result in
    let is : get_or vs k (interval 0 0) ≡ v = sym c.at-here.ensures in
    put_within vs k c.args.id v c.requires.apart before h is (omega arith) (omega arith)

pub returns-then-next-from-3-clause-items : goal.returns-then-next-from-3-clause-items
returns-then-next-from-3-clause-items c =
    let vs = c.args.intervals.now.items in
    let k = position_of c.args.intervals.now c.args.spot in
    let at : IsPosition vs (c.args.id - 1) k = c.requires.near.0 in
    let h : k < length vs = c.requires.near.1 in
    let before = all_before vs vs k c.args.id refl at.within (λ i lt. let b = at.before i lt in omega (arith, b)) in
    let v = c.at-here.result in
    let is : get_or vs k (interval 0 0) ≡ v = sym c.at-here.ensures in
    let near : c.args.id ≤ v.last + 1 = (let e = at.after k (omega arith) h in omega (arith, e, ap (λ (x : Interval). x.last) is)) in
    let behind = c.in-Some.behind in
    let next : position_of c.args.intervals.now behind ≡ k + 1 = c.in-Some.ensures.0 in
    let w = c.at-after.result in
    let after : get_or vs (k + 1) (interval 0 0) ≡ w = ap (λ i. get_or vs i (interval 0 0)) (sym next) ∙ sym c.at-after.ensures in
    let h2 : k + 1 < length vs = omega (arith, next, c.in-Some.ensures.1) in
    let joined = interval v.first w.last in
    c.remove.ensures.items
    ∙ ap (λ xs. remove xs (position_of c.set-then-next-from-3.new.self behind)) c.set-then-next-from-3.ensures.items
    ∙ ap (λ i. remove (set vs k joined) i) (ap (λ ns. position_at ns behind.chunk behind.offset) c.set-then-next-from-3.ensures.lengths ∙ next)
    ∙ put_both vs k c.args.id v w c.requires.apart before h2 is after (omega arith) near (omega arith)

pub returns-else-next-from-3-clause-items : goal.returns-else-next-from-3-clause-items
returns-else-next-from-3-clause-items c =
    let vs = c.args.intervals.now.items in
    let k = position_of c.args.intervals.now c.args.spot in
    let at : IsPosition vs (c.args.id - 1) k = c.requires.near.0 in
    let h : k < length vs = c.requires.near.1 in
    let before = all_before vs vs k c.args.id refl at.within (λ i lt. let b = at.before i lt in omega (arith, b)) in
    let v = c.at-here.result in
    let is : get_or vs k (interval 0 0) ≡ v = sym c.at-here.ensures in
    let near : c.args.id ≤ v.last + 1 = (let e = at.after k (omega arith) h in omega (arith, e, ap (λ (x : Interval). x.last) is)) in
    let behind = c.in-Some.behind in
    let next : position_of c.args.intervals.now behind ≡ k + 1 = c.in-Some.ensures.0 in
    let w = c.at-after.result in
    let after : get_or vs (k + 1) (interval 0 0) ≡ w = ap (λ i. get_or vs i (interval 0 0)) (sym next) ∙ sym c.at-after.ensures in
    c.set-else-next-from-3.ensures.items ∙ put_behind vs k c.args.id v c.requires.apart before h is (omega arith) near (λ inside e.
    c.if-next-from-3.false (omega (arith, e, ap (λ (x : Interval). x.first) after, c.from-in-Some.ensures, c.from-next.ensures)))

pub returns-in-None-clause-items : goal.returns-in-None-clause-items
returns-in-None-clause-items c =
    let vs = c.args.intervals.now.items in
    let k = position_of c.args.intervals.now c.args.spot in
    let at : IsPosition vs (c.args.id - 1) k = c.requires.near.0 in
    let h : k < length vs = c.requires.near.1 in
    let before = all_before vs vs k c.args.id refl at.within (λ i lt. let b = at.before i lt in omega (arith, b)) in
    let v = c.at-here.result in
    let is : get_or vs k (interval 0 0) ≡ v = sym c.at-here.ensures in
    let near : c.args.id ≤ v.last + 1 = (let e = at.after k (omega arith) h in omega (arith, e, ap (λ (x : Interval). x.last) is)) in
    let end : length vs ≡ k + 1 = c.in-None.ensures in
    c.set-in-None.ensures.items ∙ put_behind vs k c.args.id v c.requires.apart before h is (omega arith) near (λ inside e. absurd (omega (arith, inside, end)))
