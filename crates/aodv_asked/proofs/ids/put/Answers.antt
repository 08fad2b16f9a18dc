use Rattle.std.proofs.Common.{◌-◌, length, refl, sym, ◌∙◌, arith}
use Rattle.std.proofs.lemmas.List.Edits.{insert_end}
use Rattle.aodv_asked.specs.Insertions.{interval}
use Rattle.aodv_asked.specs.Spots.{IsPosition}
use Rattle.aodv_asked.proofs.IntervalLaws.{all_before}
use Rattle.aodv_asked.proofs.PositionLaws.{put_end, room_at_end}
use Rattle.aodv_asked.proofs.ids.put.Goals as goal

pub push-requires : goal.push-requires
push-requires c =
    let vs = c.args.intervals.now.items in
    let at : IsPosition vs (c.args.id - 1) (length vs) = c.in-None.ensures in
    let before = all_before vs vs (length vs) c.args.id refl at.within (λ i lt. let b = at.before i lt in omega (arith, b)) in
    room_at_end vs (length vs) c.args.id _ before (omega arith) c.requires.room

pub returns-in-None-clause-items : goal.returns-in-None-clause-items
returns-in-None-clause-items c =
    let vs = c.args.intervals.now.items in
    let at : IsPosition vs (c.args.id - 1) (length vs) = c.in-None.ensures in
    let before = all_before vs vs (length vs) c.args.id refl at.within (λ i lt. let b = at.before i lt in omega (arith, b)) in
    c.push.ensures.items ∙ sym (insert_end vs (interval c.args.id c.args.id)) ∙ put_end vs (length vs) c.args.id c.requires.apart before (omega arith)
