use Rattle.std.proofs.Common.{refl, ◌<◌, length, ap, sym, subst, ◌∙◌, arith, inl, inr, IsTrue}
use Rattle.std.proofs.Math.ListN.{set as put}
use Rattle.std.proofs.lemmas.List.{length-set}
use Rattle.std.specs.FinSet as sets
use Rattle.aodv_asked.specs.Rows.{ids_at}
use Rattle.aodv_asked.specs.Intervals.{is_near_in}
use Rattle.aodv_asked.specs.Tops.{top_at, room_in, with_interval, IsBehind}
use Rattle.aodv_asked.proofs.RowLaws.{row_read}
use Rattle.aodv_asked.proofs.KeptLaws.{nodes_len, nodes_seen, top_read, behind_topped, near_topped, pairs_more, pairs_more_top, kept_top, kept_row, some_room, room_topped, room_topped_put, room_topped_apart, room_top_put, room_top_apart, row_room, row_has_room, no_room_in, most_room_in}
use Rattle.aodv_asked.proofs.asked.Asked.insert.Goals as goal

pub invariant_of-self : goal.invariant_of-self
invariant_of-self c =
    let rows = c.self.inside.rows.items in
    let tops = c.self.inside.tops.items in
    let v = c.index-top.result.now in
    let lt : c.args.o < length rows = omega (arith, c.requires.within, nodes_len rows c.self.inside.tops.items _ (ap (λ s. s.rooms) c.self.view_is)) in
    let top = top_read tops c.args.o v (omega (arith, c.self.invariant.each)) c.index-top.ensures in
    let behind = behind_topped rows tops c.self.inside.roomy c.args.o v c.self.invariant top in
    kept_top rows tops c.self.inside.roomy c.args.o c.in-Some.grown lt c.self.invariant (c.in-Some.ensures.grown (ids_at rows c.args.o) behind).0 c.in-Some.ensures.there

pub returns-in-Some-clause-pairs : goal.returns-in-Some-clause-pairs
returns-in-Some-clause-pairs c =
    let rows = c.self.inside.rows.items in
    let tops = c.self.inside.tops.items in
    let v = c.index-top.result.now in
    let lt : c.args.o < length rows = omega (arith, c.requires.within, nodes_len rows c.self.inside.tops.items _ (ap (λ s. s.rooms) c.self.view_is)) in
    let top = top_read tops c.args.o v (omega (arith, c.self.invariant.each)) c.index-top.ensures in
    let behind = behind_topped rows tops c.self.inside.roomy c.args.o v c.self.invariant top in
    pairs_more_top rows tops c.args.o c.args.id v c.in-Some.grown lt c.self.invariant.each top (c.in-Some.ensures.grown (ids_at rows c.args.o) behind).1
    ∙ ap (λ s. sets.insert s.pairs (c.args.o, c.args.id)) c.self.view_is

pub insert_beside-new_top-requires-clause-behind : goal.insert_beside-new_top-requires-clause-behind
insert_beside-new_top-requires-clause-behind c =
    let rows = c.self.inside.rows.items in
    let tops = c.self.inside.tops.items in
    let v = c.index-top.result.now in
    let lt : c.args.o < length rows = omega (arith, c.requires.within, nodes_len rows c.self.inside.tops.items _ (ap (λ s. s.rooms) c.self.view_is)) in
    let top = top_read tops c.args.o v (omega (arith, c.self.invariant.each)) c.index-top.ensures in
    let behind = behind_topped rows tops c.self.inside.roomy c.args.o v c.self.invariant top in
    subst (λ s. IsBehind s v) (row_read rows c.args.o c.index_mut-ids.result.now lt c.index_mut-ids.ensures.value) behind

pub insert_beside-new_top-requires-clause-room : goal.insert_beside-new_top-requires-clause-room
insert_beside-new_top-requires-clause-room c =
    let rows = c.self.inside.rows.items in
    let tops = c.self.inside.tops.items in
    let v = c.index-top.result.now in
    let lt : c.args.o < length rows = omega (arith, c.requires.within, nodes_len rows c.self.inside.tops.items _ (ap (λ s. s.rooms) c.self.view_is)) in
    let top = top_read tops c.args.o v (omega (arith, c.self.invariant.each)) c.index-top.ensures in
    let behind = behind_topped rows tops c.self.inside.roomy c.args.o v c.self.invariant top in
    let row = c.index_mut-ids.result.now in
    let ids = row_read rows c.args.o row lt c.index_mut-ids.ensures.value in
    elim c.requires.room [
      | inl some ↦ inl (omega (arith, row_has_room rows tops c.self.inside.roomy c.args.self.now.rooms c.args.o lt c.self.invariant (ap (λ s. s.rooms) c.self.view_is) some, row_room rows c.args.o row lt c.index_mut-ids.ensures.value))
      | inr near ↦ inr (subst IsTrue (near_topped rows tops c.args.self.now.pairs c.args.o c.args.id v lt (ap (λ s. s.pairs) c.self.view_is) top ∙ ap (λ s. is_near_in (with_interval s v) c.args.id) ids) near)
    ]

pub invariant_of-self-2 : goal.invariant_of-self-2
invariant_of-self-2 c =
    let rows = c.self.inside.rows.items in
    let lt : c.args.o < length rows = omega (arith, c.requires.within, nodes_len rows c.self.inside.tops.items _ (ap (λ s. s.rooms) c.self.view_is)) in
    kept_row rows c.self.inside.tops.items c.self.inside.roomy c.note_room.new.roomy c.args.o c.insert_beside-new_top.new.self c.insert_beside-new_top.result c.has_room-has_room.result lt c.self.invariant c.insert_beside-new_top.ensures.behind (λ none. absurd (omega (arith, c.insert_beside-new_top.ensures.some))) c.note_room.ensures
    (λ some. some_room c.insert_beside-new_top.new.self.room (sym c.has_room-has_room.ensures ∙ some))

pub returns-clause-pairs : goal.returns-clause-pairs
returns-clause-pairs c =
    let rows = c.self.inside.rows.items in
    let tops = c.self.inside.tops.items in
    let v = c.index-top.result.now in
    let lt : c.args.o < length rows = omega (arith, c.requires.within, nodes_len rows c.self.inside.tops.items _ (ap (λ s. s.rooms) c.self.view_is)) in
    let top = top_read tops c.args.o v (omega (arith, c.self.invariant.each)) c.index-top.ensures in
    let behind = behind_topped rows tops c.self.inside.roomy c.args.o v c.self.invariant top in
    let ids = row_read rows c.args.o c.index_mut-ids.result.now lt c.index_mut-ids.ensures.value in
    pairs_more rows tops c.args.o c.args.id c.insert_beside-new_top.new.self v c.insert_beside-new_top.result lt c.self.invariant.each top
    (c.insert_beside-new_top.ensures.ids ∙ ap (λ s. sets.insert (with_interval s v) c.args.id) (sym ids))
    ∙ ap (λ s. sets.insert s.pairs (c.args.o, c.args.id)) c.self.view_is

pub returns-clause-nodes : goal.returns-clause-nodes
returns-clause-nodes c =
    let rows = c.self.inside.rows.items in
    let tops = c.self.inside.tops.items in
    let row = c.insert_beside-new_top.new.self in
    nodes_seen (put rows c.args.o row) (put tops c.args.o c.insert_beside-new_top.result)
    ∙ length-set rows c.args.o row
    ∙ nodes_len rows tops _ (ap (λ s. s.rooms) c.self.view_is)

pub returns-in-Some-clause-used : goal.returns-in-Some-clause-used
returns-in-Some-clause-used c =
    let rows = c.self.inside.rows.items in
    let tops = c.self.inside.tops.items in
    let lt : c.args.o < length rows = omega (arith, c.requires.within, nodes_len rows c.self.inside.tops.items _ (ap (λ s. s.rooms) c.self.view_is)) in
    let old = room_topped rows tops c.args.self.now.rooms c.args.o lt c.self.invariant.each (ap (λ s. s.rooms) c.self.view_is) in
    let new = room_top_put rows tops c.args.o c.in-Some.grown lt c.self.invariant.each in
    let most = most_room_in (top_at tops c.args.o) in
    omega (arith, old, new, most)

pub returns-in-Some-clause-others : goal.returns-in-Some-clause-others
returns-in-Some-clause-others c = λ q apart.
    room_top_apart c.self.inside.rows.items c.self.inside.tops.items c.args.self.now.rooms c.args.o c.in-Some.grown q c.self.invariant.each (ap (λ s. s.rooms) c.self.view_is) apart

pub returns-clause-used : goal.returns-clause-used
returns-clause-used c =
    let rows = c.self.inside.rows.items in
    let tops = c.self.inside.tops.items in
    let v = c.index-top.result.now in
    let lt : c.args.o < length rows = omega (arith, c.requires.within, nodes_len rows c.self.inside.tops.items _ (ap (λ s. s.rooms) c.self.view_is)) in
    let top = top_read tops c.args.o v (omega (arith, c.self.invariant.each)) c.index-top.ensures in
    let old = room_topped rows tops c.args.self.now.rooms c.args.o lt c.self.invariant.each (ap (λ s. s.rooms) c.self.view_is) in
    let none = ap room_in top ∙ no_room_in v (c.in_default.ensures.some refl) in
    let row = row_room rows c.args.o c.index_mut-ids.result.now lt c.index_mut-ids.ensures.value in
    let new = room_topped_put rows tops c.args.o c.insert_beside-new_top.new.self c.insert_beside-new_top.result lt c.self.invariant.each in
    omega (arith, old, none, row, new, c.insert_beside-new_top.ensures.room)

pub returns-clause-others : goal.returns-clause-others
returns-clause-others c = λ q apart.
    room_topped_apart c.self.inside.rows.items c.self.inside.tops.items c.args.self.now.rooms c.args.o c.insert_beside-new_top.new.self c.insert_beside-new_top.result q c.self.invariant.each (ap (λ s. s.rooms) c.self.view_is) apart
