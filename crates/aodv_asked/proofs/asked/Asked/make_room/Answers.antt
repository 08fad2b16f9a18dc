use Rattle.std.proofs.Common.{◌≡◌, true, false, ◌<◌, length, ap, sym, ◌∙◌, arith}
use Rattle.std.proofs.Math.ListN.{set as put}
use Rattle.std.proofs.lemmas.List.{length-set}
use Rattle.aodv_asked.specs.Rows.{pairs_of, rooms_of}
use Rattle.aodv_asked.specs.Tops.{rows_with_tops}
use Rattle.aodv_asked.proofs.RowLaws.{row_read}
use Rattle.aodv_asked.proofs.KeptLaws.{nodes_len, nodes_seen, pairs_kept, kept_roomier, same_row, row_room, row_has_room, room_topped, room_row_put, rooms_topped_kept}
use Rattle.aodv_asked.proofs.asked.Asked.make_room.Goals as goal

pub returns-then-has-clause-here : goal.returns-then-has-clause-here
returns-then-has-clause-here c =
    let rows = c.self.inside.rows.items in
    let tops = c.self.inside.tops.items in
    let lt : c.args.o < length rows = omega (arith, c.requires, nodes_len rows tops _ (ap (λ s. s.rooms) c.self.view_is)) in
    let shows = room_topped rows tops c.args.self.now.rooms c.args.o lt c.self.invariant.each (ap (λ s. s.rooms) c.self.view_is) in
    let some = c.self.invariant.room c.args.o (sym c.has.ensures.value ∙ c.if-has.true) in
    omega (arith, shows, some)

pub returns-in_err-make_room-clause-there : goal.returns-in_err-make_room-clause-there
returns-in_err-make_room-clause-there c = λ some.
    let rows = c.self.inside.rows.items in
    let tops = c.self.inside.tops.items in
    let lt : c.args.o < length rows = omega (arith, c.requires, nodes_len rows tops _ (ap (λ s. s.rooms) c.self.view_is)) in
    let room = row_has_room rows tops c.self.inside.roomy c.args.self.now.rooms c.args.o lt c.self.invariant (ap (λ s. s.rooms) c.self.view_is) some in
    let here = row_room rows c.args.o c.index_mut-ids.result.now lt c.index_mut-ids.ensures.value in
    let apart : false ≡ true = c.in_err-make_room.ensures.there (omega (arith, room, here)) in
    absurd cc

pub invariant_of-self-2 : goal.invariant_of-self-2
invariant_of-self-2 c =
    let rows = c.self.inside.rows.items in
    let tops = c.self.inside.tops.items in
    let lt : c.args.o < length rows = omega (arith, c.requires, nodes_len rows tops _ (ap (λ s. s.rooms) c.self.view_is)) in
    kept_roomier rows tops c.self.inside.roomy c.note_room.new.roomy c.args.o c.index_mut-ids.result.now c.make_room.new.self _ lt c.self.invariant c.index_mut-ids.ensures.value c.make_room.ensures.ids c.note_room.ensures c.in_ok-make_room.ensures.here

pub returns-clause-pairs : goal.returns-clause-pairs
returns-clause-pairs c =
    let rows = c.self.inside.rows.items in
    let tops = c.self.inside.tops.items in
    let lt : c.args.o < length rows = omega (arith, c.requires, nodes_len rows tops _ (ap (λ s. s.rooms) c.self.view_is)) in
    pairs_kept rows tops c.args.o c.make_room.new.self lt c.self.invariant.each (c.make_room.ensures.ids ∙ sym (row_read rows c.args.o _ lt c.index_mut-ids.ensures.value)) ∙ ap (λ s. s.pairs) c.self.view_is

pub returns-clause-nodes : goal.returns-clause-nodes
returns-clause-nodes c =
    let rows = c.self.inside.rows.items in
    let tops = c.self.inside.tops.items in
    nodes_seen (put rows c.args.o c.make_room.new.self) tops
    ∙ length-set rows c.args.o c.make_room.new.self
    ∙ nodes_len rows tops _ (ap (λ s. s.rooms) c.self.view_is)

pub returns-clause-here : goal.returns-clause-here
returns-clause-here c =
    let rows = c.self.inside.rows.items in
    let tops = c.self.inside.tops.items in
    let lt : c.args.o < length rows = omega (arith, c.requires, nodes_len rows tops _ (ap (λ s. s.rooms) c.self.view_is)) in
    let new = room_row_put rows tops c.args.o c.make_room.new.self lt c.self.invariant.each in
    omega (arith, new, c.in_ok-make_room.ensures.here)

pub returns-clause-still : goal.returns-clause-still
returns-clause-still c = λ some.
    let rows = c.self.inside.rows.items in
    let tops = c.self.inside.tops.items in
    let row = c.index_mut-ids.result.now in
    let lt : c.args.o < length rows = omega (arith, c.requires, nodes_len rows tops _ (ap (λ s. s.rooms) c.self.view_is)) in
    let room = row_has_room rows tops c.self.inside.roomy c.args.self.now.rooms c.args.o lt c.self.invariant (ap (λ s. s.rooms) c.self.view_is) some in
    let here = row_room rows c.args.o row lt c.index_mut-ids.ensures.value in
    ap (λ rs. record { pairs = pairs_of (rows_with_tops rs tops); rooms = rooms_of (rows_with_tops rs tops) }) (same_row rows c.args.o row c.make_room.new.self lt c.index_mut-ids.ensures.value (c.make_room.ensures.still (omega (arith, room, here)))) ∙ c.self.view_is

pub returns-clause-keeps : goal.returns-clause-keeps
returns-clause-keeps c =
    let rows = c.self.inside.rows.items in
    let tops = c.self.inside.tops.items in
    let lt : c.args.o < length rows = omega (arith, c.requires, nodes_len rows tops _ (ap (λ s. s.rooms) c.self.view_is)) in
    rooms_topped_kept rows tops c.args.self.now.rooms c.args.o c.index_mut-ids.result.now c.make_room.new.self lt c.self.invariant.each (ap (λ s. s.rooms) c.self.view_is) c.index_mut-ids.ensures.value c.make_room.ensures.keeps
