use Rattle.std.proofs.Common.{◌≡◌, ◌<◌, length, ap, ◌∙◌, arith}
use Rattle.std.proofs.lemmas.Result.{on_err_weaker}
use Rattle.aodv_waiting.specs.Rows.{bodies_in_row, room_in_row, store_of}
use Rattle.aodv_waiting.proofs.StoreLaws.{rings_len, none_changed, room_read, rooms_kept, room_made}
use Rattle.aodv_waiting.proofs.waiting.Waiting.make_room.Goals as goal

pub invariant_of-self : goal.invariant_of-self
invariant_of-self c =
    let rings = c.self.inside.rows.items in
    rw (none_changed bodies_in_row rings c.args.d c.index_mut-row.result.now c.make_room.new.self c.index_mut-row.ensures.value c.make_room.ensures.bodies) c.self.invariant

pub returns-clause-store : goal.returns-clause-store
returns-clause-store c =
    let rings = c.self.inside.rows.items in
    ap (store_of c.self.inside.needing) (none_changed bodies_in_row rings c.args.d c.index_mut-row.result.now c.make_room.new.self c.index_mut-row.ensures.value c.make_room.ensures.bodies)
    ∙ ap (λ s. s.store) c.self.view_is

pub returns-clause-refused : goal.returns-clause-refused
returns-clause-refused c =
    let rings = c.self.inside.rows.items in
    on_err_weaker {P = c.make_room.new.self ≡ c.index_mut-row.result.now} c.make_room.result (λ same.
    rw (
      none_changed bodies_in_row rings c.args.d c.index_mut-row.result.now c.make_room.new.self c.index_mut-row.ensures.value c.make_room.ensures.bodies,
      none_changed room_in_row rings c.args.d c.index_mut-row.result.now c.make_room.new.self c.index_mut-row.ensures.value (ap room_in_row same),
    )
    c.self.view_is)
    c.make_room.ensures.refused

pub returns-clause-here : goal.returns-clause-here
returns-clause-here c =
    let rings = c.self.inside.rows.items in
    let lt : c.args.d < length rings = omega (arith, c.requires, rings_len _ rings _ (ap (λ s. s.rooms) c.self.view_is)) in
    room_made room_in_row rings c.args.d c.make_room.new.self c.make_room.result lt c.make_room.ensures.here

pub returns-clause-nodes : goal.returns-clause-nodes
returns-clause-nodes c =
    let rings = c.self.inside.rows.items in
    let lt : c.args.d < length rings = omega (arith, c.requires, rings_len _ rings _ (ap (λ s. s.rooms) c.self.view_is)) in
    (rooms_kept room_in_row rings c.args.d c.index_mut-row.result.now c.make_room.new.self c.args.self.now.rooms lt c.index_mut-row.ensures.value c.make_room.ensures.keeps (ap (λ s. s.rooms) c.self.view_is)).nodes

pub returns-clause-keeps : goal.returns-clause-keeps
returns-clause-keeps c =
    let rings = c.self.inside.rows.items in
    let lt : c.args.d < length rings = omega (arith, c.requires, rings_len _ rings _ (ap (λ s. s.rooms) c.self.view_is)) in
    (rooms_kept room_in_row rings c.args.d c.index_mut-row.result.now c.make_room.new.self c.args.self.now.rooms lt c.index_mut-row.ensures.value c.make_room.ensures.keeps (ap (λ s. s.rooms) c.self.view_is)).room

pub returns-clause-still : goal.returns-clause-still
returns-clause-still c = λ some.
    let rings = c.self.inside.rows.items in
    let lt : c.args.d < length rings = omega (arith, c.requires, rings_len _ rings _ (ap (λ s. s.rooms) c.self.view_is)) in
    let read = room_read room_in_row rings c.args.d c.index_mut-row.result.now c.args.self.now.rooms lt c.index_mut-row.ensures.value (ap (λ s. s.rooms) c.self.view_is) in
    let same = c.make_room.ensures.still (omega (arith, read, some)) in
    rw (
      none_changed bodies_in_row rings c.args.d c.index_mut-row.result.now c.make_room.new.self c.index_mut-row.ensures.value c.make_room.ensures.bodies,
      none_changed room_in_row rings c.args.d c.index_mut-row.result.now c.make_room.new.self c.index_mut-row.ensures.value (ap room_in_row same),
    )
    c.self.view_is
