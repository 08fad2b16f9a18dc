use Rattle.std.proofs.Common.{map, ◌≡◌, ◌<◌, length, ap, sym, ◌∙◌, ◌++◌, ◌∷◌, [], arith}
use Rattle.std.proofs.lemmas.List.{map-set}
use Rattle.aodv_model.specs.Cores.{Store, add}
use Rattle.aodv_waiting.specs.Rows.{bodies_in_row, bodies_at, room_in_row}
use Rattle.aodv_waiting.proofs.StoreLaws.{rings_len, row_read, row_within, room_read, room_used, room_there}
use Rattle.aodv_waiting.proofs.ChangeLaws.{added, added_kept}
use Rattle.aodv_waiting.proofs.waiting.Waiting.add.Goals as goal

pub push-requires : goal.push-requires
push-requires c =
    let rings = c.self.inside.rows.items in
    let lt : c.args.d < length rings = omega (arith, room_there c.args.self.now.rooms c.args.d c.requires.room, rings_len _ rings _ (ap (λ s. s.rooms) c.self.view_is)) in
    let room = room_read room_in_row rings c.args.d c.index_mut-row.result.now c.args.self.now.rooms lt c.index_mut-row.ensures.value (ap (λ s. s.rooms) c.self.view_is) in
    omega (arith, room, c.requires.room)

pub invariant_of-self : goal.invariant_of-self
invariant_of-self c =
    let rings = c.self.inside.rows.items in
    let rows = map bodies_in_row rings in
    let lt : c.args.d < length rings = omega (arith, room_there c.args.self.now.rooms c.args.d c.requires.room, rings_len _ rings _ (ap (λ s. s.rooms) c.self.view_is)) in
    let items : c.push.new.self.bodies ≡ bodies_at rows c.args.d ++ c.args.body ∷ [] = c.push.ensures.bodies ∙ ap (λ bs. bs ++ c.args.body ∷ []) (sym (row_read bodies_in_row rings c.args.d _ lt c.index_mut-row.ensures.value)) in
    rw (map-set bodies_in_row rings c.args.d c.push.new.self, c.add.ensures, c.mark_if_new.ensures) (added_kept rows c.self.inside.with_data c.self.inside.needing c.args.d _ c.args.body c.self.invariant (row_within bodies_in_row rings c.args.d lt) items c.requires.datum)

pub returns-clause-store : goal.returns-clause-store
returns-clause-store c =
    let rings = c.self.inside.rows.items in
    let rows = map bodies_in_row rings in
    let lt : c.args.d < length rings = omega (arith, room_there c.args.self.now.rooms c.args.d c.requires.room, rings_len _ rings _ (ap (λ s. s.rooms) c.self.view_is)) in
    let items : c.push.new.self.bodies ≡ bodies_at rows c.args.d ++ c.args.body ∷ [] = c.push.ensures.bodies ∙ ap (λ bs. bs ++ c.args.body ∷ []) (sym (row_read bodies_in_row rings c.args.d _ lt c.index_mut-row.ensures.value)) in
    rw (map-set bodies_in_row rings c.args.d c.push.new.self, c.mark_if_new.ensures)
    (added rows c.self.inside.with_data c.self.inside.needing c.args.d _ c.args.body c.self.invariant (row_within bodies_in_row rings c.args.d lt) items
    ∙ ap (λ (s : Store). add s c.args.d c.args.body) (ap (λ s. s.store) c.self.view_is))

pub returns-clause-rooms : goal.returns-clause-rooms
returns-clause-rooms c =
    let rings = c.self.inside.rows.items in
    let lt : c.args.d < length rings = omega (arith, room_there c.args.self.now.rooms c.args.d c.requires.room, rings_len _ rings _ (ap (λ s. s.rooms) c.self.view_is)) in
    room_used room_in_row rings c.args.d c.index_mut-row.result.now c.push.new.self c.args.self.now.rooms lt c.index_mut-row.ensures.value c.push.ensures.room (ap (λ s. s.rooms) c.self.view_is)
