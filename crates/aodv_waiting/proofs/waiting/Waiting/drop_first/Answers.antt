use Rattle.std.proofs.Common.{map, length, ◌≡◌, ◌<◌, ap, sym, ◌∙◌, arith}
use Rattle.std.proofs.Math.ListN.{drop as from}
use Rattle.std.proofs.lemmas.List.{map-set, length-map}
use Rattle.aodv_model.specs.Cores.{Store, drop, has_data}
use Rattle.aodv_waiting.specs.Rows.{bodies_in_row, bodies_at, room_in_row}
use Rattle.aodv_waiting.proofs.StoreLaws.{row_read, row_within, bodies_shown, row_there, rooms_kept, some_left}
use Rattle.aodv_waiting.proofs.ChangeLaws.{dropped_last, dropped_more, dropped_last_kept, dropped_more_kept}
use Rattle.aodv_waiting.proofs.waiting.Waiting.drop_first.Goals as goal

pub index_mut-row-requires : goal.index_mut-row-requires
index_mut-row-requires c =
    let rings = c.self.inside.rows.items in
    let rows = map bodies_in_row rings in
    let lt : c.args.d < length rings = omega (arith, length-map rings bodies_in_row, row_there rows c.args.d (ap has_data (sym (bodies_shown c.self.inside.needing rows c.args.self.now.store c.args.d (ap (λ s. s.store) c.self.view_is))) ∙ c.requires)) in
    omega arith

pub remove-requires : goal.remove-requires
remove-requires c =
    let rings = c.self.inside.rows.items in
    let rows = map bodies_in_row rings in
    let lt : c.args.d < length rings = omega (arith, length-map rings bodies_in_row, row_there rows c.args.d (ap has_data (sym (bodies_shown c.self.inside.needing rows c.args.self.now.store c.args.d (ap (λ s. s.store) c.self.view_is))) ∙ c.requires)) in
    omega (arith, length-map rings bodies_in_row, c.self.invariant.few)

pub remove-requires-then-pop : goal.remove-requires-then-pop
remove-requires-then-pop c =
    let rings = c.self.inside.rows.items in
    let rows = map bodies_in_row rings in
    let lt : c.args.d < length rings = omega (arith, length-map rings bodies_in_row, row_there rows c.args.d (ap has_data (sym (bodies_shown c.self.inside.needing rows c.args.self.now.store c.args.d (ap (λ s. s.store) c.self.view_is))) ∙ c.requires)) in
    omega (arith, length-map rings bodies_in_row, c.self.invariant.few)

pub invariant_of-self : goal.invariant_of-self
invariant_of-self c =
    let rings = c.self.inside.rows.items in
    let rows = map bodies_in_row rings in
    let lt : c.args.d < length rings = omega (arith, length-map rings bodies_in_row, row_there rows c.args.d (ap has_data (sym (bodies_shown c.self.inside.needing rows c.args.self.now.store c.args.d (ap (λ s. s.store) c.self.view_is))) ∙ c.requires)) in
    let items : c.pop.new.self.bodies ≡ from 1 (bodies_at rows c.args.d) = c.pop.ensures.bodies ∙ ap (from 1) (sym (row_read bodies_in_row rings c.args.d _ lt c.index_mut-row.ensures.value)) in
    rw (map-set bodies_in_row rings c.args.d c.pop.new.self, c.remove.ensures, c.remove-then-pop.ensures)
    (dropped_last_kept rows c.self.inside.with_data c.self.inside.needing c.args.d _ c.self.invariant (row_within bodies_in_row rings c.args.d lt) items (c.pop.ensures.empty.0 c.if-pop.true))

pub invariant_of-self-else-pop : goal.invariant_of-self-else-pop
invariant_of-self-else-pop c =
    let rings = c.self.inside.rows.items in
    let rows = map bodies_in_row rings in
    let lt : c.args.d < length rings = omega (arith, length-map rings bodies_in_row, row_there rows c.args.d (ap has_data (sym (bodies_shown c.self.inside.needing rows c.args.self.now.store c.args.d (ap (λ s. s.store) c.self.view_is))) ∙ c.requires)) in
    let items : c.pop.new.self.bodies ≡ from 1 (bodies_at rows c.args.d) = c.pop.ensures.bodies ∙ ap (from 1) (sym (row_read bodies_in_row rings c.args.d _ lt c.index_mut-row.ensures.value)) in
    rw (map-set bodies_in_row rings c.args.d c.pop.new.self)
    (dropped_more_kept rows c.self.inside.with_data c.self.inside.needing c.args.d _ c.self.invariant (row_within bodies_in_row rings c.args.d lt) items (some_left c.pop.result _ c.pop.ensures.empty c.if-pop.false))

pub returns-then-pop-clause-store : goal.returns-then-pop-clause-store
returns-then-pop-clause-store c =
    let rings = c.self.inside.rows.items in
    let rows = map bodies_in_row rings in
    let lt : c.args.d < length rings = omega (arith, length-map rings bodies_in_row, row_there rows c.args.d (ap has_data (sym (bodies_shown c.self.inside.needing rows c.args.self.now.store c.args.d (ap (λ s. s.store) c.self.view_is))) ∙ c.requires)) in
    let items : c.pop.new.self.bodies ≡ from 1 (bodies_at rows c.args.d) = c.pop.ensures.bodies ∙ ap (from 1) (sym (row_read bodies_in_row rings c.args.d _ lt c.index_mut-row.ensures.value)) in
    rw (map-set bodies_in_row rings c.args.d c.pop.new.self, c.remove-then-pop.ensures)
    (dropped_last rows c.self.inside.with_data c.self.inside.needing c.args.d _ c.self.invariant (row_within bodies_in_row rings c.args.d lt) items (c.pop.ensures.empty.0 c.if-pop.true)
    ∙ ap (λ (s : Store). drop s c.args.d) (ap (λ s. s.store) c.self.view_is))

pub returns-then-pop-clause-nodes : goal.returns-then-pop-clause-nodes
returns-then-pop-clause-nodes c =
    let rings = c.self.inside.rows.items in
    let rows = map bodies_in_row rings in
    let lt : c.args.d < length rings = omega (arith, length-map rings bodies_in_row, row_there rows c.args.d (ap has_data (sym (bodies_shown c.self.inside.needing rows c.args.self.now.store c.args.d (ap (λ s. s.store) c.self.view_is))) ∙ c.requires)) in
    (rooms_kept room_in_row rings c.args.d c.index_mut-row.result.now c.pop.new.self c.args.self.now.rooms lt c.index_mut-row.ensures.value (omega (arith, c.pop.ensures.room)) (ap (λ s. s.rooms) c.self.view_is)).nodes

pub returns-then-pop-clause-keeps : goal.returns-then-pop-clause-keeps
returns-then-pop-clause-keeps c =
    let rings = c.self.inside.rows.items in
    let rows = map bodies_in_row rings in
    let lt : c.args.d < length rings = omega (arith, length-map rings bodies_in_row, row_there rows c.args.d (ap has_data (sym (bodies_shown c.self.inside.needing rows c.args.self.now.store c.args.d (ap (λ s. s.store) c.self.view_is))) ∙ c.requires)) in
    (rooms_kept room_in_row rings c.args.d c.index_mut-row.result.now c.pop.new.self c.args.self.now.rooms lt c.index_mut-row.ensures.value (omega (arith, c.pop.ensures.room)) (ap (λ s. s.rooms) c.self.view_is)).room

pub returns-else-pop-clause-store : goal.returns-else-pop-clause-store
returns-else-pop-clause-store c =
    let rings = c.self.inside.rows.items in
    let rows = map bodies_in_row rings in
    let lt : c.args.d < length rings = omega (arith, length-map rings bodies_in_row, row_there rows c.args.d (ap has_data (sym (bodies_shown c.self.inside.needing rows c.args.self.now.store c.args.d (ap (λ s. s.store) c.self.view_is))) ∙ c.requires)) in
    let items : c.pop.new.self.bodies ≡ from 1 (bodies_at rows c.args.d) = c.pop.ensures.bodies ∙ ap (from 1) (sym (row_read bodies_in_row rings c.args.d _ lt c.index_mut-row.ensures.value)) in
    rw (map-set bodies_in_row rings c.args.d c.pop.new.self)
    (dropped_more rows c.self.inside.with_data c.self.inside.needing c.args.d _ c.self.invariant (row_within bodies_in_row rings c.args.d lt) items (some_left c.pop.result _ c.pop.ensures.empty c.if-pop.false)
    ∙ ap (λ (s : Store). drop s c.args.d) (ap (λ s. s.store) c.self.view_is))

pub returns-else-pop-clause-nodes : goal.returns-else-pop-clause-nodes
returns-else-pop-clause-nodes c =
    let rings = c.self.inside.rows.items in
    let rows = map bodies_in_row rings in
    let lt : c.args.d < length rings = omega (arith, length-map rings bodies_in_row, row_there rows c.args.d (ap has_data (sym (bodies_shown c.self.inside.needing rows c.args.self.now.store c.args.d (ap (λ s. s.store) c.self.view_is))) ∙ c.requires)) in
    (rooms_kept room_in_row rings c.args.d c.index_mut-row.result.now c.pop.new.self c.args.self.now.rooms lt c.index_mut-row.ensures.value (omega (arith, c.pop.ensures.room)) (ap (λ s. s.rooms) c.self.view_is)).nodes

pub returns-else-pop-clause-keeps : goal.returns-else-pop-clause-keeps
returns-else-pop-clause-keeps c =
    let rings = c.self.inside.rows.items in
    let rows = map bodies_in_row rings in
    let lt : c.args.d < length rings = omega (arith, length-map rings bodies_in_row, row_there rows c.args.d (ap has_data (sym (bodies_shown c.self.inside.needing rows c.args.self.now.store c.args.d (ap (λ s. s.store) c.self.view_is))) ∙ c.requires)) in
    (rooms_kept room_in_row rings c.args.d c.index_mut-row.result.now c.pop.new.self c.args.self.now.rooms lt c.index_mut-row.ensures.value (omega (arith, c.pop.ensures.room)) (ap (λ s. s.rooms) c.self.view_is)).room
