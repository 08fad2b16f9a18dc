use Rattle.std.proofs.Common.{◌≡◌, ℕ, Option, sym, ap, refl, ◌∙◌, length}
use Rattle.std.proofs.lemmas.Bool.{ne_eqb}
use Rattle.std.specs.FinMap as maps
use Rattle.aodv_model.specs.declared.entry.Entry.{Entry}
use Rattle.aodv_asked.specs.Requests.{RoomySeen}
use Rattle.aodv_model.specs.Tables.{Table, update}
use Rattle.aodv_model.specs.Cores.{Core, has_seen}
use Rattle.aodv_model.specs.Handlers.{neighbour_entry, route_entry, on_new_rreq}
use Rattle.aodv_table.specs.Calls.{with_entry}
use Rattle.aodv_handlers.specs.Shown.{core_of, request_of}
use Rattle.aodv_handlers.proofs.Order.{order_table, order_back}
use Rattle.aodv_handlers.proofs.Restored.{updates_back, updated_twice}
use Rattle.aodv_handlers.proofs.Requests.{asked_table, ends, new_made, stop_made}
use Rattle.aodv_handlers.proofs.rreq.take_new_request.Goals as goal

pub on_new-requires-clause-order : goal.on_new-requires-clause-order
on_new-requires-clause-order g c =
    let core = c.args.core.now in
    let rt = g.T.Table.entries core.table in
    let rt1 = g.T.Table.entries c.note_neighbour.new.table in
    let rt2 = g.T.Table.entries c.update.new.self in
    let m = c.args.m.now in
    let is = updated_twice rt rt1 rt2 c.args.from m.oip (neighbour_entry c.args.from) c.route_entry.result (route_entry m.osn m.hops c.args.from)
    c.note_neighbour.ensures.entries c.update.ensures.entries c.route_entry.ensures in
    order_table g.T.Table.nodes g.T.Table.entries (length c.args.mesh.now) core _ c.requires.order (c.update.ensures.nodes ∙ c.note_neighbour.ensures.nodes) refl refl refl c.requires.order.sound.own
    (asked_table (length c.args.mesh.now) core.me rt rt2 c.args.from m.oip m.osn m.hops c.requires.from c.requires.other c.requires.says.1 c.requires.says.2 c.requires.order.sound.table is)

pub returns-in-Ok-clause-does : goal.returns-in-Ok-clause-does
returns-in-Ok-clause-does g c =
    let mesh = c.args.mesh.now in
    let m = c.args.m.now in
    let core = core_of g.T.Table.entries c.args.core.now in
    let rt2 = g.T.Table.entries c.update.new.self in
    let is = updated_twice core.rt (g.T.Table.entries c.note_neighbour.new.table) rt2 c.args.from m.oip (neighbour_entry c.args.from) c.route_entry.result (route_entry m.osn m.hops c.args.from)
    c.note_neighbour.ensures.entries c.update.ensures.entries c.route_entry.ensures in
    let end = ends core c.args.range.now c.args.from (request_of m) (m.oip, c.mark_of-mark.result) rt2 c.mark_of-mark.ensures
    (ap (has_seen core.seen) (sym c.mark_of-mark.ensures) ∙ c.requires.new) (ne_eqb m.hops 255 c.if-m.false) is in
    new_made mesh core (core_of g.T.Table.entries c.on_new.new.core) c.args.range.now c.args.from (request_of m) (m.oip, c.mark_of-mark.result) rt2 (on_new_rreq (record core { rt = rt2 }) c.args.range.now c.args.from (request_of m)) c.in-Ok.effect c.insert.new.self.pairs c.on_new.new.out.items end c.mark_of-mark.ensures
    c.in-Ok.ensures.does
    (ap (λ (a : RoomySeen). a.pairs) c.in-Ok.ensures.asked)
    c.insert.ensures.pairs

back : (rt rt1 rt2 rt3 rt4 new : Table) (a b : ℕ) (r s : Entry) (kept_a kept_b : Option Entry) → rt1 ≡ update rt a r → rt2 ≡ update rt1 b s → kept_a ≡ maps.get rt a → kept_b ≡ maps.get rt b → new ≡ rt2 → rt3 ≡ with_entry new b kept_b → rt4 ≡ with_entry rt3 a kept_a → rt4 ≡ rt
back rt rt1 rt2 rt3 rt4 new a b r s kept_a kept_b one_is two_is a_is b_is new_is three_is four_is =
    four_is ∙ ap (λ (t : Table). with_entry t a kept_a) (three_is ∙ ap (λ (t : Table). with_entry t b kept_b) new_is)
    ∙ updates_back rt rt2 a b r s kept_a kept_b (two_is ∙ ap (λ (t : Table). update t b s) one_is) a_is b_is

pub returns-in-Err-clause-does : goal.returns-in-Err-clause-does
returns-in-Err-clause-does g c =
    let mesh = c.args.mesh.now in
    let m = c.args.m.now in
    let core = core_of g.T.Table.entries c.args.core.now in
    let rt2 = g.T.Table.entries c.update.new.self in
    let is = updated_twice core.rt (g.T.Table.entries c.note_neighbour.new.table) rt2 c.args.from m.oip (neighbour_entry c.args.from) c.route_entry.result (route_entry m.osn m.hops c.args.from)
    c.note_neighbour.ensures.entries c.update.ensures.entries c.route_entry.ensures in
    let end = ends core c.args.range.now c.args.from (request_of m) (m.oip, c.mark_of-mark.result) rt2 c.mark_of-mark.ensures
    (ap (has_seen core.seen) (sym c.mark_of-mark.ensures) ∙ c.requires.new) (ne_eqb m.hops 255 c.if-m.false) is in
    let rows = back core.rt (g.T.Table.entries c.note_neighbour.new.table) rt2 (g.T.Table.entries c.put.new.self) (g.T.Table.entries c.put-in-Err.new.self) (g.T.Table.entries c.on_new.new.core.table) c.args.from c.args.m.now.oip (neighbour_entry c.args.from) c.route_entry.result c.get-kept_from.result c.get-kept_oip.result
    c.note_neighbour.ensures.entries c.update.ensures.entries c.get-kept_from.ensures.value c.get-kept_oip.ensures.value (ap (λ (c : Core). c.rt) c.in-Err.ensures.does.same) c.put.ensures.entries c.put-in-Err.ensures.entries in
    stop_made core (core_of g.T.Table.entries c.on_new.new.core) c.args.range.now c.args.from (request_of m) rt2 (g.T.Table.entries c.put-in-Err.new.self) (on_new_rreq (record core { rt = rt2 }) c.args.range.now c.args.from (request_of m)) c.in-Err.full end
    c.in-Err.ensures.does rows

pub returns-in-Err-clause-order : goal.returns-in-Err-clause-order
returns-in-Err-clause-order g c =
    let core = core_of g.T.Table.entries c.args.core.now in
    let rows = back core.rt (g.T.Table.entries c.note_neighbour.new.table) (g.T.Table.entries c.update.new.self) (g.T.Table.entries c.put.new.self) (g.T.Table.entries c.put-in-Err.new.self) (g.T.Table.entries c.on_new.new.core.table) c.args.from c.args.m.now.oip (neighbour_entry c.args.from) c.route_entry.result c.get-kept_from.result c.get-kept_oip.result
    c.note_neighbour.ensures.entries c.update.ensures.entries c.get-kept_from.ensures.value c.get-kept_oip.ensures.value (ap (λ (c : Core). c.rt) c.in-Err.ensures.does.same) c.put.ensures.entries c.put-in-Err.ensures.entries in
    order_back g.T.Table.nodes g.T.Table.entries (length c.args.mesh.now) c.args.core.now c.on_new.new.core _ c.requires.order c.in-Err.ensures.order (c.put-in-Err.ensures.nodes ∙ c.put.ensures.nodes) refl refl (λ i. record (c.in-Err.ensures.does.same i) { rt = rows i })
