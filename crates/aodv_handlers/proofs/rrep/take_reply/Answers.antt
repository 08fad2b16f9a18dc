use Rattle.std.proofs.Common.{◌≡◌, ◌≤◌, ℕ, true, Option, ap, refl, sym, subst, ◌∙◌, length}
use Rattle.std.proofs.lemmas.Bool.{ne_eqb}
use Rattle.std.specs.FinMap as maps
use Rattle.aodv_model.specs.declared.entry.Entry.{Entry}
use Rattle.aodv_model.specs.Tables.{Table, update, in_kD, sqn}
use Rattle.aodv_model.specs.Cores.{Core}
use Rattle.aodv_model.specs.Handlers.{only, neighbour_entry, route_entry}
use Rattle.aodv_model.proofs.TablesInMesh.{update_has}
use Rattle.aodv_model.proofs.Readings.{route_above}
use Rattle.aodv_table.specs.Calls.{with_entry}
use Rattle.aodv_handlers.specs.Shown.{core_of, reply_of}
use Rattle.aodv_handlers.specs.Parts.{pass_on}
use Rattle.aodv_handlers.proofs.Order.{order_table, order_back}
use Rattle.aodv_handlers.proofs.Restored.{updates_back}
use Rattle.aodv_handlers.proofs.Requests.{asked_table}
use Rattle.aodv_handlers.proofs.Replies.{ends, ended_made, passed_made, passed_refused, chosen_none, chosen_some}
use Rattle.aodv_handlers.proofs.rrep.take_reply.Goals as goal

both : (rt rt1 rt2 : Table) (a b : ℕ) (r s : Entry) → rt1 ≡ update rt a r → rt2 ≡ update rt1 b s → rt2 ≡ update (update rt a r) b s
both rt rt1 rt2 a b r s one_is two_is = two_is ∙ ap (λ (t : Table). update t b s) one_is

pub returns-in_default-clause-does : goal.returns-in_default-clause-does
returns-in_default-clause-does g c =
    let mesh = c.args.mesh.now in
    let core = core_of g.T.Table.entries c.args.core.now in
    let rt1 = g.T.Table.entries c.note_neighbour.new.table in
    let rt2 = g.T.Table.entries c.update-changed.new.self in
    let m = reply_of c.args.m.now in
    let end = ends core c.args.range.now c.args.from m rt1 rt2 c.update-changed.result (only (record core { rt = rt2 })) (ne_eqb m.hops 255 c.if-m.false)
    c.note_neighbour.ensures.entries (c.update-changed.ensures.entries ∙ ap (update rt1 m.dip) c.route_entry.ensures)
    c.update-changed.ensures.same
    (chosen_none (record core { rt = rt2 }) c.args.range.now _ c.reply_to_pass_on.result (c.reply_to_pass_on.ensures.does c.args.range.now) c.in_default.is) in
    ended_made mesh core c.args.range.now c.args.from m rt2 c.casting.result c.clear.new.self.items end c.casting.ensures c.clear.ensures

pub returns-in_default-clause-order : goal.returns-in_default-clause-order
returns-in_default-clause-order g c =
    let core = c.args.core.now in
    let rt = g.T.Table.entries core.table in
    let rt1 = g.T.Table.entries c.note_neighbour.new.table in
    let m = c.args.m.now in
    order_table g.T.Table.nodes g.T.Table.entries (length c.args.mesh.now) core _ c.requires.order (c.update-changed.ensures.nodes ∙ c.note_neighbour.ensures.nodes) refl refl refl c.requires.order.sound.own
    (asked_table (length c.args.mesh.now) core.me rt (g.T.Table.entries c.update-changed.new.self) c.args.from c.args.m.now.dip m.dsn m.hops c.requires.from c.requires.other c.requires.says.0 c.requires.says.2 c.requires.order.sound.table
    (both rt rt1 (g.T.Table.entries c.update-changed.new.self) c.args.from c.args.m.now.dip (neighbour_entry c.args.from) (route_entry m.dsn m.hops c.args.from)
    c.note_neighbour.ensures.entries (c.update-changed.ensures.entries ∙ ap (update rt1 c.args.m.now.dip) c.route_entry.ensures)))

pub pass_on-requires-clause-order : goal.pass_on-requires-clause-order
pass_on-requires-clause-order g c =
    let core = c.args.core.now in
    let rt = g.T.Table.entries core.table in
    let rt1 = g.T.Table.entries c.note_neighbour.new.table in
    let m = c.args.m.now in
    order_table g.T.Table.nodes g.T.Table.entries (length c.args.mesh.now) core _ c.requires.order (c.update-changed.ensures.nodes ∙ c.note_neighbour.ensures.nodes) refl refl refl c.requires.order.sound.own
    (asked_table (length c.args.mesh.now) core.me rt (g.T.Table.entries c.update-changed.new.self) c.args.from c.args.m.now.dip m.dsn m.hops c.requires.from c.requires.other c.requires.says.0 c.requires.says.2 c.requires.order.sound.table
    (both rt rt1 (g.T.Table.entries c.update-changed.new.self) c.args.from c.args.m.now.dip (neighbour_entry c.args.from) (route_entry m.dsn m.hops c.args.from)
    c.note_neighbour.ensures.entries (c.update-changed.ensures.entries ∙ ap (update rt1 c.args.m.now.dip) c.route_entry.ensures)))

pub pass_on-requires-clause-entry : goal.pass_on-requires-clause-entry
pass_on-requires-clause-entry g c =
    let rt2 = g.T.Table.entries c.update-changed.new.self in
    let here : in_kD rt2 c.args.m.now.dip ≡ true = ap (λ (t : Table). in_kD t c.args.m.now.dip) c.update-changed.ensures.entries ∙ update_has (g.T.Table.entries c.note_neighbour.new.table) c.args.m.now.dip c.route_entry.result in
    ap (in_kD rt2) c.in-Some.ensures.same.dip ∙ here

pub reply_to_pass_on-requires-clause-number : goal.reply_to_pass_on-requires-clause-number
reply_to_pass_on-requires-clause-number g c =
    let m = c.args.m.now in
    let rt1 = g.T.Table.entries c.note_neighbour.new.table in
    subst (λ (t : Table). 1 ≤ sqn t c.args.m.now.dip) (sym (c.update-changed.ensures.entries ∙ ap (update rt1 c.args.m.now.dip) c.route_entry.ensures))
    (route_above rt1 c.args.m.now.dip m.dsn m.hops c.args.from c.requires.says.2)

pub returns-in-Ok-clause-does : goal.returns-in-Ok-clause-does
returns-in-Ok-clause-does g c =
    let mesh = c.args.mesh.now in
    let core = core_of g.T.Table.entries c.args.core.now in
    let rt1 = g.T.Table.entries c.note_neighbour.new.table in
    let rt2 = g.T.Table.entries c.update-changed.new.self in
    let m = reply_of c.args.m.now in
    let end = ends core c.args.range.now c.args.from m rt1 rt2 c.update-changed.result (pass_on (record core { rt = rt2 }) c.args.range.now (reply_of c.in-Some.reply)) (ne_eqb m.hops 255 c.if-m.false)
    c.note_neighbour.ensures.entries (c.update-changed.ensures.entries ∙ ap (update rt1 m.dip) c.route_entry.ensures)
    c.update-changed.ensures.same
    (chosen_some (record core { rt = rt2 }) c.args.range.now _ c.reply_to_pass_on.result c.in-Some.reply (c.reply_to_pass_on.ensures.does c.args.range.now) c.in-Some.is) in
    passed_made mesh core (core_of g.T.Table.entries c.pass_on.new.core) c.args.range.now c.args.from m rt2 _ c.in-Ok.effect c.pass_on.new.out.items end c.in-Ok.ensures.does

back : (rt rt1 rt2 rt3 rt4 new : Table) (a b : ℕ) (r s : Entry) (kept_a kept_b : Option Entry) → rt1 ≡ update rt a r → rt2 ≡ update rt1 b s → kept_a ≡ maps.get rt a → kept_b ≡ maps.get rt b → new ≡ rt2 → rt3 ≡ with_entry new b kept_b → rt4 ≡ with_entry rt3 a kept_a → rt4 ≡ rt
back rt rt1 rt2 rt3 rt4 new a b r s kept_a kept_b one_is two_is a_is b_is new_is three_is four_is =
    four_is ∙ ap (λ (t : Table). with_entry t a kept_a) (three_is ∙ ap (λ (t : Table). with_entry t b kept_b) new_is)
    ∙ updates_back rt rt2 a b r s kept_a kept_b (both rt rt1 rt2 a b r s one_is two_is) a_is b_is

pub returns-in-Err-clause-does : goal.returns-in-Err-clause-does
returns-in-Err-clause-does g c =
    let mesh = c.args.mesh.now in
    let core = core_of g.T.Table.entries c.args.core.now in
    let rt1 = g.T.Table.entries c.note_neighbour.new.table in
    let rt2 = g.T.Table.entries c.update-changed.new.self in
    let rt4 = g.T.Table.entries c.put-in-Err.new.self in
    let new = core_of g.T.Table.entries c.pass_on.new.core in
    let m = reply_of c.args.m.now in
    let end = ends core c.args.range.now c.args.from m rt1 rt2 c.update-changed.result (pass_on (record core { rt = rt2 }) c.args.range.now (reply_of c.in-Some.reply)) (ne_eqb m.hops 255 c.if-m.false)
    c.note_neighbour.ensures.entries (c.update-changed.ensures.entries ∙ ap (update rt1 m.dip) c.route_entry.ensures)
    c.update-changed.ensures.same
    (chosen_some (record core { rt = rt2 }) c.args.range.now _ c.reply_to_pass_on.result c.in-Some.reply (c.reply_to_pass_on.ensures.does c.args.range.now) c.in-Some.is) in
    let rows = back core.rt rt1 rt2 (g.T.Table.entries c.put.new.self) rt4 new.rt c.args.from c.args.m.now.dip (neighbour_entry c.args.from) c.route_entry.result c.get-kept_from.result c.get-kept_dip.result
    c.note_neighbour.ensures.entries c.update-changed.ensures.entries c.get-kept_from.ensures.value c.get-kept_dip.ensures.value (ap (λ (c : Core). c.rt) c.in-Err.ensures.does.same) c.put.ensures.entries c.put-in-Err.ensures.entries in
    passed_refused core new c.args.range.now c.args.from m rt2 rt4 _ c.in-Err.full end c.in-Err.ensures.does rows

pub returns-in-Err-clause-order : goal.returns-in-Err-clause-order
returns-in-Err-clause-order g c =
    let core = core_of g.T.Table.entries c.args.core.now in
    let rows = back core.rt (g.T.Table.entries c.note_neighbour.new.table) (g.T.Table.entries c.update-changed.new.self) (g.T.Table.entries c.put.new.self) (g.T.Table.entries c.put-in-Err.new.self) (g.T.Table.entries c.pass_on.new.core.table) c.args.from c.args.m.now.dip (neighbour_entry c.args.from) c.route_entry.result c.get-kept_from.result c.get-kept_dip.result
    c.note_neighbour.ensures.entries c.update-changed.ensures.entries c.get-kept_from.ensures.value c.get-kept_dip.ensures.value (ap (λ (c : Core). c.rt) c.in-Err.ensures.does.same) c.put.ensures.entries c.put-in-Err.ensures.entries in
    order_back g.T.Table.nodes g.T.Table.entries (length c.args.mesh.now) c.args.core.now c.pass_on.new.core _ c.requires.order c.in-Err.ensures.order (c.put-in-Err.ensures.nodes ∙ c.put.ensures.nodes) refl refl (λ i. record (c.in-Err.ensures.does.same i) { rt = rows i })
