use Rattle.std.proofs.Common.{◌≡◌, ℕ, Option, Some, subst, sym, ap, refl, ◌∙◌, arith, length}
use Rattle.std.specs.FinMap as maps
use Rattle.aodv_model.specs.declared.entry.Entry.{Entry}
use Rattle.aodv_model.specs.Tables.{Table, add_pre}
use Rattle.aodv_model.specs.Cores.{Core}
use Rattle.aodv_model.specs.Handlers.{one, join_answer_precursors, reply_from_table}
use Rattle.aodv_model.specs.Fullness.{is_number_full}
use Rattle.aodv_model.specs.Soundness.{IsSoundTable}
use Rattle.aodv_model.proofs.FullNumbers.{number_full_after_answer}
use Rattle.aodv_model.proofs.SoundTables.{join_answer_table}
use Rattle.aodv_table.specs.Calls.{with_entry}
use Rattle.aodv_handlers.specs.Shown.{core_of, request_of}
use Rattle.aodv_handlers.proofs.Order.{order_table, order_back}
use Rattle.aodv_handlers.proofs.Restored.{joins_back}
use Rattle.aodv_handlers.proofs.Requests.{AreFullAlike, made_at, refused_at, joined_answer, answer_is}
use Rattle.aodv_handlers.proofs.rreq.reply_from_table.Goals as goal

pub join_precursor-requires-2-clause-node : goal.join_precursor-requires-2-clause-node
join_precursor-requires-2-clause-node g c =
    let in_mesh = c.requires.order.sound.table.in_mesh c.args.m.now.dip c.args.route c.requires.route in
    omega (arith, in_mesh.near, c.len-few.ensures.is_mesh.few)

pub send_reply-requires-clause-order : goal.send_reply-requires-clause-order
send_reply-requires-clause-order g c =
    let core = c.args.core.now in
    let rt = g.T.Table.entries core.table in
    let is = joined_answer rt (g.T.Table.entries c.join_precursor.new.table) (g.T.Table.entries c.join_precursor-2.new.table) c.args.m.now.dip c.args.m.now.oip c.args.from c.args.route c.requires.route c.join_precursor.ensures.entries c.join_precursor-2.ensures.entries in
    order_table g.T.Table.nodes g.T.Table.entries (length c.args.mesh.now) core _ c.requires.order (c.join_precursor-2.ensures.nodes ∙ c.join_precursor.ensures.nodes) refl refl refl c.requires.order.sound.own
    (subst (IsSoundTable (length c.args.mesh.now) core.me) (sym is) (join_answer_table (length c.args.mesh.now) core.me rt c.args.m.now.dip c.args.m.now.oip c.args.from c.requires.from c.requires.order.sound.table))

-- precursors change no number
alike : (rt rt2 : Table) (d o from : ℕ) → rt2 ≡ join_answer_precursors rt d o from → AreFullAlike rt2 rt
alike rt rt2 d o from is broken = ap (λ (t : Table). is_number_full t broken) is ∙ number_full_after_answer rt d o from broken

pub returns-in-Ok-clause-does : goal.returns-in-Ok-clause-does
returns-in-Ok-clause-does g c =
    let core = core_of g.T.Table.entries c.args.core.now in
    let rt2 = g.T.Table.entries c.join_precursor-2.new.table in
    let is = joined_answer core.rt (g.T.Table.entries c.join_precursor.new.table) rt2 c.args.m.now.dip c.args.m.now.oip c.args.from c.args.route c.requires.route c.join_precursor.ensures.entries c.join_precursor-2.ensures.entries in
    made_at c.args.mesh.now rt2 core.rt _ (reply_from_table core c.args.range.now c.args.from (request_of c.args.m.now)) c.in-Ok.effect (core_of g.T.Table.entries c.send_reply.new.core) c.send_reply.new.out.items
    (alike core.rt rt2 c.args.m.now.dip c.args.m.now.oip c.args.from is)
    (answer_is core c.args.range.now c.args.from (request_of c.args.m.now) c.args.route rt2 c.next_hop-towards.result c.requires.route is c.next_hop-towards.ensures) c.in-Ok.ensures.does

back : (rt rt1 rt2 rt3 rt4 new : Table) (d o from : ℕ) (route : Entry) (kept : Option Entry) → maps.get rt d ≡ Some route → rt1 ≡ add_pre rt d (one from) → rt2 ≡ add_pre rt1 o (one route.next) → kept ≡ maps.get rt o → new ≡ rt2 → rt3 ≡ with_entry new o kept → rt4 ≡ with_entry rt3 d (Some route) → rt4 ≡ rt
back rt rt1 rt2 rt3 rt4 new d o from route kept route_is one_is two_is kept_is new_is three_is four_is =
    four_is ∙ ap (λ (t : Table). with_entry t d (Some route)) (three_is ∙ ap (λ (t : Table). with_entry t o kept) new_is)
    ∙ joins_back rt rt2 d o (one from) (one route.next) (Some route) kept (two_is ∙ ap (λ (t : Table). add_pre t o (one route.next)) one_is) (sym route_is) kept_is

pub returns-in-Err-clause-does : goal.returns-in-Err-clause-does
returns-in-Err-clause-does g c =
    let core = core_of g.T.Table.entries c.args.core.now in
    let rt1 = g.T.Table.entries c.join_precursor.new.table in
    let rt2 = g.T.Table.entries c.join_precursor-2.new.table in
    let is = joined_answer core.rt rt1 rt2 c.args.m.now.dip c.args.m.now.oip c.args.from c.args.route c.requires.route c.join_precursor.ensures.entries c.join_precursor-2.ensures.entries in
    let rows = back core.rt rt1 rt2 (g.T.Table.entries c.put.new.self) (g.T.Table.entries c.put-in-Err.new.self) (g.T.Table.entries c.send_reply.new.core.table) c.args.m.now.dip c.args.m.now.oip c.args.from c.args.route c.get-kept_oip.result
    c.requires.route c.join_precursor.ensures.entries c.join_precursor-2.ensures.entries c.get-kept_oip.ensures.value (ap (λ (c : Core). c.rt) c.in-Err.ensures.does.same) c.put.ensures.entries c.put-in-Err.ensures.entries in
    refused_at rt2 core.rt _ (reply_from_table core c.args.range.now c.args.from (request_of c.args.m.now)) _ core c.in-Err.full (core_of g.T.Table.entries c.send_reply.new.core) _
    (alike core.rt rt2 c.args.m.now.dip c.args.m.now.oip c.args.from is)
    (answer_is core c.args.range.now c.args.from (request_of c.args.m.now) c.args.route rt2 c.next_hop-towards.result c.requires.route is c.next_hop-towards.ensures)
    (λ i. record (c.in-Err.ensures.does.same i) { rt = rows i }) c.in-Err.ensures.does

pub returns-in-Err-clause-order : goal.returns-in-Err-clause-order
returns-in-Err-clause-order g c =
    let core = core_of g.T.Table.entries c.args.core.now in
    let rows = back core.rt (g.T.Table.entries c.join_precursor.new.table) (g.T.Table.entries c.join_precursor-2.new.table) (g.T.Table.entries c.put.new.self) (g.T.Table.entries c.put-in-Err.new.self) (g.T.Table.entries c.send_reply.new.core.table) c.args.m.now.dip c.args.m.now.oip c.args.from c.args.route c.get-kept_oip.result
    c.requires.route c.join_precursor.ensures.entries c.join_precursor-2.ensures.entries c.get-kept_oip.ensures.value (ap (λ (c : Core). c.rt) c.in-Err.ensures.does.same) c.put.ensures.entries c.put-in-Err.ensures.entries in
    order_back g.T.Table.nodes g.T.Table.entries (length c.args.mesh.now) c.args.core.now c.send_reply.new.core _ c.requires.order c.in-Err.ensures.order (c.put-in-Err.ensures.nodes ∙ c.put.ensures.nodes) refl refl (λ i. record (c.in-Err.ensures.does.same i) { rt = rows i })
