use Rattle.std.proofs.Common.{◌≡◌, ◌<◌, ◌≤◌, ℕ, Option, subst, sym, ap, refl, ◌∙◌, arith, length}
use Rattle.std.specs.FinMap as maps
use Rattle.aodv_model.specs.declared.entry.Entry.{Entry}
use Rattle.aodv_model.specs.Tables.{Table, add_pre, nhop}
use Rattle.aodv_model.specs.Cores.{Core}
use Rattle.aodv_model.specs.Handlers.{one, join_reply_precursors}
use Rattle.aodv_model.specs.Fullness.{is_number_full}
use Rattle.aodv_model.specs.Soundness.{IsSoundTable}
use Rattle.aodv_model.proofs.FullNumbers.{number_full_after_reply}
use Rattle.aodv_model.proofs.SoundTables.{nhop_below, join_reply_table}
use Rattle.aodv_table.specs.Calls.{with_entry}
use Rattle.aodv_handlers.specs.Shown.{core_of, reply_of}
use Rattle.aodv_handlers.specs.Parts.{pass_on}
use Rattle.aodv_handlers.proofs.Order.{order_table, order_back}
use Rattle.aodv_handlers.proofs.Restored.{joins_back}
use Rattle.aodv_handlers.proofs.Requests.{AreFullAlike, made_at, refused_at}
use Rattle.aodv_handlers.proofs.Replies.{joined_reply, passed_is}
use Rattle.aodv_handlers.proofs.rrep.pass_on.Goals as goal

fits : (size y n : ℕ) → y ≡ n → n < size → size ≤ 200 → y < 256
fits size y n is low few = omega arith

inside : (size nodes y n : ℕ) → y ≡ n → n < size → nodes ≡ size → y < nodes
inside size nodes y n is low same = omega arith

pub get-kept_onward-requires : goal.get-kept_onward-requires
get-kept_onward-requires g c =
    let core = c.args.core.now in
    let size = length c.args.mesh.now in
    let some : 0 < size = let m = c.requires.order.mine in omega arith in
    inside size (g.T.Table.nodes core.table) c.next_hop-onward.result (nhop (g.T.Table.entries core.table) c.args.m.dip) c.next_hop-onward.ensures (nhop_below size core.me (g.T.Table.entries core.table) c.args.m.dip some c.requires.order.sound.table) c.requires.order.table

pub join_precursor-requires-clause-node : goal.join_precursor-requires-clause-node
join_precursor-requires-clause-node g c =
    let core = c.args.core.now in
    let size = length c.args.mesh.now in
    let some : 0 < size = let m = c.requires.order.mine in omega arith in
    fits size c.next_hop-towards.result (nhop (g.T.Table.entries core.table) c.args.m.oip) c.next_hop-towards.ensures (nhop_below size core.me (g.T.Table.entries core.table) c.args.m.oip some c.requires.order.sound.table) c.len-few.ensures.is_mesh.few

pub join_precursor-requires-2-clause-node : goal.join_precursor-requires-2-clause-node
join_precursor-requires-2-clause-node g c =
    let core = c.args.core.now in
    let size = length c.args.mesh.now in
    let some : 0 < size = let m = c.requires.order.mine in omega arith in
    fits size c.next_hop-towards.result (nhop (g.T.Table.entries core.table) c.args.m.oip) c.next_hop-towards.ensures (nhop_below size core.me (g.T.Table.entries core.table) c.args.m.oip some c.requires.order.sound.table) c.len-few.ensures.is_mesh.few

pub send_reply-requires-clause-order : goal.send_reply-requires-clause-order
send_reply-requires-clause-order g c =
    let core = c.args.core.now in
    let rt = g.T.Table.entries core.table in
    let size = length c.args.mesh.now in
    let some : 0 < size = let m = c.requires.order.mine in omega arith in
    let is = joined_reply rt (g.T.Table.entries c.join_precursor.new.table) (g.T.Table.entries c.join_precursor-2.new.table) c.args.m.dip c.args.m.oip c.next_hop-towards.result c.next_hop-onward.result c.next_hop-towards.ensures c.next_hop-onward.ensures c.join_precursor.ensures.entries c.join_precursor-2.ensures.entries in
    order_table g.T.Table.nodes g.T.Table.entries size core _ c.requires.order (c.join_precursor-2.ensures.nodes ∙ c.join_precursor.ensures.nodes) refl refl refl c.requires.order.sound.own
    (subst (IsSoundTable size core.me) (sym is) (join_reply_table size core.me rt c.args.m.dip c.args.m.oip some c.requires.order.sound.table))

-- precursors change no number
alike : (rt rt2 : Table) (d o : ℕ) → rt2 ≡ join_reply_precursors rt d o → AreFullAlike rt2 rt
alike rt rt2 d o is broken = ap (λ (t : Table). is_number_full t broken) is ∙ number_full_after_reply rt d o broken

pub returns-in-Ok-clause-does : goal.returns-in-Ok-clause-does
returns-in-Ok-clause-does g c =
    let core = core_of g.T.Table.entries c.args.core.now in
    let rt2 = g.T.Table.entries c.join_precursor-2.new.table in
    let is = joined_reply core.rt (g.T.Table.entries c.join_precursor.new.table) rt2 c.args.m.dip c.args.m.oip c.next_hop-towards.result c.next_hop-onward.result c.next_hop-towards.ensures c.next_hop-onward.ensures c.join_precursor.ensures.entries c.join_precursor-2.ensures.entries in
    made_at c.args.mesh.now rt2 core.rt _ (pass_on core c.args.range.now (reply_of c.args.m)) c.in-Ok.effect (core_of g.T.Table.entries c.send_reply.new.core) c.send_reply.new.out.items
    (alike core.rt rt2 c.args.m.dip c.args.m.oip is)
    (passed_is core c.args.range.now (reply_of c.args.m) rt2 c.next_hop-towards.result is c.next_hop-towards.ensures) c.in-Ok.ensures.does

back : (rt rt1 rt2 rt3 rt4 new : Table) (d onward towards : ℕ) (kept_d kept_on : Option Entry) → rt1 ≡ add_pre rt d (one towards) → rt2 ≡ add_pre rt1 onward (one towards) → kept_d ≡ maps.get rt d → kept_on ≡ maps.get rt onward → new ≡ rt2 → rt3 ≡ with_entry new onward kept_on → rt4 ≡ with_entry rt3 d kept_d → rt4 ≡ rt
back rt rt1 rt2 rt3 rt4 new d onward towards kept_d kept_on one_is two_is d_is on_is new_is three_is four_is =
    four_is ∙ ap (λ (t : Table). with_entry t d kept_d) (three_is ∙ ap (λ (t : Table). with_entry t onward kept_on) new_is)
    ∙ joins_back rt rt2 d onward (one towards) (one towards) kept_d kept_on (two_is ∙ ap (λ (t : Table). add_pre t onward (one towards)) one_is) d_is on_is

pub returns-in-Err-clause-does : goal.returns-in-Err-clause-does
returns-in-Err-clause-does g c =
    let core = core_of g.T.Table.entries c.args.core.now in
    let rt1 = g.T.Table.entries c.join_precursor.new.table in
    let rt2 = g.T.Table.entries c.join_precursor-2.new.table in
    let is = joined_reply core.rt rt1 rt2 c.args.m.dip c.args.m.oip c.next_hop-towards.result c.next_hop-onward.result c.next_hop-towards.ensures c.next_hop-onward.ensures c.join_precursor.ensures.entries c.join_precursor-2.ensures.entries in
    let rows = back core.rt rt1 rt2 (g.T.Table.entries c.put.new.self) (g.T.Table.entries c.put-in-Err.new.self) (g.T.Table.entries c.send_reply.new.core.table) c.args.m.dip c.next_hop-onward.result c.next_hop-towards.result c.get-kept_dip.result c.get-kept_onward.result
    c.join_precursor.ensures.entries c.join_precursor-2.ensures.entries c.get-kept_dip.ensures.value c.get-kept_onward.ensures.value (ap (λ (c : Core). c.rt) c.in-Err.ensures.does.same) c.put.ensures.entries c.put-in-Err.ensures.entries in
    refused_at rt2 core.rt _ (pass_on core c.args.range.now (reply_of c.args.m)) _ core c.in-Err.full (core_of g.T.Table.entries c.send_reply.new.core) _
    (alike core.rt rt2 c.args.m.dip c.args.m.oip is)
    (passed_is core c.args.range.now (reply_of c.args.m) rt2 c.next_hop-towards.result is c.next_hop-towards.ensures)
    (λ i. record (c.in-Err.ensures.does.same i) { rt = rows i }) c.in-Err.ensures.does

pub returns-in-Err-clause-order : goal.returns-in-Err-clause-order
returns-in-Err-clause-order g c =
    let core = core_of g.T.Table.entries c.args.core.now in
    let rows = back core.rt (g.T.Table.entries c.join_precursor.new.table) (g.T.Table.entries c.join_precursor-2.new.table) (g.T.Table.entries c.put.new.self) (g.T.Table.entries c.put-in-Err.new.self) (g.T.Table.entries c.send_reply.new.core.table) c.args.m.dip c.next_hop-onward.result c.next_hop-towards.result c.get-kept_dip.result c.get-kept_onward.result
    c.join_precursor.ensures.entries c.join_precursor-2.ensures.entries c.get-kept_dip.ensures.value c.get-kept_onward.ensures.value (ap (λ (c : Core). c.rt) c.in-Err.ensures.does.same) c.put.ensures.entries c.put-in-Err.ensures.entries in
    order_back g.T.Table.nodes g.T.Table.entries (length c.args.mesh.now) c.args.core.now c.send_reply.new.core _ c.requires.order c.in-Err.ensures.order (c.put-in-Err.ensures.nodes ∙ c.put.ensures.nodes) refl refl (λ i. record (c.in-Err.ensures.does.same i) { rt = rows i })
