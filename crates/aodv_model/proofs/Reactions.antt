-- The cases of a reaction: a law of every turn is a record of what it owes in each of them.
use Rattle.std.proofs.Common.{◌≡◌, ℕ, true, false, ◌||◌, not, ◌==◌}
use Rattle.std.specs.Prelude.{if◌then◌else◌}
use Rattle.std.specs.FinMap as maps
use Rattle.std.specs.FinSet as sets
use Rattle.mesh_base.specs.Members.{NodeIds}
use Rattle.mesh_base.specs.declared.events.Variant.{Variant}
use Rattle.mesh_base.specs.declared.events.Variant.TheVariants.{Base, Number, Reply, Error}
use Rattle.aodv_model.specs.Tables.{Table, Dests, in_vD, in_iD, nhop, precs, sqn}
use Rattle.aodv_model.specs.Cores.{Body, RouteRequest, RouteReply, Message, Pkt, Rreq, Rrep, Rerr, Item, New, Heard, Core, add, drop, has_seen, bodies_in}
use Rattle.aodv_model.specs.Handlers.{Cast, Nothing, One, Many, All, Reaction, casting, delivering, plain, only, is_empty, is_error, precs_of, with_precs, error_cast, link_broken, broken_by, unicast, after_hearing, on_new, losing, losing_if_broken, data_error, on_pkt, key_of, after_request, reply_for_self, can_answer, reply_from_table, forward_request, on_new_rreq, on_rreq, forward_reply, forward_own_entry, reply_on, after_reply, on_rrep, on_rerr, turn, send, drop_if_sent, first_body, is_stale, route_entry}
use Rattle.aodv_model.proofs.Entries.{if_case}

-- a unicast is sent, or its link is broken
pub unicast_case : (P : Reaction → Type 0) (core : Core) (m : Message) (y : ℕ) (range : NodeIds) → (sets.contains range y ≡ true → P (plain core (casting (One y m)))) → P (broken_by y (link_broken core y)) → P (unicast core m y range)
unfolding unicast
unicast_case P core m y range sent broken = if_case P (sets.contains range y) (plain core (casting (One y m))) (broken_by y (link_broken core y)) sent (λ _. broken)

-- a route error of dests goes to nobody, to all, or to the precursors
pub error_case : (P : Cast → Type 0) (variant : Variant) (rt : Table) (dests : Dests) → P Nothing → ((maps.len dests == 0) ≡ false → P (All (Rerr dests)))
    → (is_empty (precs_of rt dests) ≡ false → P (Many (precs_of rt dests) (Rerr (with_precs rt dests)))) → P (error_cast variant rt dests)
unfolding error_cast
error_case P variant rt dests none all many =
    if_case P (is_error variant) (if maps.len dests == 0 then Nothing else All (Rerr dests)) (if is_empty (precs_of rt dests) then Nothing else Many (precs_of rt dests) (Rerr (with_precs rt dests)))
    (λ _. if_case P (maps.len dests == 0) Nothing (All (Rerr dests)) (λ _. none) all)
    (λ _. if_case P (is_empty (precs_of rt dests)) Nothing (Many (precs_of rt dests) (Rerr (with_precs rt dests))) (λ _. none) many)

-- the same of the error for one destination
pub data_error_case : (P : Cast → Type 0) (core : Core) (d : ℕ) → P Nothing → P (All (Rerr (maps.insert maps.empty d (sqn core.rt d))))
    → (is_empty (precs core.rt d) ≡ false → P (Many (precs core.rt d) (Rerr (maps.insert maps.empty d (sqn core.rt d))))) → P (data_error core d)
unfolding data_error
data_error_case P core d none all many =
    let m : Message = Rerr (maps.insert maps.empty d (sqn core.rt d)) in
    if_case P (not (in_iD core.rt d)) Nothing (if is_error core.variant then All m else if is_empty (precs core.rt d) then Nothing else Many (precs core.rt d) m) (λ _. none)
    (λ _. if_case P (is_error core.variant) (All m) (if is_empty (precs core.rt d) then Nothing else Many (precs core.rt d) m) (λ _. all)
    (λ _. if_case P (is_empty (precs core.rt d)) Nothing (Many (precs core.rt d) m) (λ _. none) many))

-- What a law P of every turn owes: P of what comes of each item. The node's own datum is delivered, and another stored. A data
-- packet has arrived, is forwarded, or is dropped. A request is known, or is answered by its destination, is answered from a
-- table (vouched), or is flooded. A reply ends here, or is passed on as it came, or as the node's own entry says (restated).
-- A route error withdraws routes.
pub record ReactionCases (core : Core) (range : NodeIds) (P : Item → Reaction → Type 0) : Type 0 where
  pub own : (b : Body) (d : ℕ) → (d == core.ip) ≡ true → P (New b d) (plain core delivering)
  pub stored : (b : Body) (d : ℕ) → (d == core.ip) ≡ false → P (New b d) (only (record core { store = add core.store d b }))
  pub arrived : (from : ℕ) (b : Body) (d o : ℕ) → (d == core.ip) ≡ true → P (Heard from (Pkt b d o)) (plain core delivering)
  pub forwarded : (from : ℕ) (b : Body) (d o : ℕ) → in_vD core.rt d ≡ true → P (Heard from (Pkt b d o)) (losing_if_broken (unicast core (Pkt b d o) (nhop core.rt d) range))
  pub dropped : (from : ℕ) (b : Body) (d o : ℕ) → P (Heard from (Pkt b d o)) (losing (plain core (casting (data_error core d))))
  pub known : (from : ℕ) (m : RouteRequest) → P (Heard from (Rreq m)) (only (after_hearing core from))
  pub answered : (from : ℕ) (m : RouteRequest) → has_seen core.seen (key_of core.variant m) ≡ false → (m.dip == core.ip) ≡ true → P (Heard from (Rreq m)) (reply_for_self (after_request core from m) range m)
  pub vouched : (from : ℕ) (m : RouteRequest) → has_seen core.seen (key_of core.variant m) ≡ false → (m.dip == core.ip) ≡ false → can_answer (after_request core from m) m ≡ true
      → P (Heard from (Rreq m)) (reply_from_table (after_request core from m) range from m)
  pub flooded : (from : ℕ) (m : RouteRequest) → has_seen core.seen (key_of core.variant m) ≡ false → P (Heard from (Rreq m)) (forward_request (after_request core from m) m)
  pub ended : (from : ℕ) (m : RouteReply) → P (Heard from (Rrep m)) (only (after_reply core from m))
  pub passed : (from : ℕ) (m : RouteReply) → is_stale (after_hearing core from).rt m.dip (route_entry m.dsn m.hops from) ≡ false → P (Heard from (Rrep m)) (forward_reply (after_reply core from m) range m)
  pub restated : (from : ℕ) (m : RouteReply) → in_vD (after_reply core from m).rt m.dip ≡ true → P (Heard from (Rrep m)) (forward_own_entry (after_reply core from m) range m)
  pub withdrawn : (from : ℕ) (dests : Dests) → P (Heard from (Rerr dests)) (on_rerr core from dests)

module _ (core : Core) (range : NodeIds) (P : Item → Reaction → Type 0) (cases : ReactionCases core range P) where
  -- by the node's variant
  reply_case : (v : Variant) (from : ℕ) (m : RouteReply) → P (Heard from (Rrep m)) (reply_on v (after_reply core from m) (is_stale (after_hearing core from).rt m.dip (route_entry m.dsn m.hops from)) range m)
  reply_case Base from m = if_case (P (Heard from (Rrep m))) _ _ _ (λ _. cases.ended from m) (cases.passed from m)
  reply_case Number from m = if_case (P (Heard from (Rrep m))) _ _ _ (λ _. cases.ended from m) (cases.passed from m)
  reply_case Error from m = if_case (P (Heard from (Rrep m))) _ _ _ (λ _. cases.ended from m) (cases.passed from m)
  reply_case Reply from m = if_case (P (Heard from (Rrep m))) _ _ _ (cases.restated from m) (λ _. cases.ended from m)

  pub turn_cases : (item : Item) → P item (turn core range item)
  unfolding on_new on_pkt on_rreq on_new_rreq on_rrep after_request after_hearing
  turn_cases (New b d) = if_case (P (New b d)) (d == core.ip) _ _ (cases.own b d) (cases.stored b d)
  turn_cases (Heard from (Pkt b d o)) =
      let Q : Reaction → Type 0 = P (Heard from (Pkt b d o)) in
      if_case Q (d == core.ip) _ _ (cases.arrived from b d o) (λ _. if_case Q (in_vD core.rt d) _ _ (cases.forwarded from b d o) (λ _. cases.dropped from b d o))
  turn_cases (Heard from (Rreq m)) =
      let Q : Reaction → Type 0 = P (Heard from (Rreq m)) in
      if_case Q (has_seen core.seen (key_of core.variant m)) _ _ (λ _. cases.known from m)
      (λ new. if_case Q (m.dip == core.ip) _ _ (cases.answered from m new)
      (λ other. if_case Q (can_answer (after_request core from m) m) _ _ (cases.vouched from m new other) (λ _. cases.flooded from m new)))
  turn_cases (Heard from (Rrep m)) =
      if_case (P (Heard from (Rrep m))) ((m.oip == core.ip) || not (in_vD (after_reply core from m).rt m.oip)) _ _ (λ _. cases.ended from m) (λ _. reply_case core.variant from m)
  turn_cases (Heard from (Rerr dests)) = cases.withdrawn from dests

-- the send of a stored datum: it is sent and removed, or the link is broken
pub send_cases : (P : Reaction → Type 0) (core : Core) (range : NodeIds) (d : ℕ) →
    let m : Message = Pkt (first_body (bodies_in (maps.get core.store d))) d core.ip in
    (sets.contains range (nhop core.rt d) ≡ true → P (plain (record core { store = drop core.store d }) (casting (One (nhop core.rt d) m))))
    → P (broken_by (nhop core.rt d) (link_broken core (nhop core.rt d))) → P (send core range d)
unfolding send unicast
send_cases P core range d sent broken =
    if_case (λ did. P (drop_if_sent did d)) (sets.contains range (nhop core.rt d)) (plain core (casting (One (nhop core.rt d) (Pkt (first_body (bodies_in (maps.get core.store d))) d core.ip)))) (broken_by (nhop core.rt d) (link_broken core (nhop core.rt d)))
    sent (λ _. broken)
