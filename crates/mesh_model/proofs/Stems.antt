-- Where the valid entries of a table come from: from the table before, or from what was heard. And
-- that a node keeps its variant, and has seen no fewer requests.
use Rattle.std.proofs.Common.{◌≡◌, ◌⊎◌, ℕ, ◌+◌, true, ◌==◌, Some, None, Option, refl, ap, sym, ◌∙◌, arith, inl, inr}
use Rattle.std.proofs.lemmas.Bool.Decides.{nat_tests}
use Rattle.std.specs.FinMap as maps
use Rattle.std.specs.FinSet as sets
use Rattle.aodv_model.specs.declared.entry.Entry.{Entry}
use Rattle.aodv_model.specs.declared.entry.Flag.TheVariants.{Inv, Val}
use Rattle.aodv_model.proofs.Changes.{after_by, mapped_each, update_each}
use Rattle.aodv_model.proofs.Entries.{Same, if_case}
use Rattle.aodv_model.proofs.Lookups.{get-add_pre, get-invalidate}
use Rattle.aodv_model.specs.Cores.{Body, Core, Heard, Item, Message, New, Pkt, Rerr, RouteReply, RouteRequest, Rrep, Rreq, has_seen}
use Rattle.aodv_model.specs.Handlers.{Reaction, after_hearing, after_reply, after_request, ask, broken_by, forward_own_entry, forward_reply, forward_request, fresh_id, join_answer_precursors, join_reply_precursors, key_of, link_broken, neighbour_entry, on_message, on_new, on_pkt, on_rerr, one, only, reply_for_self, reply_from_table, retract, route_entry, send, turn, unicast}
use Rattle.aodv_model.specs.Tables.{Dests, Table, add_pre, invalidate, invalidated, add_pre_at, merge, nhop, unreachable_by, update}
use Rattle.mesh_base.specs.Members.{NodeIds}
use Rattle.mesh_model.specs.Worlds.{is_parcel}
use Rattle.mesh_model.specs.Kept.{is_near, is_route, is_announced}
use Rattle.mesh_model.proofs.MeshSteps.{has_more}
use Rattle.mesh_model.proofs.TrailTables.{near_shape, known_shape}
use Rattle.aodv_model.proofs.Reactions.{unicast_case, turn_cases, send_cases}

-- the table had an entry for q with the same number, flag, hops and next hop
pub record Had (old : Table) (q : ℕ) (e : Entry) : Type 0 where
  pub entry : Entry
  pub there : maps.get old q ≡ Some entry
  pub same : Same e entry

-- each valid entry was there
pub record Stays (old now : Table) : Type 0 where
  pub had : (q : ℕ) (e : Entry) → maps.get now q ≡ Some e → e.flag ≡ Val → Had old q e

-- the entry leads to the neighbour y, or is the route that y's message announced, or was there
abbrev pub IsFrom : ℕ → Message → Table → ℕ → Entry → Type 0
IsFrom y m old q e = (is_near y q e ≡ true) ⊎ ((is_announced y m q e ≡ true) ⊎ Had old q e)

pub record Stems (y : ℕ) (m : Message) (old now : Table) : Type 0 where
  pub from : (q : ℕ) (e : Entry) → maps.get now q ≡ Some e → e.flag ≡ Val → IsFrom y m old q e

same_entry : {e : Entry} → Same e e
same_entry = record { dsn = refl; flag = refl; hops = refl; next = refl }

same_then : {a b c : Entry} → Same a b → Same b c → Same a c
same_then p q = record { dsn = p.dsn ∙ q.dsn; flag = p.flag ∙ q.flag; hops = p.hops ∙ q.hops; next = p.next ∙ q.next }

had_then : {old : Table} {q : ℕ} {e s : Entry} → Same e s → Had old q s → Had old q e
had_then same h = record { entry = h.entry; there = h.there; same = same_then same h.same }

pub stays_none : (rt : Table) → Stays rt rt
stays_none rt = record { had = λ q e is valid. record { entry = e; there = is; same = same_entry } }

pub stays_then : (a b c : Table) → Stays a b → Stays b c → Stays a c
stays_then a b c first second = record {
  had = λ q e is valid. let h : Had b q e = second.had q e is valid in had_then h.same (first.had q h.entry h.there (sym h.same.flag ∙ valid));
}

pub stems_of : (y : ℕ) (m : Message) (old now : Table) → Stays old now → Stems y m old now
stems_of y m old now stays = record { from = λ q e is valid. inr (inr (stays.had q e is valid)) }

-- ---- changes of each entry

wrong : Inv ≡ Val → ⊥
wrong e = cc

abbrev HadWhere : Table → ℕ → Entry → Type 0
HadWhere rt q e = e.flag ≡ Val → Had rt q e

pub invalidate_stays : (rt : Table) (dests : Dests) → Stays rt (invalidate rt dests)
invalidate_stays rt dests = record {
  had = λ q e is. mapped_each (HadWhere rt) (λ d e. invalidated e (maps.get dests d)) q e (maps.get rt q) (sym (get-invalidate rt dests q) ∙ is) (λ s here. by (maps.get dests q) s q here);
}
  where
    by : (o : Option ℕ) (s : Entry) (q : ℕ) → maps.get rt q ≡ Some s → HadWhere rt q (invalidated s o)
    by None s q here = λ valid. record { entry = s; there = here; same = same_entry }
    by (Some n) s q here = λ valid. absurd (wrong valid)

pub add_pre_stays : (rt : Table) (d : ℕ) (nodes : NodeIds) → Stays rt (add_pre rt d nodes)
add_pre_stays rt d nodes = record {
  had = λ q e is. mapped_each (HadWhere rt) (add_pre_at d nodes) q e (maps.get rt q) (sym (get-add_pre rt d nodes q) ∙ is)
      (λ s here. if_case (HadWhere rt q) (q == d) (record s { pre = sets.union s.pre nodes }) s
      (λ _ valid. record { entry = s; there = here; same = record { dsn = refl; flag = refl; hops = refl; next = refl } })
      (λ _ valid. record { entry = s; there = here; same = same_entry }));
}

-- ---- updates

same_near : (y q : ℕ) (e s : Entry) → Same e s → is_near y q s ≡ true → is_near y q e ≡ true
same_near y q e s same is = rw (same.hops, same.next) is

same_route : (y d n h q : ℕ) (e s : Entry) → Same e s → is_route y d n h q s ≡ true → is_route y d n h q e ≡ true
same_route y d n h q e s same is = rw (same.dsn, same.hops, same.next) is

same_announced : (y : ℕ) (m : Message) (q : ℕ) (e s : Entry) → Same e s → is_announced y m q s ≡ true → is_announced y m q e ≡ true
same_announced y (Pkt b d o) q e s same is = is
same_announced y (Rreq m) q e s same is = same_route y m.oip m.osn m.hops q e s same is
same_announced y (Rrep m) q e s same is = same_route y m.dip m.dsn m.hops q e s same is
same_announced y (Rerr dests) q e s same is = is

pub from_then : (y : ℕ) (m : Message) (old : Table) (q : ℕ) (e s : Entry) → Same e s → IsFrom y m old q s → IsFrom y m old q e
from_then y m old q e s same (inl near) = inl (same_near y q e s same near)
from_then y m old q e s same (inr (inl announced)) = inr (inl (same_announced y m q e s same announced))
from_then y m old q e s same (inr (inr h)) = inr (inr (had_then same h))

pub stems_then : (y : ℕ) (m : Message) (a b c : Table) → Stems y m a b → Stems y m b c → Stems y m a c
stems_then y m a b c first second = record {
  from = λ q e is valid. elim (second.from q e is valid) [
    | inl near ↦ inl near
    | inr (inl announced) ↦ inr (inl announced)
    | inr (inr h) ↦ from_then y m a q e h.entry h.same (first.from q h.entry h.there (sym h.same.flag ∙ valid))
  ];
}

abbrev IsFromWhere : ℕ → Message → Table → ℕ → Entry → Type 0
IsFromWhere y m rt q e = e.flag ≡ Val → IsFrom y m rt q e

update_stems : (y : ℕ) (m : Message) (rt : Table) (d : ℕ) (r : Entry) → IsFrom y m rt d r → ((s : Entry) → maps.get rt d ≡ Some s → IsFrom y m rt d (merge s r)) → Stems y m rt (update rt d r)
update_stems y m rt d r new over = record {
  from = update_each (IsFromWhere y m rt) rt d r (λ q e is valid. inr (inr (record { entry = e; there = is; same = same_entry })))
      (after_by (IsFromWhere y m rt d) (maps.get rt d) r (λ _. new) (λ s is _. over s is));
}

pub itself : (n : ℕ) → (n == n) ≡ true
itself n = grind (arith, nat_tests)

is_near_of : (y : ℕ) (e : Entry) → e.hops ≡ 1 → e.next ≡ y → is_near y y e ≡ true
is_near_of y e hops next = rw (hops, next, itself y) refl

is_route_of : (y d n h : ℕ) → is_route y d n h d (route_entry n h y) ≡ true
is_route_of y d n h = rw (itself d, itself n, itself (h + 1), itself y) refl

pub hearing_stems : (m : Message) (rt : Table) (y : ℕ) → Stems y m rt (update rt y (neighbour_entry y))
hearing_stems m rt y =
    update_stems y m rt y (neighbour_entry y) (inl (is_near_of y (neighbour_entry y) refl refl))
    (λ s is. elim (near_shape s (neighbour_entry y) refl) [
      | inl same ↦ inr (inr (record { entry = s; there = is; same = same }))
      | inr p ↦ inl (is_near_of y (merge s (neighbour_entry y)) p.0 p.1)
    ])

pub route_stems : (y : ℕ) (m : Message) (rt : Table) (d n h : ℕ) → ((e : Entry) → is_route y d n h d e ≡ true → is_announced y m d e ≡ true) → Stems y m rt (update rt d (route_entry n h y))
route_stems y m rt d n h announced =
    let r : Entry = route_entry n h y in
    let new : IsFrom y m rt d r = inr (inl (announced r (is_route_of y d n h))) in
    update_stems y m rt d r new
    (λ s is. elim (known_shape s r refl) [
      | inl same ↦ inr (inr (record { entry = s; there = is; same = same }))
      | inr same ↦ from_then y m rt d (merge s r) r same new
    ])

-- ---- what stays at a break

-- each valid entry was there, and the variant and what was seen are as before
abbrev pub StaysIn : Core → Reaction → Type 0
StaysIn core did = Stays core.rt (did.core).rt × ((did.core).variant ≡ core.variant) × ((did.core).seen ≡ core.seen)

-- the core is as it was, but for its number and its store
same_stays : (core : Core) → StaysIn core (only core)
same_stays core = (stays_none core.rt, refl, refl)

retract_stays : (core : Core) (dests : Dests) → StaysIn core (retract core dests)
unfolding retract
retract_stays core dests = (invalidate_stays core.rt dests, refl, refl)

broken_stays : (core : Core) (y : ℕ) → StaysIn core (broken_by y (link_broken core y))
unfolding link_broken
broken_stays core y = retract_stays core (unreachable_by core.rt y)

unicast_stays : (core : Core) (m : Message) (y : ℕ) (range : NodeIds) → StaysIn core (unicast core m y range)
unicast_stays core m y range = unicast_case (StaysIn core) core m y range (λ _. same_stays core) (broken_stays core y)

-- the same where the table was changed first
joined_stays : (core : Core) (rt : Table) (m : Message) (y : ℕ) (range : NodeIds) → Stays core.rt rt → StaysIn core (unicast (record core { rt = rt }) m y range)
joined_stays core rt m y range joined =
    let t = unicast_stays (record core { rt = rt }) m y range in
    (stays_then core.rt rt (unicast (record core { rt = rt }) m y range).core.rt joined t.0, t.1, t.2)

join_answer_stays : (rt : Table) (d o from : ℕ) → Stays rt (join_answer_precursors rt d o from)
unfolding join_answer_precursors
join_answer_stays rt d o from =
    let rt1 = add_pre rt d (one from) in
    stays_then rt rt1 (add_pre rt1 o (one (nhop rt1 d))) (add_pre_stays rt d (one from)) (add_pre_stays rt1 o (one (nhop rt1 d)))

join_reply_stays : (rt : Table) (d o : ℕ) → Stays rt (join_reply_precursors rt d o)
unfolding join_reply_precursors
join_reply_stays rt d o =
    let rt1 = add_pre rt d (one (nhop rt o)) in
    stays_then rt rt1 (add_pre rt1 (nhop rt1 d) (one (nhop rt1 o))) (add_pre_stays rt d (one (nhop rt o))) (add_pre_stays rt1 (nhop rt1 d) (one (nhop rt1 o)))

-- ---- turns

-- the variant is as before, and whatever was seen is seen
abbrev pub StaysSeen : Core → Core → Type 0
StaysSeen core now = (now.variant ≡ core.variant) × ((key : ℕ × ℕ) → has_seen core.seen key ≡ true → has_seen now.seen key ≡ true)

seen_stays : (core : Core) (did : Reaction) → StaysIn core did → StaysSeen core did.core
seen_stays core did t = (t.1, λ key e. ap (λ s. has_seen s key) t.2 ∙ e)

abbrev pub StemsIn : ℕ → Message → Core → Reaction → Type 0
StemsIn y m core did = Stems y m core.rt (did.core).rt × StaysSeen core did.core

-- what stays in a core to which this one came
stems_from : (y : ℕ) (m : Message) (core now : Core) (did : Reaction) → Stems y m core.rt now.rt → StaysSeen core now → StaysIn now did → StemsIn y m core did
stems_from y m core now did first seen t =
    let more = seen_stays now did t in
    (stems_then y m core.rt now.rt (did.core).rt first (stems_of y m now.rt (did.core).rt t.0), (more.0 ∙ seen.0, λ key e. more.1 key (seen.1 key e)))

request_stems : (core : Core) (y : ℕ) (m : RouteRequest) (did : Reaction) → StaysIn (after_request core y m) did → StemsIn y (Rreq m) core did
unfolding after_request after_hearing
request_stems core y m did =
    let near = (after_hearing core y).rt in
    let now = after_request core y m in
    stems_from y (Rreq m) core now did
    (stems_then y (Rreq m) core.rt near now.rt (hearing_stems (Rreq m) core.rt y) (route_stems y (Rreq m) near m.oip m.osn m.hops (λ e t. t))) (refl, λ q e. has_more core.seen (key_of core.variant m) q e)

reply_stems : (core : Core) (y : ℕ) (m : RouteReply) (did : Reaction) → StaysIn (after_reply core y m) did → StemsIn y (Rrep m) core did
unfolding after_reply after_hearing
reply_stems core y m did =
    let near = (after_hearing core y).rt in
    let now = after_reply core y m in
    stems_from y (Rrep m) core now did (stems_then y (Rrep m) core.rt near now.rt (hearing_stems (Rrep m) core.rt y) (route_stems y (Rrep m) near m.dip m.dsn m.hops (λ e t. t))) (refl, λ q e. e)

-- a datum, given or heard, changes no route
abbrev StaysOrStems : Core → Item → Reaction → Type 0
StaysOrStems core (New b d) did = StaysIn core did
StaysOrStems core (Heard y (Pkt b d o)) did = StaysIn core did
StaysOrStems core (Heard y (Rreq m)) did = StemsIn y (Rreq m) core did
StaysOrStems core (Heard y (Rrep m)) did = StemsIn y (Rrep m) core did
StaysOrStems core (Heard y (Rerr dests)) did = StemsIn y (Rerr dests) core did

turn_stems : (core : Core) (range : NodeIds) (item : Item) → StaysOrStems core item (turn core range item)
unfolding after_hearing reply_for_self reply_from_table forward_request forward_reply forward_own_entry on_rerr
turn_stems core range = turn_cases core range (StaysOrStems core) (record {
  own = λ b d _. same_stays core;
  stored = λ b d _. same_stays core;
  arrived = λ y b d o _. same_stays core;
  forwarded = λ y b d o _. unicast_stays core (Pkt b d o) (nhop core.rt d) range;
  dropped = λ y b d o. same_stays core;
  known = λ y m. (hearing_stems (Rreq m) core.rt y, (refl, λ q e. e));
  answered = λ y m _ _. request_stems core y m (reply_for_self (after_request core y m) range m) (unicast_stays (record (after_request core y m) { sn = _ }) _ _ range);
  vouched = λ y m _ _ _. request_stems core y m (reply_from_table (after_request core y m) range y m) (joined_stays (after_request core y m) _ _ _ range (join_answer_stays _ m.dip m.oip y));
  flooded = λ y m _. request_stems core y m (forward_request (after_request core y m) m) (same_stays (after_request core y m));
  ended = λ y m. reply_stems core y m (only (after_reply core y m)) (same_stays (after_reply core y m));
  passed = λ y m _. reply_stems core y m (forward_reply (after_reply core y m) range m) (joined_stays (after_reply core y m) _ _ _ range (join_reply_stays _ m.dip m.oip));
  restated = λ y m _. reply_stems core y m (forward_own_entry (after_reply core y m) range m) (joined_stays (after_reply core y m) _ _ _ range (join_reply_stays _ m.dip m.oip));
  withdrawn = λ y dests. stems_from y (Rerr dests) core (after_hearing core y) (on_rerr core y dests) (hearing_stems (Rerr dests) core.rt y) (refl, λ q e. e) (retract_stays (after_hearing core y) _);
})

pub new_stays : (core : Core) (b : Body) (d : ℕ) → StaysIn core (on_new core b d)
new_stays core b d = turn_stems core sets.empty (New b d)

pub message_stems : (core : Core) (range : NodeIds) (y : ℕ) (m : Message) → StemsIn y m core (on_message core range y m)
message_stems core range y (Pkt b d o) =
    let t = turn_stems core range (Heard y (Pkt b d o)) in (stems_of y (Pkt b d o) core.rt _ t.0, seen_stays core (on_pkt core range b d o) t)
message_stems core range y (Rreq m) = turn_stems core range (Heard y (Rreq m))
message_stems core range y (Rrep m) = turn_stems core range (Heard y (Rrep m))
message_stems core range y (Rerr dests) = turn_stems core range (Heard y (Rerr dests))

-- a data packet changes no route
pub parcel_stays : (core : Core) (range : NodeIds) (y : ℕ) (m : Message) → is_parcel m ≡ true → Stays core.rt (on_message core range y m).core.rt
parcel_stays core range y (Pkt b d o) is = (turn_stems core range (Heard y (Pkt b d o))).0
parcel_stays core range y (Rreq m) is = cc
parcel_stays core range y (Rrep m) is = cc
parcel_stays core range y (Rerr dests) is = cc

pub send_stays : (core : Core) (range : NodeIds) (d : ℕ) → StaysIn core (send core range d)
send_stays core range d = send_cases (StaysIn core) core range d (λ _. same_stays core) (broken_stays core (nhop core.rt d))

pub ask_stays : (core : Core) (d : ℕ) → Stays core.rt (ask core d).core.rt
unfolding ask
ask_stays core d = stays_none core.rt

-- ---- what is seen stays

pub turn_seen : (core : Core) (range : NodeIds) (item : Item) → StaysSeen core (turn core range item).core
turn_seen core range (New b d) = seen_stays core (on_new core b d) (new_stays core b d)
turn_seen core range (Heard y m) = (message_stems core range y m).1

pub send_seen : (core : Core) (range : NodeIds) (d : ℕ) → StaysSeen core (send core range d).core
send_seen core range d = seen_stays core (send core range d) (send_stays core range d)

pub ask_seen : (core : Core) (d : ℕ) → StaysSeen core (ask core d).core
unfolding ask
ask_seen core d = (refl, λ q e. has_more core.seen (core.ip, fresh_id core.variant core) q e)
