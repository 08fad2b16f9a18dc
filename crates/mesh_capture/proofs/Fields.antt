-- What a node does keeps the hops of its entries, and the ids of the requests that it has seen,
-- within their fields. So are the hops and the ids of what it casts.
use Rattle.std.proofs.Common.{◌≡◌, ◌≢◌, ℕ, ◌+◌, ◌≤◌, Bool, true, false, not, ◌&&◌, ◌||◌, ◌==◌, Option, Some, None, refl, sym, ap, ◌∙◌, subst, arith}
use Rattle.std.specs.Prelude.{if◌then◌else◌, ⊤}
use Rattle.std.specs.FinMap as maps
use Rattle.std.specs.FinSet as sets
use Rattle.std.specs.Ordering.{nat_cmp, eq_by_cmp}
use Rattle.std.specs.Cmp.{Equal-is}
use Rattle.std.proofs.lemmas.Bool.Decides.{nat_tests}
use Rattle.std.proofs.lemmas.Option.{none-some}
use Rattle.mesh_base.specs.Members.{NodeIds}
use Rattle.mesh_base.specs.declared.events.Full.TheVariants as full
use Rattle.mesh_base.specs.declared.events.Variant.{Variant}
use Rattle.mesh_base.specs.declared.events.Variant.TheVariants as variants
use Rattle.aodv_model.specs.declared.entry.Entry.{Entry}
use Rattle.aodv_model.specs.Quality.{inc}
use Rattle.aodv_model.specs.Pairs.{Pairs, pair_cmp}
use Rattle.aodv_model.specs.Tables.{Table, Dests, update, merge, invalidate, invalidated, add_pre, add_pre_at, nhop, dhops, hops_in, unreachable_by}
use Rattle.aodv_model.specs.Cores.{RouteRequest, RouteReply, Message, Pkt, Rreq, Rrep, Rerr, Item, New, Heard, Core, SeenRequests, has_seen, last_request_id, next_request_id, opening}
use Rattle.aodv_model.specs.Handlers.{Cast, Nothing, One, Many, All, Reaction, one, broken_by, error_cast, retract, link_broken, unicast, neighbour_entry, route_entry, after_hearing, key_of, after_request, reply_for_self, join_answer_precursors, reply_from_table, forward_request, after_reply, join_reply_precursors, forward_reply, forward_own_entry, on_rerr, turn, send, fresh_id, ask}
use Rattle.aodv_model.specs.Fullness.{greatest, greatest_hops, is_hop_full, is_number_full, after_learning, turn_full, ask_full}
use Rattle.aodv_model.proofs.Changes.{after_by, mapped_each, update_each}
use Rattle.aodv_model.proofs.Entries.{if_case}
use Rattle.aodv_model.proofs.Lookups.{get-add_pre, get-invalidate}
use Rattle.aodv_model.proofs.Numbers.{IsCoreWithin, IsItemWithin, own_last_within, ask_below}
use Rattle.aodv_model.proofs.PairLaws.{pair_cmp_total, same_pair}
use Rattle.aodv_model.proofs.Reactions.{unicast_case, error_case, data_error_case, ReactionCases, turn_cases, send_cases}

-- ---- what is kept

-- the hops of each entry, be it valid or not
abbrev pub AreShortRoutes : Table → Type 0
AreShortRoutes rt = (d : ℕ) (e : Entry) → maps.get rt d ≡ Some e → e.hops ≤ greatest_hops

-- the second number of each request that was seen
abbrev pub AreSeenWithin : SeenRequests → Type 0
AreSeenWithin seen = (p : ℕ × ℕ) → sets.contains seen p ≡ true → p.1 ≤ greatest

-- the hops of a message, and the id of a request
abbrev pub IsFitting : Message → Type 0
IsFitting (Pkt b d o) = ⊤
IsFitting (Rreq m) = (m.hops ≤ greatest_hops) × (m.id ≤ greatest)
IsFitting (Rrep m) = m.hops ≤ greatest_hops
IsFitting (Rerr dests) = ⊤

abbrev pub IsFittingItem : Item → Type 0
IsFittingItem (New b d) = ⊤
IsFittingItem (Heard from m) = IsFitting m

abbrev pub IsFittingCast : Cast → Type 0
IsFittingCast Nothing = ⊤
IsFittingCast (One y m) = IsFitting m
IsFittingCast (Many s m) = IsFitting m
IsFittingCast (All m) = IsFitting m

pub record IsFittingCore (core : Core) : Type 0 where
  pub hops : AreShortRoutes core.rt
  pub seen : AreSeenWithin core.seen

pub record IsFittingReaction (did : Reaction) : Type 0 where
  pub core : IsFittingCore did.core
  pub cast : IsFittingCast (did.effect).cast

-- ---- tables

merged_short : (s r : Entry) → s.hops ≤ greatest_hops → r.hops ≤ greatest_hops → (merge s r).hops ≤ greatest_hops
unfolding merge
merged_short s r a b = grind (arith, nat_tests)

update_short : (rt : Table) (d : ℕ) (r : Entry) → AreShortRoutes rt → r.hops ≤ greatest_hops → AreShortRoutes (update rt d r)
update_short rt d r all few = update_each (λ q e. e.hops ≤ greatest_hops) rt d r all (after_by (λ e. e.hops ≤ greatest_hops) (maps.get rt d) r few (λ s is. merged_short s r (all d s is) few))

invalidated_short : (e : Entry) (o : Option ℕ) → e.hops ≤ greatest_hops → (invalidated e o).hops ≤ greatest_hops
invalidated_short e None few = few
invalidated_short e (Some n) few = few

invalidate_short : (rt : Table) (dests : Dests) → AreShortRoutes rt → AreShortRoutes (invalidate rt dests)
invalidate_short rt dests all q e is =
    mapped_each (λ q e. e.hops ≤ greatest_hops) (λ d e. invalidated e (maps.get dests d)) q e (maps.get rt q) (sym (get-invalidate rt dests q) ∙ is)
    (λ x here. invalidated_short x (maps.get dests q) (all q x here))

add_pre_short : (rt : Table) (d : ℕ) (nodes : NodeIds) → AreShortRoutes rt → AreShortRoutes (add_pre rt d nodes)
add_pre_short rt d nodes all q e is =
    mapped_each (λ q e. e.hops ≤ greatest_hops) (add_pre_at d nodes) q e (maps.get rt q) (sym (get-add_pre rt d nodes q) ∙ is)
    (λ x here. if_case (λ e. e.hops ≤ greatest_hops) (q == d) (record x { pre = sets.union x.pre nodes }) x (λ _. all q x here) (λ _. all q x here))

join_answer_short : (rt : Table) (d o from : ℕ) → AreShortRoutes rt → AreShortRoutes (join_answer_precursors rt d o from)
unfolding join_answer_precursors
join_answer_short rt d o from all = let rt1 = add_pre rt d (one from) in add_pre_short rt1 o (one (nhop rt1 d)) (add_pre_short rt d (one from) all)

join_reply_short : (rt : Table) (d o : ℕ) → AreShortRoutes rt → AreShortRoutes (join_reply_precursors rt d o)
unfolding join_reply_precursors
join_reply_short rt d o all = let rt1 = add_pre rt d (one (nhop rt o)) in add_pre_short rt1 (nhop rt1 d) (one (nhop rt1 o)) (add_pre_short rt d (one (nhop rt o)) all)

dhops_short : (rt : Table) (d : ℕ) → AreShortRoutes rt → dhops rt d ≤ greatest_hops
dhops_short rt d all = at (maps.get rt d) refl
  where
    at : (o : Option Entry) → maps.get rt d ≡ o → hops_in o ≤ greatest_hops
    at None is = omega arith
    at (Some e) is = all d e is

with_table : (core : Core) (rt : Table) → IsFittingCore core → AreShortRoutes rt → IsFittingCore (record core { rt = rt })
with_table core rt is all = record { hops = all; seen = is.seen }

-- ---- requests that were seen

seen_more : (seen : Pairs) (key : ℕ × ℕ) → AreSeenWithin seen → key.1 ≤ greatest → AreSeenWithin (sets.insert seen key)
seen_more seen key all few p is = at (eq_by_cmp pair_cmp p key) refl (sym (sets.contains-insert pair_cmp_total seen key p) ∙ is)
  where
    at : (b : Bool) → eq_by_cmp pair_cmp p key ≡ b → (b || sets.contains seen p) ≡ true → p.1 ≤ greatest
    at true same there = subst (λ (q : ℕ × ℕ). q.1 ≤ greatest) (sym (same_pair p key ((Equal-is (pair_cmp p key)).0 same))) few
    at false other there = all p there

key_within : (v : Variant) (m : RouteRequest) → m.id ≤ greatest → m.osn ≤ greatest → (key_of v m).1 ≤ greatest
key_within variants.Base m id osn = id
key_within variants.Number m id osn = osn
key_within variants.Reply m id osn = id
key_within variants.Error m id osn = id

-- ---- errors and unicasts

error_fits : (variant : Variant) (rt : Table) (dests : Dests) → IsFittingCast (error_cast variant rt dests)
error_fits variant rt dests = error_case IsFittingCast variant rt dests tt (λ _. tt) (λ _. tt)

retract_fits : (core : Core) (dests : Dests) → IsFittingCore core → IsFittingReaction (retract core dests)
unfolding retract
retract_fits core dests is = record {
  core = record { hops = invalidate_short core.rt dests is.hops; seen = is.seen };
  cast = error_fits core.variant core.rt dests;
}

broken_fits : (core : Core) (y : ℕ) → IsFittingCore core → IsFittingReaction (broken_by y (link_broken core y))
unfolding link_broken
broken_fits core y is = let p = retract_fits core (unreachable_by core.rt y) is in record { core = p.core; cast = p.cast }

unicast_fits : (core : Core) (m : Message) (y : ℕ) (range : NodeIds) → IsFittingCore core → IsFitting m → IsFittingReaction (unicast core m y range)
unicast_fits core m y range is fits = unicast_case IsFittingReaction core m y range (λ _. record { core = is; cast = fits }) (broken_fits core y is)

-- ---- turns

-- a hop count that isn't at the end of its field
room : (h : ℕ) (new : Bool) → h ≤ greatest_hops → ((h == greatest_hops) && new) ≡ false → new ≡ true → h + 1 ≤ greatest_hops
room h new few free is = grind (arith, nat_tests)

hearing_fits : (core : Core) (from : ℕ) → IsFittingCore core → IsFittingCore (after_hearing core from)
unfolding after_hearing
hearing_fits core from is = with_table core _ is (update_short core.rt from (neighbour_entry from) is.hops (omega arith))

-- a new request that isn't refused has room for one hop more
request_room : (core : Core) (from : ℕ) (m : RouteRequest) → has_seen core.seen (key_of core.variant m) ≡ false → IsFitting (Rreq m) → is_hop_full core (Heard from (Rreq m)) ≡ false → m.hops + 1 ≤ greatest_hops
request_room core from m new fits free = room m.hops (not (has_seen core.seen (key_of core.variant m))) fits.0 free (ap not new)

request_fits : (core : Core) (from : ℕ) (m : RouteRequest) → IsFittingCore core → m.hops + 1 ≤ greatest_hops → m.id ≤ greatest → m.osn ≤ greatest → IsFittingCore (after_request core from m)
unfolding after_request after_hearing
request_fits core from m is few id osn =
    let first : IsFittingCore (after_hearing core from) = hearing_fits core from is in
    record {
      hops = update_short (after_hearing core from).rt m.oip (route_entry m.osn m.hops from) first.hops few;
      seen = seen_more core.seen (key_of core.variant m) is.seen (key_within core.variant m id osn);
    }

reply_from_table_fits : (core : Core) (range : NodeIds) (from : ℕ) (m : RouteRequest) → IsFittingCore core → IsFittingReaction (reply_from_table core range from m)
unfolding reply_from_table
reply_from_table_fits core range from m is =
    let rt = join_answer_precursors core.rt m.dip m.oip from in
    let short : AreShortRoutes rt = join_answer_short core.rt m.dip m.oip from is.hops in
    unicast_fits _ _ _ range (with_table core rt is short) (dhops_short rt m.dip short)

-- so has a reply
reply_room : (h : ℕ) → h ≤ greatest_hops → (h == greatest_hops) ≡ false → h + 1 ≤ greatest_hops
reply_room h few free = grind (arith, nat_tests)

reply_fits : (core : Core) (from : ℕ) (m : RouteReply) → IsFittingCore core → m.hops + 1 ≤ greatest_hops → IsFittingCore (after_reply core from m)
unfolding after_reply
reply_fits core from m is few =
    let first : IsFittingCore (after_hearing core from) = hearing_fits core from is in
    with_table (after_hearing core from) _ first (update_short (after_hearing core from).rt m.dip (route_entry m.dsn m.hops from) first.hops few)

-- what is owed of a turn with the item
abbrev Owes : Core → Item → Reaction → Type 0
Owes core item did = IsFittingItem item → IsItemWithin greatest item → is_hop_full core item ≡ false → IsFittingReaction did

turned : (core : Core) (range : NodeIds) → IsFittingCore core → ReactionCases core range (Owes core)
unfolding reply_for_self forward_request forward_reply forward_own_entry on_rerr
turned core range is = record {
  own = λ b d _ fits within free. record { core = is; cast = tt };
  stored = λ b d _ fits within free. record { core = record { hops = is.hops; seen = is.seen }; cast = tt };
  arrived = λ from b d o _ fits within free. record { core = is; cast = tt };
  forwarded = λ from b d o _ fits within free. let p = unicast_fits core (Pkt b d o) (nhop core.rt d) range is tt in record { core = p.core; cast = p.cast };
  dropped = λ from b d o fits within free. record { core = is; cast = data_error_case IsFittingCast core d tt tt (λ _. tt) };
  known = λ from m fits within free. record { core = hearing_fits core from is; cast = tt };
  answered = λ from m new _ fits within free.
      let after = request_fits core from m is (request_room core from m new fits free) fits.1 within.1 in
      unicast_fits _ _ _ range (record { hops = after.hops; seen = after.seen }) (omega arith);
  vouched = λ from m new _ _ fits within free.
      reply_from_table_fits (after_request core from m) range from m (request_fits core from m is (request_room core from m new fits free) fits.1 within.1);
  flooded = λ from m new fits within free.
      let few = request_room core from m new fits free in record { core = request_fits core from m is few fits.1 within.1; cast = (few, fits.1) };
  ended = λ from m fits within free. record { core = reply_fits core from m is (reply_room m.hops fits free); cast = tt };
  passed = λ from m _ fits within free.
      let few = reply_room m.hops fits free in
      let after = reply_fits core from m is few in
      unicast_fits _ _ _ range (with_table (after_reply core from m) _ after (join_reply_short _ m.dip m.oip after.hops)) few;
  restated = λ from m _ fits within free.
      let after = reply_fits core from m is (reply_room m.hops fits free) in
      let short = join_reply_short (after_reply core from m).rt m.dip m.oip after.hops in
      unicast_fits _ _ _ range (with_table (after_reply core from m) _ after short) (dhops_short _ m.dip short);
  withdrawn = λ from dests fits within free. retract_fits _ _ (hearing_fits core from is);
}

free_hops : (a b : Bool) → (if a then Some full.Hops else if b then Some full.Number else None) ≡ None → a ≡ false
free_hops true b is = absurd (none-some full.Hops (sym is))
free_hops false b is = refl

pub turn_fits : (core : Core) (range : NodeIds) (item : Item) → IsFittingCore core → IsFittingItem item → IsItemWithin greatest item → turn_full core range item ≡ None → IsFittingReaction (turn core range item)
turn_fits core range item is fits within free =
    turn_cases core range (Owes core) (turned core range is) item fits within
    (free_hops (is_hop_full core item) (is_number_full (after_learning core item).rt ((turn core range item).effect).broken) free)

pub send_fits : (core : Core) (range : NodeIds) (d : ℕ) → IsFittingCore core → IsFittingReaction (send core range d)
send_fits core range d is = send_cases IsFittingReaction core range d (λ _. record { core = record { hops = is.hops; seen = is.seen }; cast = tt }) (broken_fits core (nhop core.rt d) is)

-- the node's own next id
fresh_within : (core : Core) (ip : ℕ) → IsCoreWithin greatest ip core → core.sn ≢ greatest → fresh_id core.variant core ≤ greatest
unfolding next_request_id
fresh_within core ip within apart =
    by core.variant (raised core.sn within.own apart) (another (last_request_id core.seen core.ip) core.sn (own_last_within greatest ip core within) within.own apart)
  where
    raised : (n : ℕ) → n ≤ greatest → n ≢ greatest → inc n ≤ greatest
    raised n few apart = grind (arith, nat_tests)

    another : (k n : ℕ) → k ≤ n → n ≤ greatest → n ≢ greatest → k + 1 ≤ greatest
    another k n few most apart = grind (arith, nat_tests)

    by : (v : Variant) → inc core.sn ≤ greatest → last_request_id core.seen core.ip + 1 ≤ greatest → fresh_id v core ≤ greatest
    by variants.Base next id = id
    by variants.Number next id = next
    by variants.Reply next id = id
    by variants.Error next id = id

pub ask_fits : (core : Core) (ip d : ℕ) → IsCoreWithin greatest ip core → IsFittingCore core → ask_full core ≡ None → IsFittingReaction (ask core d)
unfolding ask
ask_fits core ip d within is free =
    let id : fresh_id core.variant core ≤ greatest = fresh_within core ip within (ask_below core free) in
    record { core = record { hops = is.hops; seen = seen_more core.seen (core.ip, fresh_id core.variant core) is.seen id }; cast = (omega arith, id) }

pub opening_fits : (variant : Variant) (ip first : ℕ) → IsFittingCore (opening variant ip first)
opening_fits variant ip first = record {
  hops = λ d e there. absurd (none-some e (sym (maps.get-empty nat_cmp d) ∙ there));
  seen = λ p is. absurd (wrong (sym (sets.contains-empty pair_cmp p) ∙ is));
}
  where
    wrong : false ≡ true → ⊥
    wrong e = cc
