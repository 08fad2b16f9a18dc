-- Each request that a node casts has an id within its field: that of a request that it was told, or its own next one. And
-- each route error names a destination.
use Rattle.std.proofs.Common.{◌≡◌, ◌≢◌, ℕ, zero, suc, ◌+◌, ◌≤◌, cond, Some, None, refl, sym, ap, ◌∙◌, eq-eqb, arith}
use Rattle.std.specs.Prelude.{⊤}
use Rattle.std.specs.Ordering.{nat_cmp}
use Rattle.std.specs.Cmp.{nat_cmp_total, unsigned_tied}
use Rattle.std.specs.FinMap as maps
use Rattle.std.proofs.lemmas.Bool.Decides.{nat_tests}
use Rattle.std.proofs.lemmas.Option.{none-some}
use Rattle.mesh_base.specs.Members.{NodeIds}
use Rattle.mesh_base.specs.declared.events.Variant.{Variant}
use Rattle.mesh_base.specs.declared.events.Variant.TheVariants as variants
use Rattle.aodv_model.specs.Quality.{inc}
use Rattle.aodv_model.specs.Tables.{Table, Dests, sqn, nhop, unreachable_by}
use Rattle.aodv_model.specs.Cores.{Message, Pkt, Rreq, Rrep, Rerr, Item, New, Heard, Core, last_request_id, next_request_id}
use Rattle.aodv_model.specs.Handlers.{Cast, Nothing, One, Many, All, Reaction, broken_by, error_cast, retract, link_broken, unicast, reply_for_self, reply_from_table, forward_request, forward_reply, forward_own_entry, on_rerr, turn, send, fresh_id, ask}
use Rattle.aodv_model.specs.Fullness.{greatest, ask_full}
use Rattle.aodv_model.proofs.Numbers.{IsCoreWithin, own_last_within, ask_below}
use Rattle.aodv_meaning.proofs.Means.{not_zero}
use Rattle.aodv_handlers.proofs.RouteErrors.{some_told}
use Rattle.aodv_model.proofs.Reactions.{unicast_case, error_case, data_error_case, turn_cases, send_cases}

-- the id of a request, and the destinations of a route error
abbrev pub IsSendable : Message → Type 0
IsSendable (Pkt b d o) = ⊤
IsSendable (Rreq m) = m.id ≤ greatest
IsSendable (Rrep m) = ⊤
IsSendable (Rerr dests) = 1 ≤ maps.len dests

abbrev pub IsSendableItem : Item → Type 0
IsSendableItem (New b d) = ⊤
IsSendableItem (Heard from m) = IsSendable m

abbrev pub IsSendableCast : Cast → Type 0
IsSendableCast Nothing = ⊤
IsSendableCast (One y m) = IsSendable m
IsSendableCast (Many s m) = IsSendable m
IsSendableCast (All m) = IsSendable m

abbrev Casts : Reaction → Type 0
Casts did = IsSendableCast (did.effect).cast

-- ---- errors and unicasts

error_casts : (variant : Variant) (rt : Table) (dests : Dests) → IsSendableCast (error_cast variant rt dests)
error_casts variant rt dests = error_case IsSendableCast variant rt dests tt (λ some. not_zero (maps.len dests) some) (λ some. some_told variants.Base rt dests refl some)

broken_casts : (core : Core) (y : ℕ) → Casts (broken_by y (link_broken core y))
unfolding link_broken retract
broken_casts core y = error_casts core.variant core.rt (unreachable_by core.rt y)

unicast_casts : (core : Core) (m : Message) (y : ℕ) (range : NodeIds) → IsSendable m → Casts (unicast core m y range)
unicast_casts core m y range has = unicast_case Casts core m y range (λ _. has) (broken_casts core y)

single : (d n : ℕ) → 1 ≤ maps.len (maps.insert {R = nat_cmp} maps.empty d n)
single d n = above (maps.len (maps.insert maps.empty d n)) refl
  where
    found : maps.get (maps.insert {R = nat_cmp} maps.empty d n) d ≡ Some n
    found = maps.get-insert nat_cmp_total maps.empty d n d ∙ ap (λ b. cond b (Some n) (maps.get {R = nat_cmp} maps.empty d)) (unsigned_tied d d ∙ eq-eqb d d refl)

    above : (k : ℕ) → maps.len (maps.insert {R = nat_cmp} maps.empty d n) ≡ k → 1 ≤ k
    above zero none = absurd (none-some n (sym (ap (λ m. maps.get m d) (maps.empty_of_len (maps.insert maps.empty d n) none) ∙ maps.get-empty nat_cmp d) ∙ found))
    above (suc k) is = omega arith

-- ---- what a node does

pub turn_casts : (core : Core) (range : NodeIds) (item : Item) → IsSendableItem item → IsSendableCast ((turn core range item).effect).cast
unfolding reply_for_self reply_from_table forward_request forward_reply forward_own_entry on_rerr retract
turn_casts core range = turn_cases core range (λ item did. IsSendableItem item → Casts did) (record {
  own = λ b d _ has. tt;
  stored = λ b d _ has. tt;
  arrived = λ from b d o _ has. tt;
  forwarded = λ from b d o _ has. unicast_casts core (Pkt b d o) (nhop core.rt d) range tt;
  dropped = λ from b d o has. data_error_case IsSendableCast core d tt (single d (sqn core.rt d)) (λ _. single d (sqn core.rt d));
  known = λ from m has. tt;
  answered = λ from m _ _ has. unicast_casts _ _ _ range tt;
  vouched = λ from m _ _ _ has. unicast_casts _ _ _ range tt;
  flooded = λ from m _ has. has;
  ended = λ from m has. tt;
  passed = λ from m _ has. unicast_casts _ _ _ range tt;
  restated = λ from m _ has. unicast_casts _ _ _ range tt;
  withdrawn = λ from dests has. error_casts _ _ _;
})

pub send_casts : (core : Core) (range : NodeIds) (d : ℕ) → IsSendableCast ((send core range d).effect).cast
send_casts core range d = send_cases Casts core range d (λ _. tt) (broken_casts core (nhop core.rt d))

-- the node's own next id
fresh_within : (core : Core) (ip : ℕ) → IsCoreWithin greatest ip core → core.sn ≢ greatest → fresh_id core.variant core ≤ greatest
unfolding next_request_id
fresh_within core ip within apart =
    let next : inc core.sn ≤ greatest = raised core.sn within.own apart in
    let last = own_last_within greatest ip core within in
    by core.variant next (another (last_request_id core.seen core.ip) core.sn last within.own apart)
  where
    raised : (n : ℕ) → n ≤ greatest → n ≢ greatest → inc n ≤ greatest
    raised n few apart = grind (arith, nat_tests)

    another : (k n : ℕ) → k ≤ n → n ≤ greatest → n ≢ greatest → k + 1 ≤ greatest
    another k n few most apart = grind (arith, nat_tests)

    by : (v : Variant) → inc core.sn ≤ greatest → last_request_id core.seen core.ip + 1 ≤ greatest → fresh_id v core ≤ greatest
    by variants.Base next id = id
    by variants.Number next id = next
    by variants.Reply next id = id
    by variants.Error next id = id

pub ask_casts : (core : Core) (ip d : ℕ) → IsCoreWithin greatest ip core → ask_full core ≡ None → IsSendableCast ((ask core d).effect).cast
unfolding ask
ask_casts core ip d within free = fresh_within core ip within (ask_below core free)
