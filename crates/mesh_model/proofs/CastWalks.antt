-- What a turn, a send or a request casts has the walk that `sent_list` and `own_list` state for it.
use Rattle.std.proofs.Common.{◌≡◌, ◌≢◌, ◌⊎◌, ℕ, ◌+◌, ◌≤◌, true, false, ◌||◌, ◌==◌, List, [], ◌∷◌, length, Some, None, Option, refl, ap, sym, ◌∙◌, subst, arith, inl, inr}
use Rattle.std.specs.Prelude.{⊤, max}
use Rattle.std.specs.List.{AllByRecursion}
use Rattle.std.proofs.lemmas.Bool.{eqb-true}
use Rattle.std.proofs.lemmas.Bool.Decides.{nat_tests}
use Rattle.std.specs.Ordering.{eq_by_cmp, is_eq}
use Rattle.std.specs.Cmp.{tied_itself}
use Rattle.std.specs.FinMap as maps
use Rattle.std.specs.FinSet as sets
use Rattle.aodv_model.specs.Quality.{inc, is_kno}
use Rattle.aodv_model.specs.declared.entry.Entry.{Entry}
use Rattle.aodv_model.specs.declared.entry.Flag.TheVariants.{Val}
use Rattle.aodv_model.specs.declared.entry.Known.TheVariants.{Kno}
use Rattle.aodv_model.proofs.Entries.{if_case}
use Rattle.aodv_model.proofs.Lookups.{get-update}
use Rattle.aodv_model.proofs.PairLaws.{pair_cmp_total}
use Rattle.aodv_model.proofs.Readings.{join_answer_alike, join_reply_alike, known_number, valid_flag}
use Rattle.aodv_model.specs.Cores.{Body, Core, Message, Pkt, Rerr, RouteReply, RouteRequest, Rrep, Rreq, add, has_seen, Item, New, Heard}
use Rattle.aodv_model.specs.Handlers.{All, Cast, Many, Nothing, One, Reaction, after_hearing, after_reply, after_request, ask, broken_by, can_answer, is_stale, delivering, error_cast, forward_own_entry, forward_reply, forward_request, fresh_id, join_answer_precursors, join_reply_precursors, key_of, link_broken, on_message, on_new, on_rerr, only, plain, reply_for_self, reply_from_table, retract, route_entry, send, unicast}
use Rattle.aodv_model.specs.Pairs.{Pairs, pair_cmp}
use Rattle.aodv_model.specs.Tables.{Dests, Table, dhops, entry_after, hops_in, in_vD, is_valid_in, merge, nhop, number_in, sqn, sqnf, status_in, unreachable_by, update}
use Rattle.mesh_base.specs.Members.{NodeIds}
use Rattle.mesh_base.specs.declared.events.Variant.{Variant}
use Rattle.mesh_base.specs.declared.events.Variant.TheVariants.{Base, Error, Number, Reply}
use Rattle.mesh_model.proofs.Leads.{IsFine, Leads}
use Rattle.mesh_model.proofs.Lists.{each_map}
use Rattle.mesh_model.proofs.TrailTables.{stale_there}
use Rattle.mesh_model.proofs.Turns.{IsFit, after_reply_leads, after_reply_reaches, after_request_leads, after_request_reaches, at_least_number, join_answer_leads, join_reply_leads, own_at_least}
use Rattle.mesh_model.specs.Invariants.{AtLeast, IsAtLeast, IsHonest}
use Rattle.mesh_model.specs.Trails.{Around, IsAbsent, IsBackedWalk, front}
use Rattle.mesh_model.specs.Worlds.{are_linked}
use Rattle.mesh_model.specs.Held.{EntriesHold, IsEntryWalk, IsRequestWalk, MessageHolds}
use Rattle.mesh_model.specs.Kept.{entries_after, own_list, sent_list}
use Rattle.aodv_model.proofs.Reactions.{unicast_case, error_case, data_error_case, ReactionCases, turn_cases, send_cases}

-- ---- what a node knows of a walk

-- the rest of a walk to d that begins at the core
abbrev pub Begins : Around → Core → ℕ → ℕ → List ℕ → Type 0
Begins a core d n [] = core.ip ≡ d
Begins a core d n (y ∷ ys) = (are_linked a.ever y core.ip ≡ true) × (1 ≤ n) × AtLeast core.rt d n (length (y ∷ ys)) × IsAbsent core.ip (front (y ∷ ys)) × IsBackedWalk a d n (y ∷ ys)

-- the core is the one that is around, or has more
pub record IsHere (a : Around) (core : Core) : Type 0 where
  pub variant : core.variant ≡ a.variant
  pub tables : (d n h : ℕ) → 1 ≤ n → AtLeast (a.tables core.ip) d n h → AtLeast core.rt d n h
  pub seen : (key : ℕ × ℕ) → has_seen (a.seen core.ip) key ≡ true → has_seen core.seen key ≡ true

front_absent : (x : ℕ) (zs : List ℕ) → IsAbsent x zs → IsAbsent x (front zs)
front_absent x [] all = tt
front_absent x (z ∷ []) all = tt
front_absent x (z ∷ (y ∷ ys)) all = (all.0, front_absent x (y ∷ ys) all.1)

-- a node that hasn't seen the request isn't on its walk
unseen : (a : Around) (core : Core) (key : ℕ × ℕ) (zs : List ℕ) → IsHere a core → has_seen core.seen key ≡ false → AllByRecursion (λ z. has_seen (a.seen z) key ≡ true) zs → IsAbsent core.ip zs
unseen a core key zs here new keys = each_map (λ z. has_seen (a.seen z) key ≡ true) (λ z. core.ip ≢ z) (λ z has e. wrong (sym (here.seen key (ap (λ k. has_seen (a.seen k) key) e ∙ has)) ∙ new)) zs keys
  where
    wrong : true ≡ false → ⊥
    wrong e = cc

has_new : (seen : Pairs) (key : ℕ × ℕ) → sets.contains (sets.insert seen key) key ≡ true
has_new seen key = sets.contains-insert pair_cmp_total seen key key ∙ itself
  where
    itself : (eq_by_cmp pair_cmp key key || sets.contains seen key) ≡ true
    itself = ap (λ b. b || sets.contains seen key) (ap is_eq (tied_itself pair_cmp_total key))

-- the same request, as it is passed on
same_key : (variant : Variant) (m : RouteRequest) (hops dsn : ℕ) → key_of variant (record m { hops = hops; dsn = dsn }) ≡ key_of variant m
same_key Base m hops dsn = refl
same_key Number m hops dsn = refl
same_key Reply m hops dsn = refl
same_key Error m hops dsn = refl

-- the key of a request of one's own
own_key : (variant : Variant) (core : Core) (m : RouteRequest) → m.oip ≡ core.ip → m.id ≡ fresh_id variant core → m.osn ≡ fresh_id Number core → key_of variant m ≡ (core.ip, fresh_id variant core)
own_key Base core m o i s = λ k. (o k, i k)
own_key Number core m o i s = λ k. (o k, s k)
own_key Reply core m o i s = λ k. (o k, i k)
own_key Error core m o i s = λ k. (o k, i k)

-- ---- what a node sends

-- the list is the walk of what the core sends of d
pub record SentBy (a : Around) (core : Core) (d n h : ℕ) (walk : List ℕ) : Type 0 where
  pub others : List ℕ
  pub is : walk ≡ core.ip ∷ others
  pub begins : Begins a core d n others
  pub long : length (core.ip ∷ others) ≡ h + 1

pub record SentKeyed (a : Around) (core : Core) (d n h : ℕ) (key : ℕ × ℕ) (walk : List ℕ) : Type 0 where
  pub others : List ℕ
  pub is : walk ≡ core.ip ∷ others
  pub begins : Begins a core d n others
  pub long : length (core.ip ∷ others) ≡ h + 1
  pub own : has_seen core.seen key ≡ true
  pub keys : AllByRecursion (λ z. has_seen (a.seen z) key ≡ true) others

abbrev pub IsSentBy : Around → Core → Message → List ℕ → Type 0
IsSentBy a core (Pkt b d o) walk = ⊤
IsSentBy a core (Rreq m) walk = SentKeyed a core m.oip m.osn m.hops (key_of a.variant m) walk
IsSentBy a core (Rrep m) walk = SentBy a core m.dip m.dsn m.hops walk
IsSentBy a core (Rerr dests) walk = ⊤

abbrev pub CastHolds : Around → Core → (Message → List ℕ) → Cast → Type 0
CastHolds a core list Nothing = ⊤
CastHolds a core list (One y m) = IsSentBy a core m (list m)
CastHolds a core list (Many s m) = IsSentBy a core m (list m)
CastHolds a core list (All m) = IsSentBy a core m (list m)

-- ---- what has no walk

-- nothing is said of the walk of a data packet or a route error
abbrev IsPlain : Message → Type 0
IsPlain (Pkt b d o) = ⊤
IsPlain (Rreq m) = ⊥
IsPlain (Rrep m) = ⊥
IsPlain (Rerr dests) = ⊤

plain_sent : (a : Around) (core : Core) (m : Message) (walk : List ℕ) → IsPlain m → IsSentBy a core m walk
plain_sent a core (Pkt b d o) walk is = tt
plain_sent a core (Rreq m) walk is = absurd is
plain_sent a core (Rrep m) walk is = absurd is
plain_sent a core (Rerr dests) walk is = tt

abbrev IsPlainCast : Cast → Type 0
IsPlainCast Nothing = ⊤
IsPlainCast (One y m) = IsPlain m
IsPlainCast (Many s m) = IsPlain m
IsPlainCast (All m) = IsPlain m

plain_holds : (a : Around) (core : Core) (list : Message → List ℕ) (c : Cast) → IsPlainCast c → CastHolds a core list c
plain_holds a core list Nothing is = tt
plain_holds a core list (One y m) is = plain_sent a core m (list m) is
plain_holds a core list (Many s m) is = plain_sent a core m (list m) is
plain_holds a core list (All m) is = plain_sent a core m (list m) is

error_plain : (variant : Variant) (rt : Table) (dests : Dests) → IsPlainCast (error_cast variant rt dests)
error_plain variant rt dests = error_case IsPlainCast variant rt dests tt (λ _. tt) (λ _. tt)

retract_holds : (a : Around) (list : Message → List ℕ) (core : Core) (dests : Dests) → CastHolds a (retract core dests).core list ((retract core dests).effect).cast
unfolding retract
retract_holds a list core dests = plain_holds a _ list (error_cast core.variant core.rt dests) (error_plain core.variant core.rt dests)

broken_holds : (a : Around) (list : Message → List ℕ) (core : Core) (y : ℕ) → CastHolds a (broken_by y (link_broken core y)).core list ((broken_by y (link_broken core y)).effect).cast
unfolding link_broken
broken_holds a list core y = retract_holds a list core (unreachable_by core.rt y)

-- ---- what is cast in a turn

-- x has heard m with list l from y: where its lists are walks of its entries afterwards, what it casts has its walk
abbrev pub Tells : Around → ℕ → ℕ → Message → List ℕ → (ℕ → List ℕ) → Reaction → Type 0
Tells a x y m l walks did =
    EntriesHold a x (did.core).rt (entries_after x y m l (did.core).rt walks) → CastHolds a did.core (sent_list x (entries_after x y m l (did.core).rt walks) m l) (did.effect).cast

unicast_tells : (a : Around) (x y : ℕ) (m : Message) (l : List ℕ) (walks : ℕ → List ℕ) (core : Core) (sent : Message) (to : ℕ) (range : NodeIds)
    → (EntriesHold a x core.rt (entries_after x y m l core.rt walks) → IsSentBy a core sent (sent_list x (entries_after x y m l core.rt walks) m l sent)) → Tells a x y m l walks (unicast core sent to range)
unicast_tells a x y m l walks core sent to range given = unicast_case (Tells a x y m l walks) core sent to range (λ _. given) (λ all. broken_holds a _ core to)

-- a node's own valid entry is a walk that it may send
own_sent : (a : Around) (core : Core) (d : ℕ) (walks : ℕ → List ℕ) (o : Option Entry) → maps.get core.rt d ≡ o → EntriesHold a core.ip core.rt walks → is_valid_in o ≡ true → 1 ≤ number_in o → AtLeast core.rt d (number_in o) (hops_in o) → SentBy a core d (number_in o) (hops_in o) (walks d)
own_sent a core d walks None is all valid one at = absurd (wrong valid)
  where
    wrong : false ≡ true → ⊥
    wrong e = cc
own_sent a core d walks (Some e) is all valid one at =
    let t : IsEntryWalk a core.ip d e.dsn e.hops e.next (walks d) = all d e is (valid_flag e.flag valid) in
    record { others = e.next ∷ t.others; is = t.is; begins = (t.linked, one, subst (AtLeast core.rt d e.dsn) (sym t.long) at, t.absent, t.backed); long = let l = t.long in omega arith }

-- ---- requests

reply_for_self_tells : (a : Around) (y : ℕ) (m : RouteRequest) (l : List ℕ) (walks : ℕ → List ℕ) (core : Core) (range : NodeIds) → (m.dip == core.ip) ≡ true → Tells a core.ip y (Rreq m) l walks (reply_for_self core range m)
unfolding reply_for_self
reply_for_self_tells a y m l walks core range own =
    unicast_tells a core.ip y (Rreq m) l walks _ _ _ range (λ all. record { others = []; is = rw own refl; begins = sym (eqb-true m.dip core.ip own); long = refl })

reply_from_table_tells : (tables : ℕ → Table) (a : Around) (y : ℕ) (m : RouteRequest) (l : List ℕ) (walks : ℕ → List ℕ) (core : Core) (range : NodeIds) → IsFine tables core.rt → (m.dip == core.ip) ≡ false → can_answer core m ≡ true → Tells a core.ip y (Rreq m) l walks (reply_from_table core range y m)
unfolding reply_from_table
reply_from_table_tells tables a y m l walks core range fine other can =
    let rt = join_answer_precursors core.rt m.dip m.oip y in
    let leads : Leads tables core.rt rt = join_answer_leads tables core.rt m.dip m.oip y fine in
    let valid : in_vD rt m.dip ≡ true = join_answer_alike is_valid_in core.rt m.dip m.oip y m.dip (λ e pre. refl) ∙ grind (arith, can) in
    let known : is_kno (sqnf rt m.dip) ≡ true = join_answer_alike (λ o. is_kno (status_in o)) core.rt m.dip m.oip y m.dip (λ e pre. refl) ∙ grind (arith, can) in
    unicast_tells a core.ip y (Rreq m) l walks _ _ _ range
    (λ all. rw other (own_sent a (record core { rt = rt }) m.dip (entries_after core.ip y (Rreq m) l rt walks) (maps.get rt m.dip) refl all valid (known_number rt m.dip (maps.get rt m.dip) leads.fine.sound refl known) (own_at_least rt m.dip valid)))

forward_request_tells : (tables : ℕ → Table) (a : Around) (y : ℕ) (m : RouteRequest) (l : List ℕ) (walks : ℕ → List ℕ) (core : Core) → IsHere a core → IsHonest (tables y) y (Rreq m) → are_linked a.ever y core.ip ≡ true
    → IsRequestWalk a y m.oip m.osn m.hops (key_of a.variant m) l → has_seen core.seen (key_of core.variant m) ≡ false → Tells a core.ip y (Rreq m) l walks (forward_request (after_request core y m) m)
unfolding after_request after_hearing forward_request
forward_request_tells tables a y m l walks core here honest linked t new all =
    let key = key_of core.variant m in
    let now = after_request core y m in
    let absent : IsAbsent core.ip (y ∷ t.others) = unseen a core key (y ∷ t.others) here new (subst (λ v. AllByRecursion (λ z. has_seen (a.seen z) (key_of v m) ≡ true) (y ∷ t.others)) (sym here.variant) t.keys) in
    record {
      others = y ∷ t.others;
      is = ap (λ k. core.ip ∷ k) t.is;
      begins = (linked, honest.0, subst (AtLeast now.rt m.oip m.osn) (sym t.long) (after_request_reaches core y m), front_absent core.ip (y ∷ t.others) absent, t.backed);
      long = let l = t.long in omega arith;
      own = subst (λ v. has_seen (sets.insert core.seen key) (key_of v (record m { hops = m.hops + 1; dsn = max (sqn now.rt m.dip) m.dsn })) ≡ true) here.variant (subst (λ k. has_seen (sets.insert core.seen key) k ≡ true) (sym (same_key core.variant m (m.hops + 1) (max (sqn now.rt m.dip) m.dsn))) (has_new core.seen key));
      keys = subst (λ k. AllByRecursion (λ z. has_seen (a.seen z) k ≡ true) (y ∷ t.others)) (sym (same_key a.variant m (m.hops + 1) (max (sqn now.rt m.dip) m.dsn))) t.keys;
    }

-- ---- replies

-- an entry over another has the number and hops that came, or the other was as good
record IsExact (e : Entry) (n h : ℕ) : Type 0 where
  dsn : e.dsn ≡ n
  hops : e.hops ≡ h
  flag : e.flag ≡ Val

exact_or : (s r : Entry) (n h : ℕ) → r.dsn ≡ n → r.hops ≡ h + 1 → r.flag ≡ Val → r.dsk ≡ Kno → (((merge s r).dsn ≡ n) × (((merge s r).hops ≡ h + 1) × ((merge s r).flag ≡ Val))) ⊎ IsAtLeast s n h
unfolding merge
exact_or s r n h dsn hops flag known = grind (arith, nat_tests)

-- a reply that isn't stale leaves an entry with its number and hops
fresh : (rt : Table) (d n h y : ℕ) (o : Option Entry) → maps.get rt d ≡ o → is_stale rt d (route_entry n h y) ≡ false → IsExact (entry_after o (route_entry n h y)) n (h + 1)
fresh rt d n h y None is new = record { dsn = refl; hops = refl; flag = refl }
fresh rt d n h y (Some s) is new = elim (exact_or s (route_entry n h y) n h refl refl refl refl) [
  | inl p ↦ record { dsn = p.0; hops = p.1.0; flag = p.1.1 }
  | inr least ↦ absurd (wrong (sym new ∙ stale_there rt d n h h y (record { entry = s; there = is; enough = least }) (omega arith)))
]
  where
    wrong : false ≡ true → ⊥
    wrong e = cc

updated : (rt : Table) (d : ℕ) (r : Entry) → maps.get (update rt d r) d ≡ Some (entry_after (maps.get rt d) r)
updated rt d r = grind (arith, nat_tests, get-update rt d r d)

-- what the table says of d
record Says (rt : Table) (d n h : ℕ) : Type 0 where
  valid : in_vD rt d ≡ true
  number : sqn rt d ≡ n
  hops : dhops rt d ≡ h

says_of : (rt : Table) (d n h : ℕ) (e : Entry) → maps.get rt d ≡ Some e → IsExact e n h → Says rt d n h
says_of rt d n h e is exact = record { valid = rw (is, exact.flag) refl; number = rw is exact.dsn; hops = rw is exact.hops }

-- a reply that isn't stale is what the table says of its destination afterwards
reply_says : (core : Core) (y : ℕ) (m : RouteReply) → is_stale (after_hearing core y).rt m.dip (route_entry m.dsn m.hops y) ≡ false → Says (after_reply core y m).rt m.dip m.dsn (m.hops + 1)
unfolding after_reply
reply_says core y m new =
    let near = (after_hearing core y).rt in
    let r : Entry = route_entry m.dsn m.hops y in
    says_of _ m.dip m.dsn (m.hops + 1) (entry_after (maps.get near m.dip) r) (updated near m.dip r) (fresh near m.dip m.dsn m.hops y (maps.get near m.dip) refl new)

forward_reply_tells : (a : Around) (y : ℕ) (m : RouteReply) (l : List ℕ) (walks : ℕ → List ℕ) (core : Core) (range : NodeIds) → 1 ≤ m.dsn → Says core.rt m.dip m.dsn (m.hops + 1) → Tells a core.ip y (Rrep m) l walks (forward_reply core range m)
unfolding forward_reply
forward_reply_tells a y m l walks core range one says =
    let rt = join_reply_precursors core.rt m.dip m.oip in
    let valid : in_vD rt m.dip ≡ true = join_reply_alike is_valid_in core.rt m.dip m.oip m.dip (λ e pre. refl) ∙ says.valid in
    let number : sqn rt m.dip ≡ m.dsn = join_reply_alike number_in core.rt m.dip m.oip m.dip (λ e pre. refl) ∙ says.number in
    let hops : dhops rt m.dip ≡ m.hops + 1 = join_reply_alike hops_in core.rt m.dip m.oip m.dip (λ e pre. refl) ∙ says.hops in
    unicast_tells a core.ip y (Rrep m) l walks _ _ _ range
    (λ all.
    let walk : List ℕ = entries_after core.ip y (Rrep m) l rt walks m.dip in
    let sent : SentBy a (record core { rt = rt }) m.dip (sqn rt m.dip) (dhops rt m.dip) walk = own_sent a (record core { rt = rt }) m.dip (entries_after core.ip y (Rrep m) l rt walks) (maps.get rt m.dip) refl all valid (omega arith) (own_at_least rt m.dip valid) in
    subst (λ n. SentBy a (record core { rt = rt }) m.dip n (m.hops + 1) walk) number (subst (λ h. SentBy a (record core { rt = rt }) m.dip (sqn rt m.dip) h walk) hops sent))

forward_own_entry_tells : (tables : ℕ → Table) (a : Around) (y : ℕ) (m : RouteReply) (l : List ℕ) (walks : ℕ → List ℕ) (core : Core) (range : NodeIds) → IsFine tables core.rt → 1 ≤ m.dsn → AtLeast core.rt m.dip m.dsn (m.hops + 1) → in_vD core.rt m.dip ≡ true → Tells a core.ip y (Rrep m) l walks (forward_own_entry core range m)
unfolding forward_own_entry
forward_own_entry_tells tables a y m l walks core range fine one at valid =
    let rt = join_reply_precursors core.rt m.dip m.oip in
    let leads : Leads tables core.rt rt = join_reply_leads tables core.rt m.dip m.oip fine in
    let above : m.dsn ≤ sqn rt m.dip = at_least_number rt m.dip m.dsn (m.hops + 1) (leads.grows.keeps m.dip m.dsn (m.hops + 1) one at) in
    let valid' : in_vD rt m.dip ≡ true = join_reply_alike is_valid_in core.rt m.dip m.oip m.dip (λ e pre. refl) ∙ valid in
    unicast_tells a core.ip y (Rrep m) l walks _ _ _ range
    (λ all. own_sent a (record core { rt = rt }) m.dip (entries_after core.ip y (Rrep m) l rt walks) (maps.get rt m.dip) refl all valid' (omega arith) (own_at_least rt m.dip valid'))

-- ---- all

-- what is owed of a turn with the item
abbrev Owes : (tables : ℕ → Table) → Around → Core → List ℕ → (ℕ → List ℕ) → Item → Reaction → Type 0
Owes tables a core l walks (New b d) did = ⊤
Owes tables a core l walks (Heard y m) did = IsHonest (tables y) y m → are_linked a.ever y core.ip ≡ true → MessageHolds a y m l → Tells a core.ip y m l walks did

tells : (tables : ℕ → Table) (a : Around) (core : Core) (range : NodeIds) (l : List ℕ) (walks : ℕ → List ℕ) → IsFit tables core → IsHere a core → ReactionCases core range (Owes tables a core l walks)
unfolding after_request after_reply after_hearing on_rerr
tells tables a core range l walks fit here = record {
  own = λ b d _. tt;
  stored = λ b d _. tt;
  arrived = λ y b d o _ honest linked t all. tt;
  forwarded = λ y b d o _ honest linked t. unicast_tells a core.ip y (Pkt b d o) l walks core (Pkt b d o) (nhop core.rt d) range (λ all. tt);
  dropped = λ y b d o honest linked t all. data_error_case (CastHolds a core _) core d tt tt (λ _. tt);
  known = λ y m honest linked t all. tt;
  answered = λ y m _ own honest linked t. reply_for_self_tells a y m l walks (after_request core y m) range own;
  vouched = λ y m _ other can honest linked t. reply_from_table_tells tables a y m l walks (after_request core y m) range (after_request_leads tables core y m fit.fine honest).fine other can;
  flooded = λ y m new honest linked t. forward_request_tells tables a y m l walks core here honest linked t new;
  ended = λ y m honest linked t all. tt;
  passed = λ y m new honest linked t. forward_reply_tells a y m l walks (after_reply core y m) range honest.0 (reply_says core y m new);
  restated = λ y m valid honest linked t.
      forward_own_entry_tells tables a y m l walks (after_reply core y m) range (after_reply_leads tables core y m fit.fine honest).fine honest.0 (after_reply_reaches core y m) valid;
  withdrawn = λ y dests honest linked t all. retract_holds a _ (after_hearing core y) _;
}

pub message_tells : (tables : ℕ → Table) (a : Around) (y : ℕ) (m : Message) (l : List ℕ) (walks : ℕ → List ℕ) (core : Core) (range : NodeIds) → IsFit tables core → IsHere a core → IsHonest (tables y) y m → are_linked a.ever y core.ip ≡ true → MessageHolds a y m l → Tells a core.ip y m l walks (on_message core range y m)
message_tells tables a y m l walks core range fit here = turn_cases core range (Owes tables a core l walks) (tells tables a core range l walks fit here) (Heard y m)

-- a datum that is given casts nothing
pub new_holds : (a : Around) (list : Message → List ℕ) (core : Core) (b : Body) (d : ℕ) → CastHolds a (on_new core b d).core list ((on_new core b d).effect).cast
unfolding on_new
new_holds a list core b d =
    if_case (λ (did : Reaction). CastHolds a did.core list (did.effect).cast) (d == core.ip) (plain core delivering) (only (record core { store = add core.store d b }))
    (λ _. tt) (λ _. tt)

-- ---- of a node's own accord

abbrev IsPlainDone : Reaction → Type 0
IsPlainDone did = IsPlainCast (did.effect).cast

send_plain : (core : Core) (range : NodeIds) (d : ℕ) → IsPlainDone (send core range d)
unfolding link_broken retract
send_plain core range d = send_cases IsPlainDone core range d (λ _. tt) (error_plain core.variant core.rt (unreachable_by core.rt (nhop core.rt d)))

pub send_holds : (a : Around) (list : Message → List ℕ) (core : Core) (range : NodeIds) (d : ℕ) → CastHolds a (send core range d).core list ((send core range d).effect).cast
send_holds a list core range d = plain_holds a (send core range d).core list ((send core range d).effect).cast (send_plain core range d)

asking : Core → ℕ → RouteRequest
asking core d = record { hops = 0; id = fresh_id core.variant core; dip = d; dsn = sqn core.rt d; dsk = sqnf core.rt d; oip = core.ip; osn = inc core.sn }

pub ask_holds : (a : Around) (core : Core) (d : ℕ) → IsHere a core → CastHolds a (ask core d).core (own_list core.ip) ((ask core d).effect).cast
unfolding ask asking
ask_holds a core d here = record {
  others = [];
  is = refl;
  begins = refl;
  long = refl;
  own = subst (λ v. has_seen (sets.insert core.seen (core.ip, fresh_id core.variant core)) (key_of v (asking core d)) ≡ true) here.variant (subst (λ k. has_seen (sets.insert core.seen (core.ip, fresh_id core.variant core)) k ≡ true) (sym (own_key core.variant core (asking core d) refl refl refl)) (has_new core.seen (core.ip, fresh_id core.variant core)));
  keys = tt;
}
