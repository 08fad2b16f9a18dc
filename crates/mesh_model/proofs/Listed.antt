-- Where lists are walks there are walks, and walks can be listed. The lists of a node's entries are
-- walks after a turn.
use Rattle.std.proofs.Common.{◌≡◌, ◌⊎◌, ℕ, ◌+◌, ◌<◌, ◌≤◌, true, false, List, [], ◌∷◌, length, Some, None, Option, refl, ap, sym, ◌∙◌, subst, arith, inl, inr}
use Rattle.std.specs.Prelude.{if◌then◌else◌}
use Rattle.std.specs.List.{AllByRecursion}
use Rattle.std.proofs.lemmas.Bool.Decides.{nat_tests}
use Rattle.std.proofs.lemmas.Option.{none-some, same_Some}
use Rattle.std.specs.FinMap as maps
use Rattle.mesh_base.specs.declared.events.Variant.{Variant}
use Rattle.aodv_model.specs.declared.entry.Entry.{Entry}
use Rattle.aodv_model.specs.declared.entry.Flag.{Flag}
use Rattle.aodv_model.specs.declared.entry.Flag.TheVariants.{Inv, Val}
use Rattle.aodv_model.proofs.Entries.{Same, if_case}
use Rattle.aodv_model.specs.Cores.{Heard, Item, Message, New, Pkt, Rerr, Rrep, Rreq}
use Rattle.aodv_model.specs.Tables.{Table}
use Rattle.mesh_model.proofs.Lists.{each_map}
use Rattle.mesh_model.proofs.TrailTables.{on_trail}
use Rattle.mesh_model.specs.Invariants.{AtLeast, IsHonest}
use Rattle.mesh_model.specs.Trails.{Around, CopyHasWalk, EntriesHaveWalks, EntryHasWalk, HasEntryWalk, HasWalks, IsAbsent, IsBackedWalk, ItemHasWalk, MessageHasWalk, around, front}
use Rattle.mesh_model.specs.Worlds.{World, are_linked, is_parcel}
use Rattle.mesh_model.proofs.Stems.{Had, IsFrom, Stays, Stems}
use Rattle.mesh_model.specs.Held.{CopyHolds, EntriesHold, EntryHolds, Holds, IsEntryWalk, ItemHolds, ItemsHold, MessageHolds, NodeHolds}
use Rattle.mesh_model.specs.Kept.{KeptLists, entries_after, entry_list, is_near, is_route, is_announced}

-- ---- where lists are walks there are walks

entry_has : (a : Around) (x d n h y : ℕ) (walk : List ℕ) → IsEntryWalk a x d n h y walk → HasEntryWalk a x d n h y
entry_has a x d n h y walk t = record { others = t.others; walk = t.backed; long = t.long; linked = t.linked; absent = t.absent }

pub entries_have : (a : Around) (x : ℕ) (rt : Table) (walks : ℕ → List ℕ) → EntriesHold a x rt walks → EntriesHaveWalks a x rt
entries_have a x rt walks all d e is valid = entry_has a x d e.dsn e.hops e.next (walks d) (all d e is valid)

pub message_has : (a : Around) (from : ℕ) (m : Message) (walk : List ℕ) → MessageHolds a from m walk → MessageHasWalk a from m
message_has a from (Pkt b d o) walk t = tt
message_has a from (Rreq m) walk t = record { others = t.others; walk = t.backed; long = t.long; keys = t.keys }
message_has a from (Rrep m) walk t = record { others = t.others; walk = t.backed; long = t.long }
message_has a from (Rerr dests) walk t = tt

item_has : (a : Around) (x : ℕ) (item : Item) (walk : List ℕ) → ItemHolds a x item walk → ItemHasWalk a x item
item_has a x (New b d) walk t = tt
item_has a x (Heard from m) walk t = (t.0, message_has a from m walk t.1)

items_have : (a : Around) (x : ℕ) (items : List Item) (walks : List (List ℕ)) → ItemsHold a x items walks → AllByRecursion (ItemHasWalk a x) items
items_have a x [] [] t = tt
items_have a x [] (walk ∷ walks) t = absurd t
items_have a x (item ∷ items) [] t = absurd t
items_have a x (item ∷ items) (walk ∷ walks) t = (item_has a x item walk t.0, items_have a x items walks t.1)

pub has_walks : (v : Variant) (w : World) (k : KeptLists) → Holds v w k → HasWalks v w
has_walks v w k t = record {
  nodes = λ x n is. let p : NodeHolds (around v w) x n (k.entries x) (k.queues x) = t.nodes x n is in
      record { variant = p.variant; entries = entries_have (around v w) x (n.core).rt (k.entries x) p.entries; queue = items_have (around v w) x n.queue (k.queues x) p.queue };
  flying = each_map (CopyHolds (around v w) k.flying) (CopyHasWalk (around v w)) (λ c p. (p.0, message_has (around v w) c.from c.message (k.flying c.id) p.1)) w.flying t.flying;
  stood = t.stood;
}

-- ---- walks as lists

pub entry_listed : (a : Around) (x d n h y : ℕ) (t : HasEntryWalk a x d n h y) → IsEntryWalk a x d n h y (x ∷ (y ∷ t.others))
entry_listed a x d n h y t = record { others = t.others; is = refl; backed = t.walk; long = t.long; linked = t.linked; absent = t.absent }

pub entries_listed : (a : Around) (x : ℕ) (rt : Table) → EntriesHaveWalks a x rt → (walks : ℕ → List ℕ) × EntriesHold a x rt walks
entries_listed a x rt all = (λ d. (at d (maps.get rt d) refl).0, λ d. (at d (maps.get rt d) refl).1)
  where
    by : (d : ℕ) (s : Entry) (f : Flag) → s.flag ≡ f → EntryHasWalk a x d s → (walk : List ℕ) × EntryHolds a x d s walk
    by d s Val valid t = (x ∷ (s.next ∷ (t valid).others), λ _. entry_listed a x d s.dsn s.hops s.next (t valid))
    by d s Inv other t = ([], λ valid. absurd (wrong (sym other ∙ valid)))
      where
        wrong : Inv ≡ Val → ⊥
        wrong e = cc

    at : (d : ℕ) (o : Option Entry) → maps.get rt d ≡ o → (walk : List ℕ) × ((e : Entry) → o ≡ Some e → EntryHolds a x d e walk)
    at d None is = ([], λ e none. absurd (none-some e none))
    at d (Some s) is =
        let t : (walk : List ℕ) × EntryHolds a x d s walk = by d s s.flag refl (all d s is) in
        (t.0, λ e same. subst (λ e. EntryHolds a x d e t.0) (same_Some s e same) t.1)

pub message_listed : (a : Around) (from : ℕ) (m : Message) → MessageHasWalk a from m → (walk : List ℕ) × MessageHolds a from m walk
message_listed a from (Pkt b d o) t = ([], tt)
message_listed a from (Rreq m) t = (from ∷ t.others, record { others = t.others; is = refl; backed = t.walk; long = t.long; keys = t.keys })
message_listed a from (Rrep m) t = (from ∷ t.others, record { others = t.others; is = refl; backed = t.walk; long = t.long })
message_listed a from (Rerr dests) t = ([], tt)

-- ---- entries

held_same : (a : Around) (x d : ℕ) (e s : Entry) (walk : List ℕ) → Same e s → IsEntryWalk a x d s.dsn s.hops s.next walk → IsEntryWalk a x d e.dsn e.hops e.next walk
held_same a x d e s walk same t = rw (same.next, same.dsn, same.hops) t

had_holds : (a : Around) (x : ℕ) (old : Table) (walks : ℕ → List ℕ) (d : ℕ) (e : Entry) → EntriesHold a x old walks → e.flag ≡ Val → Had old d e → IsEntryWalk a x d e.dsn e.hops e.next (walks d)
had_holds a x old walks d e all valid h = held_same a x d e h.entry (walks d) h.same (all d h.entry h.there (sym h.same.flag ∙ valid))

-- what stays has its walk
pub stays_hold : (a : Around) (x : ℕ) (old now : Table) (walks : ℕ → List ℕ) → Stays old now → EntriesHold a x old walks → EntriesHold a x now walks
stays_hold a x old now walks stays all d e is valid = had_holds a x old walks d e all valid (stays.had d e is valid)

near_is : (y q : ℕ) (e : Entry) → is_near y q e ≡ true → (q ≡ y) × (e.hops ≡ 1) × (e.next ≡ y)
near_is y q e is = (grind (arith, nat_tests), grind (arith, nat_tests), grind (arith, nat_tests))

near_holds : (a : Around) (x y q : ℕ) (e : Entry) → are_linked a.ever y x ≡ true → is_near y q e ≡ true → IsEntryWalk a x q e.dsn e.hops e.next (x ∷ (y ∷ []))
near_holds a x y q e linked near =
    let is = near_is y q e near in
    rw (is.1, is.2) (record { others = []; is = refl; backed = sym is.0; long = refl; linked = linked; absent = tt })

record IsRoute (y d n h q : ℕ) (e : Entry) : Type 0 where
  of : q ≡ d
  dsn : e.dsn ≡ n
  hops : e.hops ≡ h + 1
  next : e.next ≡ y

route_is : (y d n h q : ℕ) (e : Entry) → is_route y d n h q e ≡ true → IsRoute y d n h q e
route_is y d n h q e is = record { of = grind (arith, nat_tests); dsn = grind (arith, nat_tests); hops = grind (arith, nat_tests); next = grind (arith, nat_tests) }

-- a node that takes a route isn't on its walk: else its entry would be as good
not_on : (a : Around) (x y d n h : ℕ) (others : List ℕ) (e : Entry) → e.dsn ≡ n → e.hops ≡ h + 1 → length (y ∷ others) ≡ h + 1 → IsBackedWalk a d n (y ∷ others)
    → ((g : ℕ) → AtLeast (a.tables x) d n g → (n < e.dsn) ⊎ ((e.dsn ≡ n) × (e.flag ≡ Val) × (e.hops ≤ g))) → IsAbsent x (front (y ∷ others))
not_on a x y d n h others e dsn hops long backed enough = elim (on_trail a x d n y others backed) [
  | inl absent ↦ absent
  | inr found ↦ absurd (worse found.0 found.1 (enough found.0 found.2))
]
  where
    worse : (g : ℕ) → g < length (y ∷ others) → (n < e.dsn) ⊎ ((e.dsn ≡ n) × (e.flag ≡ Val) × (e.hops ≤ g)) → ⊥
    worse g less (inl more) = omega arith
    worse g less (inr p) = let few = p.2 in omega arith

abbrev IsGrown : Around → ℕ → Table → Type 0
IsGrown a x now = (d k g : ℕ) → 1 ≤ k → AtLeast (a.tables x) d k g → AtLeast now d k g

entry_enough : (now : Table) (d n g : ℕ) (e : Entry) → maps.get now d ≡ Some e → AtLeast now d n g → (n < e.dsn) ⊎ ((e.dsn ≡ n) × (e.flag ≡ Val) × (e.hops ≤ g))
entry_enough now d n g e is at = let same : at.entry ≡ e = same_Some at.entry e (sym at.there ∙ is) in subst (λ (s : Entry). (n < s.dsn) ⊎ ((s.dsn ≡ n) × (s.flag ≡ Val) × (s.hops ≤ g))) same at.enough

route_holds : (a : Around) (x y d n h : ℕ) (l : List ℕ) (now : Table) (q : ℕ) (e : Entry) → maps.get now q ≡ Some e → IsGrown a x now → 1 ≤ n → are_linked a.ever y x ≡ true
    → (others : List ℕ) → l ≡ y ∷ others → IsBackedWalk a d n (y ∷ others) → length (y ∷ others) ≡ h + 1 → is_route y d n h q e ≡ true → IsEntryWalk a x q e.dsn e.hops e.next (x ∷ l)
route_holds a x y d n h l now q e is grown one linked others list backed long route =
    let r : IsRoute y d n h q e = route_is y d n h q e route in
    let at : maps.get now d ≡ Some e = ap (maps.get now) (sym r.of) ∙ is in
    let absent : IsAbsent x (front (y ∷ others)) = not_on a x y d n h others e r.dsn r.hops long backed (λ g least. entry_enough now d n g e at (grown d n g one least)) in
    let walk : IsEntryWalk a x d n (h + 1) y (x ∷ l) = record { others = others; is = ap (λ k. x ∷ k) list; backed = backed; long = long; linked = linked; absent = absent } in
    rw (r.of, r.dsn, r.hops, r.next) walk

announced_holds : (a : Around) (x y : ℕ) (tables : Table) (m : Message) (l : List ℕ) (now : Table) (q : ℕ) (e : Entry) → maps.get now q ≡ Some e → IsGrown a x now → IsHonest tables y m → are_linked a.ever y x ≡ true → MessageHolds a y m l
    → is_announced y m q e ≡ true → IsEntryWalk a x q e.dsn e.hops e.next (x ∷ l)
announced_holds a x y tables (Pkt b d o) l now q e is grown honest linked t announced = cc
announced_holds a x y tables (Rreq m) l now q e is grown honest linked t announced = route_holds a x y m.oip m.osn m.hops l now q e is grown honest.0 linked t.others t.is t.backed t.long announced
announced_holds a x y tables (Rrep m) l now q e is grown honest linked t announced = route_holds a x y m.dip m.dsn m.hops l now q e is grown honest.0 linked t.others t.is t.backed t.long announced
announced_holds a x y tables (Rerr dests) l now q e is grown honest linked t announced = cc

-- x has heard m with list l from y
pub entries_hold : (a : Around) (x y : ℕ) (tables : Table) (m : Message) (l : List ℕ) (old now : Table) (walks : ℕ → List ℕ) → (is_parcel m ≡ true → Stays old now) → Stems y m old now → EntriesHold a x old walks → IsGrown a x now → IsHonest tables y m → are_linked a.ever y x ≡ true → MessageHolds a y m l
    → EntriesHold a x now (entries_after x y m l now walks)
entries_hold a x y tables m l old now walks stays stems all grown honest linked t d e is valid =
    if_case (IsEntryWalk a x d e.dsn e.hops e.next) (is_parcel m) (walks d) (entry_list x y m l d (walks d) (maps.get now d))
    (λ plain. had_holds a x old walks d e all valid ((stays plain).had d e is valid))
    (λ _. rw is (if_case (IsEntryWalk a x d e.dsn e.hops e.next) (is_near y d e) (x ∷ (y ∷ [])) (if is_announced y m d e then x ∷ l else walks d)
    (λ near. near_holds a x y d e linked near)
    (λ far. if_case (IsEntryWalk a x d e.dsn e.hops e.next) (is_announced y m d e) (x ∷ l) (walks d)
    (λ announced. announced_holds a x y tables m l now d e is grown honest linked t announced)
    (λ other. kept far other (stems.from d e is valid)))))
  where
    kept : is_near y d e ≡ false → is_announced y m d e ≡ false → IsFrom y m old d e → IsEntryWalk a x d e.dsn e.hops e.next (walks d)
    kept far other (inl near) = cc
    kept far other (inr (inl announced)) = cc
    kept far other (inr (inr h)) = had_holds a x old walks d e all valid h
