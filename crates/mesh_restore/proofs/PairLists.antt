-- The pairs of a set, listed.
use Rattle.std.proofs.Common.{◌≡◌, ◌≢◌, ℕ, ◌+◌, ◌^◌, ◌<◌, ◌≤◌, Bool, true, false, List, [], ◌∷◌, ◌++◌, map, Option, Some, None, refl, sym, ap, ◌∙◌, arith, inl, inr}
use Rattle.std.specs.Prelude.{◌||◌, is_some}
use Rattle.std.specs.declared.cmp.Ordering.{Ordering}
use Rattle.std.specs.declared.cmp.Ordering.TheVariants.{Equal, Greater}
use Rattle.std.specs.Ordering.{nat_cmp, ordering_then, eq_by_cmp}
use Rattle.std.specs.List.{AllByRecursion}
use Rattle.std.specs.Cmp.{nat_cmp_is, tied_itself}
use Rattle.std.proofs.lemmas.Bool.{cases_lt}
use Rattle.std.proofs.lemmas.List.{map_push}
use Rattle.std.specs.FinMap as maps
use Rattle.std.specs.FinMap.{FinMap, find}
use Rattle.std.specs.FinSet as sets
use Rattle.aodv_model.specs.Pairs.{pair_cmp, as_keys, pairs_in}
use Rattle.aodv_model.proofs.PairLaws.{pair_cmp_total, same_pair}
use Rattle.aodv_model.proofs.PairKeys.{get-as_keys-insert, get-keys_of}
use Rattle.aodv_model.proofs.Keys.{greater}
use Rattle.aodv_model.specs.Cores.{SeenRequests}
use Rattle.mesh_checkpoint.specs.Checkpoint.{request_key}
use Rattle.mesh_restore.proofs.Listings.{all_weaker, all_push, entries_last, no_entries}

-- each pair has a key below a number, and an id of 32 bits
abbrev pub ArePairsBelow : ℕ → SeenRequests → Type 0
ArePairsBelow low seen = AllByRecursion (λ e. (request_key e.0 < low) × ((e.0).1 < 2 ^ 32)) (maps.entries (as_keys (sets.items seen)))

-- ---- the map of a set has its pairs as keys

-- two values of a map of keys are the same where both are there or neither is
same_mark : (a b : Option (Unit {0})) → is_some a ≡ is_some b → a ≡ b
same_mark None None e = refl
same_mark None (Some u) e = cc
same_mark (Some u) None e = cc
same_mark (Some u) (Some v) e = refl

-- one pair more in the set is one key more in the map
as_keys-insert : (seen : SeenRequests) (p : ℕ × ℕ) → as_keys (sets.items (sets.insert seen p)) ≡ maps.insert (as_keys (sets.items seen)) p tt
as_keys-insert seen p =
    let each : (q : ℕ × ℕ) → maps.get (as_keys (sets.items (sets.insert seen p))) q ≡ maps.get (maps.insert (as_keys (sets.items seen)) p tt) q = λ q.
    same_mark _ _
    (get-keys_of (sets.insert seen p) q ∙ sets.contains-insert pair_cmp_total seen p q
    ∙ ap (λ (b : Bool). eq_by_cmp pair_cmp q p || b) (sym (get-keys_of seen q))
    ∙ sym (get-as_keys-insert (as_keys (sets.items seen)) p q)) in
    maps.same_map pair_cmp_total same_pair _ _ each

pub no_keys : maps.entries (as_keys (sets.items (sets.empty {R = pair_cmp}))) ≡ []
no_keys =
    let same : as_keys (sets.items (sets.empty {R = pair_cmp})) ≡ maps.empty = maps.same_map pair_cmp_total same_pair _ _ (λ q.
    same_mark _ _ (get-keys_of sets.empty q ∙ sets.contains-empty pair_cmp q ∙ sym (ap is_some (maps.get-empty pair_cmp q)))) in
    ap maps.entries same ∙ no_entries {X = Unit {0}} pair_cmp

pub no_pairs : pairs_in sets.empty ≡ []
unfolding pairs_in
no_pairs = ap (λ (es : List ((ℕ × ℕ) × Unit {0})). map (λ e. e.0) es) no_keys

pub none_paired : ArePairsBelow 0 sets.empty
none_paired = rw no_keys tt

-- ---- a greater key comes later

key_greater : (p q : ℕ × ℕ) → q.1 < 2 ^ 32 → p.1 < 2 ^ 32 → request_key q < request_key p → pair_cmp p q ≡ Greater
key_greater p q small_q small_p lt = elim (cases_lt q.0 p.0) [
  | inl less ↦ ap (λ (r : Ordering). ordering_then r (nat_cmp p.1 q.1)) (greater p.0 q.0 less)
  | inr not_less ↦
      let same : p.0 ≡ q.0 = omega (arith, lt, not_less, small_q, small_p) in
      let second : q.1 < p.1 = omega (arith, lt, same) in
      ap (λ (r : Ordering). ordering_then r (nat_cmp p.1 q.1)) (sym (nat_cmp_is p.0 q.0 Equal same)) ∙ greater p.1 q.1 second
]

is_after : (low : ℕ) (p : ℕ × ℕ) → low ≤ request_key p → p.1 < 2 ^ 32 → (e : (ℕ × ℕ) × Unit {0}) → (request_key e.0 < low) × ((e.0).1 < 2 ^ 32) → pair_cmp p e.0 ≡ Greater
is_after low p up small e below = key_greater p e.0 below.1 small (omega (arith, below.0, up))

-- ---- a pair above all others is the last

abbrev pub AreBeforePair : ℕ × ℕ → SeenRequests → Type 0
AreBeforePair p seen = AllByRecursion (λ e. pair_cmp p e.0 ≡ Greater) (maps.entries (as_keys (sets.items seen)))

pub last_key : (seen : SeenRequests) (p : ℕ × ℕ) → AreBeforePair p seen → maps.entries (as_keys (sets.items (sets.insert seen p))) ≡ maps.entries (as_keys (sets.items seen)) ++ (p, tt) ∷ []
last_key seen p before = ap maps.entries (as_keys-insert seen p) ∙ entries_last pair_cmp_total (as_keys (sets.items seen)) p tt before

pub last_pair : (seen : SeenRequests) (p : ℕ × ℕ) → AreBeforePair p seen → pairs_in (sets.insert seen p) ≡ pairs_in seen ++ p ∷ []
unfolding pairs_in
last_pair seen p before =
    ap (λ (es : List ((ℕ × ℕ) × Unit {0})). map (λ e. e.0) es) (last_key seen p before)
    ∙ map_push (λ (e : (ℕ × ℕ) × Unit {0}). e.0) (maps.entries (as_keys (sets.items seen))) (p, tt)

not_found : (p : ℕ × ℕ) (es : List ((ℕ × ℕ) × Unit {0})) → AllByRecursion (λ e. pair_cmp p e.0 ≡ Greater) es → is_some (find pair_cmp p es) ≡ false
not_found p [] before = refl
not_found p (e ∷ es) before = rw before.0 (not_found p es before.1)

pub new_pair : (seen : SeenRequests) (p : ℕ × ℕ) → AreBeforePair p seen → sets.contains seen p ≡ false
new_pair seen p before =
    sym (get-keys_of seen p) ∙ ap is_some (maps.get-entries (as_keys (sets.items seen)) p) ∙ not_found p (maps.entries (as_keys (sets.items seen))) before

-- values by pairs that differ from one
same_elsewhere : {B : Type 0} (f g : ℕ × ℕ → B) (p : ℕ × ℕ) → ((q : ℕ × ℕ) → q ≢ p → f q ≡ g q) → (es : List ((ℕ × ℕ) × Unit {0})) → AllByRecursion (λ e. pair_cmp p e.0 ≡ Greater) es → map f (map (λ e. e.0) es) ≡ map g (map (λ e. e.0) es)
same_elsewhere f g p same [] before = refl
same_elsewhere f g p same (e ∷ es) before =
    let differ : e.0 ≢ p = λ is. absurd (apart (sym (tied_itself pair_cmp_total p) ∙ ap (λ (q : ℕ × ℕ). pair_cmp p q) (sym is) ∙ before.0)) in
    rw (same e.0 differ, same_elsewhere f g p same es before.1) refl
  where
    apart : Equal ≡ Greater → ⊥
    apart h = cc

pub same_values : {B : Type 0} (f g : ℕ × ℕ → B) (seen : SeenRequests) (p : ℕ × ℕ) → ((q : ℕ × ℕ) → q ≢ p → f q ≡ g q) → AreBeforePair p seen → map f (pairs_in seen) ≡ map g (pairs_in seen)
unfolding pairs_in
same_values f g seen p same before = same_elsewhere f g p same (maps.entries (as_keys (sets.items seen))) before

all_before : (seen : SeenRequests) (low : ℕ) (p : ℕ × ℕ) → ArePairsBelow low seen → low ≤ request_key p → p.1 < 2 ^ 32 → AreBeforePair p seen
all_before seen low p below up small =
    all_weaker (λ e. (request_key e.0 < low) × ((e.0).1 < 2 ^ 32)) (λ e. pair_cmp p e.0 ≡ Greater) (is_after low p up small) (maps.entries (as_keys (sets.items seen))) below

keys_last : (seen : SeenRequests) (low : ℕ) (p : ℕ × ℕ) → ArePairsBelow low seen → low ≤ request_key p → p.1 < 2 ^ 32 → maps.entries (as_keys (sets.items (sets.insert seen p))) ≡ maps.entries (as_keys (sets.items seen)) ++ (p, tt) ∷ []
keys_last seen low p below up small = last_key seen p (all_before seen low p below up small)

pub pairs_last : (seen : SeenRequests) (low : ℕ) (p : ℕ × ℕ) → ArePairsBelow low seen → low ≤ request_key p → p.1 < 2 ^ 32 → pairs_in (sets.insert seen p) ≡ pairs_in seen ++ p ∷ []
pairs_last seen low p below up small = last_pair seen p (all_before seen low p below up small)

pub pairs_below : (seen : SeenRequests) (low : ℕ) (p : ℕ × ℕ) (above : ℕ) → ArePairsBelow low seen → low ≤ request_key p → p.1 < 2 ^ 32 → above ≡ request_key p + 1 → ArePairsBelow above (sets.insert seen p)
pairs_below seen low p above below up small next =
    rw next (rw (keys_last seen low p below up small)
    (all_push (λ e. (request_key e.0 < request_key p + 1) × ((e.0).1 < 2 ^ 32)) (maps.entries (as_keys (sets.items seen))) (p, tt)
    (all_weaker (λ e. (request_key e.0 < low) × ((e.0).1 < 2 ^ 32)) (λ e. (request_key e.0 < request_key p + 1) × ((e.0).1 < 2 ^ 32)) (λ e h. (omega (arith, h.0, up), h.1)) (maps.entries (as_keys (sets.items seen))) below)
    (omega arith, small)))
