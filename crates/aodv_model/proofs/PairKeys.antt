-- The pairs of a set by rising first number, and then by rising second.
use Rattle.std.proofs.Common.{◌≡◌, ℕ, ◌+◌, ◌<◌, ◌≤◌, Bool, true, false, cond, List, [], ◌∷◌, ◌++◌, map, Option, Some, None, refl, sym, ap, ◌∙◌, arith, inl, inr}
use Rattle.std.specs.Prelude.{◌||◌, is_some}
use Rattle.std.specs.declared.cmp.Ordering.{Ordering}
use Rattle.std.specs.declared.cmp.Ordering.TheVariants.{Less, Equal, Greater}
use Rattle.std.specs.Ordering.{is_lt, is_le, nat_cmp, ordering_then, eq_by_cmp}
use Rattle.std.specs.List.{list_any, AllByRecursion}
use Rattle.std.specs.FinMap as maps
use Rattle.std.specs.FinMap.{FinMap, find, entries_sorted, get-entries}
use Rattle.std.specs.FinMap.Entries.{where_key}
use Rattle.std.specs.FinSet as sets
use Rattle.std.proofs.lemmas.Bool.{cases_lt}
use Rattle.std.proofs.lemmas.List.{map-append}
use Rattle.mesh_base.proofs.Lemmas.Lists.{each_mapped}
use Rattle.mesh_base.proofs.Lemmas.Maps.{each_entry}
use Rattle.aodv_model.specs.Pairs.{Pairs, pair_cmp, as_keys, pairs_in}
use Rattle.aodv_model.proofs.PairLaws.{pair_cmp_total, same_pair}
use Rattle.aodv_model.proofs.Listing.{at, before, up_to, where_all, where_none, where_same, where_upto}
use Rattle.aodv_model.proofs.Keys.{less, equal, greater, not_below, below_next}

-- ---- the map of a set has its pairs as keys

pub get-as_keys-insert : (m : FinMap pair_cmp (Unit {0})) (p q : ℕ × ℕ) → is_some (maps.get (maps.insert m p tt) q) ≡ (eq_by_cmp pair_cmp q p || is_some (maps.get m q))
get-as_keys-insert m p q =
    ap is_some (maps.get-insert pair_cmp_total m p tt q)
    ∙ elim (eq_by_cmp pair_cmp q p) as (λ b. is_some (cond b (Some tt) (maps.get m q)) ≡ (b || is_some (maps.get m q))) [ true ↦ refl | false ↦ refl ]

pub get-as_keys : (ps : List (ℕ × ℕ)) (q : ℕ × ℕ) → is_some (maps.get (as_keys ps) q) ≡ list_any (eq_by_cmp pair_cmp q) ps
get-as_keys [] q = ap is_some (maps.get-empty pair_cmp q)
get-as_keys (p ∷ ps) q = get-as_keys-insert (as_keys ps) p q ∙ ap (λ (b : Bool). eq_by_cmp pair_cmp q p || b) (get-as_keys ps q)

pub get-keys_of : (s : Pairs) (q : ℕ × ℕ) → is_some (maps.get (as_keys (sets.items s)) q) ≡ sets.contains s q
get-keys_of s q = get-as_keys (sets.items s) q ∙ sym (sets.contains-items s q)

-- what holds of each member holds of each pair that is listed
pub each_pair : (s : Pairs) (P : ℕ × ℕ → Type 0) → ((q : ℕ × ℕ) → sets.contains s q ≡ true → P q) → AllByRecursion P (pairs_in s)
unfolding pairs_in
each_pair s P each =
    let m = as_keys (sets.items s) in
    each_mapped (λ (e : (ℕ × ℕ) × Unit {0}). e.0) P (maps.entries m) (each_entry pair_cmp pair_cmp_total (λ k v. P k) m (λ k v there.
    each k (sym (get-keys_of s k) ∙ ap is_some there)))

-- ---- the pairs before one

-- the pairs of the set that come before this one
abbrev pub pairs_before : Pairs → ℕ × ℕ → List (ℕ × ℕ)
pairs_before s b = map (λ e. e.0) (where_key pair_cmp (before pair_cmp b) (maps.entries (as_keys (sets.items s))))

-- a pair that is found among the entries is in the set
is_in : (s : Pairs) (k : ℕ × ℕ) → is_some (find pair_cmp k (maps.entries (as_keys (sets.items s)))) ≡ true → sets.contains s k ≡ true
is_in s k there = sym (get-keys_of s k) ∙ ap is_some (get-entries (as_keys (sets.items s)) k) ∙ there

pair_next : (o id : ℕ) (k : ℕ × ℕ) → before pair_cmp (o, id + 1) k ≡ up_to pair_cmp (o, id) k
pair_next o id k =
    elim (nat_cmp k.0 o) as (λ r. is_lt (ordering_then r (nat_cmp k.1 (id + 1))) ≡ is_le (ordering_then r (nat_cmp k.1 id))) [
      | Less ↦ refl
      | Equal ↦ below_next id k.1
      | Greater ↦ refl
    ]

key_at : (k : ℕ × ℕ) (o : Option (Unit {0})) → map (λ e. e.0) (at k o) ≡ cond (is_some o) (k ∷ []) []
key_at k None = refl
key_at k (Some u) = refl

-- those before the next pair are those before this one, and this one if it is in the set
pub pairs_more : (s : Pairs) (o id : ℕ) → pairs_before s (o, id + 1) ≡ pairs_before s (o, id) ++ cond (sets.contains s (o, id)) ((o, id) ∷ []) []
pairs_more s o id =
    let m : FinMap pair_cmp (Unit {0}) = as_keys (sets.items s) in
    let es : List ((ℕ × ℕ) × Unit {0}) = maps.entries m in
    let here : ℕ × ℕ = (o, id) in
    let first : (ℕ × ℕ) × Unit {0} → ℕ × ℕ = λ e. e.0 in
    ap (map first) (where_same pair_cmp pair_cmp_total (before pair_cmp (o, id + 1)) (up_to pair_cmp here) es (λ k there. pair_next o id k)
    ∙ where_upto pair_cmp pair_cmp_total same_pair here es (entries_sorted m))
    ∙ map-append first (where_key pair_cmp (before pair_cmp here) es) (at here (find pair_cmp here es))
    ∙ ap (λ xs. pairs_before s here ++ xs) (key_at here (find pair_cmp here es)
    ∙ ap (λ (b : Bool). cond b (here ∷ []) []) (ap is_some (sym (get-entries m here)) ∙ get-keys_of s here))

-- ---- rows

lower : (a b : ℕ) (r : Ordering) → a < b → is_lt (ordering_then (nat_cmp a b) r) ≡ true
lower a b r lt = ap (λ (t : Ordering). is_lt (ordering_then t r)) (less a b lt)

lower_tied : (a b c d : ℕ) → a ≡ b → c < d → is_lt (ordering_then (nat_cmp a b) (nat_cmp c d)) ≡ true
lower_tied a b c d is lt = ap (λ (t : Ordering). is_lt (ordering_then t (nat_cmp c d))) (equal a b is) ∙ ap is_lt (less c d lt)

higher : (a b : ℕ) (r : Ordering) → b < a → is_lt (ordering_then (nat_cmp a b) r) ≡ false
higher a b r gt = ap (λ (t : Ordering). is_lt (ordering_then t r)) (greater a b gt)

not_lower : (a b c : ℕ) → b ≤ a → is_lt (ordering_then (nat_cmp a b) (nat_cmp c 0)) ≡ false
not_lower a b c ge = elim (cases_lt b a) [
  | inl gt ↦ higher a b (nat_cmp c 0) gt
  | inr le ↦ ap (λ (t : Ordering). is_lt (ordering_then t (nat_cmp c 0))) (equal a b (omega arith)) ∙ not_below c 0 (omega arith)
]

-- an id above all beside o, and the first pair beside the next number, are alike to those in the set
agree : (o end : ℕ) (k : ℕ × ℕ) → (k.0 ≡ o → k.1 < end) → before pair_cmp (o, end) k ≡ before pair_cmp (o + 1, 0) k
agree o end k short = elim (cases_lt k.0 o) [
  | inl lt ↦ lower k.0 o (nat_cmp k.1 end) lt ∙ sym (lower k.0 (o + 1) (nat_cmp k.1 0) (omega arith))
  | inr ge ↦ elim (cases_lt o k.0) [
    | inl gt ↦ higher k.0 o (nat_cmp k.1 end) gt ∙ sym (not_lower k.0 (o + 1) k.1 (omega arith))
    | inr le ↦
        let is : k.0 ≡ o = omega arith in
        lower_tied k.0 o k.1 end is (short is) ∙ sym (lower k.0 (o + 1) (nat_cmp k.1 0) (omega arith))
  ]
]

-- where all ids beside o are below the end, those before it are those before the next number's
pub row_done : (s : Pairs) (o end : ℕ) → ((id : ℕ) → sets.contains s (o, id) ≡ true → id < end) → pairs_before s (o, end) ≡ pairs_before s (o + 1, 0)
row_done s o end within =
    let first : (ℕ × ℕ) × Unit {0} → ℕ × ℕ = λ e. e.0 in
    ap (map first) (where_same pair_cmp pair_cmp_total (before pair_cmp (o, end)) (before pair_cmp (o + 1, 0)) (maps.entries (as_keys (sets.items s))) (λ k there.
    agree o end k (λ is. within k.1 (ap (λ (n : ℕ). sets.contains s (n, k.1)) (sym is) ∙ is_in s k there))))

pub none_before : (s : Pairs) → pairs_before s (0, 0) ≡ []
none_before s =
    let first : (ℕ × ℕ) × Unit {0} → ℕ × ℕ = λ e. e.0 in
    ap (map first) (where_none pair_cmp pair_cmp_total (before pair_cmp (0, 0)) (maps.entries (as_keys (sets.items s))) (λ k there. not_lower k.0 0 k.1 (omega arith)))

-- where each first number is below n, these are all
pub all_before : (s : Pairs) (n : ℕ) → ((o id : ℕ) → sets.contains s (o, id) ≡ true → o < n) → pairs_before s (n, 0) ≡ pairs_in s
unfolding pairs_in
all_before s n within =
    let first : (ℕ × ℕ) × Unit {0} → ℕ × ℕ = λ e. e.0 in
    ap (map first) (where_all pair_cmp pair_cmp_total (before pair_cmp (n, 0)) (maps.entries (as_keys (sets.items s))) (λ k there.
    lower k.0 n (nat_cmp k.1 0) (within k.0 k.1 (is_in s k there))))
