-- Why values fit the formats that a table is built of, and why the entries of a map rise.
use Rattle.std.proofs.Common.{◌≡◌, ℕ, ◌+◌, ◌<◌, ◌≤◌, true, T, eq-eqb, List, [], ◌∷◌, length, map, refl, sym, arith, length-append, ◌⊎◌, inl, inr}
use Rattle.std.specs.Prelude.{nat_le, nat_lt}
use Rattle.std.specs.declared.cmp.Ordering.{Ordering}
use Rattle.std.specs.declared.cmp.Ordering.TheVariants.{Less, Equal, Greater}
use Rattle.std.specs.Ordering.{nat_cmp, ordering_then, is_lt}
use Rattle.std.specs.Cmp.{ranked}
use Rattle.std.specs.Int.{Width}
use Rattle.std.specs.List.{AllByRecursion, flat_map}
use Rattle.std.specs.FinMap as maps
use Rattle.std.specs.FinMap.{FinMap, is_sorted}
use Rattle.std.specs.FinMap.Entries.{below_all}
use Rattle.std.specs.FinSet as sets
use Rattle.std.proofs.lemmas.Bool.{and_from, le-leb, lt-ltb}
use Rattle.mesh_base.proofs.Lemmas.Maps.{is_less}
use Rattle.mesh_base.proofs.Lemmas.Bools.{left_of_both, right_of_both}
use Rattle.aodv_model.specs.Pairs.{Pairs, pair_cmp, as_keys, pairs_in}
use Rattle.mesh_model.proofs.Lists.{each_map}
use Rattle.mesh_checkpoint.specs.Formats.{Format, is_from, all_fit, rise, counted_list, counted_rising, text}

-- ---- what holds of each value of a list

pub all_both : {X : Type 0} (P Q : X → Type 0) (xs : List X) → AllByRecursion P xs → AllByRecursion Q xs → AllByRecursion (λ x. P x × Q x) xs
all_both P Q [] p q = tt
all_both P Q (x ∷ xs) p q = ((p.0, q.0), all_both P Q xs p.1 q.1)

pub all_images : {X Y : Type 0} (f : X → Y) (P : Y → Type 0) (xs : List X) → AllByRecursion P (map f xs) → AllByRecursion (λ x. P (f x)) xs
all_images f P [] all = tt
all_images f P (x ∷ xs) all = (all.0, all_images f P xs all.1)

-- ---- numbers, lists and texts

-- the value has bytes in this format
abbrev pub IsFit : {A : Type 0} → Format A → A → Type 0
IsFit a x = a.fits x ≡ true

pub is_in : (low end n : ℕ) → low ≤ n → n < end → is_from low end n ≡ true
is_in low end n up lt = and_from (nat_le low n) (nat_lt n end) (le-leb low n up) (lt-ltb n end lt)

pub each_fits : {A : Type 0} (a : Format A) (xs : List A) → AllByRecursion (IsFit a) xs → all_fit a.fits xs ≡ true
each_fits a [] all = refl
each_fits a (x ∷ xs) all = and_from (a.fits x) (all_fit a.fits xs) all.0 (each_fits a xs all.1)

pub text_fits : (w : Width) (low end : ℕ) (b : List ℕ) → low ≤ length b → length b < end → IsFit (text w low end) b
text_fits w low end b up lt = and_from _ _ (is_in low end (length b) up lt) (eq-eqb (length b) (length b) refl)

pub counted_fits : {A : Type 0} (count : Format ℕ) (a : Format A) (xs : List A) → IsFit count (length xs) → AllByRecursion (IsFit a) xs → IsFit (counted_list count a) xs
counted_fits count a xs many all = and_from _ _ many (and_from _ _ (eq-eqb (length xs) (length xs) refl) (each_fits a xs all))

-- ---- keys that rise

-- the keys rise from `low` on
abbrev pub Rise : {A : Type 0} → (A → ℕ) → ℕ → List A → Type 0
Rise key low [] = Unit {0}
Rise key low (x ∷ xs) = (low ≤ key x) × Rise key (key x + 1) xs

rise_fits : {A : Type 0} (key : A → ℕ) (low : ℕ) (xs : List A) → Rise key low xs → rise key low xs ≡ true
rise_fits key low [] up = refl
rise_fits key low (x ∷ xs) up = and_from (nat_le low (key x)) (rise key (key x + 1) xs) (le-leb low (key x) up.0) (rise_fits key (key x + 1) xs up.1)

pub rising_fits : {A : Type 0} (key : A → ℕ) (count : Format ℕ) (a : Format A) (xs : List A) → IsFit count (length xs) → AllByRecursion (IsFit a) xs → Rise key 0 xs → IsFit (counted_rising key count a) xs
rising_fits key count a xs many all up = and_from _ _ many (and_from _ _ (eq-eqb (length xs) (length xs) refl) (and_from _ _ (each_fits a xs all) (rise_fits key 0 xs up)))

rises_few : {A : Type 0} (key : A → ℕ) (low end : ℕ) (xs : List A) → Rise key low xs → AllByRecursion (λ x. key x < end) xs → low ≤ end → low + length xs ≤ end
rises_few key low end [] up below le = omega (arith, le)
rises_few key low end (x ∷ xs) up below le =
    let later = rises_few key (key x + 1) end xs up.1 below.1 (omega (arith, below.0)) in
    omega (arith, later, up.0)

-- keys that rise are no more than the numbers below which they are
pub few : {A : Type 0} (key : A → ℕ) (end : ℕ) (xs : List A) → Rise key 0 xs → AllByRecursion (λ x. key x < end) xs → length xs ≤ end
few key end xs up below = let n = rises_few key 0 end xs up below (omega arith) in omega (arith, n)

pub rise_mapped : {A B : Type 0} (f : A → B) (key : B → ℕ) (low : ℕ) (xs : List A) → Rise (λ x. key (f x)) low xs → Rise key low (map f xs)
rise_mapped f key low [] up = tt
rise_mapped f key low (x ∷ xs) up = (up.0, rise_mapped f key (key (f x) + 1) xs up.1)

-- ---- the entries of a map rise

module _ {K X : Type 0} (R : K → K → Ordering) (key : K → ℕ) (P : K → Type 0) (up : (x y : K) → P x → P y → R x y ≡ Less → key x < key y) where
  keys_after : (k : K) → P k → (es : List (K × X)) → AllByRecursion (λ e. P e.0) es → T (below_all R k es) → AllByRecursion (λ e. key k + 1 ≤ key e.0) es
  keys_after k here [] all below = tt
  keys_after k here (e ∷ es) all below =
      let less = up k e.0 here all.0 (is_less (R k e.0) (left_of_both (is_lt (R k e.0)) (below_all R k es) below)) in
      (omega (arith, less), keys_after k here es all.1 (right_of_both (is_lt (R k e.0)) (below_all R k es) below))

  sorted_rise : (low : ℕ) (es : List (K × X)) → AllByRecursion (λ e. P e.0) es → T (is_sorted R es) → AllByRecursion (λ e. low ≤ key e.0) es → Rise (λ e. key e.0) low es
  sorted_rise low [] all sorted from = tt
  sorted_rise low (e ∷ es) all sorted from =
      (from.0, sorted_rise (key e.0 + 1) es all.1 (right_of_both (below_all R e.0 es) (is_sorted R es) sorted) (keys_after e.0 all.0 es all.1 (left_of_both (below_all R e.0 es) (is_sorted R es) sorted)))

  pub entries_rise : (m : FinMap R X) → AllByRecursion (λ e. P e.0) (maps.entries m) → Rise (λ e. key e.0) 0 (maps.entries m)
  entries_rise m all =
      sorted_rise 0 (maps.entries m) all (maps.entries_sorted m) (each_map (λ e. P e.0) (λ e. 0 ≤ key e.0) (λ e h. omega arith) (maps.entries m) all)

pub numbers_rise : {X : Type 0} (m : FinMap nat_cmp X) (end : ℕ) → AllByRecursion (λ e. e.0 < end) (maps.entries m) → Rise (λ e. e.0) 0 (maps.entries m)
numbers_rise m end all = entries_rise nat_cmp (λ k. k) (λ k. k < end) (λ x y p q less. ranked x y Less (sym less)) m all

-- ---- the pairs of a set

pub pairs_rise : (s : Pairs) (key : ℕ × ℕ → ℕ) (P : ℕ × ℕ → Type 0) → ((x y : ℕ × ℕ) → P x → P y → pair_cmp x y ≡ Less → key x < key y) → AllByRecursion P (pairs_in s) → Rise key 0 (pairs_in s)
unfolding pairs_in
pairs_rise s key P up all =
    let m = as_keys (sets.items s) in
    rise_mapped (λ (e : (ℕ × ℕ) × Unit {0}). e.0) key 0 (maps.entries m)
    (entries_rise pair_cmp key P up m (all_images (λ (e : (ℕ × ℕ) × Unit {0}). e.0) P (maps.entries m) all))

-- a lesser pair has the lesser first number, or the same and the lesser second
pub lesser_pair : (x y : ℕ × ℕ) → pair_cmp x y ≡ Less → (x.0 < y.0) ⊎ ((x.0 ≡ y.0) × (x.1 < y.1))
lesser_pair x y less =
    elim (nat_cmp x.0 y.0) as (λ r. nat_cmp x.0 y.0 ≡ r → ordering_then r (nat_cmp x.1 y.1) ≡ Less → (x.0 < y.0) ⊎ ((x.0 ≡ y.0) × (x.1 < y.1))) [
      | Less ↦ λ is second. inl (ranked x.0 y.0 Less (sym is))
      | Equal ↦ λ is second. inr (ranked x.0 y.0 Equal (sym is), ranked x.1 y.1 Less (sym second))
      | Greater ↦ λ is second. absurd (apart second)
    ] refl less
  where
    apart : Greater ≡ Less → ⊥
    apart e = cc

-- ---- how many bytes are put

-- values of a byte or more are no more than the bytes
pub no_more : {A : Type 0} (put : A → List ℕ) → ((x : A) → 1 ≤ length (put x)) → (xs : List A) → length xs ≤ length (flat_map put xs)
no_more put some [] = omega arith
no_more put some (x ∷ xs) = omega (arith, some x, no_more put some xs, length-append (put x) (flat_map put xs))

-- each value's bytes are no more than those of all
pub each_short : {A : Type 0} (put : A → List ℕ) (most : ℕ) (xs : List A) → length (flat_map put xs) ≤ most → AllByRecursion (λ x. length (put x) ≤ most) xs
each_short put most [] short = tt
each_short put most (x ∷ xs) short =
    (omega (arith, short, length-append (put x) (flat_map put xs)), each_short put most xs (omega (arith, short, length-append (put x) (flat_map put xs))))
