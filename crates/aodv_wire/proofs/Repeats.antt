-- The search for a repeated address, one address after the other.
use Rattle.std.proofs.Common.{◌≡◌, ℕ, zero, suc, ◌+◌, ◌<◌, ◌≤◌, Bool, true, false, cond, eqb, ◌||◌, List, [], ◌∷◌, ◌++◌, length, slice_get, take, drop, Option, Some, None, refl, sym, ap, ◌∙◌, add-one, eq-eqb, arith}
use Rattle.std.proofs.lemmas.Bool.{ne_eqb}
use Rattle.std.proofs.lemmas.List.{drop_all}
use Rattle.std.proofs.lemmas.Option.{same_Some}
use Rattle.std.specs.List.{list_any}
use Rattle.mesh_base.specs.declared.addr.Addr.{Addr}
use Rattle.mesh_base.proofs.Lemmas.Lists.{drop_from}
use Rattle.aodv_wire.specs.RouteError.{first_repeated}

-- ---- one element of a list

abbrev some : {X : Type 0} → X → Option X
some x = Some x

abbrev none : (X : Type 0) → Option X
none X = None

none_some : {X : Type 0} (x : X) → none X ≡ some x → ⊥
none_some x e = cc

take_at_get : {X : Type 0} (xs : List X) (k : ℕ) (x : X) → slice_get xs k ≡ Some x → take (suc k) xs ≡ take k xs ++ x ∷ []
take_at_get [] zero x e = absurd (none_some x e)
take_at_get [] (suc k) x e = absurd (none_some x e)
take_at_get (y ∷ xs) zero x e = ap (λ z. z ∷ []) (same_Some y x e)
take_at_get (y ∷ xs) (suc k) x e = ap (λ zs. y ∷ zs) (take_at_get xs k x e)

get_take : {X : Type 0} (xs : List X) (n k : ℕ) → k < n → slice_get (take n xs) k ≡ slice_get xs k
get_take xs zero k h = absurd (omega arith)
get_take [] (suc n) k h = refl
get_take (x ∷ xs) (suc n) zero h = refl
get_take (x ∷ xs) (suc n) (suc k) h = get_take xs n k (omega arith)

-- ---- whether an address stands among the first n

-- among those of the first n from index j on
abbrev pub any_rest : List Addr → ℕ → ℕ → ℕ → Bool
any_rest xs n q j = list_any (λ s. eqb s.0 q) (drop j (take n xs))

any_goes_on : (xs : List Addr) (n j q : ℕ) (x : Addr) → j < n → slice_get xs j ≡ Some x → any_rest xs n q j ≡ (eqb x.0 q || any_rest xs n q (j + 1))
any_goes_on xs n j q x h here =
    rw add-one (ap (list_any (λ (a : Addr). eqb a.0 q)) (drop_from (take n xs) j x (get_take xs n j h ∙ here)))

pub any_found : (xs : List Addr) (n j q : ℕ) (x : Addr) → j < n → slice_get xs j ≡ Some x → x.0 ≡ q → any_rest xs n q j ≡ true
any_found xs n j q x h here hit = any_goes_on xs n j q x h here ∙ ap (λ (t : Bool). t || any_rest xs n q (j + 1)) (eq-eqb x.0 q hit)

pub any_missed : (xs : List Addr) (n j q : ℕ) (x : Addr) → j < n → slice_get xs j ≡ Some x → (x.0 ≡ q → ⊥) → any_rest xs n q j ≡ any_rest xs n q (j + 1)
any_missed xs n j q x h here miss = any_goes_on xs n j q x h here ∙ ap (λ (t : Bool). t || any_rest xs n q (j + 1)) (ne_eqb x.0 q miss)

-- ---- addresses below a bound

-- each of these addresses is below x
abbrev pub AllBelow : List Addr → ℕ → Type 0
AllBelow [] x = Unit {0}
AllBelow (s ∷ seen) x = (s.0 < x) × AllBelow seen x

pub AllBelow-weaker : (seen : List Addr) (x y : ℕ) → x ≤ y → AllBelow seen x → AllBelow seen y
AllBelow-weaker [] x y h all = tt
AllBelow-weaker (s ∷ seen) x y h all = (omega arith, AllBelow-weaker seen x y h all.1)

pub AllBelow-push : (seen : List Addr) (a : Addr) (x y : ℕ) → x ≤ y → a.0 < y → AllBelow seen x → AllBelow (seen ++ a ∷ []) y
AllBelow-push [] a x y le h all = (h, tt)
AllBelow-push (s ∷ seen) a x y le h all = (omega arith, AllBelow-push seen a x y le h all.1)

pub not_seen : (seen : List Addr) (x q : ℕ) → x ≤ q → AllBelow seen x → list_any (λ s. eqb s.0 q) seen ≡ false
not_seen [] x q le all = refl
not_seen (s ∷ seen) x q le all = rw (ne_eqb s.0 q (λ e. omega arith), not_seen seen x q le all.1) refl

-- ---- the first repeated address

-- what the search from index k on answers
abbrev pub repeated_rest : List Addr → ℕ → Option Addr
repeated_rest xs k = first_repeated (take k xs) (drop k xs)

repeated_goes_on : (xs : List Addr) (k : ℕ) (x : Addr) → slice_get xs k ≡ Some x
    → repeated_rest xs k ≡ cond (list_any (λ s. eqb s.0 x.0) (take k xs)) (Some x) (repeated_rest xs (k + 1))
repeated_goes_on xs k x here =
    rw add-one (ap (first_repeated (take k xs)) (drop_from xs k x here) ∙ ap (λ (seen : List Addr). cond (list_any (λ (s : Addr). eqb s.0 x.0) (take k xs)) (Some x) (first_repeated seen (drop (suc k) xs))) (sym (take_at_get xs k x here)))

pub repeated_found : (xs : List Addr) (k : ℕ) (x : Addr) → slice_get xs k ≡ Some x → list_any (λ s. eqb s.0 x.0) (take k xs) ≡ true → repeated_rest xs k ≡ Some x
repeated_found xs k x here hit = repeated_goes_on xs k x here ∙ ap (λ (t : Bool). cond t (Some x) (repeated_rest xs (k + 1))) hit

pub repeated_missed : (xs : List Addr) (k : ℕ) (x : Addr) → slice_get xs k ≡ Some x → list_any (λ s. eqb s.0 x.0) (take k xs) ≡ false → repeated_rest xs k ≡ repeated_rest xs (k + 1)
repeated_missed xs k x here miss = repeated_goes_on xs k x here ∙ ap (λ (t : Bool). cond t (Some x) (repeated_rest xs (k + 1))) miss

pub repeated_ends : (xs : List Addr) (k : ℕ) → length xs ≤ k → repeated_rest xs k ≡ None
repeated_ends xs k done = ap (first_repeated (take k xs)) (drop_all k xs done)

pub below_goes_on : (xs : List Addr) (k : ℕ) (x : Addr) (old new : ℕ) → slice_get xs k ≡ Some x → old ≤ new → x.0 < new → AllBelow (take k xs) old → AllBelow (take (k + 1) xs) new
below_goes_on xs k x old new here le lt all =
    rw (add-one, take_at_get xs k x here) (AllBelow-push (take k xs) x old new le lt all)
