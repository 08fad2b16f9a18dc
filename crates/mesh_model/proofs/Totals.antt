-- Totals over lists, maps and stores.
use Rattle.std.proofs.Common.{◌≡◌, ◌≢◌, ℕ, zero, suc, ◌+◌, ◌<◌, ◌≤◌, Bool, true, false, cond, not, length, ◌&&◌, ◌||◌, List, [], ◌∷◌, ◌++◌, set, ◌==◌, Some, None, Option, refl, ap, ◌∙◌, arith}
use Rattle.std.specs.Prelude.{option_map, slice_get}
use Rattle.std.specs.Cmp.{nat_cmp_total, unsigned_tied}
use Rattle.std.proofs.lemmas.Bool.{eqb-true, eqb-false}
use Rattle.std.proofs.lemmas.Option.{none-some, same_Some}
use Rattle.aodv_model.specs.Cores.{set as set_flags}
use Rattle.std.specs.FinMap as maps
use Rattle.std.specs.FinSet as sets
use Rattle.aodv_model.specs.Cores.{Body, Store, Waiting, add, bodies_in, drop, drop_first, needs_in, rest, unset, with_body}
use Rattle.mesh_base.specs.Members.{NodeIds}
use Rattle.aodv_model.proofs.Stores.{get-set, get-unset}
use Rattle.mesh_model.specs.Accounts.{Test, any, counts, in_store, total, total_below}

module _ {A : Type 0} (f : A → ℕ) where
  pub total-append : (xs ys : List A) → total f (xs ++ ys) ≡ total f xs + total f ys
  total-append [] ys = omega arith
  total-append (x ∷ xs) ys = omega (arith, total-append xs ys)

  -- one element becomes another
  pub total-set : (xs : List A) (i : ℕ) (old new : A) → slice_get xs i ≡ Some old → total f (set xs i new) + f old ≡ total f xs + f new
  total-set [] i old new is = absurd (none-some old is)
  total-set (x ∷ xs) zero old new is = let e = ap f (same_Some x old is) in omega arith
  total-set (x ∷ xs) (suc i) old new is = omega (arith, total-set xs i old new is)

pub all_count : (x d : ℕ) (bodies : List Body) → total (counts any x d) bodies ≡ length bodies
all_count x d [] = refl
all_count x d (b ∷ bodies) = let rest : total (counts any x d) bodies ≡ length bodies = all_count x d bodies in omega arith

-- ---- sums below a number

pub total_below_same : (n : ℕ) (f g : ℕ → ℕ) → ((q : ℕ) → f q ≡ g q) → total_below n f ≡ total_below n g
total_below_same zero f g same = refl
total_below_same (suc n) f g same = let e = same n in omega (arith, total_below_same n f g same)

below_same : (n d : ℕ) (f g : ℕ → ℕ) → ((q : ℕ) → q ≢ d → f q ≡ g q) → n ≤ d → total_below n f ≡ total_below n g
below_same zero d f g same le = refl
below_same (suc n) d f g same le = let e : f n ≡ g n = same n (λ e. omega arith) in omega (arith, below_same n d f g same (omega arith))

change_case : (n d : ℕ) (f g : ℕ → ℕ) (b : Bool) → (n == d) ≡ b → ((q : ℕ) → q ≢ d → f q ≡ g q) → d < suc n → (d < n → total_below n f + g d ≡ total_below n g + f d) → f n + total_below n f + g d ≡ g n + total_below n g + f d
change_case n d f g true e same l rest =
    let here : n ≡ d = eqb-true n d e in
    let a = ap f here in
    let b = ap g here in
    let c : total_below n f ≡ total_below n g = below_same n d f g same (omega arith) in
    omega arith
change_case n d f g false e same l rest =
    let other : n ≢ d = eqb-false n d e in
    let a : f n ≡ g n = same n other in
    let r : total_below n f + g d ≡ total_below n g + f d = rest (omega arith) in
    omega arith

-- two functions that differ at d alone
pub total_below_change : (n d : ℕ) (f g : ℕ → ℕ) → ((q : ℕ) → q ≢ d → f q ≡ g q) → d < n → total_below n f + g d ≡ total_below n g + f d
total_below_change zero d f g same l = absurd (omega arith)
total_below_change (suc n) d f g same l = change_case n d f g (n == d) refl same l (total_below_change n d f g same)

-- ---- stores

-- what a store has for one destination
abbrev pub of : Test → ℕ → Store → ℕ → ℕ
of t x store d = total (counts t x d) (bodies_in (maps.get store d))

get-put : (store : Store) (d : ℕ) (v : Waiting) (q : ℕ) → maps.get (maps.insert store d v) q ≡ cond (q == d) (Some v) (maps.get store q)
get-put store d v q = maps.get-insert nat_cmp_total store d v q ∙ ap (λ b. cond b (Some v) (maps.get store q)) (unsigned_tied q d)

get-gone : (store : Store) (d q : ℕ) → maps.get (maps.remove store d) q ≡ cond (q == d) None (maps.get store q)
get-gone store d q = maps.get-remove nat_cmp_total store d q ∙ ap (λ b. cond b None (maps.get store q)) (unsigned_tied q d)

elsewhere : (o p : Option Waiting) (q d : ℕ) → q ≢ d → cond (q == d) o p ≡ p
elsewhere o p q d other = at (q == d) refl
  where
    at : (b : Bool) → (q == d) ≡ b → cond b o p ≡ p
    at true e = absurd (other (eqb-true q d e))
    at false e = refl

here : (o p : Option Waiting) (d : ℕ) → cond (d == d) o p ≡ o
here o p d = at (d == d) refl
  where
    at : (b : Bool) → (d == d) ≡ b → cond b o p ≡ o
    at true e = refl
    at false e = absurd (eqb-false d d e refl)

-- one destination has these data now
store-put : (t : Test) (size x : ℕ) (store : Store) (d : ℕ) (v : Waiting) → d < size → in_store t size x (maps.insert store d v) + of t x store d ≡ in_store t size x store + total (counts t x d) v.bodies
unfolding in_store
store-put t size x store d v l =
    total_below_change size d (of t x (maps.insert store d v)) (of t x store) (λ q other. ap (λ o. total (counts t x q) (bodies_in o)) (get-put store d v q ∙ elsewhere (Some v) (maps.get store q) q d other)) l
    ∙ ap (λ o. total_below size (of t x store) + total (counts t x d) (bodies_in o)) (get-put store d v d ∙ here (Some v) (maps.get store d) d)

store-gone : (t : Test) (size x : ℕ) (store : Store) (d : ℕ) → d < size → in_store t size x (maps.remove store d) + of t x store d ≡ in_store t size x store + 0
unfolding in_store
store-gone t size x store d l =
    total_below_change size d (of t x (maps.remove store d)) (of t x store) (λ q other. ap (λ o. total (counts t x q) (bodies_in o)) (get-gone store d q ∙ elsewhere None (maps.get store q) q d other)) l
    ∙ ap (λ o. total_below size (of t x store) + total (counts t x d) (bodies_in o)) (get-gone store d d ∙ here None (maps.get store d) d)

one_more : (t : Test) (x d : ℕ) (o : Option Waiting) (b : Body) → total (counts t x d) (with_body o b).bodies ≡ total (counts t x d) (bodies_in o) + counts t x d b
one_more t x d None b = omega arith
one_more t x d (Some s) b = omega (arith, total-append (counts t x d) s.bodies (b ∷ []))

pub store-add : (t : Test) (size x : ℕ) (store : Store) (d : ℕ) (b : Body) → d < size → in_store t size x (add store d b) ≡ in_store t size x store + counts t x d b
unfolding add
store-add t size x store d b l =
    let p = store-put t size x store d (with_body (maps.get store d) b) l in
    let m = one_more t x d (maps.get store d) b in
    omega arith

drop_case : (t : Test) (size x : ℕ) (store : Store) (d : ℕ) (bs : List Body) (needs : Bool) → d < size → in_store t size x (drop_first store d bs needs) + of t x store d ≡ in_store t size x store + total (counts t x d) bs
drop_case t size x store d [] needs l = store-gone t size x store d l
drop_case t size x store d (b ∷ bs) needs l = store-put t size x store d (record { needs_request = needs; bodies = b ∷ bs }) l

-- the first datum is gone
pub store-drop : (t : Test) (size x : ℕ) (store : Store) (d : ℕ) (b : Body) (bs : List Body) → d < size → bodies_in (maps.get store d) ≡ b ∷ bs → in_store t size x (drop store d) + counts t x d b ≡ in_store t size x store
unfolding drop
store-drop t size x store d b bs l is =
    let p = drop_case t size x store d (rest (bodies_in (maps.get store d))) (needs_in (maps.get store d)) l in
    let e : of t x store d ≡ counts t x d b + total (counts t x d) bs = ap (total (counts t x d)) is in
    let r : total (counts t x d) (rest (bodies_in (maps.get store d))) ≡ total (counts t x d) bs = ap (λ ys. total (counts t x d) (rest ys)) is in
    omega arith

-- where the data that wait stay as they are
bodies_same : (t : Test) (size x : ℕ) (store new : Store) (flags : ℕ → Waiting → Bool) → ((q : ℕ) → maps.get new q ≡ option_map (λ (w : Waiting). record w { needs_request = flags q w }) (maps.get store q)) → in_store t size x new ≡ in_store t size x store
unfolding in_store
bodies_same t size x store new flags each =
    total_below_same size (of t x new) (of t x store) (λ q. ap (λ o. total (counts t x q) (bodies_in o)) (each q) ∙ ap (total (counts t x q)) (same q (maps.get store q)))
  where
    same : (q : ℕ) (o : Option Waiting) → bodies_in (option_map (λ (w : Waiting). record w { needs_request = flags q w }) o) ≡ bodies_in o
    same q None = refl
    same q (Some s) = refl

pub store-unset : (t : Test) (size x : ℕ) (store : Store) (d : ℕ) → in_store t size x (unset store d) ≡ in_store t size x store
store-unset t size x store d = bodies_same t size x store (unset store d) (λ q w. w.needs_request && not (q == d)) (get-unset store d)

pub store-set : (t : Test) (size x : ℕ) (store : Store) (dests : NodeIds) → in_store t size x (set_flags store dests) ≡ in_store t size x store
store-set t size x store dests = bodies_same t size x store (set_flags store dests) (λ q w. w.needs_request || sets.contains dests q) (get-set store dests)
