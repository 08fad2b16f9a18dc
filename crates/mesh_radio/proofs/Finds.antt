-- Finding and taking copies of a numbered list.
use Rattle.std.proofs.Common.{◌≡◌, ◌≢◌, ℕ, suc, ◌+◌, ◌^◌, ◌<◌, ◌≤◌, Bool, true, false, cond, not, eqb, leb, List, [], ◌∷◌, Option, Some, None, refl, sym, ap, subst, arith, All}
use Rattle.std.specs.List.{AllByRecursion}
use Rattle.std.specs.Prelude.{IfSome}
use Rattle.std.proofs.lemmas.Bool.{ne_eqb, le-leb}
use Rattle.std.proofs.lemmas.Option.{none-some, same_Some}
use Rattle.mesh_base.specs.Views.{flying_seen}
use Rattle.mesh_base.specs.declared.events.Flying.{Flying}
use Rattle.mesh_base.specs.declared.events.FlyingView.{FlyingView}
use Rattle.mesh_radio.specs.Copies.{find_copy, without, from_id}
use Rattle.mesh_radio.specs.Kept.{Flights}

-- ---- where no copy has the id

pub absent : (fs : List Flying) (id : ℕ) → All (λ f. f.id ≢ id) fs → (find_copy fs id ≡ None) × (without fs id ≡ fs)
unfolding without
absent [] id all = (refl, refl)
absent (f ∷ fs) id all =
    let other : eqb f.id id ≡ false = ne_eqb f.id id (all 0 f (omega arith)) in
    let rest = absent fs id (λ k d h. all (suc k) d (omega arith)) in
    (rw other rest.0, rw other (ap (λ (gs : List Flying). f ∷ gs) rest.1))

none_if : (b : Bool) (f : Flying) (o : Option Flying) (fs gs : List Flying) → cond b (Some f) o ≡ None → (o ≡ None → gs ≡ fs) → cond (not b) (f ∷ gs) gs ≡ f ∷ fs
none_if true f o fs gs e h = absurd (none-some f (sym e))
none_if false f o fs gs e h = ap (λ (hs : List Flying). f ∷ hs) (h e)

pub without_none : (fs : List Flying) (id : ℕ) → find_copy fs id ≡ None → without fs id ≡ fs
unfolding without
without_none [] id e = refl
without_none (f ∷ fs) id e = none_if (eqb f.id id) f (find_copy fs id) fs (without fs id) e (without_none fs id)

-- ---- what holds of all copies holds of those that stay

pub all-without : (P : Flying → Type 0) (fs : List Flying) (id : ℕ) → AllByRecursion P fs → AllByRecursion P (without fs id)
unfolding without
all-without P [] id all = all
all-without P (f ∷ fs) id all = elim (eqb f.id id) as (λ b. AllByRecursion P (cond (not b) (f ∷ without fs id) (without fs id))) [
  | true ↦ all-without P fs id all.1
  | false ↦ (all.0, all-without P fs id all.1)
]

pub all-left : (P : Flying → Type 0) (old new : Flights) (id : ℕ) → new ≡ record old { flying = without old.flying id } → AllByRecursion P old.flying → AllByRecursion P new.flying
all-left P old new id left all = subst (λ (v : Flights). AllByRecursion P v.flying) (sym left) (all-without P old.flying id all)

-- what holds of all copies holds of those from an id on
pub all-from : (P : Flying → Type 0) (fs : List Flying) (id : ℕ) → AllByRecursion P fs → AllByRecursion P (from_id fs id)
unfolding from_id
all-from P [] id all = all
all-from P (f ∷ fs) id all = elim (leb id f.id) as (λ b. AllByRecursion P (cond b (f ∷ from_id fs id) (from_id fs id))) [
  | true ↦ (all.0, all-from P fs id all.1)
  | false ↦ all-from P fs id all.1
]

pub next_all : (P : Flying → Type 0) (fs : List Flying) (id next : ℕ) (r : Option FlyingView) → AllByRecursion P fs → IfSome r (λ f. from_id fs id ≡ flying_seen f ∷ from_id fs (f.id + 1))
    → IfSome r (λ f. (id ≤ f.id) × (f.id < next) × (next < 2 ^ 64)) → IfSome r (λ f. (id ≤ f.id) × (f.id < next) × (next < 2 ^ 64) × P (flying_seen f))
next_all P fs id next None all is within = tt
next_all P fs id next (Some f) all is within = (within.0, within.1, within.2, (subst (AllByRecursion P) is (all-from P fs id all)).0)

-- each copy is from id 0 on
pub from_zero : (fs : List Flying) → from_id fs 0 ≡ fs
unfolding from_id
from_zero [] = refl
from_zero (f ∷ fs) = let hit : leb 0 f.id ≡ true = le-leb 0 f.id (omega arith) in rw hit (ap (λ (gs : List Flying). f ∷ gs) (from_zero fs))

-- ---- what holds of all copies holds of the one that is found

found_if : (P : Flying → Type 0) (b : Bool) (f g : Flying) (o : Option Flying) → P f → (o ≡ Some g → P g) → cond b (Some f) o ≡ Some g → P g
found_if P true f g o p h e = subst P (same_Some f g e) p
found_if P false f g o p h e = h e

pub all-found : (P : Flying → Type 0) (fs : List Flying) (id : ℕ) (g : Flying) → AllByRecursion P fs → find_copy fs id ≡ Some g → P g
all-found P [] id g all e = absurd (none-some g e)
all-found P (f ∷ fs) id g all e = found_if P (eqb f.id id) f g (find_copy fs id) all.0 (all-found P fs id g all.1) e
