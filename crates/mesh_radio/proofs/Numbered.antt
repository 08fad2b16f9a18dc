-- The slots of copies in flight: which copies they have, and which after one comes or goes.
use Rattle.std.proofs.Common.{◌≡◌, ◌≢◌, ℕ, zero, suc, ◌+◌, ◌<◌, ◌≤◌, ◌⊎◌, inl, inr, true, false, eqb, List, [], ◌∷◌, length, get_or, Option, Some, None, refl, sym, ap, subst, ◌∙◌, arith, All, eq-eqb, cond, Bool, ◌++◌}
use Rattle.std.specs.Prelude.{slice_get, slice_set}
use Rattle.std.proofs.lemmas.Bool.{ne_eqb}
use Rattle.std.proofs.lemmas.Option.{same_Some}
use Rattle.mesh_base.specs.declared.events.Flying.{Flying}
use Rattle.aodv_wire.specs.Encodes.{is_data}
use Rattle.mesh_radio.specs.Copies.{find_copy, without, copies_to, data_in, AreNumbered}
use Rattle.mesh_radio.specs.Kept.{copies_in, AreSlots}
use Rattle.mesh_radio.proofs.Finds.{absent}

abbrev Slots : Type 0
Slots = List (Option Flying)

-- ---- ids

-- the copies of slots are numbered
pub numbered : (slots : Slots) (id low : ℕ) → low ≤ id → AreSlots id slots → AreNumbered low (copies_in slots) (id + length slots)
numbered [] id low le are = omega arith
numbered (None ∷ slots) id low le are = subst (AreNumbered low (copies_in slots)) (omega arith) (numbered slots (id + 1) low (omega arith) are)
numbered (Some c ∷ slots) id low le are =
    let here = are.0 in
    (omega arith, subst (AreNumbered (c.id + 1) (copies_in slots)) (omega arith) (numbered slots (id + 1) (c.id + 1) (omega arith) are.1))

all-cons : (id : ℕ) (c : Flying) (cs : List Flying) → c.id ≢ id → All (λ f. f.id ≢ id) cs → All (λ f. f.id ≢ id) (c ∷ cs)
all-cons id c cs ne all = at
  where
    at : (k : ℕ) (d : Flying) → k < length (c ∷ cs) → (get_or (c ∷ cs) k d).id ≢ id
    at zero d h = ne
    at (suc k) d h = all k d (omega arith)

-- no slot is for that id
pub outside : (slots : Slots) (first id : ℕ) → AreSlots first slots → (id < first) ⊎ (first + length slots ≤ id) → All (λ f. f.id ≢ id) (copies_in slots)
outside [] first id are out = λ k d h. absurd (omega arith)
outside (None ∷ slots) first id are out = outside slots (first + 1) id are (elim out [ inl less ↦ inl (omega arith) | inr more ↦ inr (omega arith) ])
outside (Some c ∷ slots) first id are out =
    let here = are.0 in
    all-cons id c (copies_in slots) (λ e. elim out [ inl less ↦ omega arith | inr more ↦ omega arith ])
    (outside slots (first + 1) id are.1 (elim out [ inl less ↦ inl (omega arith) | inr more ↦ inr (omega arith) ]))

-- ---- a copy that is found, and taken

pub found_in : (slots : Slots) (first k id : ℕ) (o : Option Flying) → AreSlots first slots → slice_get slots k ≡ Some o → id ≡ first + k → find_copy (copies_in slots) id ≡ o
found_in [] first zero id o are e is = absurd cc
found_in [] first (suc k) id o are e is = absurd cc
found_in (None ∷ slots) first zero id o are e is = (absent (copies_in slots) id (outside slots (first + 1) id are (inl (omega arith)))).0 ∙ same_Some None o e
found_in (Some c ∷ slots) first zero id o are e is =
    let here = are.0 in
    let hit : eqb c.id id ≡ true = eq-eqb c.id id (omega arith) in
    rw hit (same_Some (Some c) o e)
found_in (None ∷ slots) first (suc k) id o are e is = found_in slots (first + 1) k id o are e (omega arith)
found_in (Some c ∷ slots) first (suc k) id o are e is =
    let here = are.0 in
    let other : eqb c.id id ≡ false = ne_eqb c.id id (λ eq. omega arith) in
    rw other (found_in slots (first + 1) k id o are.1 e (omega arith))

pub taken_in : (slots : Slots) (first k id : ℕ) (c : Flying) → AreSlots first slots → slice_get slots k ≡ Some (Some c) → id ≡ first + k → copies_in (slice_set slots k None) ≡ without (copies_in slots) id
unfolding without
taken_in [] first zero id c are e is = absurd cc
taken_in [] first (suc k) id c are e is = absurd cc
taken_in (None ∷ slots) first zero id c are e is = absurd cc
taken_in (Some d ∷ slots) first zero id c are e is =
    let here = are.0 in
    let hit : eqb d.id id ≡ true = eq-eqb d.id id (omega arith) in
    rw hit (sym (absent (copies_in slots) id (outside slots (first + 1) id are.1 (inl (omega arith)))).1)
taken_in (None ∷ slots) first (suc k) id c are e is = taken_in slots (first + 1) k id c are e (omega arith)
taken_in (Some d ∷ slots) first (suc k) id c are e is =
    let here = are.0 in
    let other : eqb d.id id ≡ false = ne_eqb d.id id (λ eq. omega arith) in
    rw other (ap (λ (cs : List Flying). d ∷ cs) (taken_in slots (first + 1) k id c are.1 e (omega arith)))

-- one copy less
pub one_less : (slots : Slots) (k : ℕ) (c : Flying) → slice_get slots k ≡ Some (Some c) → length (copies_in slots) ≡ length (copies_in (slice_set slots k None)) + 1
one_less [] zero c e = absurd cc
one_less [] (suc k) c e = absurd cc
one_less (None ∷ slots) zero c e = absurd cc
one_less (Some d ∷ slots) zero c e = omega arith
one_less (None ∷ slots) (suc k) c e = one_less slots k c e
one_less (Some d ∷ slots) (suc k) c e = let rest = one_less slots k c e in omega arith

-- and one of data less, if it was of data
pub data_less : (slots : Slots) (k : ℕ) (c : Flying) → slice_get slots k ≡ Some (Some c) → data_in (copies_in slots) ≡ data_in (copies_in (slice_set slots k None)) + cond (is_data c.bytes) 1 0
data_less [] zero c e = absurd cc
data_less [] (suc k) c e = absurd cc
data_less (None ∷ slots) zero c e = absurd cc
data_less (Some d ∷ slots) zero c e =
    let same : d ≡ c = cc in
    let kind : ◌≡◌ {A = ℕ} (cond (is_data d.bytes) 1 0) (cond (is_data c.bytes) 1 0) = ap (λ (x : Flying). cond (is_data x.bytes) 1 0) same in
    omega arith
data_less (None ∷ slots) (suc k) c e = data_less slots k c e
data_less (Some d ∷ slots) (suc k) c e = let rest = data_less slots k c e in omega arith

pub at_most_all : (b : Bool) (n : ℕ) → cond b n 0 ≤ n
at_most_all true n = omega arith
at_most_all false n = omega arith

pub data_few : (cs : List Flying) → data_in cs ≤ length cs
data_few [] = omega arith
data_few (c ∷ cs) = let rest = data_few cs in let one = at_most_all (is_data c.bytes) 1 in omega arith

pub data_append : (xs ys : List Flying) → data_in (xs ++ ys) ≡ data_in xs + data_in ys
data_append [] ys = omega arith
data_append (x ∷ xs) ys = let rest = data_append xs ys in omega arith

pub data_cast : (tos : List ℕ) (id from : ℕ) (bytes : List ℕ) → data_in (copies_to tos id from bytes) ≡ cond (is_data bytes) (length tos) 0
data_cast [] id from bytes = none (is_data bytes)
  where
    none : (b : Bool) → ◌≡◌ {A = ℕ} 0 (cond b 0 0)
    none true = refl
    none false = refl
data_cast (to ∷ tos) id from bytes = one (is_data bytes) (length tos) (data_in (copies_to tos (id + 1) from bytes)) (data_cast tos (id + 1) from bytes)
  where
    one : (b : Bool) (n m : ℕ) → m ≡ cond b n 0 → cond b 1 0 + m ≡ cond b (suc n) 0
    one true n m e = omega arith
    one false n m e = omega arith

-- there are no more copies than slots
pub few_copies : (slots : Slots) → length (copies_in slots) ≤ length slots
few_copies [] = omega arith
few_copies (None ∷ slots) = let rest = few_copies slots in omega arith
few_copies (Some d ∷ slots) = let rest = few_copies slots in omega arith
