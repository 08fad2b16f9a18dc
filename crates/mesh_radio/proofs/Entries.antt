-- Casts by rising firsts: which copies they have, and what is found.
use Rattle.std.proofs.Common.{◌≡◌, ◌≢◌, ℕ, zero, suc, ◌+◌, ◌-◌, ◌<◌, ◌≤◌, ◌⊎◌, inl, inr, true, false, cond, eqb, leb, leb-true, not, List, [], ◌∷◌, ◌++◌, length, get_or, Option, Some, None, unwrap_or, refl, sym, ap, subst, ◌∙◌, append_assoc, append-nil, length-append, arith}
use Rattle.std.specs.Prelude.{slice_get, slice_set, slice_index, option_map, IfNone}
use Rattle.std.specs.List.{AllByRecursion}
use Rattle.std.specs.FinSet.{contains, remove}
use Rattle.std.specs.FinMap.{nat_cmp-IsAntisymmetric}
use Rattle.std.proofs.lemmas.Cmp.{nat_cmp_total}
use Rattle.std.proofs.lemmas.Bool.{ne_eqb, le-leb, lt-leb, cases_lt, cases_eq}
use Rattle.std.proofs.lemmas.Option.{same_Some, slice_get_within, slice_get_past, slice_get-get_or, none-some}
use Rattle.std.specs.Map.{keys_of, values_of}
use Rattle.mesh_base.specs.declared.events.Flying.{Flying}
use Rattle.mesh_base.specs.Members.{member_list}
use Rattle.aodv_wire.specs.Encodes.{is_data}
use Rattle.mesh_radio.specs.Copies.{find_copy, without, copies_to, data_in, AreNumbered}
use Rattle.mesh_radio.specs.Kept.{copies_in, AreSlots}
use Rattle.mesh_radio.proofs.Finds.{absent, without_none}
use Rattle.mesh_base.proofs.Ranks.{members-all, rises-bound}
use Rattle.mesh_radio.proofs.Numbered.{numbered, outside, found_in, taken_in, one_less, data_less, few_copies, data_append}
use Rattle.indexmap.specs.IndexMap.{insert_entry, set_value_at}
use Rattle.mesh_radio.specs.Casts.{Entry, size, slot, slots_of, slots_at, copies_of, AreRising, AreLeft, IsSplit, IsFound, AreSorted, entry_of, slot_for, copy_of, without_to}
use Rattle.mesh_radio.specs.declared.casts.Cast.{Cast}
use Rattle.mesh_base.proofs.Ranks.{Rises, members-sorted}
use Rattle.mesh_base.proofs.Lemmas.Sets.{remove_here, remove_other}

-- ---- the slots of one cast

pub slots-length : (c : Cast) (id : ℕ) (tos : List ℕ) → length (slots_of c id tos) ≡ length tos
slots-length c id [] = refl
slots-length c id (to ∷ tos) = let rest = slots-length c (id + 1) tos in omega arith

pub slots-are : (c : Cast) (id : ℕ) (tos : List ℕ) → AreSlots id (slots_of c id tos)
slots-are c id [] = tt
slots-are c id (to ∷ tos) =
    let rest = slots-are c (id + 1) tos in
    elim (contains c.left to) as (λ b. AreSlots id (cond b (Some (record { id = id; from = c.from; to = to; bytes = c.bytes })) None ∷ slots_of c (id + 1) tos)) [
      | true ↦ (refl, rest)
      | false ↦ rest
    ]

pub slots-get : (c : Cast) (id j to : ℕ) (tos : List ℕ) → slice_get tos j ≡ Some to → slice_get (slots_of c id tos) j ≡ Some (slot c (id + j) to)
slots-get c id zero to [] e = absurd cc
slots-get c id (suc j) to [] e = absurd cc
slots-get c id zero to (x ∷ tos) e =
    let at : id ≡ id + 0 = omega arith in
    ap (λ y. Some (slot c id y)) (same_Some x to e) ∙ ap (λ n. Some (slot c n to)) at
slots-get c id (suc j) to (x ∷ tos) e =
    let at : id + 1 + j ≡ id + suc j = omega arith in
    slots-get c (id + 1) j to tos e ∙ ap (λ n. Some (slot c n to)) at

pub copies_append : (xs ys : List (Option Flying)) → copies_in (xs ++ ys) ≡ copies_in xs ++ copies_in ys
copies_append [] ys = refl
copies_append (None ∷ xs) ys = copies_append xs ys
copies_append (Some c ∷ xs) ys = ap (λ (cs : List Flying). c ∷ cs) (copies_append xs ys)

-- ---- what is found in lists one after the other

abbrev pub first_of : Option Flying → Option Flying → Option Flying
first_of None o = o
first_of (Some c) o = Some c

first-none : (o : Option Flying) → first_of o None ≡ o
first-none None = refl
first-none (Some c) = refl

pub find-append : (xs ys : List Flying) (id : ℕ) → find_copy (xs ++ ys) id ≡ first_of (find_copy xs id) (find_copy ys id)
find-append [] ys id = refl
find-append (x ∷ xs) ys id =
    elim (eqb x.id id) as (λ b. cond b (Some x) (find_copy (xs ++ ys) id) ≡ first_of (cond b (Some x) (find_copy xs id)) (find_copy ys id)) [
      | true ↦ refl
      | false ↦ find-append xs ys id
    ]

without-append : (xs ys : List Flying) (id : ℕ) → without (xs ++ ys) id ≡ without xs id ++ without ys id
unfolding without
without-append [] ys id = refl
without-append (x ∷ xs) ys id =
    elim (eqb x.id id) as (λ b. cond (not b) (x ∷ without (xs ++ ys) id) (without (xs ++ ys) id) ≡ cond (not b) (x ∷ without xs id) (without xs id) ++ without ys id) [
      | true ↦ without-append xs ys id
      | false ↦ ap (λ (fs : List Flying). x ∷ fs) (without-append xs ys id)
    ]

-- ---- in one cast

slots-out : (c : Cast) (k id : ℕ) (tos : List ℕ) → (id < k) ⊎ (k + length tos ≤ id) → find_copy (copies_in (slots_of c k tos)) id ≡ None
slots-out c k id tos out =
    let len = slots-length c k tos in
    (absent (copies_in (slots_of c k tos)) id (outside (slots_of c k tos) k id (slots-are c k tos) (elim out [ inl less ↦ inl less | inr more ↦ inr (omega arith) ]))).0

slots-hit : (c : Cast) (k id : ℕ) (tos : List ℕ) → k ≤ id → id < k + length tos → find_copy (copies_in (slots_of c k tos)) id ≡ slot_for c id (slice_get tos (id - k))
slots-hit c k id tos low lt =
    let to = get_or tos (id - k) 0 in
    let at : slice_get tos (id - k) ≡ Some to = slice_get-get_or tos (id - k) 0 (omega arith) in
    let is : id ≡ k + (id - k) = omega arith in
    found_in (slots_of c k tos) k (id - k) id (slot c (k + (id - k)) to) (slots-are c k tos) (slots-get c k (id - k) to tos at) is
    ∙ ap (λ n. slot c n to) (sym is) ∙ ap (slot_for c id) (sym at)

-- ---- in all casts

pub rising-low : (low next : ℕ) (es : List Entry) → AreRising low es next → low ≤ next
rising-low low next [] r = r
rising-low low next (e ∷ es) r = let rest = rising-low (e.0 + size e.1) next es r.2 in let one = r.0 in omega arith

copies-out : (low next id : ℕ) (es : List Entry) → AreRising low es next → id < low → find_copy (copies_of es) id ≡ None
copies-out low next id [] r lt = refl
copies-out low next id (e ∷ es) r lt =
    let one = r.0 in
    find-append (copies_in (slots_at e)) (copies_of es) id
    ∙ ap (λ o. first_of o (find_copy (copies_of es) id)) (slots-out e.1 e.0 id (member_list (e.1).to) (inl (omega arith)))
    ∙ copies-out (e.0 + size e.1) next id es r.2 (omega arith)

entry-none : (low next id : ℕ) (es : List Entry) → AreRising low es next → id < low → entry_of es id ≡ None
entry-none low next id [] r lt = refl
entry-none low next id (e ∷ es) r lt = let one = r.0 in ap (λ b. cond b (Some (unwrap_or (entry_of es id) e)) None) (lt-leb e.0 id (omega arith))

pub find-all : (low next id : ℕ) (es : List Entry) → AreRising low es next → find_copy (copies_of es) id ≡ copy_of (entry_of es id) id
find-all low next id [] r = refl
find-all low next id (e ∷ es) r = elim (cases_lt id e.0) [
  | inl less ↦
      copies-out e.0 next id (e ∷ es) (omega arith, r.1, r.2) less
      ∙ ap (λ o. copy_of o id) (sym (entry-none e.0 next id (e ∷ es) (omega arith, r.1, r.2) less))
  | inr low ↦
      let tos = member_list (e.1).to in
      let here : entry_of (e ∷ es) id ≡ Some (unwrap_or (entry_of es id) e) = ap (λ b. cond b (Some (unwrap_or (entry_of es id) e)) None) (le-leb e.0 id low) in
      find-append (copies_in (slots_at e)) (copies_of es) id ∙ elim (cases_lt id (e.0 + size e.1)) [
        | inl inside ↦
            let none = entry-none (e.0 + size e.1) next id es r.2 inside in
            ap (first_of (find_copy (copies_in (slots_at e)) id)) (copies-out (e.0 + size e.1) next id es r.2 inside)
            ∙ first-none (find_copy (copies_in (slots_at e)) id)
            ∙ slots-hit e.1 e.0 id tos low inside
            ∙ ap (λ o. copy_of (Some (unwrap_or o e)) id) (sym none) ∙ ap (λ o. copy_of o id) (sym here)
        | inr beyond ↦
            ap (λ o. first_of o (find_copy (copies_of es) id)) (slots-out e.1 e.0 id tos (inr beyond))
            ∙ find-all (e.0 + size e.1) next id es r.2
            ∙ later e (entry_of es id) id (ap (slot_for e.1 id) (slice_get_past tos (id - e.0) (omega arith)))
            ∙ ap (λ o. copy_of o id) (sym here)
      ]
]
  where
    later : (e : Entry) (o : Option Entry) (id : ℕ) → copy_of (Some e) id ≡ None → copy_of o id ≡ copy_of (Some (unwrap_or o e)) id
    later e None id none = sym none
    later e (Some x) id none = refl

-- ---- where it is found

abbrev pub last_of : List Entry → ℕ → Option Entry
last_of es zero = None
last_of es (suc k) = slice_get es k

split-tail : (k id n : ℕ) (ks : List ℕ) → IsSplit (k ∷ ks) id (suc n) → IsSplit ks id n
split-tail k id n ks s = record {
  within = let w = s.within in omega arith;
  below = λ j lt. s.below (suc j) (omega arith);
  above = λ j le lt. s.above (suc j) (omega arith) (omega arith);
}

pub split-entry : (es : List Entry) (id k : ℕ) → IsSplit (keys_of es) id k → entry_of es id ≡ last_of es k
split-entry [] id zero s = refl
split-entry [] id (suc k) s = let w = s.within in absurd (omega arith)
split-entry (e ∷ es) id zero s = ap (λ b. cond b (Some (unwrap_or (entry_of es id) e)) None) (lt-leb e.0 id (s.above 0 (omega arith) (omega arith)))
split-entry (e ∷ es) id (suc k) s =
    ap (λ b. cond b (Some (unwrap_or (entry_of es id) e)) None) (le-leb e.0 id (s.below 0 (omega arith)))
    ∙ ap (λ o. Some (unwrap_or o e)) (split-entry es id k (split-tail e.0 id k (keys_of es) s))
    ∙ last e es k (λ lt. let w = s.within in let len = keys-length es in omega arith)
  where
    keys-length : (es : List Entry) → length (keys_of es) ≡ length es
    keys-length [] = refl
    keys-length (e ∷ es) = let rest = keys-length es in omega arith

    last : (e : Entry) (es : List Entry) (k : ℕ) → (0 < k → k - 1 < length es) → Some (unwrap_or (last_of es k) e) ≡ slice_get (e ∷ es) k
    last e es zero lt = refl
    last e es (suc k) lt = some (slice_get es k) (slice_get-get_or es k e (let l = lt (omega arith) in omega arith))
      where
        some : (o : Option Entry) → o ≡ Some (get_or es k e) → Some (unwrap_or o e) ≡ o
        some None h = absurd (none-some _ h)
        some (Some x) h = refl

pub key-at : (es : List Entry) (j : ℕ) (e : Entry) → slice_get es j ≡ Some e → slice_index (keys_of es) j ≡ e.0
key-at [] zero e h = absurd cc
key-at [] (suc j) e h = absurd cc
key-at (x ∷ es) zero e h = ap (λ (y : Entry). y.0) (same_Some x e h)
key-at (x ∷ es) (suc j) e h = key-at es j e h

-- ---- the firsts rise

keys-low : (low next j : ℕ) (es : List Entry) → AreRising low es next → j < length (keys_of es) → low ≤ slice_index (keys_of es) j
keys-low low next zero [] r lt = absurd (omega arith)
keys-low low next (suc j) [] r lt = absurd (omega arith)
keys-low low next zero (e ∷ es) r lt = r.0
keys-low low next (suc j) (e ∷ es) r lt =
    let rest = keys-low (e.0 + size e.1) next j es r.2 (omega arith) in let one = r.0 in omega arith

pub keys-sorted : (low next : ℕ) (es : List Entry) → AreRising low es next → AreSorted (keys_of es)
keys-sorted low next [] r i j le lt = absurd (omega arith)
keys-sorted low next (e ∷ es) r zero zero le lt = omega arith
keys-sorted low next (e ∷ es) r zero (suc j) le lt = let rest = keys-low (e.0 + size e.1) next j es r.2 (omega arith) in omega arith
keys-sorted low next (e ∷ es) r (suc i) zero le lt = absurd (omega arith)
keys-sorted low next (e ∷ es) r (suc i) (suc j) le lt = keys-sorted (e.0 + size e.1) next es r.2 i j (omega arith) (omega arith)

-- ---- what a search tells

pub none-at-first : (es : List Entry) (id k : ℕ) → IsSplit (keys_of es) id k → k ≡ 0 → copy_of (entry_of es id) id ≡ None
none-at-first es id k s zero_is = ap (λ o. copy_of o id) (split-entry es id k s ∙ ap (last_of es) zero_is)

pub entry-there : (es : List Entry) (id k : ℕ) (e : Entry) → IsSplit (keys_of es) id k → 0 < k → slice_get es (k - 1) ≡ Some e → entry_of es id ≡ Some e
entry-there es id zero e s some at = absurd (omega arith)
entry-there es id (suc k) e s some at = let same : suc k - 1 ≡ k = omega arith in split-entry es id (suc k) s ∙ ap (slice_get es) (sym same) ∙ at

pub first-low : (es : List Entry) (id k : ℕ) (e : Entry) → IsSplit (keys_of es) id k → 0 < k → slice_get es (k - 1) ≡ Some e → e.0 ≤ id
first-low es id k e s some at = let key = key-at es (k - 1) e at in let low = s.below (k - 1) (omega arith) in omega arith

-- the cast of an id
pub index-there : (es : List Entry) (id k index : ℕ) (e : Entry) → IsSplit (keys_of es) id k → k ≡ index + 1 → entry_of es id ≡ Some e → slice_get es index ≡ Some e
index-there es id zero index e s is there = absurd (omega arith)
index-there es id (suc k) index e s is there = let same : index ≡ k = omega arith in ap (slice_get es) same ∙ sym (split-entry es id (suc k) s) ∙ there

pub no-index : (es : List Entry) (id k : ℕ) (e : Entry) → IsSplit (keys_of es) id k → k ≡ 0 → entry_of es id ≢ Some e
no-index es id k e s zero_is there = none-some e (sym (split-entry es id k s ∙ ap (last_of es) zero_is) ∙ there)

entry-low : (es : List Entry) (id : ℕ) (e : Entry) → entry_of es id ≡ Some e → e.0 ≤ id
entry-low [] id e is = absurd (none-some e is)
entry-low (x ∷ es) id e is = elim (leb x.0 id) as (λ b. leb x.0 id ≡ b → cond b (Some (unwrap_or (entry_of es id) x)) None ≡ Some e → e.0 ≤ id) [
  | true ↦ λ low is. elim (entry_of es id) as (λ o. entry_of es id ≡ o → Some (unwrap_or o x) ≡ Some e → e.0 ≤ id) [
    | None ↦ λ _ same. subst (λ (y : Entry). y.0 ≤ id) (same_Some x e same) (leb-true x.0 id low)
    | Some y ↦ λ there same. subst (λ (z : Entry). z.0 ≤ id) (same_Some y e same) (entry-low es id y there)
  ] refl is
  | false ↦ λ _ is. absurd (none-some e is)
] refl is

pub slot-there : (c : Cast) (id to : ℕ) → contains c.left to ≡ true → slot c id to ≡ Some (record { id = id; from = c.from; to = to; bytes = c.bytes })
slot-there c id to h = ap (λ b. cond b (Some (record { id = id; from = c.from; to = to; bytes = c.bytes })) None) h

pub slot-gone : (c : Cast) (id to : ℕ) → contains c.left to ≡ false → slot c id to ≡ None
slot-gone c id to h = ap (λ b. cond b (Some (record { id = id; from = c.from; to = to; bytes = c.bytes })) None) h

pub none-past : (es : List Entry) (id : ℕ) (e : Entry) → entry_of es id ≡ Some e → slice_get (member_list (e.1).to) (id - e.0) ≡ None → copy_of (entry_of es id) id ≡ None
none-past es id e is past = ap (λ o. copy_of o id) is ∙ ap (slot_for e.1 id) past

pub none-taken : (es : List Entry) (id to : ℕ) (e : Entry) → entry_of es id ≡ Some e → slice_get (member_list (e.1).to) (id - e.0) ≡ Some to → contains (e.1).left to ≡ false → copy_of (entry_of es id) id ≡ None
none-taken es id to e is at gone = ap (λ o. copy_of o id) is ∙ ap (slot_for e.1 id) at ∙ slot-gone e.1 id to gone

-- the copy that is found
pub found-copy : (es : List Entry) (low next id index to : ℕ) (e : Entry) → AreRising low es next → IsFound es id index to → slice_get es index ≡ Some e
    → find_copy (copies_of es) id ≡ Some (record { id = id; from = (e.1).from; to = to; bytes = (e.1).bytes })
found-copy es low next id index to e r f at =
    let same : f.entry ≡ e = same_Some f.entry e (sym f.at ∙ at) in
    find-all low next id es r ∙ ap (λ o. copy_of o id) f.is ∙ ap (slot_for ((f.entry).1) id) f.member ∙ slot-there ((f.entry).1) id to f.left
    ∙ ap (λ (x : Entry). Some (record { id = id; from = (x.1).from; to = to; bytes = (x.1).bytes })) same

-- the cast at an index, among the values
pub value-at : (es : List Entry) (index : ℕ) (e : Entry) (c : Cast) → slice_get es index ≡ Some e → slice_get (values_of es) index ≡ Some c → e.1 ≡ c
value-at [] index e c at there = absurd cc
value-at (x ∷ es) zero e c at there = ap (λ (y : Entry). y.1) (sym (same_Some x e at)) ∙ same_Some x.1 c there
value-at (x ∷ es) (suc index) e c at there = value-at es index e c at there

pub found-value : (es : List Entry) (index : ℕ) (e : Entry) → slice_get es index ≡ Some e → slice_get (values_of es) index ≡ Some e.1
found-value [] index e at = absurd cc
found-value (x ∷ es) zero e at = ap (λ (y : Entry). Some y.1) (same_Some x e at)
found-value (x ∷ es) (suc index) e at = found-value es index e at

-- a cast that is put where it is
pub set-same : (es : List Entry) (index : ℕ) (c : Cast) → slice_get (values_of es) index ≡ Some c → set_value_at es index c ≡ es
set-same [] index c at = absurd cc
set-same (x ∷ es) zero c at = ap (λ v. (x.0, v) ∷ es) (sym (same_Some x.1 c at))
set-same (x ∷ es) (suc index) c at = ap (λ xs. x ∷ xs) (set-same es index c at)

pub set-here : (es : List Entry) (index : ℕ) (e : Entry) (w : Cast) → slice_get es index ≡ Some e → slice_get (set_value_at es index w) index ≡ Some (e.0, w)
set-here [] zero e w at = absurd cc
set-here [] (suc index) e w at = absurd cc
set-here (x ∷ es) zero e w at = ap (λ (y : Entry). Some (y.0, w)) (same_Some x e at)
set-here (x ∷ es) (suc index) e w at = set-here es index e w at

pub none-or : {A : Type 0} (r : Option A) (P : Type 0) → P → IfNone r P
none-or None P p = p
none-or (Some x) P p = tt

-- ---- ids

numbered-low : (low more next : ℕ) (fs : List Flying) → low ≤ more → AreNumbered more fs next → AreNumbered low fs next
numbered-low low more next [] le n = omega arith
numbered-low low more next (f ∷ fs) le n = let here = n.0 in (omega arith, n.1)

numbered-append : (low mid next : ℕ) (xs ys : List Flying) → AreNumbered low xs mid → AreNumbered mid ys next → AreNumbered low (xs ++ ys) next
numbered-append low mid next [] ys n m = numbered-low low mid next ys n m
numbered-append low mid next (x ∷ xs) ys n m = (n.0, numbered-append (x.id + 1) mid next xs ys n.1 m)

pub copies-numbered : (low next : ℕ) (es : List Entry) → AreRising low es next → AreNumbered low (copies_of es) next
copies-numbered low next [] r = r
copies-numbered low next (e ∷ es) r =
    let tos = member_list (e.1).to in
    let len : e.0 + length (slots_at e) ≡ e.0 + size e.1 = ap (λ n. e.0 + n) (slots-length e.1 e.0 tos) in
    numbered-append low (e.0 + size e.1) next (copies_in (slots_at e)) (copies_of es)
    (subst (AreNumbered low (copies_in (slots_at e))) len (numbered (slots_at e) e.0 low r.0 (slots-are e.1 e.0 tos)))
    (copies-numbered (e.0 + size e.1) next es r.2)

pub copies-few : (low next : ℕ) (es : List Entry) → AreRising low es next → low + length (copies_of es) ≤ next
copies-few low next [] r = omega arith
copies-few low next (e ∷ es) r =
    let rest = copies-few (e.0 + size e.1) next es r.2 in
    let here = few_copies (slots_at e) in
    let len = slots-length e.1 e.0 (member_list (e.1).to) in
    let all = length-append (copies_in (slots_at e)) (copies_of es) in
    let low = r.0 in
    omega arith

-- ---- a cast more

pub insert-last : (low next : ℕ) (es : List Entry) (c : Cast) → AreRising low es next → insert_entry eqb es next c ≡ es ++ (next, c) ∷ []
insert-last low next [] c r = refl
insert-last low next (e ∷ es) c r =
    let later = rising-low (e.0 + size e.1) next es r.2 in
    let one = r.1 in
    ap (λ b. cond b ((e.0, c) ∷ es) (e ∷ insert_entry eqb es next c)) (ne_eqb next e.0 (λ same. omega arith))
    ∙ ap (λ (xs : List Entry). e ∷ xs) (insert-last (e.0 + size e.1) next es c r.2)

pub rising-push : (low next : ℕ) (es : List Entry) (c : Cast) → AreRising low es next → 0 < size c → AreRising low (es ++ (next, c) ∷ []) (next + size c)
rising-push low next [] c r some = (r, some, omega arith)
rising-push low next (e ∷ es) c r some = (r.0, r.1, rising-push (e.0 + size e.1) next es c r.2 some)

pub all-push : (P : Cast → Type 0) (es : List Entry) (e : Entry) → AllByRecursion (λ x. P x.1) es → P e.1 → AllByRecursion (λ x. P x.1) (es ++ e ∷ [])
all-push P [] e all is = (is, tt)
all-push P (x ∷ es) e all is = (all.0, all-push P es e all.1 is)

pub all-at : (P : Cast → Type 0) (index : ℕ) (es : List Entry) (e : Entry) → AllByRecursion (λ x. P x.1) es → slice_get es index ≡ Some e → P e.1
all-at P zero [] e all at = absurd cc
all-at P (suc index) [] e all at = absurd cc
all-at P zero (x ∷ es) e all at = subst (λ (y : Entry). P y.1) (same_Some x e at) all.0
all-at P (suc index) (x ∷ es) e all at = all-at P index es e all.1 at

pub all-set : (P : Cast → Type 0) (index : ℕ) (es : List Entry) (w : Cast) → AllByRecursion (λ x. P x.1) es → P w → AllByRecursion (λ x. P x.1) (set_value_at es index w)
all-set P index [] w all is = tt
all-set P zero (x ∷ es) w all is = (is, all.1)
all-set P (suc index) (x ∷ es) w all is = (all.0, all-set P index es w all.1 is)

copies-push : (es : List Entry) (e : Entry) → copies_of (es ++ e ∷ []) ≡ copies_of es ++ copies_in (slots_at e)
copies-push [] e = append-nil (copies_in (slots_at e))
copies-push (x ∷ es) e = ap (λ (fs : List Flying). copies_in (slots_at x) ++ fs) (copies-push es e) ∙ sym (append_assoc (copies_in (slots_at x)) (copies_of es) (copies_in (slots_at e)))

slots-full : (c : Cast) (id : ℕ) (tos : List ℕ) → AllByRecursion (λ q. contains c.left q ≡ true) tos → copies_in (slots_of c id tos) ≡ copies_to tos id c.from c.bytes
slots-full c id [] all = refl
slots-full c id (to ∷ tos) all =
    ap (λ o. copies_in (o ∷ slots_of c (id + 1) tos)) (slot-there c id to all.0)
    ∙ ap (λ (fs : List Flying). record { id = id; from = c.from; to = to; bytes = c.bytes } ∷ fs) (slots-full c (id + 1) tos all.1)

-- where the copy flies to each receiver
pub cast-copies : (es : List Entry) (next : ℕ) (c : Cast) → c.left ≡ c.to → copies_of (es ++ (next, c) ∷ []) ≡ copies_of es ++ copies_to (member_list c.to) next c.from c.bytes
cast-copies es next c all =
    copies-push es (next, c)
    ∙ ap (λ (fs : List Flying). copies_of es ++ fs) (slots-full c next (member_list c.to) (members-all (λ q. contains c.left q ≡ true) 256 c.to (λ q is. ap (λ s. contains s q) all ∙ is)))

-- ---- a copy less

module _ (c : Cast) (t : ℕ) where
  slots-same : (k low next : ℕ) (tos : List ℕ) → t < low → Rises low tos next → slots_of (without_to c t) k tos ≡ slots_of c k tos
  slots-same k low next [] lt r = refl
  slots-same k low next (to ∷ tos) lt r =
      let up = r.0 in
      let other : contains (remove c.left t) to ≡ contains c.left to = remove_other nat_cmp_total nat_cmp-IsAntisymmetric c.left t to (λ e. omega arith) in
      ap (λ b. cond b (Some (record { id = k; from = c.from; to = to; bytes = c.bytes })) None ∷ slots_of (without_to c t) (k + 1) tos) other
      ∙ ap (λ (ss : List (Option Flying)). slot c k to ∷ ss) (slots-same (k + 1) (to + 1) next tos (omega arith) r.1)

  slots-set : (k low next j : ℕ) (tos : List ℕ) → Rises low tos next → slice_get tos j ≡ Some t → low ≤ t × (slots_of (without_to c t) k tos ≡ slice_set (slots_of c k tos) j None)
  slots-set k low next zero [] r e = absurd cc
  slots-set k low next (suc j) [] r e = absurd cc
  slots-set k low next zero (to ∷ tos) r e =
      let same : to ≡ t = same_Some to t e in
      let up = r.0 in
      let gone : contains (remove c.left t) to ≡ false = ap (contains (remove c.left t)) same ∙ remove_here nat_cmp_total nat_cmp-IsAntisymmetric c.left t in (
        omega arith,
        ap (λ b. cond b (Some (record { id = k; from = c.from; to = to; bytes = c.bytes })) None ∷ slots_of (without_to c t) (k + 1) tos) gone
            ∙ ap (λ (ss : List (Option Flying)). None ∷ ss) (slots-same (k + 1) (to + 1) next tos (omega arith) r.1),
      )
  slots-set k low next (suc j) (to ∷ tos) r e =
      let up = r.0 in
      let rest = slots-set (k + 1) (to + 1) next j tos r.1 e in
      let more = rest.0 in
      let other : contains (remove c.left t) to ≡ contains c.left to = remove_other nat_cmp_total nat_cmp-IsAntisymmetric c.left t to (λ same. omega arith) in (
        omega arith,
        ap (λ b. cond b (Some (record { id = k; from = c.from; to = to; bytes = c.bytes })) None ∷ slots_of (without_to c t) (k + 1) tos) other
            ∙ ap (λ (ss : List (Option Flying)). slot c k to ∷ ss) rest.1,
      )

-- what becomes of the copies once that of this id is taken
pub record IsLess (before now : List Flying) (id : ℕ) (bytes : List ℕ) : Type 0 where
  pub others : now ≡ without before id
  pub fewer : length before ≡ length now + 1
  pub of_data : data_in before ≡ data_in now + cond (is_data bytes) 1 0

-- of one cast
one-taken : (k id to : ℕ) (c : Cast) → k ≤ id → slice_get (member_list c.to) (id - k) ≡ Some to → contains c.left to ≡ true
    → IsLess (copies_in (slots_at (k, c))) (copies_in (slots_at (k, without_to c to))) id c.bytes
one-taken k id to c low at left =
    let tos = member_list c.to in
    let slots = slots_of c k tos in
    let copy : Flying = record { id = k + (id - k); from = c.from; to = to; bytes = c.bytes } in
    let here : slice_get slots (id - k) ≡ Some (Some copy) = slots-get c k (id - k) to tos at ∙ ap (λ o. Some o) (slot-there c (k + (id - k)) to left) in
    let now = ap copies_in (slots-set c to k 0 256 (id - k) tos (members-sorted 256 c.to) at).1 in
    record {
      others = now ∙ taken_in slots k (id - k) id copy (slots-are c k tos) here (omega arith);
      fewer = omega (arith, one_less slots (id - k) copy here, ap length now);
      of_data = omega (arith, data_less slots (id - k) copy here, ap data_in now);
    }

pub rising-first : (low next index : ℕ) (es : List Entry) (e : Entry) → AreRising low es next → slice_get es index ≡ Some e → low ≤ e.0
rising-first low next zero [] e r at = absurd cc
rising-first low next (suc index) [] e r at = absurd cc
rising-first low next zero (x ∷ es) e r at = subst (λ (y : Entry). low ≤ y.0) (same_Some x e at) r.0
rising-first low next (suc index) (x ∷ es) e r at = let rest = rising-first (x.0 + size x.1) next index es e r.2 at in let up = r.0 in omega arith

pub copies-taken : (low next id index to : ℕ) (es : List Entry) (e : Entry) → AreRising low es next → slice_get es index ≡ Some e → e.0 ≤ id
    → slice_get (member_list (e.1).to) (id - e.0) ≡ Some to → contains (e.1).left to ≡ true
    → IsLess (copies_of es) (copies_of (set_value_at es index (without_to e.1 to))) id (e.1).bytes
copies-taken low next id zero to [] e r at le member left = absurd cc
copies-taken low next id (suc index) to [] e r at le member left = absurd cc
copies-taken low next id zero to (x ∷ es) e r at le member left =
    let same : x ≡ e = same_Some x e at in
    subst (λ (y : Entry). IsLess (copies_of (y ∷ es)) (copies_of ((y.0, without_to e.1 to) ∷ es)) id (e.1).bytes) (sym same)
    (
    let one = one-taken e.0 id to e.1 le member left in
    let within = slice_get_within (member_list (e.1).to) (id - e.0) to member in
    let tail : AreRising (e.0 + size e.1) es next = subst (λ (y : Entry). AreRising (y.0 + size y.1) es next) same r.2 in
    let rest = without_none (copies_of es) id (copies-out (e.0 + size e.1) next id es tail (omega arith)) in
    let xs = copies_in (slots_at e) in
    let ys = copies_in (slots_at (e.0, without_to e.1 to)) in
    let long = length-append xs (copies_of es) in
    let short = length-append ys (copies_of es) in
    let all = data_append xs (copies_of es) in
    let some = data_append ys (copies_of es) in
    record {
      others = ap (λ fs. fs ++ copies_of es) one.others ∙ ap (λ fs. without xs id ++ fs) (sym rest) ∙ sym (without-append xs (copies_of es) id);
      fewer = omega (arith, one.fewer);
      of_data = omega (arith, one.of_data);
    }
    )
copies-taken low next id (suc index) to (x ∷ es) e r at le member left =
    let rest = copies-taken (x.0 + size x.1) next id index to es e r.2 at le member left in
    let up = rising-first (x.0 + size x.1) next index es e r.2 at in
    let xs = copies_in (slots_at x) in
    let none = without_none xs id (slots-out x.1 x.0 id (member_list (x.1).to) (inr (omega arith))) in
    let now = copies_of (set_value_at es index (without_to e.1 to)) in
    let long = length-append xs (copies_of es) in
    let short = length-append xs now in
    let all = data_append xs (copies_of es) in
    let some = data_append xs now in
    record {
      others = ap (λ fs. xs ++ fs) rest.others ∙ ap (λ fs. fs ++ without (copies_of es) id) (sym none) ∙ sym (without-append xs (copies_of es) id);
      fewer = omega (arith, rest.fewer);
      of_data = omega (arith, rest.of_data);
    }

-- the casts stand where they stood
pub rising-taken : (low next index to : ℕ) (es : List Entry) (e : Entry) → AreRising low es next → slice_get es index ≡ Some e → AreRising low (set_value_at es index (without_to e.1 to)) next
rising-taken low next zero to [] e r at = absurd cc
rising-taken low next (suc index) to [] e r at = absurd cc
rising-taken low next zero to (x ∷ es) e r at =
    let same : x ≡ e = same_Some x e at in
    let long : size (without_to e.1 to) ≡ size x.1 = ap (λ (y : Entry). size y.1) (sym same) in
    (r.0, subst (λ n. 0 < n) (sym long) r.1, subst (λ n. AreRising (x.0 + n) es next) (sym long) r.2)
rising-taken low next (suc index) to (x ∷ es) e r at = (r.0, r.1, rising-taken (x.0 + size x.1) next index to es e r.2 at)

pub left-taken : (c : Cast) (to : ℕ) → AreLeft c → AreLeft (without_to c to)
left-taken c to are q is = elim (cases_eq q to) [
  | inl e ↦ absurd (let none : contains (remove c.left to) q ≡ false = ap (contains (remove c.left to)) e ∙ remove_here nat_cmp_total nat_cmp-IsAntisymmetric c.left to in cc)
  | inr ne ↦ are q (sym (remove_other nat_cmp_total nat_cmp-IsAntisymmetric c.left to q ne) ∙ is)
]

pub found-taken : (low next id index to : ℕ) (es : List Entry) (e : Entry) → AreRising low es next → IsFound es id index to → slice_get es index ≡ Some e
    → IsLess (copies_of es) (copies_of (set_value_at es index (without_to e.1 to))) id (e.1).bytes
found-taken low next id index to es e r f at =
    let same : f.entry ≡ e = same_Some f.entry e (sym f.at ∙ at) in
    copies-taken low next id index to es e r at
    (subst (λ (y : Entry). y.0 ≤ id) same f.low)
    (ap (λ (y : Entry). slice_get (member_list (y.1).to) (id - y.0)) (sym same) ∙ f.member)
    (ap (λ (y : Entry). contains (y.1).left to) (sym same) ∙ f.left)

-- ---- a copy that is known to go to that receiver

goes-to : (c : Cast) (id to : ℕ) (o : Option ℕ) → option_map (λ (f : Flying). f.to) (slot_for c id o) ≡ Some to → (o ≡ Some to) × (contains c.left to ≡ true)
goes-to c id to None goes = absurd (none-some to goes)
goes-to c id to (Some m) goes = elim (contains c.left m) as (λ b. contains c.left m ≡ b → option_map (λ (f : Flying). f.to) (cond b (Some (record { id = id; from = c.from; to = m; bytes = c.bytes })) None) ≡ Some to → (Some m ≡ Some to) × (contains c.left to ≡ true)) [
  | true ↦ λ left is. (is, ap (contains c.left) (sym (same_Some m to is)) ∙ left)
  | false ↦ λ _ is. absurd (none-some to is)
] refl goes

pub found-again : (es : List Entry) (id index to : ℕ) → ((e : Entry) → entry_of es id ≡ Some e → slice_get es index ≡ Some e) → option_map (λ (f : Flying). f.to) (copy_of (entry_of es id) id) ≡ Some to → IsFound es id index to
found-again es id index to at goes = elim (entry_of es id) as (λ o. entry_of es id ≡ o → option_map (λ (f : Flying). f.to) (copy_of o id) ≡ Some to → IsFound es id index to) [
  | None ↦ λ _ is. absurd (none-some to is)
  | Some e ↦ λ there is.
      let here = goes-to e.1 id to (slice_get (member_list (e.1).to) (id - e.0)) is in
      record { entry = e; at = at e there; is = there; low = entry-low es id e there; member = here.0; left = here.1 }
] refl goes

pub rises-to : (low next : ℕ) (xs : List ℕ) → Rises low xs next → low ≤ next
rises-to low next [] r = r
rises-to low next (x ∷ xs) r = let up = r.0 in let rest = rises-to (x + 1) next xs r.1 in omega arith

pub found-below : (es : List Entry) (id index to : ℕ) → IsFound es id index to → to < 256
found-below es id index to f = rises-bound 0 256 (id - (f.entry).0) to (member_list ((f.entry).1).to) (members-sorted 256 ((f.entry).1).to) f.member
