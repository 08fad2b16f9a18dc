-- What becomes of a table where one entry is written, against the model's changes.
use Rattle.std.proofs.Common.{◌≡◌, ℕ, zero, suc, ◌+◌, Bool, false, cond, eqb, List, [], ◌∷◌, drop, length, Option, Some, None, refl, ap, sym, subst, ◌∙◌, eq-eqb, inl, inr, arith}
use Rattle.std.specs.Prelude.{option_map, slice_get, T}
use Rattle.std.proofs.lemmas.Bool.{ne_eqb, cases_eq}
use Rattle.std.proofs.lemmas.Option.{none-some}
use Rattle.std.proofs.lemmas.Cmp.{nat_cmp_total}
use Rattle.std.specs.Ordering.{nat_cmp}
use Rattle.std.specs.Cmp.{unsigned_tied}
use Rattle.std.specs.FinMap as maps
use Rattle.std.specs.FinMap.{find, is_sorted}
use Rattle.std.specs.FinSet as sets
use Rattle.mesh_base.specs.Members.{NodeIds}
use Rattle.aodv_model.specs.declared.entry.Entry.{Entry}
use Rattle.aodv_model.specs.declared.entry.Flag.TheVariants.{Inv}
use Rattle.aodv_model.proofs.RisingLaws.{no_later}
use Rattle.aodv_model.specs.Tables.{Table, Dests, entry_after, update, invalidate, invalidated, add_pre, add_pre_at}
use Rattle.aodv_model.proofs.Lookups.{get-invalidate, get-add_pre}
use Rattle.aodv_table.proofs.Lookups.{get-with_entry, same_table}

-- ---- update

pub updated_is : (rt : Table) (d : ℕ) (r after : Entry) (before : Option Entry) → before ≡ maps.get rt d → after ≡ entry_after before r → maps.insert rt d after ≡ update rt d r
unfolding update
updated_is rt d r after before read is = ap (maps.insert rt d) (is ∙ ap (λ o. entry_after o r) read)

same_put : (rt : Table) (d : ℕ) (e : Entry) → maps.get rt d ≡ Some e → maps.insert rt d e ≡ rt
same_put rt d e is = same_table (maps.insert rt d e) rt (λ q.
    get-with_entry rt d (Some e) q
    ∙ elim (cases_eq q d) [
      | inl same ↦ ap (λ (b : Bool). cond b (Some e) (maps.get rt q)) (eq-eqb q d same) ∙ sym (ap (maps.get rt) same ∙ is)
      | inr other ↦ ap (λ (b : Bool). cond b (Some e) (maps.get rt q)) (ne_eqb q d other)
    ])

put_same : (rt : Table) (d : ℕ) (e : Entry) → maps.insert rt d e ≡ rt → maps.get rt d ≡ Some e
put_same rt d e is = ap (λ (t : Table). maps.get t d) (sym is) ∙ get-with_entry rt d (Some e) d ∙ ap (λ (b : Bool). cond b (Some e) (maps.get rt d)) (eq-eqb d d refl)

pub same_is : (rt new : Table) (d : ℕ) (after : Entry) (before : Option Entry) (b : Bool) → before ≡ maps.get rt d → new ≡ maps.insert rt d after
    → (b ≡ false → before ≡ Some after) × (before ≡ Some after → b ≡ false) → (b ≡ false → new ≡ rt) × (new ≡ rt → b ≡ false)
same_is rt new d after before b read is tells =
    (λ e. is ∙ same_put rt d after (sym read ∙ tells.0 e), λ e. tells.1 (read ∙ put_same rt d after (sym is ∙ e)))

-- ---- one entry is written in place of what is there

put_is : (rt new : Table) (d : ℕ) (e f : Entry) → maps.get rt d ≡ Some e → maps.get new d ≡ Some f → ((q : ℕ) → (q ≡ d → ⊥) → maps.get new q ≡ maps.get rt q) → maps.insert rt d f ≡ new
put_is rt new d e f had has others = same_table (maps.insert rt d f) new (λ q.
    get-with_entry rt d (Some f) q
    ∙ elim (cases_eq q d) [
      | inl same ↦ ap (λ (b : Bool). cond b (Some f) (maps.get rt q)) (eq-eqb q d same) ∙ sym (ap (maps.get new) same ∙ has)
      | inr other ↦ ap (λ (b : Bool). cond b (Some f) (maps.get rt q)) (ne_eqb q d other) ∙ sym (others q other)
    ])

abbrev pub one_pair : ℕ → ℕ → Dests
one_pair d n = maps.insert maps.empty d n

get-one_pair : (d n q : ℕ) → maps.get (one_pair d n) q ≡ cond (eqb q d) (Some n) None
get-one_pair d n q =
    maps.get-insert nat_cmp_total maps.empty d n q
    ∙ ap (λ (b : Bool). cond b (Some n) (maps.get (maps.empty {R = nat_cmp}) q)) (unsigned_tied q d)
    ∙ ap (cond (eqb q d) (Some n)) (maps.get-empty nat_cmp q)

pub untold : (o : Option Entry) → option_map (λ e. invalidated e None) o ≡ o
untold None = refl
untold (Some e) = refl

pub one_invalid : (rt : Table) (d n : ℕ) (e : Entry) → Some e ≡ maps.get rt d → maps.insert rt d (record e { dsn = n; flag = Inv }) ≡ invalidate rt (one_pair d n)
one_invalid rt d n e had =
    put_is rt (invalidate rt (one_pair d n)) d e (record e { dsn = n; flag = Inv }) (sym had)
    (get-invalidate rt (one_pair d n) d ∙ ap (λ o. option_map (λ x. invalidated x o) (maps.get rt d)) (get-one_pair d n d ∙ ap (λ (b : Bool). cond b (Some n) None) (eq-eqb d d refl)) ∙ ap (option_map (λ x. invalidated x (Some n))) (sym had))
    (λ q other. get-invalidate rt (one_pair d n) q ∙ ap (λ o. option_map (λ x. invalidated x o) (maps.get rt q)) (get-one_pair d n q ∙ ap (λ (b : Bool). cond b (Some n) None) (ne_eqb q d other)) ∙ untold (maps.get rt q))

pub none_invalid : (rt : Table) (d n : ℕ) → None ≡ maps.get rt d → rt ≡ invalidate rt (one_pair d n)
none_invalid rt d n none = same_table rt (invalidate rt (one_pair d n)) (λ q. sym (
    get-invalidate rt (one_pair d n) q
    ∙ elim (cases_eq q d) [
      | inl same ↦ ap (option_map (λ x. invalidated x (maps.get (one_pair d n) q))) (ap (maps.get rt) same ∙ sym none) ∙ none ∙ ap (maps.get rt) (sym same)
      | inr other ↦ ap (λ o. option_map (λ x. invalidated x o) (maps.get rt q)) (get-one_pair d n q ∙ ap (λ (b : Bool). cond b (Some n) None) (ne_eqb q d other)) ∙ untold (maps.get rt q)
    ]))

pub unjoined : (d : ℕ) (p : NodeIds) (q : ℕ) (o : Option Entry) → (q ≡ d → ⊥) → option_map (add_pre_at d p q) o ≡ o
unjoined d p q None other = refl
unjoined d p q (Some e) other = rw (ne_eqb q d other) refl

pub pre_joined : (rt : Table) (d : ℕ) (p : NodeIds) (e : Entry) → Some e ≡ maps.get rt d → maps.insert rt d (record e { pre = sets.union e.pre p }) ≡ add_pre rt d p
pre_joined rt d p e had =
    put_is rt (add_pre rt d p) d e (record e { pre = sets.union e.pre p }) (sym had)
    (get-add_pre rt d p d ∙ ap (option_map (add_pre_at d p d)) (sym had) ∙ ap (λ (b : Bool). Some (cond b (record e { pre = sets.union e.pre p }) e)) (eq-eqb d d refl))
    (λ q other. get-add_pre rt d p q ∙ unjoined d p q (maps.get rt q) other)

pub none_joined : (rt : Table) (d : ℕ) (p : NodeIds) → None ≡ maps.get rt d → rt ≡ add_pre rt d p
none_joined rt d p none = same_table rt (add_pre rt d p) (λ q. sym (
    get-add_pre rt d p q
    ∙ elim (cases_eq q d) [
      | inl same ↦ ap (option_map (add_pre_at d p q)) (ap (maps.get rt) same ∙ sym none) ∙ none ∙ ap (maps.get rt) (sym same)
      | inr other ↦ unjoined d p q (maps.get rt q) other
    ]))

-- ---- pair after pair

abbrev pub each_invalid : Table → List (ℕ × ℕ) → Table
each_invalid rt [] = rt
each_invalid rt (pair ∷ pairs) = each_invalid (invalidate rt (one_pair pair.0 pair.1)) pairs

told_twice : (n : ℕ) (o : Option Entry) → option_map (λ x. invalidated x None) (option_map (λ x. invalidated x (Some n)) o) ≡ option_map (λ x. invalidated x (Some n)) o
told_twice n None = refl
told_twice n (Some e) = refl

get-each_invalid : (rt : Table) (pairs : List (ℕ × ℕ)) (q : ℕ) → T (is_sorted nat_cmp pairs) → maps.get (each_invalid rt pairs) q ≡ option_map (λ x. invalidated x (find nat_cmp q pairs)) (maps.get rt q)
get-each_invalid rt [] q sorted = sym (untold (maps.get rt q))
get-each_invalid rt (pair ∷ pairs) q sorted =
    get-each_invalid (invalidate rt (one_pair pair.0 pair.1)) pairs q (no_later pair pairs sorted).0
    ∙ ap (option_map (λ x. invalidated x (find nat_cmp q pairs))) (get-invalidate rt (one_pair pair.0 pair.1) q ∙ ap (λ o. option_map (λ x. invalidated x o) (maps.get rt q)) (get-one_pair pair.0 pair.1 q))
    ∙ elim (cases_eq q pair.0) [
      | inl same ↦
          rw (unsigned_tied q pair.0, eq-eqb q pair.0 same) (
          ap (λ o. option_map (λ x. invalidated x o) (option_map (λ x. invalidated x (Some pair.1)) (maps.get rt q))) (ap (λ k. find nat_cmp k pairs) same ∙ (no_later pair pairs sorted).1)
          ∙ told_twice pair.1 (maps.get rt q))
      | inr other ↦
          rw (unsigned_tied q pair.0, ne_eqb q pair.0 other) (ap (option_map (λ x. invalidated x (find nat_cmp q pairs))) (untold (maps.get rt q)))
    ]

pub all_invalid : (rt : Table) (dests : Dests) → each_invalid rt (maps.entries dests) ≡ invalidate rt dests
all_invalid rt dests = same_table (each_invalid rt (maps.entries dests)) (invalidate rt dests) (λ q.
    get-each_invalid rt (maps.entries dests) q (maps.entries_sorted dests)
    ∙ ap (λ o. option_map (λ x. invalidated x o) (maps.get rt q)) (sym (maps.get-entries dests q))
    ∙ sym (get-invalidate rt dests q))

drop_at : (xs : List (ℕ × ℕ)) (k : ℕ) (x : ℕ × ℕ) → slice_get xs k ≡ Some x → drop k xs ≡ x ∷ drop (suc k) xs
drop_at [] k x e = absurd (none-some x e)
drop_at (y ∷ ys) zero x e = cc
drop_at (y ∷ ys) (suc k) x e = drop_at ys k x e

drop_all : (xs : List (ℕ × ℕ)) → drop (length xs) xs ≡ []
drop_all [] = refl
drop_all (x ∷ xs) = drop_all xs

-- what is left to be done after k pairs
pub record Left (start now : Table) (dests : Dests) (k : ℕ) : Type 0 where
  pub rest : each_invalid now (drop k (maps.entries dests)) ≡ invalidate start dests

pub left_first : (rt : Table) (dests : Dests) → Left rt rt dests 0
left_first rt dests = record { rest = all_invalid rt dests }

left_next : (start now : Table) (dests : Dests) (k : ℕ) (pair : ℕ × ℕ) → slice_get (maps.entries dests) k ≡ Some pair → Left start now dests k → Left start (invalidate now (one_pair pair.0 pair.1)) dests (k + 1)
left_next start now dests k pair is left =
    let up : suc k ≡ k + 1 = omega arith in
    record { rest = subst (λ j. each_invalid (invalidate now (one_pair pair.0 pair.1)) (drop j (maps.entries dests)) ≡ invalidate start dests) up (ap (each_invalid now) (sym (drop_at (maps.entries dests) k pair is)) ∙ left.rest) }

pub left_step : (start now new : Table) (dests : Dests) (k : ℕ) (pair : ℕ × ℕ) → slice_get (maps.entries dests) k ≡ Some pair → new ≡ invalidate now (one_pair pair.0 pair.1) → Left start now dests k → Left start new dests (k + 1)
left_step start now new dests k pair is did left = subst (λ rt. Left start rt dests (k + 1)) (sym did) (left_next start now dests k pair is left)

pub left_last : (start now : Table) (dests : Dests) (k : ℕ) → k ≡ length (maps.entries dests) → Left start now dests k → now ≡ invalidate start dests
left_last start now dests k all left = sym (ap (each_invalid now) (ap (λ j. drop j (maps.entries dests)) all ∙ drop_all (maps.entries dests))) ∙ left.rest
