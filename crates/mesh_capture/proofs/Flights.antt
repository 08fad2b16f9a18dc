-- The flight that the lines tell is that of the world: a copy is found, joins it and leaves it in both.
use Rattle.std.proofs.Common.{◌≡◌, ℕ, ◌+◌, ◌<◌, ◌≤◌, inl, inr, Bool, true, false, eqb, cond, not, List, [], ◌∷◌, ◌++◌, Some, None, option_map, refl, sym, ap, ◌∙◌, arith, eq-eqb, Greater}
use Rattle.std.specs.Prelude.{is_some}
use Rattle.std.specs.Map.{remove_entry}
use Rattle.std.specs.List.{filter}
use Rattle.std.specs.Ordering.{nat_cmp, match_ordering}
use Rattle.std.specs.Cmp.{unsigned_tied, nat_cmp_is}
use Rattle.std.specs.BTreeMap.{insert_entry, is_at}
use Rattle.std.proofs.lemmas.Bool.{ne_eqb, cases_eq}
use Rattle.mesh_base.specs.Meshes.{Nodes}
use Rattle.mesh_base.proofs.Lemmas.Bools.{eqb_turned}
use Rattle.mesh_model.specs.InMesh.{AreNumbered}
use Rattle.mesh_model.specs.Worlds.{Copy, find_copy, without}
use Rattle.mesh_capture.specs.declared.copies.FlyingCopy.{FlyingCopy}
use Rattle.mesh_capture.specs.Copies.{Flying, copy_in}
use Rattle.mesh_capture.proofs.Told.{copy_told, flight_told}

-- ---- numbers

at_is : (id k : ℕ) → is_at (nat_cmp id) k ≡ eqb k id
at_is id k = unsigned_tied id k ∙ eqb_turned id k

pub numbers_end : (low next : ℕ) (cs : List Copy) → AreNumbered low cs next → low ≤ next
numbers_end low next [] are = are
numbers_end low next (c ∷ cs) are = omega (arith, are.0, numbers_end (c.id + 1) next cs are.1)

-- ---- a copy is found

pub copy_found : (mesh : Nodes) (cs : List Copy) (id : ℕ) → copy_in (flight_told mesh cs) id ≡ option_map (λ (c : Copy). (copy_told mesh c).1) (find_copy cs id)
unfolding flight_told
copy_found mesh [] id = refl
copy_found mesh (c ∷ cs) id =
    ap (λ b. cond b (Some (copy_told mesh c).1) (copy_in (flight_told mesh cs) id)) (at_is id c.id) ∙ by_test (copy_found mesh cs id) (eqb c.id id)
  where
    by_test : copy_in (flight_told mesh cs) id ≡ option_map (λ (c : Copy). (copy_told mesh c).1) (find_copy cs id) → (b : Bool)
        → cond b (Some (copy_told mesh c).1) (copy_in (flight_told mesh cs) id) ≡ option_map (λ (c : Copy). (copy_told mesh c).1) (cond b (Some c) (find_copy cs id))
    by_test others true = refl
    by_test others false = others

-- none has a number that is still to come
none_ahead : (low id : ℕ) (cs : List Copy) → AreNumbered low cs id → find_copy cs id ≡ None
none_ahead low id [] are = refl
none_ahead low id (c ∷ cs) are =
    let end = numbers_end (c.id + 1) id cs are.1 in
    ap (λ b. cond b (Some c) (find_copy cs id)) (ne_eqb c.id id (λ is. omega arith)) ∙ none_ahead (c.id + 1) id cs are.1

pub absent : (mesh : Nodes) (low id : ℕ) (cs : List Copy) → AreNumbered low cs id → is_some (copy_in (flight_told mesh cs) id) ≡ false
absent mesh low id cs are = ap is_some (copy_found mesh cs id ∙ ap (option_map (λ (c : Copy). (copy_told mesh c).1)) (none_ahead low id cs are))

-- ---- a copy joins

pub flight_append : (mesh : Nodes) (cs ds : List Copy) → flight_told mesh (cs ++ ds) ≡ flight_told mesh cs ++ flight_told mesh ds
unfolding flight_told
flight_append mesh [] ds = refl
flight_append mesh (c ∷ cs) ds = ap (λ l. copy_told mesh c ∷ l) (flight_append mesh cs ds)

goes_last : (mesh : Nodes) (low id : ℕ) (cs : List Copy) (f : FlyingCopy) → AreNumbered low cs id → insert_entry nat_cmp (flight_told mesh cs) id f ≡ flight_told mesh cs ++ (id, f) ∷ []
unfolding flight_told
goes_last mesh low id [] f are = refl
goes_last mesh low id (c ∷ cs) f are =
    let end = numbers_end (c.id + 1) id cs are.1 in
    let e : ℕ × FlyingCopy = copy_told mesh c in
    let es : Flying = flight_told mesh cs in
    ap (λ o. match_ordering o ((id, f) ∷ e ∷ es) ((c.id, f) ∷ es) (e ∷ insert_entry nat_cmp es id f)) (sym (nat_cmp_is id c.id Greater (omega arith)))
    ∙ ap (λ l. e ∷ l) (goes_last mesh (c.id + 1) id cs f are.1)

pub joined : (mesh : Nodes) (low : ℕ) (cs : List Copy) (c : Copy) → AreNumbered low cs c.id → insert_entry nat_cmp (flight_told mesh cs) c.id (copy_told mesh c).1 ≡ flight_told mesh (cs ++ c ∷ [])
unfolding flight_told
joined mesh low cs c are = goes_last mesh low c.id cs (copy_told mesh c).1 are ∙ sym (flight_append mesh cs (c ∷ []))

-- ---- a copy leaves

without_none : (low next id : ℕ) (cs : List Copy) → AreNumbered low cs next → id < low → filter (λ (c : Copy). not (eqb c.id id)) cs ≡ cs
without_none low next id [] are lt = refl
without_none low next id (c ∷ cs) are lt =
    ap (λ b. cond (not b) (c ∷ filter (λ (c : Copy). not (eqb c.id id)) cs) (filter (λ (c : Copy). not (eqb c.id id)) cs)) (ne_eqb c.id id (λ is. let low = are.0 in omega arith))
    ∙ ap (λ l. c ∷ l) (without_none (c.id + 1) next id cs are.1 (omega (arith, are.0)))

pub left : (mesh : Nodes) (low next id : ℕ) (cs : List Copy) → AreNumbered low cs next → remove_entry (is_at (nat_cmp id)) (flight_told mesh cs) ≡ flight_told mesh (without cs id)
unfolding flight_told without
left mesh low next id [] are = refl
left mesh low next id (c ∷ cs) are =
    let others : List Copy = filter (λ (c : Copy). not (eqb c.id id)) cs in
    elim (cases_eq c.id id) [
      | inl is ↦
          ap (λ b. cond b (flight_told mesh cs) (copy_told mesh c ∷ remove_entry (is_at (nat_cmp id)) (flight_told mesh cs))) (at_is id c.id ∙ eq-eqb c.id id is)
          ∙ ap (flight_told mesh) (sym (without_none (c.id + 1) next id cs are.1 (omega arith)))
          ∙ ap (λ b. flight_told mesh (cond (not b) (c ∷ others) others)) (sym (eq-eqb c.id id is))
      | inr other ↦
          ap (λ b. cond b (flight_told mesh cs) (copy_told mesh c ∷ remove_entry (is_at (nat_cmp id)) (flight_told mesh cs))) (at_is id c.id ∙ ne_eqb c.id id other)
          ∙ ap (λ l. copy_told mesh c ∷ l) (left mesh (c.id + 1) next id cs are.1)
          ∙ ap (λ b. flight_told mesh (cond (not b) (c ∷ others) others)) (sym (ne_eqb c.id id other))
    ]
