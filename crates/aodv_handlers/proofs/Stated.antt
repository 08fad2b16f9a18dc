-- The pairs of a route error, by node.
use Rattle.std.proofs.Common.{◌≡◌, ℕ, zero, suc, ◌+◌, ◌<◌, ◌≤◌, Bool, true, false, cond, eqb, ◌&&◌, Option, Some, None, List, [], ◌∷◌, ◌++◌, length, length-append, map, get_or, refl, sym, ap, subst, ◌∙◌, eq-eqb, inl, inr, arith}
use Rattle.std.specs.Prelude.{slice_get, is_some, IsTrue, unwrap_or, nat_lt, if◌then◌else◌, ◌==◌}
use Rattle.std.specs.Ordering.{nat_cmp, eq_by_cmp}
use Rattle.std.specs.Cmp.{unsigned_tied}
use Rattle.std.specs.FinMap as maps
use Rattle.std.specs.FinMap.{find, nat_cmp-IsAntisymmetric}
use Rattle.std.proofs.lemmas.Cmp.{nat_cmp_total}
use Rattle.std.proofs.lemmas.Bool.{eqb-true, ne_eqb, cases_eq, cases_lt}
use Rattle.std.proofs.lemmas.Option.{none-some}
use Rattle.std.proofs.Math.ListN.{drop}
use Rattle.mesh_base.specs.declared.addr.Addr.{Addr}
use Rattle.mesh_base.specs.Meshes.{Nodes, index_of}
use Rattle.mesh_base.proofs.Lemmas.Lists.{drop_from}
use Rattle.aodv_model.specs.Tables.{Table, Dests, goes_by, sqn, accepted_unreachable}
use Rattle.aodv_model.specs.Soundness.{AreDestsBelow}
use Rattle.aodv_model.proofs.Lookups.{get-accepted}
use Rattle.aodv_model.proofs.TablesInMesh.{accepted_below}
use Rattle.aodv_meaning.specs.Meaning.{index, pair_by_index, dests_in, strange_pair}
use Rattle.aodv_meaning.proofs.Means.{below, first_in, pairs_below}
use Rattle.aodv_handlers.proofs.Lists.{from_end}

-- ---- who is in the mesh

pub known_at : (mesh : Nodes) (pairs : List (Addr × ℕ)) (k : ℕ) (p : Addr × ℕ) → strange_pair mesh pairs ≡ None → slice_get pairs k ≡ Some p → IsTrue (is_some (index_of mesh p.0.0))
known_at mesh [] k p none is = absurd (none-some p is)
known_at mesh (q ∷ ps) zero p none is = same q p is (first_in mesh q.0 (strange_pair mesh ps) none).0
  where
    same : (q p : Addr × ℕ) → Some q ≡ Some p → is_some (index_of mesh q.0.0) ≡ true → IsTrue (is_some (index_of mesh p.0.0))
    same q p is t = let e : q ≡ p = cc in subst (λ (p : Addr × ℕ). IsTrue (is_some (index_of mesh p.0.0))) e t
known_at mesh (q ∷ ps) (suc k) p none is = known_at mesh ps k p (first_in mesh q.0 (strange_pair mesh ps) none).1 is

-- ---- the numbers stated

abbrev pub or_else : Option ℕ → Option ℕ → Option ℕ
or_else None o = o
or_else (Some n) o = Some n

abbrev pub stated_from : Nodes → List (Addr × ℕ) → ℕ → ℕ → Option ℕ
stated_from mesh pairs k d = find nat_cmp d (map (pair_by_index mesh) (drop k pairs))

-- a number is stated for d among the first k pairs, or from there on
pub record HasStated (mesh : Nodes) (pairs : List (Addr × ℕ)) (k : ℕ) (numbers : List (Option ℕ)) : Type 0 where
  pub size : length numbers ≡ 200
  pub whole : (d : ℕ) → or_else (get_or numbers d None) (stated_from mesh pairs k d) ≡ stated_from mesh pairs 0 d

pub stated_none : (mesh : Nodes) (pairs : List (Addr × ℕ)) (numbers : List (Option ℕ)) → length numbers ≡ 200 → ((d : ℕ) → get_or numbers d None ≡ None) → HasStated mesh pairs 0 numbers
stated_none mesh pairs numbers size none = record { size = size; whole = λ d. ap (λ o. or_else o (stated_from mesh pairs 0 d)) (none d) }

here : (o : Option ℕ) (n : ℕ) (rest : Option ℕ) → or_else (Some (unwrap_or o n)) rest ≡ or_else o (Some n)
here None n rest = refl
here (Some m) n rest = refl

pub stated_more : (mesh : Nodes) (pairs : List (Addr × ℕ)) (k d : ℕ) (p : Addr × ℕ) (numbers numbers' : List (Option ℕ)) → HasStated mesh pairs k numbers → slice_get pairs k ≡ Some p → d ≡ index mesh p.0 → length numbers' ≡ length numbers
    → ((q : ℕ) → get_or numbers' q None ≡ (if q == d then Some (unwrap_or (get_or numbers d None) p.1) else get_or numbers q None)) → HasStated mesh pairs (k + 1) numbers'
stated_more mesh pairs k d p numbers numbers' has is d_is size new =
    record {
      size = size ∙ has.size;
      whole = λ q.
          let up : suc k ≡ k + 1 = omega arith in
          let later = stated_from mesh pairs (k + 1) q in
          let tied : eq_by_cmp nat_cmp q (index mesh p.0) ≡ (q == d) = unsigned_tied q (index mesh p.0) ∙ ap (λ (x : ℕ). q == x) (sym d_is) in
          let step : stated_from mesh pairs k q ≡ cond (q == d) (Some p.1) later =
          ap (λ ps. find nat_cmp q (map (pair_by_index mesh) ps)) (drop_from pairs k p is)
          ∙ (λ i. cond (tied i) (Some p.1) (stated_from mesh pairs (up i) q)) in
          case q (q == d) refl (step ∙ refl);
    }
  where
    case : (q : ℕ) (b : Bool) → (q == d) ≡ b → stated_from mesh pairs k q ≡ cond (q == d) (Some p.1) (stated_from mesh pairs (k + 1) q) → or_else (get_or numbers' q None) (stated_from mesh pairs (k + 1) q) ≡ stated_from mesh pairs 0 q
    case q true at step =
        let same : q ≡ d = eqb-true q d at in
        let now : get_or numbers' q None ≡ Some (unwrap_or (get_or numbers q None) p.1) = new q ∙ rw at (ap (λ (x : ℕ). Some (unwrap_or (get_or numbers x None) p.1)) (sym same)) in
        ap (λ o. or_else o (stated_from mesh pairs (k + 1) q)) now
        ∙ here (get_or numbers q None) p.1 (stated_from mesh pairs (k + 1) q)
        ∙ ap (or_else (get_or numbers q None)) (sym (step ∙ rw at refl))
        ∙ has.whole q
    case q false at step =
        let now : get_or numbers' q None ≡ get_or numbers q None = new q ∙ rw at refl in
        ap (λ o. or_else o (stated_from mesh pairs (k + 1) q)) now
        ∙ ap (or_else (get_or numbers q None)) (sym (step ∙ rw at refl))
        ∙ has.whole q

or_none : (o : Option ℕ) → or_else o None ≡ o
or_none None = refl
or_none (Some n) = refl

pub stated_all : (mesh : Nodes) (pairs : List (Addr × ℕ)) (k : ℕ) (numbers : List (Option ℕ)) (d : ℕ) → HasStated mesh pairs k numbers → length pairs ≤ k → get_or numbers d None ≡ maps.get (dests_in mesh pairs) d
stated_all mesh pairs k numbers d has end =
    sym (or_none (get_or numbers d None))
    ∙ ap (λ ps. or_else (get_or numbers d None) (find nat_cmp d (map (pair_by_index mesh) ps))) (sym (from_end pairs k end))
    ∙ has.whole d
    ∙ sym (maps.get-from_entries nat_cmp_total (map (pair_by_index mesh) pairs) d)

-- ---- the pairs accepted

pub stated_below : (mesh : Nodes) (ps : List (Addr × ℕ)) → strange_pair mesh ps ≡ None → AreDestsBelow (length mesh) (dests_in mesh ps)
stated_below mesh ps e d n g = pairs_below mesh ps e d n (sym (maps.get-from_entries nat_cmp_total (map (pair_by_index mesh) ps) d) ∙ g)

-- those below d were taken, and no more
pub record HasTaken (accepted : Dests) (d : ℕ) (dests : Dests) : Type 0 where
  pub few : length (maps.entries dests) ≤ d
  pub below : (q : ℕ) → q < d → maps.get dests q ≡ maps.get accepted q
  pub above : (q : ℕ) → d ≤ q → maps.get dests q ≡ None

pub taken_none : (accepted dests : Dests) → dests ≡ maps.empty → maps.entries dests ≡ [] → HasTaken accepted 0 dests
taken_none accepted dests is none = record {
  few = let e : length (maps.entries dests) ≡ 0 = ap length none in omega arith;
  below = λ q lt. absurd (omega arith);
  above = λ q le. ap (λ (m : Dests). maps.get m q) is ∙ maps.get-empty nat_cmp q;
}

pub taken_more : (accepted dests dests' : Dests) (d n : ℕ) → HasTaken accepted d dests → maps.get accepted d ≡ Some n → dests' ≡ maps.insert dests d n → maps.entries dests' ≡ maps.entries dests ++ (d, n) ∷ [] → HasTaken accepted (d + 1) dests'
taken_more accepted dests dests' d n has is next entries =
    let get : (q : ℕ) → maps.get dests' q ≡ cond (eqb q d) (Some n) (maps.get dests q) = λ q.
    ap (λ (m : Dests). maps.get m q) next ∙ maps.get-insert nat_cmp_total dests d n q ∙ ap (λ (b : Bool). cond b (Some n) (maps.get dests q)) (unsigned_tied q d) in
    record {
      few = let few = has.few in let e : length (maps.entries dests') ≡ length (maps.entries dests) + 1 = ap length entries ∙ simp length-append in omega arith;
      below = λ q lt. elim (cases_eq q d) [
        | inl at ↦ get q ∙ rw (eq-eqb q d at) (sym is ∙ ap (maps.get accepted) (sym at))
        | inr not_at ↦ get q ∙ rw (ne_eqb q d not_at) (has.below q (omega arith))
      ];
      above = λ q le. get q ∙ rw (ne_eqb q d (λ at. omega arith)) (has.above q (omega arith));
    }

pub taken_same : (accepted dests : Dests) (d : ℕ) → HasTaken accepted d dests → maps.get accepted d ≡ None → HasTaken accepted (d + 1) dests
taken_same accepted dests d has none = record {
  few = let few = has.few in omega arith;
  below = λ q lt. elim (cases_eq q d) [
    | inl at ↦ has.above q (omega arith) ∙ sym none ∙ ap (maps.get accepted) (sym at)
    | inr not_at ↦ has.below q (omega arith)
  ];
  above = λ q le. has.above q (omega arith);
}

none_above : (size : ℕ) (m : Dests) (q : ℕ) (o : Option ℕ) → AreDestsBelow size m → size ≤ q → maps.get m q ≡ o → o ≡ None
none_above size m q None below le is = refl
none_above size m q (Some n) below le is = let lt = below q n is in absurd (omega arith)

pub taken_all : (mesh : Nodes) (rt : Table) (from : ℕ) (pairs : List (Addr × ℕ)) (d : ℕ) (dests : Dests) → strange_pair mesh pairs ≡ None → HasTaken (accepted_unreachable rt from (dests_in mesh pairs)) d dests → length mesh ≤ d → dests ≡ accepted_unreachable rt from (dests_in mesh pairs)
taken_all mesh rt from pairs d dests known has end =
    let accepted = accepted_unreachable rt from (dests_in mesh pairs) in
    let inside : AreDestsBelow (length mesh) accepted = accepted_below (length mesh) rt from (dests_in mesh pairs) (stated_below mesh pairs known) in
    maps.same_map nat_cmp_total nat_cmp-IsAntisymmetric dests accepted (λ q. elim (cases_lt q d) [
      | inl lt ↦ has.below q lt
      | inr le ↦ has.above q le ∙ sym (none_above (length mesh) accepted q (maps.get accepted q) inside (omega arith) refl)
    ])

-- what is accepted for d, from the number stated for it
pub accepted_is : (mesh : Nodes) (rt : Table) (from d : ℕ) (pairs : List (Addr × ℕ)) (stated o : Option ℕ) → stated ≡ maps.get (dests_in mesh pairs) d → o ≡ (if goes_by (maps.get rt d) from && nat_lt (sqn rt d) (unwrap_or stated 0) then stated else None)
    → o ≡ maps.get (accepted_unreachable rt from (dests_in mesh pairs)) d
accepted_is mesh rt from d pairs stated o stated_is is =
    is ∙ ap (λ (s : Option ℕ). if goes_by (maps.get rt d) from && nat_lt (sqn rt d) (unwrap_or s 0) then s else None) stated_is
    ∙ sym (get-accepted rt from (dests_in mesh pairs) d)
