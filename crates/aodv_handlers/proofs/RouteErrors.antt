-- Route errors: who is told, and of what.
use Rattle.std.proofs.Common.{◌≡◌, ℕ, zero, suc, ◌+◌, ◌<◌, ◌≤◌, Bool, true, false, not, cond, ◌||◌, ◌↔◌, IsTrue, eq-eqb, Some, List, [], ◌∷◌, ◌++◌, length, map, refl, sym, ap, subst, ◌∙◌, append_assoc, length-append, arith}
use Rattle.std.specs.Prelude.{◌==◌, slice_get}
use Rattle.std.specs.Ordering.{nat_cmp, eq_by_cmp}
use Rattle.std.specs.Cmp.{nat_cmp_total}
use Rattle.std.specs.List.{list_any}
use Rattle.std.specs.FinMap.{nat_cmp-IsAntisymmetric}
use Rattle.std.specs.FinMap as maps
use Rattle.std.specs.FinMap.Entries.{where_key}
use Rattle.std.specs.FinSet as sets
use Rattle.std.proofs.lemmas.Bool.{ne_eqb}
use Rattle.std.proofs.Math.ListN.{drop}
use Rattle.std.proofs.lemmas.List.{append-nil}
use Rattle.mesh_base.specs.declared.addr.Addr.{Addr}
use Rattle.mesh_base.specs.declared.events.Variant.{Variant}
use Rattle.mesh_base.specs.declared.events.Variant.TheVariants.{Base, Number, Reply, Error}
use Rattle.mesh_base.specs.Members.{NodeIds}
use Rattle.mesh_base.specs.Meshes.{Nodes, IsMesh}
use Rattle.mesh_base.proofs.Lemmas.Lists.{drop_from}
use Rattle.aodv_model.specs.Tables.{Table, Dests, dests_of, precs}
use Rattle.aodv_model.specs.Cores.{Rerr}
use Rattle.aodv_model.specs.Handlers.{Nothing, All, is_empty, is_error, all_precs, precs_of, with_precs, error_cast}
use Rattle.aodv_model.specs.Soundness.{AreDestsBelow}
use Rattle.aodv_model.proofs.Lookups.{get-kept}
use Rattle.aodv_model.proofs.TablesInMesh.{kept_of}
use Rattle.aodv_model.proofs.Stale.{with_none}
use Rattle.aodv_wire.specs.RouteError.{AreDestinations}
use Rattle.aodv_meaning.specs.Sent.{pair_by_address, pairs_of}
use Rattle.aodv_meaning.proofs.Writings.{destinations}
use Rattle.aodv_handlers.specs.Parts.{is_named, named_dests}
use Rattle.aodv_handlers.proofs.Lists.{from_end, empty_union, union_assoc, empty_is, is_empty_same, entries_where, any_there}
use Rattle.aodv_meaning.proofs.Means.{some_of}

-- the destination at an index is in the mesh
pub dest_below : (size : ℕ) (dests : Dests) (k : ℕ) (p : ℕ × ℕ) → AreDestsBelow size dests → slice_get (maps.entries dests) k ≡ Some p → p.0 < size
dest_below size dests k p below is =
    let there = some_of (maps.get dests p.0) (maps.contains_key-keys dests p.0 ∙ any_there (maps.entries dests) k p is) in
    below p.0 there.0 there.1

-- ---- who is told

pub precs_from : Table → Dests → ℕ → NodeIds
precs_from rt dests k = all_precs rt (map (λ e. e.0) (drop k (maps.entries dests)))

-- all of them are those that were joined before index k, and those from there on
pub record HasJoined (rt : Table) (dests : Dests) (k : ℕ) (all : NodeIds) : Type 0 where
  pub whole : sets.union all (precs_from rt dests k) ≡ precs_of rt dests

pub joined_none : (rt : Table) (dests : Dests) (all : NodeIds) → all ≡ sets.empty → HasJoined rt dests 0 all
unfolding precs_of precs_from
joined_none rt dests all is = record { whole = ap (λ s. sets.union s (precs_of rt dests)) is ∙ empty_union (precs_of rt dests) }

pub joined_more : (rt : Table) (dests : Dests) (k : ℕ) (all all' s : NodeIds) (p : ℕ × ℕ) → HasJoined rt dests k all → slice_get (maps.entries dests) k ≡ Some p → s ≡ precs rt p.0 → all' ≡ sets.union all s → HasJoined rt dests (k + 1) all'
unfolding precs_from
joined_more rt dests k all all' s p has is s_is next =
    let up : suc k ≡ k + 1 = omega arith in
    let step : precs_from rt dests k ≡ sets.union s (precs_from rt dests (k + 1)) =
    ap (λ es. all_precs rt (map (λ e. e.0) es)) (drop_from (maps.entries dests) k p is)
    ∙ (λ i. sets.union (sym s_is i) (precs_from rt dests (up i))) in
    record {
      whole = ap (λ t. sets.union t (precs_from rt dests (k + 1))) next
          ∙ union_assoc all s (precs_from rt dests (k + 1))
          ∙ ap (sets.union all) (sym step)
          ∙ has.whole;
    }

pub joined_all : (rt : Table) (dests : Dests) (k : ℕ) (all : NodeIds) → HasJoined rt dests k all → length (maps.entries dests) ≤ k → all ≡ precs_of rt dests
unfolding precs_from
joined_all rt dests k all has end =
    sym (with_none all)
    ∙ ap (λ es. sets.union all (all_precs rt (map (λ e. e.0) es))) (sym (from_end (maps.entries dests) k end))
    ∙ has.whole

-- ---- the destinations alone

-- all of them are those that were found before index k, and those from there on
pub record HasFound (dests : Dests) (k : ℕ) (found : NodeIds) : Type 0 where
  pub whole : (q : ℕ) → (sets.contains found q || list_any (eq_by_cmp nat_cmp q) (map (λ e. e.0) (drop k (maps.entries dests)))) ≡ sets.contains (dests_of dests) q

pub found_none : (dests : Dests) (found : NodeIds) → found ≡ sets.empty → HasFound dests 0 found
found_none dests found is = record {
  whole = λ q.
      ap (λ (b : Bool). b || list_any (eq_by_cmp nat_cmp q) (maps.keys dests)) (ap (λ (s : NodeIds). sets.contains s q) is ∙ sets.contains-empty nat_cmp q)
      ∙ sym (sets.contains-from_list nat_cmp_total (maps.keys dests) q);
}

pub found_more : (dests : Dests) (k : ℕ) (found found' : NodeIds) (p : ℕ × ℕ) → HasFound dests k found → slice_get (maps.entries dests) k ≡ Some p → found' ≡ sets.insert found p.0 → HasFound dests (k + 1) found'
found_more dests k found found' p has is next =
    let up : suc k ≡ k + 1 = omega arith in
    let named : ℕ → List (ℕ × ℕ) → Bool = λ q es. list_any (eq_by_cmp nat_cmp q) (map (λ e. e.0) es) in
    record {
      whole = λ q.
          ap (λ (b : Bool). b || named q (drop (k + 1) (maps.entries dests))) (ap (λ (s : NodeIds). sets.contains s q) next ∙ sets.contains-insert nat_cmp_total found p.0 q)
          ∙ moved (eq_by_cmp nat_cmp q p.0) (sets.contains found q) (named q (drop (k + 1) (maps.entries dests)))
          ∙ ap (λ (n : ℕ). sets.contains found q || (eq_by_cmp nat_cmp q p.0 || named q (drop n (maps.entries dests)))) (sym up)
          ∙ ap (λ (es : List (ℕ × ℕ)). sets.contains found q || named q es) (sym (drop_from (maps.entries dests) k p is))
          ∙ has.whole q;
    }
  where
    moved : (a b c : Bool) → ((a || b) || c) ≡ (b || (a || c))
    moved true true c = refl
    moved true false c = refl
    moved false b c = refl

pub found_all : (dests : Dests) (k : ℕ) (found : NodeIds) → HasFound dests k found → length (maps.entries dests) ≤ k → found ≡ dests_of dests
found_all dests k found has end = sets.same_set nat_cmp_total nat_cmp-IsAntisymmetric found (dests_of dests) (λ q.
    or_none (sets.contains found q)
    ∙ ap (λ (es : List (ℕ × ℕ)). sets.contains found q || list_any (eq_by_cmp nat_cmp q) (map (λ e. e.0) es)) (sym (from_end (maps.entries dests) k end))
    ∙ has.whole q)
  where
    or_none : (b : Bool) → b ≡ (b || false)
    or_none true = refl
    or_none false = refl

-- ---- of what

pub told_of : Nodes → Variant → Table → List (ℕ × ℕ) → List (Addr × ℕ)
told_of mesh v rt es = map (pair_by_address mesh) (where_key nat_cmp (is_named v rt) es)

-- all pairs are those that were taken before index k, and those from there on
pub record HasTold (mesh : Nodes) (v : Variant) (rt : Table) (dests : Dests) (k : ℕ) (pairs : List (Addr × ℕ)) : Type 0 where
  pub whole : pairs ++ told_of mesh v rt (drop k (maps.entries dests)) ≡ told_of mesh v rt (maps.entries dests)
  pub few : length pairs ≤ k

pub told_none : (mesh : Nodes) (v : Variant) (rt : Table) (dests : Dests) (pairs : List (Addr × ℕ)) → pairs ≡ [] → HasTold mesh v rt dests 0 pairs
told_none mesh v rt dests pairs is = record { whole = ap (λ ps. ps ++ told_of mesh v rt (maps.entries dests)) is; few = let e = ap length is in omega arith }

told_first : (mesh : Nodes) (v : Variant) (rt : Table) (p : ℕ × ℕ) (es : List (ℕ × ℕ)) (b : Bool) → is_named v rt p.0 ≡ b → told_of mesh v rt (p ∷ es) ≡ cond b (pair_by_address mesh p ∷ told_of mesh v rt es) (told_of mesh v rt es)
unfolding told_of
told_first mesh v rt p es true is = rw is refl
told_first mesh v rt p es false is = rw is refl

told_step : (mesh : Nodes) (v : Variant) (rt : Table) (dests : Dests) (k : ℕ) (p : ℕ × ℕ) (b : Bool) → slice_get (maps.entries dests) k ≡ Some p → is_named v rt p.0 ≡ b → told_of mesh v rt (drop k (maps.entries dests)) ≡ cond b (pair_by_address mesh p ∷ told_of mesh v rt (drop (k + 1) (maps.entries dests))) (told_of mesh v rt (drop (k + 1) (maps.entries dests)))
told_step mesh v rt dests k p b is has =
    let up : suc k ≡ k + 1 = omega arith in
    ap (told_of mesh v rt) (drop_from (maps.entries dests) k p is)
    ∙ told_first mesh v rt p (drop (suc k) (maps.entries dests)) b has
    ∙ ap (λ n. cond b (pair_by_address mesh p ∷ told_of mesh v rt (drop n (maps.entries dests))) (told_of mesh v rt (drop n (maps.entries dests)))) up

pub told_more : (mesh : Nodes) (v : Variant) (rt : Table) (dests : Dests) (k : ℕ) (pairs pairs' : List (Addr × ℕ)) (p : ℕ × ℕ) (x : Addr × ℕ) → HasTold mesh v rt dests k pairs → slice_get (maps.entries dests) k ≡ Some p → is_named v rt p.0 ≡ true → x ≡ pair_by_address mesh p → pairs' ≡ pairs ++ x ∷ [] → HasTold mesh v rt dests (k + 1) pairs'
told_more mesh v rt dests k pairs pairs' p x has is some x_is next =
    let after = told_of mesh v rt (drop (k + 1) (maps.entries dests)) in
    let few : length pairs ≤ k = has.few in
    let size : length pairs' ≡ length pairs + 1 = ap length next ∙ simp length-append in
    record {
      whole = ap (λ ps. ps ++ after) (next ∙ ap (λ y. pairs ++ y ∷ []) x_is)
          ∙ append_assoc pairs (pair_by_address mesh p ∷ []) after
          ∙ ap (λ ps. pairs ++ ps) (sym (told_step mesh v rt dests k p true is some))
          ∙ has.whole;
      few = omega arith;
    }

pub told_same : (mesh : Nodes) (v : Variant) (rt : Table) (dests : Dests) (k : ℕ) (pairs : List (Addr × ℕ)) (p : ℕ × ℕ) → HasTold mesh v rt dests k pairs → slice_get (maps.entries dests) k ≡ Some p → is_named v rt p.0 ≡ false → HasTold mesh v rt dests (k + 1) pairs
told_same mesh v rt dests k pairs p has is none =
    let few : length pairs ≤ k = has.few in
    record { whole = ap (λ ps. pairs ++ ps) (sym (told_step mesh v rt dests k p false is none)) ∙ has.whole; few = omega arith }

all_kept : (es : List (ℕ × ℕ)) → where_key nat_cmp (λ _. true) es ≡ es
all_kept [] = refl
all_kept (e ∷ es) = ap (λ (l : List (ℕ × ℕ)). e ∷ l) (all_kept es)

-- the pairs of the destinations that are told of
told_entries : (v : Variant) (rt : Table) (dests : Dests) → where_key nat_cmp (is_named v rt) (maps.entries dests) ≡ maps.entries (named_dests v rt dests)
unfolding with_precs
told_entries Base rt dests = sym (entries_where dests (λ d. not (is_empty (precs rt d))))
told_entries Number rt dests = sym (entries_where dests (λ d. not (is_empty (precs rt d))))
told_entries Reply rt dests = sym (entries_where dests (λ d. not (is_empty (precs rt d))))
told_entries Error rt dests = all_kept (maps.entries dests)

pub told_all : (mesh : Nodes) (v : Variant) (rt : Table) (dests : Dests) (k : ℕ) (pairs : List (Addr × ℕ)) → HasTold mesh v rt dests k pairs → length (maps.entries dests) ≤ k → pairs ≡ pairs_of mesh (named_dests v rt dests)
unfolding told_of
told_all mesh v rt dests k pairs has end =
    sym (append-nil pairs)
    ∙ ap (λ es. pairs ++ told_of mesh v rt es) (sym (from_end (maps.entries dests) k end))
    ∙ has.whole
    ∙ ap (map (pair_by_address mesh)) (told_entries v rt dests)

-- ---- what can be written

abbrev has_precs : Table → ℕ → Bool
has_precs rt d = not (is_empty (precs rt d))

no_cons : {A : Type 0} (x : A) (xs : List A) → x ∷ xs ≡ [] → ⊥
no_cons x xs e = cc

none_told : (rt : Table) (es : List (ℕ × ℕ)) → where_key nat_cmp (has_precs rt) es ≡ [] → all_precs rt (map (λ e. e.0) es) ≡ sets.empty
none_told rt [] is = refl
none_told rt (e ∷ es) is = case (is_empty (precs rt e.0)) refl is (none_told rt es)
  where
    case : (b : Bool) → is_empty (precs rt e.0) ≡ b → cond (not b) (e ∷ where_key nat_cmp (has_precs rt) es) (where_key nat_cmp (has_precs rt) es) ≡ [] → (where_key nat_cmp (has_precs rt) es ≡ [] → all_precs rt (map (λ e. e.0) es) ≡ sets.empty) → sets.union (precs rt e.0) (all_precs rt (map (λ e. e.0) es)) ≡ sets.empty
    case true none rest later = ap (λ s. sets.union s (all_precs rt (map (λ e. e.0) es))) (is_empty_same (precs rt e.0) none) ∙ empty_union _ ∙ later rest
    case false some rest later = absurd (no_cons e (where_key nat_cmp (has_precs rt) es) rest)

positive : {A : Type 0} (xs : List A) → (xs ≡ [] → ⊥) → 1 ≤ length xs
positive [] h = absurd (h refl)
positive (x ∷ xs) h = omega arith

-- some destination is told of, where there are precursors, or where all are told of and there is one
pub some_told : (v : Variant) (rt : Table) (dests : Dests) → is_error v ≡ false → is_empty (precs_of rt dests) ≡ false → 1 ≤ maps.len (named_dests v rt dests)
unfolding precs_of with_precs
some_told v rt dests base some =
    let list = maps.entries (with_precs rt dests) in
    let there : 1 ≤ length list = positive list (λ none.
    let all = none_told rt (maps.entries dests) (sym (entries_where dests (has_precs rt)) ∙ none) in
    different (sym (ap is_empty all ∙ empty_is) ∙ some)) in
    let count : maps.len (with_precs rt dests) ≡ length list = maps.len-entries (with_precs rt dests) in
    rw base (omega arith)
  where
    different : true ≡ false → ⊥
    different e = cc

pub all_told : (v : Variant) (rt : Table) (dests : Dests) (r : Bool) → is_error v ≡ true → IsTrue r ↔ (dests ≡ maps.empty) → r ≡ false → 1 ≤ maps.len (named_dests v rt dests)
all_told v rt dests r error test some = rw error (above (maps.len dests) refl)
  where
    different : true ≡ false → ⊥
    different e = cc

    above : (n : ℕ) → maps.len dests ≡ n → 1 ≤ n
    above zero none = absurd (different (sym (test.1 (maps.empty_of_len dests none)) ∙ some))
    above (suc n) is = omega arith

-- without destinations nothing is cast
pub none_there : (v : Variant) (rt : Table) (dests : Dests) (r : Bool) → is_error v ≡ true → IsTrue r ↔ (dests ≡ maps.empty) → r ≡ true → error_cast v rt dests ≡ Nothing
unfolding error_cast
none_there v rt dests r error test all = rw (error, eq-eqb (maps.len dests) 0 (ap maps.len (test.0 all) ∙ maps.len-empty nat_cmp ℕ)) refl

-- all of them are cast to all
pub all_there : (v : Variant) (rt : Table) (dests : Dests) (r : Bool) → is_error v ≡ true → IsTrue r ↔ (dests ≡ maps.empty) → r ≡ false → error_cast v rt dests ≡ All (Rerr (named_dests v rt dests))
unfolding error_cast
all_there v rt dests r error test some =
    let more : 1 ≤ maps.len dests = rw error at (all_told v rt dests r error test some) in
    let not : (maps.len dests == 0) ≡ false = ne_eqb (maps.len dests) 0 (λ e. absurd (omega arith)) in
    rw (error, not) refl

kept_below : (size : ℕ) (rt : Table) (dests : Dests) → AreDestsBelow size dests → AreDestsBelow size (with_precs rt dests)
unfolding with_precs
kept_below size rt dests below d n is =
    below d n (kept_of (maps.get dests d) (has_precs rt d) n (sym (get-kept dests (has_precs rt) d) ∙ is))

pub told_below : (size : ℕ) (v : Variant) (rt : Table) (dests : Dests) → AreDestsBelow size dests → AreDestsBelow size (named_dests v rt dests)
told_below size v rt dests below = by (is_error v)
  where
    by : (b : Bool) → AreDestsBelow size (cond b dests (with_precs rt dests))
    by true = below
    by false = kept_below size rt dests below

pub writable : (mesh : Nodes) (v : Variant) (rt : Table) (dests : Dests) (pairs : List (Addr × ℕ)) → IsMesh mesh → AreDestsBelow (length mesh) dests → 1 ≤ maps.len (named_dests v rt dests) → pairs ≡ pairs_of mesh (named_dests v rt dests) → AreDestinations pairs
writable mesh v rt dests pairs mesh_is below some is =
    subst AreDestinations (sym is) (destinations mesh (named_dests v rt dests) mesh_is (told_below (length mesh) v rt dests below) some)
