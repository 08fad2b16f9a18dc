-- What a store's changes do to the rows that show it.
use Rattle.std.proofs.Common.{◌≡◌, ◌≢◌, ◌<◌, ℕ, Bool, true, false, cond, eqb, not, ◌&&◌, ◌||◌, List, [], ◌∷◌, ◌++◌, length, Option, Some, refl, sym, ap, subst, ◌∙◌, eq-eqb, inl, inr}
use Rattle.std.proofs.Math.ListN.{set as put, drop as from}
use Rattle.std.specs.Prelude.{option_map}
use Rattle.std.specs.List.{AllByRecursion}
use Rattle.std.specs.Cmp.{nat_cmp_total}
use Rattle.std.proofs.lemmas.Bool.{ne_eqb, cases_eq}
use Rattle.std.specs.FinMap as maps
use Rattle.std.specs.FinSet as sets
use Rattle.mesh_base.specs.Members.{NodeIds}
use Rattle.aodv_model.specs.Cores as cores
use Rattle.aodv_model.specs.Cores.{Body, Waiting, Store, has_data, bodies_in, needs_in, in_qD, with_body, drop_first, rest}
use Rattle.aodv_model.specs.Soundness.{IsDatum}
use Rattle.aodv_model.proofs.Stores.{need_if, need_unless, get-set, get-unset}
use Rattle.aodv_waiting.specs.Rows.{Rows, bodies_at, waiting_of, store_of, AreRows}
use Rattle.aodv_waiting.proofs.StoreLaws.{get_here, get_apart, gone_here, gone_apart, in_here, in_apart, out_here, out_apart, same_store, get-store_of, row_shown, rows_kept}

-- ---- a datum comes

-- a destination without data before is marked
abbrev pub marks_new : NodeIds → NodeIds → ℕ → NodeIds
marks_new needing with_data d = cond (sets.contains with_data d) needing (sets.insert needing d)

marks_apart : (b : Bool) (needing : NodeIds) (d q : ℕ) → q ≢ d → sets.contains (cond b needing (sets.insert needing d)) q ≡ sets.contains needing q
marks_apart true needing d q apart = refl
marks_apart false needing d q apart = in_apart needing d q apart

outcome_of_piece : (b : Bool) (needing : NodeIds) (d : ℕ) (bs : List Body) (x : Body) → b ≡ has_data bs
    → waiting_of (sets.contains (cond b needing (sets.insert needing d)) d) (bs ++ x ∷ []) ≡ Some (with_body (waiting_of (sets.contains needing d) bs) x)
outcome_of_piece true needing d [] x e = cc
outcome_of_piece false needing d [] x e = rw (in_here needing d) refl
outcome_of_piece true needing d (b ∷ bs) x e = refl
outcome_of_piece false needing d (b ∷ bs) x e = cc

pub added : (rows : Rows) (with_data needing : NodeIds) (d : ℕ) (row : List Body) (x : Body) → AreRows rows with_data needing → d < length rows → row ≡ bodies_at rows d ++ x ∷ []
    → store_of (marks_new needing with_data d) (put rows d row) ≡ cores.add (store_of needing rows) d x
unfolding cores.add
added rows with_data needing d row x are lt is =
    row_shown needing (marks_new needing with_data d) rows d row (cores.add (store_of needing rows) d x) lt
    (ap (waiting_of (sets.contains (marks_new needing with_data d) d)) is
    ∙ outcome_of_piece (sets.contains with_data d) needing d (bodies_at rows d) x (are.data_are d)
    ∙ ap (λ (o : Option Waiting). Some (with_body o x)) (sym (get-store_of needing rows d))
    ∙ sym (get_here (store_of needing rows) d (with_body (maps.get (store_of needing rows) d) x)))
    (λ q apart. marks_apart (sets.contains with_data d) needing d q apart)
    (λ q apart. sym (get_apart (store_of needing rows) d (with_body (maps.get (store_of needing rows) d) x) q apart))

some_after : (bs : List Body) (x : Body) → has_data (bs ++ x ∷ []) ≡ true
some_after [] x = refl
some_after (b ∷ bs) x = refl

all_after : (bs : List Body) (x : Body) → AllByRecursion IsDatum bs → IsDatum x → AllByRecursion IsDatum (bs ++ x ∷ [])
all_after [] x all is = (is, tt)
all_after (b ∷ bs) x all is = (all.0, all_after bs x all.1 is)

pub added_kept : (rows : Rows) (with_data needing : NodeIds) (d : ℕ) (row : List Body) (x : Body) → AreRows rows with_data needing → d < length rows → row ≡ bodies_at rows d ++ x ∷ [] → IsDatum x
    → AreRows (put rows d row) (sets.insert with_data d) (marks_new needing with_data d)
added_kept rows with_data needing d row x are lt is datum =
    rows_kept rows with_data needing (sets.insert with_data d) (marks_new needing with_data d) d row are lt
    (in_here with_data d ∙ sym (ap has_data is ∙ some_after (bodies_at rows d) x))
    (λ need. in_here with_data d)
    (subst (AllByRecursion IsDatum) (sym is) (all_after (bodies_at rows d) x (are.bodies_are d) datum))
    (λ q apart. in_apart with_data d q apart)
    (λ q apart. marks_apart (sets.contains with_data d) needing d q apart)

-- ---- the first datum goes

rest_is : (bs : List Body) → rest bs ≡ from 1 bs
rest_is [] = refl
rest_is (b ∷ bs) = refl

bodies_there : (needing : NodeIds) (rows : Rows) (d : ℕ) → bodies_in (maps.get (store_of needing rows) d) ≡ bodies_at rows d
bodies_there needing rows d = ap bodies_in (get-store_of needing rows d) ∙ bodies_of (sets.contains needing d) (bodies_at rows d)
  where
    bodies_of : (needs : Bool) (bs : List Body) → bodies_in (waiting_of needs bs) ≡ bs
    bodies_of needs [] = refl
    bodies_of needs (b ∷ bs) = refl

needs_there : (needing : NodeIds) (rows : Rows) (d : ℕ) → has_data (bodies_at rows d) ≡ true → needs_in (maps.get (store_of needing rows) d) ≡ sets.contains needing d
needs_there needing rows d some = ap needs_in (get-store_of needing rows d) ∙ needs_of (sets.contains needing d) (bodies_at rows d) some
  where
    needs_of : (needs : Bool) (bs : List Body) → has_data bs ≡ true → needs_in (waiting_of needs bs) ≡ needs
    needs_of needs [] some = cc
    needs_of needs (b ∷ bs) some = refl

left : (needing : NodeIds) (rows : Rows) (d : ℕ) (row : List Body) → row ≡ from 1 (bodies_at rows d) → rest (bodies_in (maps.get (store_of needing rows) d)) ≡ row
left needing rows d row is = ap rest (bodies_there needing rows d) ∙ rest_is (bodies_at rows d) ∙ sym is

-- it was the last
pub dropped_last : (rows : Rows) (with_data needing : NodeIds) (d : ℕ) (row : List Body) → AreRows rows with_data needing → d < length rows → row ≡ from 1 (bodies_at rows d) → row ≡ []
    → store_of (sets.remove needing d) (put rows d row) ≡ cores.drop (store_of needing rows) d
unfolding cores.drop
dropped_last rows with_data needing d row are lt is none =
    let store = store_of needing rows in
    row_shown needing (sets.remove needing d) rows d row (maps.remove store d) lt
    (ap (waiting_of (sets.contains (sets.remove needing d) d)) none ∙ sym (gone_here store d))
    (λ q apart. out_apart needing d q apart)
    (λ q apart. sym (gone_apart store d q apart))
    ∙ sym (ap (λ (bs : List Body). drop_first store d bs (needs_in (maps.get store d))) (left needing rows d row is ∙ none))

dropped_to : (store : Store) (d : ℕ) (bs : List Body) (needs : Bool) (q : ℕ) → has_data bs ≡ true → q ≢ d → maps.get store q ≡ maps.get (drop_first store d bs needs) q
dropped_to store d [] needs q some apart = cc
dropped_to store d (b ∷ bs) needs q some apart = sym (get_apart store d (record { needs_request = needs; bodies = b ∷ bs }) q apart)

dropped_at : (store : Store) (d : ℕ) (bs : List Body) (needs : Bool) → has_data bs ≡ true → waiting_of needs bs ≡ maps.get (drop_first store d bs needs) d
dropped_at store d [] needs some = cc
dropped_at store d (b ∷ bs) needs some = sym (get_here store d (record { needs_request = needs; bodies = b ∷ bs }))

some_before : (bs : List Body) → has_data (from 1 bs) ≡ true → has_data bs ≡ true
some_before [] some = some
some_before (b ∷ bs) some = refl

-- there are more
pub dropped_more : (rows : Rows) (with_data needing : NodeIds) (d : ℕ) (row : List Body) → AreRows rows with_data needing → d < length rows → row ≡ from 1 (bodies_at rows d) → has_data row ≡ true
    → store_of needing (put rows d row) ≡ cores.drop (store_of needing rows) d
unfolding cores.drop
dropped_more rows with_data needing d row are lt is some =
    let store = store_of needing rows in
    rw (left needing rows d row is, needs_there needing rows d (some_before (bodies_at rows d) (ap has_data (sym is) ∙ some)))
    (row_shown needing needing rows d row (drop_first store d row (sets.contains needing d)) lt
    (dropped_at store d row (sets.contains needing d) some)
    (λ q apart. refl)
    (λ q apart. dropped_to store d row (sets.contains needing d) q some apart))

all_rest : (bs : List Body) → AllByRecursion IsDatum bs → AllByRecursion IsDatum (from 1 bs)
all_rest [] all = tt
all_rest (b ∷ bs) all = all.1

pub dropped_last_kept : (rows : Rows) (with_data needing : NodeIds) (d : ℕ) (row : List Body) → AreRows rows with_data needing → d < length rows → row ≡ from 1 (bodies_at rows d) → row ≡ []
    → AreRows (put rows d row) (sets.remove with_data d) (sets.remove needing d)
dropped_last_kept rows with_data needing d row are lt is none =
    rows_kept rows with_data needing (sets.remove with_data d) (sets.remove needing d) d row are lt
    (out_here with_data d ∙ sym (ap has_data none))
    (λ need. absurd (not_both (sym (out_here needing d) ∙ need)))
    (subst (AllByRecursion IsDatum) (sym is) (all_rest (bodies_at rows d) (are.bodies_are d)))
    (λ q apart. out_apart with_data d q apart)
    (λ q apart. out_apart needing d q apart)
  where
    not_both : false ≡ true → ⊥
    not_both e = cc

pub dropped_more_kept : (rows : Rows) (with_data needing : NodeIds) (d : ℕ) (row : List Body) → AreRows rows with_data needing → d < length rows → row ≡ from 1 (bodies_at rows d) → has_data row ≡ true
    → AreRows (put rows d row) with_data needing
dropped_more_kept rows with_data needing d row are lt is some =
    rows_kept rows with_data needing with_data needing d row are lt
    (are.data_are d ∙ some_before (bodies_at rows d) (ap has_data (sym is) ∙ some) ∙ sym some)
    (are.needing_are d)
    (subst (AllByRecursion IsDatum) (sym is) (all_rest (bodies_at rows d) (are.bodies_are d)))
    (λ q apart. refl)
    (λ q apart. refl)

-- ---- marks

same_rows : (needing : NodeIds) (rows : Rows) (store : Store) → ((q : ℕ) → waiting_of (sets.contains needing q) (bodies_at rows q) ≡ maps.get store q) → store_of needing rows ≡ store
same_rows needing rows store same = same_store (store_of needing rows) store (λ q. get-store_of needing rows q ∙ same q)

out_is : (needing : NodeIds) (d q : ℕ) → sets.contains (sets.remove needing d) q ≡ (sets.contains needing q && not (eqb q d))
out_is needing d q = elim (cases_eq q d) [
  | inl same ↦ ap (sets.contains (sets.remove needing d)) same ∙ out_here needing d ∙ sym (ap (λ (b : Bool). sets.contains needing q && not b) (eq-eqb q d same) ∙ and_false (sets.contains needing q))
  | inr apart ↦ out_apart needing d q apart ∙ sym (ap (λ (b : Bool). sets.contains needing q && not b) (ne_eqb q d apart) ∙ and_true (sets.contains needing q))
]
  where
    and_false : (b : Bool) → (b && false) ≡ false
    and_false true = refl
    and_false false = refl

    and_true : (b : Bool) → (b && true) ≡ b
    and_true true = refl
    and_true false = refl

unmarked : (needs b : Bool) (bs : List Body) → waiting_of (needs && not b) bs ≡ option_map (need_unless b) (waiting_of needs bs)
unmarked needs b [] = refl
unmarked needs b (x ∷ xs) = refl

pub unset_is : (rows : Rows) (needing : NodeIds) (d : ℕ) → store_of (sets.remove needing d) rows ≡ cores.unset (store_of needing rows) d
unset_is rows needing d =
    let store = store_of needing rows in
    same_rows (sets.remove needing d) rows (cores.unset store d) (λ q.
    ap (λ (b : Bool). waiting_of b (bodies_at rows q)) (out_is needing d q)
    ∙ unmarked (sets.contains needing q) (eqb q d) (bodies_at rows q)
    ∙ ap (option_map (need_unless (eqb q d))) (sym (get-store_of needing rows q))
    ∙ sym (get-unset store d q))

pub unset_kept : (rows : Rows) (with_data needing : NodeIds) (d : ℕ) → AreRows rows with_data needing → AreRows rows with_data (sets.remove needing d)
unset_kept rows with_data needing d are = record {
  few = are.few;
  data_are = are.data_are;
  needing_are = λ q need. are.needing_are q (elim (cases_eq q d) [
    | inl same ↦ absurd (not_both (sym (out_here needing d) ∙ subst (λ p. sets.contains (sets.remove needing d) p ≡ true) same need))
    | inr apart ↦ sym (out_apart needing d q apart) ∙ need
  ]);
  bodies_are = are.bodies_are;
}
  where
    not_both : false ≡ true → ⊥
    not_both e = cc

-- those of these destinations that have data are marked
abbrev pub marks_among : NodeIds → NodeIds → NodeIds → NodeIds
marks_among with_data needing dests = sets.union needing (sets.intersection dests with_data)

is_marked : (with_data needing dests : NodeIds) (q : ℕ) → sets.contains (marks_among with_data needing dests) q ≡ (sets.contains needing q || (sets.contains dests q && sets.contains with_data q))
is_marked with_data needing dests q =
    sets.contains-union nat_cmp_total needing (sets.intersection dests with_data) q
    ∙ ap (λ (b : Bool). sets.contains needing q || b) (sets.contains-intersection nat_cmp_total dests with_data q)

with_marks : (needs named data_there : Bool) (bs : List Body) → data_there ≡ has_data bs → waiting_of (needs || (named && data_there)) bs ≡ option_map (need_if named) (waiting_of needs bs)
with_marks needs named data_there [] e = refl
with_marks needs true true (b ∷ bs) e = refl
with_marks needs false true (b ∷ bs) e = refl
with_marks needs named false (b ∷ bs) e = cc

pub set_is : (rows : Rows) (with_data needing dests : NodeIds) → AreRows rows with_data needing
    → store_of (marks_among with_data needing dests) rows ≡ cores.set (store_of needing rows) dests
set_is rows with_data needing dests are =
    let store = store_of needing rows in
    same_rows (marks_among with_data needing dests) rows (cores.set store dests) (λ q.
    ap (λ (b : Bool). waiting_of b (bodies_at rows q)) (is_marked with_data needing dests q)
    ∙ with_marks (sets.contains needing q) (sets.contains dests q) (sets.contains with_data q) (bodies_at rows q) (are.data_are q)
    ∙ ap (option_map (need_if (sets.contains dests q))) (sym (get-store_of needing rows q))
    ∙ sym (get-set store dests q))

pub set_kept : (rows : Rows) (with_data needing dests : NodeIds) → AreRows rows with_data needing → AreRows rows with_data (marks_among with_data needing dests)
set_kept rows with_data needing dests are = record {
  few = are.few;
  data_are = are.data_are;
  needing_are = λ q need. some_data (sets.contains needing q) (sets.contains dests q) (sets.contains with_data q) (are.needing_are q) (sym (is_marked with_data needing dests q) ∙ need);
  bodies_are = are.bodies_are;
}
  where
    some_data : (n d w : Bool) → (n ≡ true → w ≡ true) → (n || (d && w)) ≡ true → w ≡ true
    some_data true d w is e = is refl
    some_data false true w is e = e
    some_data false false w is e = cc
