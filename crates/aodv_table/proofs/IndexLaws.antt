-- What a row for each node shows.
use Rattle.std.proofs.Common.{◌≡◌, ◌<◌, ◌≤◌, ℕ, zero, suc, ◌+◌, Bool, true, false, cond, ltb, ◌||◌, List, [], ◌∷◌, ◌++◌, length, get_or, slice_set, Option, None, refl, ap, sym, subst, ◌∙◌, eq-eqb, zero-add, inl, inr, arith}
use Rattle.std.proofs.lemmas.Bool.{ne_eqb, cases_eq, cases_lt, le-ltb, lt-ltb}
use Rattle.std.proofs.lemmas.List.{length-append, get_or-set_same, get_or-set_other, length-set}
use Rattle.std.proofs.lemmas.Cmp.{nat_cmp_total}
use Rattle.std.specs.Ordering.{nat_cmp, eq_by_cmp}
use Rattle.std.specs.Cmp.{unsigned_tied}
use Rattle.std.specs.FinMap as maps
use Rattle.std.specs.FinSet as sets
use Rattle.mesh_base.specs.Members.{NodeIds}
use Rattle.aodv_model.specs.declared.entry.Entry.{Entry}
use Rattle.aodv_model.specs.Tables.{Table, is_valid_in}
use Rattle.aodv_table.specs.Calls.{IsBelow, with_entry, valid_dests, nodes_below, is_neighbour_entry, is_neighbour_in}
use Rattle.aodv_table.specs.Indexed.{entries_from, AreEmpty, AreIndexed, AreNeighbours}
use Rattle.aodv_table.proofs.Lookups.{get-with_entry, same_table}
use Rattle.aodv_table.proofs.RowLaws.{marked, marked_valid, none_valid, contains-marked}

abbrev Rows : Type 0
Rows = List (Option Entry)

-- ---- the entries

get-entries_from : (d : ℕ) (rows : Rows) (k : ℕ) → maps.get (entries_from d rows) (d + k) ≡ get_or rows k None
unfolding entries_from
get-entries_from d [] zero = maps.get-empty nat_cmp (d + 0)
get-entries_from d [] (suc k) = maps.get-empty nat_cmp (d + suc k)
get-entries_from d (row ∷ rows) zero =
    get-with_entry (entries_from (d + 1) rows) d row (d + 0)
    ∙ ap (λ (b : Bool). cond b row (maps.get (entries_from (d + 1) rows) (d + 0))) (eq-eqb (d + 0) d (omega arith))
get-entries_from d (row ∷ rows) (suc k) =
    let next : d + suc k ≡ d + 1 + k = omega arith in
    get-with_entry (entries_from (d + 1) rows) d row (d + suc k)
    ∙ ap (λ (b : Bool). cond b row (maps.get (entries_from (d + 1) rows) (d + suc k))) (ne_eqb (d + suc k) d (λ e. omega arith))
    ∙ ap (maps.get (entries_from (d + 1) rows)) next
    ∙ get-entries_from (d + 1) rows k

get-rows : (rows : Rows) (q : ℕ) → maps.get (entries_from 0 rows) q ≡ get_or rows q None
get-rows rows q = ap (maps.get (entries_from 0 rows)) (sym (zero-add q)) ∙ get-entries_from 0 rows q

past_rows : (rows : Rows) (d : ℕ) → length rows ≤ d → get_or rows d None ≡ None
past_rows [] zero le = refl
past_rows [] (suc d) le = refl
past_rows (row ∷ rows) zero le = absurd (omega arith)
past_rows (row ∷ rows) (suc d) le = past_rows rows d (omega arith)

-- what is read at a row
pub row_read : (rows : Rows) (d : ℕ) (rt : Table) → entries_from 0 rows ≡ rt → get_or rows d None ≡ maps.get rt d
row_read rows d rt shown = sym (get-rows rows d) ∙ ap (λ (t : Table). maps.get t d) shown

-- no entry stands from the number of nodes on
pub rows_end : (nodes seen : ℕ) (rows : Rows) (rt : Table) → entries_from 0 rows ≡ rt → nodes ≡ seen → length rows ≡ nodes → IsBelow seen rt
rows_end nodes seen rows rt shown same each d le = ap (λ (t : Table). maps.get t d) (sym shown) ∙ get-rows rows d ∙ past_rows rows d (omega arith)

-- a row is written
pub row_written : (rows : Rows) (d : ℕ) (o : Option Entry) → d < length rows → entries_from 0 (slice_set rows d o) ≡ with_entry (entries_from 0 rows) d o
row_written rows d o lt = same_table (entries_from 0 (slice_set rows d o)) (with_entry (entries_from 0 rows) d o) (λ q.
    get-rows (slice_set rows d o) q
    ∙ elim (cases_eq q d) [
      | inl same ↦
          ap (λ k. get_or (slice_set rows d o) k None) same
          ∙ get_or-set_same rows d o None lt
          ∙ ap (λ (b : Bool). cond b o (maps.get (entries_from 0 rows) q)) (sym (eq-eqb q d same))
      | inr other ↦
          get_or-set_other rows d q o None other
          ∙ sym (get-rows rows q)
          ∙ ap (λ (b : Bool). cond b o (maps.get (entries_from 0 rows) q)) (sym (ne_eqb q d other))
    ]
    ∙ sym (get-with_entry (entries_from 0 rows) d o q))

-- the neighbours after an entry of d is written
marked_neighbours : (rt : Table) (near near' : NodeIds) (d : ℕ) (o : Option Entry) → AreNeighbours rt near
    → near' ≡ cond (is_neighbour_entry d o) (sets.insert near d) (sets.remove near d) → AreNeighbours (with_entry rt d o) near'
marked_neighbours rt near near' d o are marks q =
    ap (λ (s : NodeIds). sets.contains s q) marks
    ∙ contains-marked (is_neighbour_entry d o) near d q
    ∙ elim (cases_eq q d) [
      | inl same ↦ rw (eq-eqb q d same) (ap (λ k. is_neighbour_entry k o) (sym same))
      | inr other ↦ rw (ne_eqb q d other) (are q)
    ]
    ∙ ap (is_neighbour_entry q) (sym (get-with_entry rt d o q))

pub indexed_kept : (nodes : ℕ) (rows : Rows) (valid valid' near near' : NodeIds) (d : ℕ) (o : Option Entry) → AreIndexed nodes rows valid near → d < nodes
    → valid' ≡ cond (is_valid_in o) (sets.insert valid d) (sets.remove valid d)
    → near' ≡ cond (is_neighbour_entry d o) (sets.insert near d) (sets.remove near d) → AreIndexed nodes (slice_set rows d o) valid' near'
indexed_kept nodes rows valid valid' near near' d o are lt marks marks_near =
    let here : d < length rows = omega (arith, are.each) in
    record {
      few = are.few;
      each = length-set rows d o ∙ are.each;
      valid_are = marks ∙ ap (λ (v : NodeIds). marked o v d) are.valid_are ∙ marked_valid (entries_from 0 rows) d o ∙ ap valid_dests (sym (row_written rows d o here));
      neighbours_are = subst (λ (rt : Table). AreNeighbours rt near') (sym (row_written rows d o here)) (marked_neighbours (entries_from 0 rows) near near' d o are.neighbours_are marks_near);
    }

-- ---- no entries

pub one_more : {A : Type 0} → (xs xs' : List A) (x : A) (n : ℕ) → xs' ≡ xs ++ x ∷ [] → length xs ≡ n → length xs' ≡ n + 1
one_more xs xs' x n is each = ap length is ∙ length-append xs (x ∷ []) ∙ ap (λ k. k + 1) each

pub empty_more : (rows rows' : Rows) → rows' ≡ rows ++ None ∷ [] → AreEmpty rows → AreEmpty rows'
empty_more rows rows' is none = subst AreEmpty (sym is) (along rows none)
  where
    along : (rows : Rows) → AreEmpty rows → AreEmpty (rows ++ None ∷ [])
    along [] none = (refl, tt)
    along (row ∷ rows) none = (none.0, along rows none.1)

abbrev no_table : Table
no_table = maps.empty

nothing_taken : (d : ℕ) → maps.remove no_table d ≡ no_table
nothing_taken d = same_table (maps.remove no_table d) no_table (λ q. maps.get-remove nat_cmp_total no_table d q ∙ either (eq_by_cmp nat_cmp q d) q ∙ sym (maps.get-empty nat_cmp q))
  where
    either : (b : Bool) (q : ℕ) → cond b None (maps.get no_table q) ≡ None
    either true q = refl
    either false q = maps.get-empty nat_cmp q

no_entries : (d : ℕ) (rows : Rows) → AreEmpty rows → entries_from d rows ≡ maps.empty
unfolding entries_from
no_entries d [] none = refl
no_entries d (row ∷ rows) none = ap (with_entry (entries_from (d + 1) rows) d) none.0 ∙ ap (λ (t : Table). maps.remove t d) (no_entries (d + 1) rows none.1) ∙ nothing_taken d

pub empty_rows : (rows : Rows) → AreEmpty rows → entries_from 0 rows ≡ maps.empty
empty_rows rows none = no_entries 0 rows none

no_neighbours : (rt : Table) (near : NodeIds) → rt ≡ maps.empty → near ≡ sets.empty → AreNeighbours rt near
no_neighbours rt near none no_near d =
    ap (λ (s : NodeIds). sets.contains s d) no_near
    ∙ sets.contains-empty nat_cmp d
    ∙ sym (ap (λ (t : Table). is_neighbour_in t d) none ∙ ap (is_neighbour_entry d) (maps.get-empty nat_cmp d))

pub new_indexed : (nodes : ℕ) (rows : Rows) (valid near : NodeIds) → nodes ≤ 200 → length rows ≡ nodes → AreEmpty rows → valid ≡ sets.empty → near ≡ sets.empty → AreIndexed nodes rows valid near
new_indexed nodes rows valid near few each none no_valid no_near = record {
  few = few;
  each = each;
  valid_are = no_valid ∙ none_valid (entries_from 0 rows) (empty_rows rows none);
  neighbours_are = no_neighbours (entries_from 0 rows) near (empty_rows rows none) no_near;
}

-- ---- the nodes

pub contains-nodes_below : (n q : ℕ) → sets.contains (nodes_below n) q ≡ ltb q n
unfolding nodes_below
contains-nodes_below zero q = sets.contains-empty nat_cmp q ∙ sym (le-ltb q 0 (omega arith))
contains-nodes_below (suc n) q =
    sets.contains-insert nat_cmp_total (nodes_below n) n q
    ∙ ap (λ (b : Bool). b || sets.contains (nodes_below n) q) (unsigned_tied q n)
    ∙ elim (cases_eq q n) [
      | inl same ↦ ap (λ (b : Bool). b || sets.contains (nodes_below n) q) (eq-eqb q n same) ∙ sym (lt-ltb q (suc n) (omega arith))
      | inr other ↦ ap (λ (b : Bool). b || sets.contains (nodes_below n) q) (ne_eqb q n other) ∙ contains-nodes_below n q ∙ elim (cases_lt q n) [
        | inl lt ↦ lt-ltb q n lt ∙ sym (lt-ltb q (suc n) (omega arith))
        | inr le ↦ le-ltb q n le ∙ sym (le-ltb q (suc n) (omega arith))
      ]
    ]

pub has_row : (n d : ℕ) (rooms : NodeIds) → nodes_below n ≡ rooms → d < n → sets.contains rooms d ≡ true
has_row n d rooms shown lt = ap (λ (s : NodeIds). sets.contains s d) (sym shown) ∙ contains-nodes_below n d ∙ lt-ltb d n lt

-- whether a node is a neighbour, as callers see it
pub is_known : (nodes : ℕ) (rows : Rows) (valid near : NodeIds) (d : ℕ) (rt : Table) → AreIndexed nodes rows valid near → entries_from 0 rows ≡ rt → sets.contains near d ≡ is_neighbour_in rt d
is_known nodes rows valid near d rt are shown = are.neighbours_are d ∙ ap (λ (t : Table). is_neighbour_in t d) shown
