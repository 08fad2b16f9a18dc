-- What a map of rows shows.
use Rattle.std.proofs.Common.{◌≡◌, ◌<◌, ◌≤◌, ℕ, Bool, true, false, cond, eqb, not, ◌&&◌, ◌||◌, List, [], ◌∷◌, map, Option, Some, None, refl, ap, sym, subst, ◌∙◌, eq-eqb, inl, inr, arith}
use Rattle.std.specs.Prelude.{is_some, IsSome, OnOk, OnErr}
use Rattle.std.specs.declared.result.Result.{Result}
use Rattle.std.specs.declared.result.Result.TheVariants.{Ok, Err}
use Rattle.std.specs.List.{list_any}
use Rattle.std.proofs.lemmas.Bool.{ne_eqb, cases_eq, cases_lt, or_right}
use Rattle.std.proofs.lemmas.Cmp.{nat_cmp_total}
use Rattle.std.specs.Ordering.{nat_cmp, eq_by_cmp}
use Rattle.std.specs.Cmp.{unsigned_tied}
use Rattle.std.specs.Map.{lookup}
use Rattle.std.specs.BTreeMap.{is_at}
use Rattle.std.specs.FinMap as maps
use Rattle.std.specs.FinSet as sets
use Rattle.mesh_base.specs.Members.{NodeIds}
use Rattle.aodv_model.specs.declared.entry.Entry.{Entry}
use Rattle.aodv_model.specs.Tables.{Table, is_valid_in}
use Rattle.aodv_table.specs.Calls.{IsBelow, with_entry, valid_dests}
use Rattle.aodv_table.specs.Rows.{entries_in, rooms_in, AreRows}
use Rattle.aodv_table.proofs.Lookups.{get-with_entry, same_table, same_nodes, contains-valid_dests}

abbrev Rows : Type 0
Rows = List (ℕ × Option Entry)

-- what is in a row, if there is one
abbrev pub in_row : Option (Option Entry) → Option Entry
in_row None = None
in_row (Some o) = o

abbrev pub row_of : Rows → ℕ → Option (Option Entry)
row_of rows q = lookup (is_at (nat_cmp q)) rows

pub get-entries_in : (rows : Rows) (q : ℕ) → maps.get (entries_in rows) q ≡ in_row (row_of rows q)
unfolding entries_in
get-entries_in [] q = maps.get-empty nat_cmp q
get-entries_in (row ∷ rows) q =
    get-with_entry (entries_in rows) row.0 row.1 q
    ∙ ap (λ o. cond (eqb q row.0) row.1 o) (get-entries_in rows q)
    ∙ moved (eqb q row.0)
    ∙ ap (λ (b : Bool). in_row (cond b (Some row.1) (row_of rows q))) (sym (unsigned_tied q row.0))
  where
    moved : (b : Bool) → cond b row.1 (in_row (row_of rows q)) ≡ in_row (cond b (Some row.1) (row_of rows q))
    moved true = refl
    moved false = refl

found_any : (rows : Rows) (q : ℕ) → list_any (eq_by_cmp nat_cmp q) (map (λ row. row.0) rows) ≡ is_some (row_of rows q)
found_any [] q = refl
found_any (row ∷ rows) q =
    elim (eq_by_cmp nat_cmp q row.0) as (λ b. (b || list_any (eq_by_cmp nat_cmp q) (map (λ row. row.0) rows)) ≡ is_some (cond b (Some row.1) (row_of rows q))) [ true ↦ refl | false ↦ found_any rows q ]

pub contains-rooms_in : (rows : Rows) (q : ℕ) → sets.contains (rooms_in rows) q ≡ is_some (row_of rows q)
unfolding rooms_in
contains-rooms_in rows q = sets.contains-from_list nat_cmp_total (map (λ row. row.0) rows) q ∙ found_any rows q

-- a destination whose row holds an entry has room
pub room_of_entry : (rows : Rows) (q : ℕ) → IsSome (maps.get (entries_in rows) q) → sets.contains (rooms_in rows) q ≡ true
room_of_entry rows q some = contains-rooms_in rows q ∙ held (row_of rows q) (subst IsSome (get-entries_in rows q) some)
  where
    held : (o : Option (Option Entry)) → IsSome (in_row o) → is_some o ≡ true
    held None some = some
    held (Some o) some = refl

-- rows in which d's row was written
pub written : (rows rows' : Rows) (d : ℕ) (o : Option Entry) → ((q : ℕ) → row_of rows' q ≡ cond (is_at (nat_cmp d) q) (Some o) (row_of rows q)) → entries_in rows' ≡ with_entry (entries_in rows) d o
written rows rows' d o writes = same_table (entries_in rows') (with_entry (entries_in rows) d o) (λ q.
    get-entries_in rows' q
    ∙ ap in_row (writes q)
    ∙ elim (cases_eq q d) [
      | inl same ↦ ap (λ (b : Bool). in_row (cond b (Some o) (row_of rows q))) (unsigned_tied d q ∙ eq-eqb d q (sym same)) ∙ ap (λ (b : Bool). cond b o (maps.get (entries_in rows) q)) (sym (eq-eqb q d same))
      | inr other ↦ ap (λ (b : Bool). in_row (cond b (Some o) (row_of rows q))) (unsigned_tied d q ∙ ne_eqb d q (λ e. other (sym e))) ∙ sym (get-entries_in rows q) ∙ ap (λ (b : Bool). cond b o (maps.get (entries_in rows) q)) (sym (ne_eqb q d other))
    ]
    ∙ sym (get-with_entry (entries_in rows) d o q))

pub entry_read : (rows : Rows) (d : ℕ) (o : Option (Option Entry)) → o ≡ row_of rows d → in_row o ≡ maps.get (entries_in rows) d
entry_read rows d o is = ap in_row is ∙ sym (get-entries_in rows d)

-- a destination with room has a row
pub row_there : (rows : Rows) (d : ℕ) → sets.contains (rooms_in rows) d ≡ true → row_of rows d ≡ None → ⊥
row_there rows d room none = false_true (ap is_some (sym none) ∙ sym (contains-rooms_in rows d) ∙ room)
  where
    false_true : false ≡ true → ⊥
    false_true e = cc

pub same_rooms : (rows rows' : Rows) → map (λ row. row.0) rows' ≡ map (λ row. row.0) rows → rooms_in rows' ≡ rooms_in rows
unfolding rooms_in
same_rooms rows rows' e = ap sets.from_list e

pub no_rows : (rows : Rows) → rows ≡ [] → entries_in rows ≡ maps.empty
unfolding entries_in
no_rows rows e = ap entries_in e

pub no_rooms : (rows : Rows) → rows ≡ [] → rooms_in rows ≡ sets.empty
unfolding rooms_in
no_rooms rows e = ap rooms_in e

pub none_valid : (rt : Table) → rt ≡ maps.empty → sets.empty ≡ valid_dests rt
none_valid rt none = same_nodes sets.empty (valid_dests rt) (λ q.
    sets.contains-empty nat_cmp q ∙ sym (contains-valid_dests rt q ∙ ap (λ (t : Table). is_valid_in (maps.get t q)) none ∙ ap is_valid_in (maps.get-empty nat_cmp q)))

pub new_rows : (nodes : ℕ) (rows : Rows) (valid : NodeIds) → nodes ≤ 200 → rows ≡ [] → valid ≡ sets.empty → AreRows nodes rows valid
new_rows nodes rows valid few none no_valid = record {
  few = few;
  below = λ d le. ap (λ (rt : Table). maps.get rt d) (no_rows rows none) ∙ maps.get-empty nat_cmp d;
  valid_are = no_valid ∙ none_valid (entries_in rows) (no_rows rows none);
}

pub room_of_row : (rows : Rows) (d : ℕ) (o : Option Entry) → Some o ≡ row_of rows d → sets.contains (rooms_in rows) d ≡ true
room_of_row rows d o is = contains-rooms_in rows d ∙ ap is_some (sym is)

pub had_row : (rows : Rows) (d : ℕ) (o : Option (Option Entry)) → o ≡ row_of rows d → sets.contains (rooms_in rows) d ≡ true → IsSome o
had_row rows d o is room = ap is_some is ∙ sym (contains-rooms_in rows d) ∙ room

-- ---- a row is added

already : (s : NodeIds) (d : ℕ) → sets.contains s d ≡ true → s ≡ sets.insert s d
already s d is = same_nodes s (sets.insert s d) (λ q.
    sym (sets.contains-insert nat_cmp_total s d q ∙ ap (λ (b : Bool). b || sets.contains s q) (unsigned_tied q d)
    ∙ elim (cases_eq q d) [
      | inl same ↦ ap (λ (b : Bool). b || sets.contains s q) (eq-eqb q d same) ∙ sym (ap (sets.contains s) same ∙ is)
      | inr other ↦ ap (λ (b : Bool). b || sets.contains s q) (ne_eqb q d other)
    ]))

pub had_room : (rows : Rows) (d : ℕ) (b : Bool) → b ≡ is_some (row_of rows d) → b ≡ true → rooms_in rows ≡ sets.insert (rooms_in rows) d
had_room rows d b is held = already (rooms_in rows) d (contains-rooms_in rows d ∙ sym is ∙ held)

-- where there is no row there is no room
pub lacks_room : (rows : Rows) (d : ℕ) (b : Bool) → b ≡ is_some (row_of rows d) → b ≡ false → sets.contains (rooms_in rows) d ≡ true → ⊥
lacks_room rows d b is none there = different (sym there ∙ contains-rooms_in rows d ∙ sym is ∙ none)
  where
    different : true ≡ false → ⊥
    different e = cc

nothing_put : (rt : Table) (d : ℕ) → maps.get rt d ≡ None → with_entry rt d None ≡ rt
nothing_put rt d none = same_table (with_entry rt d None) rt (λ q.
    get-with_entry rt d None q
    ∙ elim (cases_eq q d) [
      | inl same ↦ ap (λ (b : Bool). cond b None (maps.get rt q)) (eq-eqb q d same) ∙ sym (ap (maps.get rt) same ∙ none)
      | inr other ↦ ap (λ (b : Bool). cond b None (maps.get rt q)) (ne_eqb q d other)
    ])

no_row : (o : Option (Option Entry)) → is_some o ≡ false → in_row o ≡ None
no_row None e = refl
no_row (Some o) e = absurd (true_false e)
  where
    true_false : true ≡ false → ⊥
    true_false e = cc

pub row_added : (rows rows' : Rows) (d : ℕ) (b : Bool) → b ≡ is_some (row_of rows d) → b ≡ false → ((q : ℕ) → row_of rows' q ≡ cond (is_at (nat_cmp d) q) (Some None) (row_of rows q)) → entries_in rows' ≡ entries_in rows
row_added rows rows' d b is none writes =
    written rows rows' d None writes ∙ nothing_put (entries_in rows) d (get-entries_in rows d ∙ no_row (row_of rows d) (sym is ∙ none))

pub room_added : (rows rows' : Rows) (d : ℕ) (o : Option Entry) → ((q : ℕ) → row_of rows' q ≡ cond (is_at (nat_cmp d) q) (Some o) (row_of rows q)) → rooms_in rows' ≡ sets.insert (rooms_in rows) d
room_added rows rows' d o writes = same_nodes (rooms_in rows') (sets.insert (rooms_in rows) d) (λ q.
    contains-rooms_in rows' q
    ∙ ap is_some (writes q)
    ∙ elim (cases_eq q d) [
      | inl same ↦ ap (λ (b : Bool). is_some (cond b (Some o) (row_of rows q))) (unsigned_tied d q ∙ eq-eqb d q (sym same)) ∙ ap (λ (b : Bool). b || sets.contains (rooms_in rows) q) (sym (eq-eqb q d same))
      | inr other ↦ ap (λ (b : Bool). is_some (cond b (Some o) (row_of rows q))) (unsigned_tied d q ∙ ne_eqb d q (λ e. other (sym e))) ∙ sym (contains-rooms_in rows q) ∙ ap (λ (b : Bool). b || sets.contains (rooms_in rows) q) (sym (ne_eqb q d other))
    ]
    ∙ sym (sets.contains-insert nat_cmp_total (rooms_in rows) d q ∙ ap (λ (b : Bool). b || sets.contains (rooms_in rows) q) (unsigned_tied q d)))

here : (s t : NodeIds) (d : ℕ) → t ≡ sets.insert s d → sets.contains t d ≡ true
here s t d e = ap (λ (u : NodeIds). sets.contains u d) e ∙ sets.contains-insert nat_cmp_total s d d ∙ ap (λ (b : Bool). b || sets.contains s d) (unsigned_tied d d ∙ eq-eqb d d refl)

-- after room was made for d, or not
pub room_here : {T E : Type 0} (r : Result T E) (s t : NodeIds) (d : ℕ) → OnOk r (t ≡ sets.insert s d) → OnOk r (sets.contains t d ≡ true)
room_here (Ok x) s t d e = here s t d e
room_here (Err x) s t d e = tt

pub room_kept : {T E : Type 0} (r : Result T E) (s t seen : NodeIds) (d : ℕ) → s ≡ seen → OnOk r (t ≡ sets.insert s d) → OnErr r (t ≡ s) → (q : ℕ) → sets.contains seen q ≡ true → sets.contains t q ≡ true
room_kept (Ok x) s t seen d same e u q had =
    ap (λ (v : NodeIds). sets.contains v q) e ∙ sets.contains-insert nat_cmp_total s d q ∙ or_right _ _ (ap (λ (v : NodeIds). sets.contains v q) same ∙ had)
room_kept (Err x) s t seen d same e u q had = ap (λ (v : NodeIds). sets.contains v q) (u ∙ same) ∙ had

-- ---- a row is written

abbrev pub marked : Option Entry → NodeIds → ℕ → NodeIds
marked o valid d = cond (is_valid_in o) (sets.insert valid d) (sets.remove valid d)

-- which nodes a set has after d was marked in it, or not
pub contains-marked : (b : Bool) (valid : NodeIds) (d q : ℕ) → sets.contains (cond b (sets.insert valid d) (sets.remove valid d)) q ≡ cond (eqb q d) b (sets.contains valid q)
contains-marked true valid d q =
    sets.contains-insert nat_cmp_total valid d q
    ∙ ap (λ (b : Bool). b || sets.contains valid q) (unsigned_tied q d)
    ∙ elim (eqb q d) as (λ b. (b || sets.contains valid q) ≡ cond b true (sets.contains valid q)) [ true ↦ refl | false ↦ refl ]
contains-marked false valid d q =
    sets.contains-remove nat_cmp_total valid d q
    ∙ ap (λ (b : Bool). not b && sets.contains valid q) (unsigned_tied q d)
    ∙ elim (eqb q d) as (λ b. (not b && sets.contains valid q) ≡ cond b false (sets.contains valid q)) [ true ↦ refl | false ↦ refl ]

moved : (f : Option Entry → Bool) (b : Bool) (x y : Option Entry) → cond b (f x) (f y) ≡ f (cond b x y)
moved f true x y = refl
moved f false x y = refl

pub marked_valid : (rt : Table) (d : ℕ) (o : Option Entry) → marked o (valid_dests rt) d ≡ valid_dests (with_entry rt d o)
marked_valid rt d o = same_nodes _ _ (λ q.
    contains-marked (is_valid_in o) (valid_dests rt) d q
    ∙ ap (cond (eqb q d) (is_valid_in o)) (contains-valid_dests rt q)
    ∙ moved is_valid_in (eqb q d) o (maps.get rt q)
    ∙ ap is_valid_in (sym (get-with_entry rt d o q))
    ∙ sym (contains-valid_dests (with_entry rt d o) q))

pub rows_kept : (nodes seen : ℕ) (rows rows' : Rows) (valid valid' : NodeIds) (d : ℕ) (o : Option Entry) → AreRows nodes rows valid → nodes ≡ seen → d < seen
    → entries_in rows' ≡ with_entry (entries_in rows) d o → valid' ≡ cond (is_valid_in o) (sets.insert valid d) (sets.remove valid d) → AreRows nodes rows' valid'
rows_kept nodes seen rows rows' valid valid' d o are same lt entries marks = record {
  few = are.few;
  below = λ q le.
      ap (λ (rt : Table). maps.get rt q) entries
      ∙ get-with_entry (entries_in rows) d o q
      ∙ ap (λ (b : Bool). cond b o (maps.get (entries_in rows) q)) (ne_eqb q d (λ e. omega arith))
      ∙ are.below q le;
  valid_are =
      marks
      ∙ ap (λ (v : NodeIds). marked o v d) are.valid_are
      ∙ marked_valid (entries_in rows) d o
      ∙ ap valid_dests (sym entries);
}

-- an entry stands below the number of nodes
pub entry_below : (nodes seen : ℕ) (rows : Rows) (valid : NodeIds) (d : ℕ) (rt : Table) → AreRows nodes rows valid → nodes ≡ seen → entries_in rows ≡ rt → IsSome (maps.get rt d) → d < seen
entry_below nodes seen rows valid d rt are same shown some =
    elim (cases_lt d seen) [
      | inl lt ↦ lt
      | inr le ↦ absurd (false_true (ap is_some (sym (ap (λ (t : Table). maps.get t d) (sym shown) ∙ are.below d (omega arith))) ∙ some))
    ]
  where
    false_true : false ≡ true → ⊥
    false_true e = cc

-- no entry stands from there on, as callers see it
pub below_seen : (nodes : ℕ) (rows : Rows) (rt : Table) → IsBelow nodes (entries_in rows) → entries_in rows ≡ rt → IsBelow nodes rt
below_seen nodes rows rt below shown d le = ap (λ (t : Table). maps.get t d) (sym shown) ∙ below d le
