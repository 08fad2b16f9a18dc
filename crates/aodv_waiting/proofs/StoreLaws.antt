-- What rows show: what the store that they show says of each destination, and how it changes with them.
use Rattle.std.proofs.Common.{◌≡◌, ◌≢◌, ◌<◌, ◌≤◌, ℕ, zero, suc, ◌+◌, ◌-◌, Bool, true, false, cond, ◌&&◌, ◌||◌, List, [], ◌∷◌, ◌++◌, map, length, get_or, Option, Some, None, refl, sym, ap, subst, ◌∙◌, arith, eq-eqb, inl, inr}
use Rattle.std.proofs.Math.ListN.{set as put}
use Rattle.std.proofs.Math.Seq.{map-set_same}
use Rattle.std.specs.Prelude.{not, slice_get, OnOk, IsTrue, ◌↔◌}
use Rattle.std.proofs.Common.{Result, Ok, Err}
use Rattle.mesh_base.specs.declared.bytes.NoMemory.{NoMemory}
use Rattle.aodv_model.specs.Handlers.{first_body}
use Rattle.std.specs.List.{AllByRecursion}
use Rattle.std.specs.Ordering.{nat_cmp}
use Rattle.std.specs.Cmp.{unsigned_tied}
use Rattle.std.proofs.lemmas.Bool.{ne_eqb, cases_eq, cases_lt}
use Rattle.std.proofs.lemmas.Cmp.{nat_cmp_total}
use Rattle.std.proofs.lemmas.List.{get_or-set_same, get_or-set_other, length-set, length-map, map-set, get_or-map, get_or_past}
use Rattle.std.specs.FinMap as maps
use Rattle.std.specs.FinMap.{nat_cmp-IsAntisymmetric}
use Rattle.std.specs.FinSet as sets
use Rattle.mesh_base.specs.Members.{NodeIds}
use Rattle.aodv_model.specs.Cores.{Body, Waiting, Store, has_data, bodies_in, needs_in, in_qD}
use Rattle.aodv_model.specs.Soundness.{IsDatum, IsStoreInMesh}
use Rattle.aodv_waiting.specs.Rows.{Rows, bodies_at, waiting_of, with_waiting, store_from, store_of, AreRows}

-- ---- maps and sets of nodes, node by node

pub get_here : (m : Store) (d : ℕ) (s : Waiting) → maps.get (maps.insert m d s) d ≡ Some s
get_here m d s = maps.get-insert nat_cmp_total m d s d ∙ ap (λ (b : Bool). cond b (Some s) (maps.get m d)) (unsigned_tied d d ∙ eq-eqb d d refl)

pub get_apart : (m : Store) (d : ℕ) (s : Waiting) (q : ℕ) → q ≢ d → maps.get (maps.insert m d s) q ≡ maps.get m q
get_apart m d s q apart = maps.get-insert nat_cmp_total m d s q ∙ ap (λ (b : Bool). cond b (Some s) (maps.get m q)) (unsigned_tied q d ∙ ne_eqb q d apart)

pub gone_here : (m : Store) (d : ℕ) → maps.get (maps.remove m d) d ≡ None
gone_here m d = maps.get-remove nat_cmp_total m d d ∙ ap (λ (b : Bool). cond b None (maps.get m d)) (unsigned_tied d d ∙ eq-eqb d d refl)

pub gone_apart : (m : Store) (d q : ℕ) → q ≢ d → maps.get (maps.remove m d) q ≡ maps.get m q
gone_apart m d q apart = maps.get-remove nat_cmp_total m d q ∙ ap (λ (b : Bool). cond b None (maps.get m q)) (unsigned_tied q d ∙ ne_eqb q d apart)

pub in_here : (s : NodeIds) (d : ℕ) → sets.contains (sets.insert s d) d ≡ true
in_here s d = sets.contains-insert nat_cmp_total s d d ∙ ap (λ (b : Bool). b || sets.contains s d) (unsigned_tied d d ∙ eq-eqb d d refl)

pub in_apart : (s : NodeIds) (d q : ℕ) → q ≢ d → sets.contains (sets.insert s d) q ≡ sets.contains s q
in_apart s d q apart = sets.contains-insert nat_cmp_total s d q ∙ ap (λ (b : Bool). b || sets.contains s q) (unsigned_tied q d ∙ ne_eqb q d apart)

pub out_here : (s : NodeIds) (d : ℕ) → sets.contains (sets.remove s d) d ≡ false
out_here s d = sets.contains-remove nat_cmp_total s d d ∙ ap (λ (b : Bool). not b && sets.contains s d) (unsigned_tied d d ∙ eq-eqb d d refl)

pub out_apart : (s : NodeIds) (d q : ℕ) → q ≢ d → sets.contains (sets.remove s d) q ≡ sets.contains s q
out_apart s d q apart = sets.contains-remove nat_cmp_total s d q ∙ ap (λ (b : Bool). not b && sets.contains s q) (unsigned_tied q d ∙ ne_eqb q d apart)

pub same_store : (a b : Store) → ((q : ℕ) → maps.get a q ≡ maps.get b q) → a ≡ b
same_store a b same = maps.same_map nat_cmp_total nat_cmp-IsAntisymmetric a b same

-- ---- what rows show

waits_here : (m : Store) (d : ℕ) (o : Option Waiting) → maps.get m d ≡ None → maps.get (with_waiting m d o) d ≡ o
waits_here m d None none = none
waits_here m d (Some s) none = get_here m d s

waits_apart : (m : Store) (d : ℕ) (o : Option Waiting) (q : ℕ) → q ≢ d → maps.get (with_waiting m d o) q ≡ maps.get m q
waits_apart m d None q apart = refl
waits_apart m d (Some s) q apart = get_apart m d s q apart

before : (needing : NodeIds) (rows : Rows) (i q : ℕ) → q < i → maps.get (store_from needing i rows) q ≡ None
unfolding store_from
before needing [] i q lt = maps.get-empty nat_cmp q
before needing (row ∷ rows) i q lt = waits_apart (store_from needing (i + 1) rows) i (waiting_of (sets.contains needing i) row) q (λ e. omega arith) ∙ before needing rows (i + 1) q (omega arith)

from_index : (needing : NodeIds) (rows : Rows) (i k : ℕ) → maps.get (store_from needing i rows) (i + k) ≡ waiting_of (sets.contains needing (i + k)) (bodies_at rows k)
unfolding store_from
from_index needing [] i k = maps.get-empty nat_cmp (i + k)
from_index needing (row ∷ rows) i zero =
    let none : i + 0 ≡ i = omega arith in
    rw none (waits_here (store_from needing (i + 1) rows) i (waiting_of (sets.contains needing i) row) (before needing rows (i + 1) i (omega arith)))
from_index needing (row ∷ rows) i (suc k) =
    let next : i + suc k ≡ (i + 1) + k = omega arith in
    waits_apart (store_from needing (i + 1) rows) i (waiting_of (sets.contains needing i) row) (i + suc k) (λ e. omega arith)
    ∙ ap (λ (q : ℕ). maps.get (store_from needing (i + 1) rows) q) next
    ∙ from_index needing rows (i + 1) k
    ∙ ap (λ (q : ℕ). waiting_of (sets.contains needing q) (bodies_at rows k)) (sym next)

-- the store says of each destination what its row and its mark say
pub get-store_of : (needing : NodeIds) (rows : Rows) (q : ℕ) → maps.get (store_of needing rows) q ≡ waiting_of (sets.contains needing q) (bodies_at rows q)
unfolding store_of
get-store_of needing rows q =
    let none : 0 + q ≡ q = omega arith in
    ap (λ (p : ℕ). maps.get (store_from needing 0 rows) p) (sym none) ∙ from_index needing rows 0 q ∙ ap (λ (p : ℕ). waiting_of (sets.contains needing p) (bodies_at rows q)) none

bodies_of_waiting : (needs : Bool) (bs : List Body) → bodies_in (waiting_of needs bs) ≡ bs
bodies_of_waiting needs [] = refl
bodies_of_waiting needs (b ∷ bs) = refl

needs_of_waiting : (needs : Bool) (bs : List Body) → (needs ≡ true → has_data bs ≡ true) → needs_in (waiting_of needs bs) ≡ needs
needs_of_waiting true [] some = some refl
needs_of_waiting false [] some = refl
needs_of_waiting needs (b ∷ bs) some = refl

pub bodies_shown : (needing : NodeIds) (rows : Rows) (store : Store) (q : ℕ) → store_of needing rows ≡ store → bodies_in (maps.get store q) ≡ bodies_at rows q
bodies_shown needing rows store q shown = ap (λ (s : Store). bodies_in (maps.get s q)) (sym shown) ∙ ap bodies_in (get-store_of needing rows q) ∙ bodies_of_waiting (sets.contains needing q) (bodies_at rows q)

pub needs_shown : (with_data needing : NodeIds) (rows : Rows) (store : Store) (q : ℕ) → AreRows rows with_data needing → store_of needing rows ≡ store → needs_in (maps.get store q) ≡ sets.contains needing q
needs_shown with_data needing rows store q are shown =
    ap (λ (s : Store). needs_in (maps.get s q)) (sym shown) ∙ ap needs_in (get-store_of needing rows q)
    ∙ needs_of_waiting (sets.contains needing q) (bodies_at rows q) (λ need. sym (are.data_are q) ∙ are.needing_are q need)

pub data_shown : (with_data needing : NodeIds) (rows : Rows) (store : Store) (q : ℕ) → AreRows rows with_data needing → store_of needing rows ≡ store → in_qD store q ≡ sets.contains with_data q
data_shown with_data needing rows store q are shown = ap has_data (bodies_shown needing rows store q shown) ∙ sym (are.data_are q)

pub bodies_past : (rows : Rows) (q : ℕ) → length rows ≤ q → bodies_at rows q ≡ []
bodies_past rows q past = get_or_past rows q [] past

-- a destination with data has a row
pub row_there : (rows : Rows) (q : ℕ) → has_data (bodies_at rows q) ≡ true → q < length rows
row_there rows q some =
    elim (cases_lt q (length rows)) [
      | inl lt ↦ lt
      | inr past ↦ absurd (no_data (ap has_data (sym (bodies_past rows q past)) ∙ some))
    ]
  where
    no_data : false ≡ true → ⊥
    no_data e = cc

pub in_mesh : (with_data needing : NodeIds) (rows : Rows) (store : Store) (size : ℕ) → AreRows rows with_data needing → store_of needing rows ≡ store → length rows ≡ size → IsStoreInMesh size store
in_mesh with_data needing rows store size are shown nodes d waiting at =
    let bodies : bodies_at rows d ≡ waiting.bodies = sym (bodies_shown needing rows store d shown) ∙ ap bodies_in at in
    let some : has_data (bodies_at rows d) ≡ true = has_some (sets.contains needing d) (bodies_at rows d) waiting (sym (get-store_of needing rows d) ∙ ap (λ (s : Store). maps.get s d) shown ∙ at) in
    record {
      dest = let there : d < length rows = row_there rows d some in omega arith;
      some = λ none. absurd (no_data (ap has_data (sym (bodies ∙ none)) ∙ some));
      bodies = subst (AllByRecursion IsDatum) bodies (are.bodies_are d);
    }
  where
    no_data : false ≡ true → ⊥
    no_data e = cc

    has_some : (needs : Bool) (bs : List Body) (w : Waiting) → waiting_of needs bs ≡ Some w → has_data bs ≡ true
    has_some needs [] w e = cc
    has_some needs (b ∷ bs) w e = refl

-- ---- one row is written

pub bodies_put_here : (rows : Rows) (d : ℕ) (row : List Body) → d < length rows → bodies_at (put rows d row) d ≡ row
bodies_put_here rows d row lt = get_or-set_same rows d row [] lt

pub bodies_put_apart : (rows : Rows) (d : ℕ) (row : List Body) (q : ℕ) → q ≢ d → bodies_at (put rows d row) q ≡ bodies_at rows q
bodies_put_apart rows d row q apart = get_or-set_other rows d q row [] apart

-- the rows show the store in which only d's data and d's mark have changed
pub row_shown : (needing needing' : NodeIds) (rows : Rows) (d : ℕ) (row : List Body) (store : Store) → d < length rows
    → waiting_of (sets.contains needing' d) row ≡ maps.get store d
    → ((q : ℕ) → q ≢ d → sets.contains needing' q ≡ sets.contains needing q)
    → ((q : ℕ) → q ≢ d → maps.get (store_of needing rows) q ≡ maps.get store q)
    → store_of needing' (put rows d row) ≡ store
row_shown needing needing' rows d row store lt here marks rest =
    same_store (store_of needing' (put rows d row)) store (λ q.
    get-store_of needing' (put rows d row) q
    ∙ elim (cases_eq q d) [
      | inl same ↦ rw same (ap (waiting_of (sets.contains needing' d)) (bodies_put_here rows d row lt) ∙ here)
      | inr apart ↦
          ap (λ (b : Bool). waiting_of b (bodies_at (put rows d row) q)) (marks q apart)
          ∙ ap (waiting_of (sets.contains needing q)) (bodies_put_apart rows d row q apart)
          ∙ sym (get-store_of needing rows q) ∙ rest q apart
    ])

pub rows_kept : (rows : Rows) (with_data needing with_data' needing' : NodeIds) (d : ℕ) (row : List Body) → AreRows rows with_data needing → d < length rows
    → sets.contains with_data' d ≡ has_data row
    → (sets.contains needing' d ≡ true → sets.contains with_data' d ≡ true)
    → AllByRecursion IsDatum row
    → ((q : ℕ) → q ≢ d → sets.contains with_data' q ≡ sets.contains with_data q)
    → ((q : ℕ) → q ≢ d → sets.contains needing' q ≡ sets.contains needing q)
    → AreRows (put rows d row) with_data' needing'
rows_kept rows with_data needing with_data' needing' d row are lt here marked each rest marks = record {
  few = subst (λ n. n ≤ 200) (sym (length-set rows d row)) are.few;
  data_are = λ q. elim (cases_eq q d) [
    | inl same ↦ rw same (here ∙ ap has_data (sym (bodies_put_here rows d row lt)))
    | inr apart ↦ rest q apart ∙ are.data_are q ∙ ap has_data (sym (bodies_put_apart rows d row q apart))
  ];
  needing_are = λ q need. elim (cases_eq q d) [
    | inl same ↦ subst (λ p. sets.contains with_data' p ≡ true) (sym same) (marked (subst (λ p. sets.contains needing' p ≡ true) same need))
    | inr apart ↦ rest q apart ∙ are.needing_are q (sym (marks q apart) ∙ need)
  ];
  bodies_are = λ q. elim (cases_eq q d) [
    | inl same ↦ subst (λ p. AllByRecursion IsDatum (bodies_at (put rows d row) p)) (sym same) (subst (AllByRecursion IsDatum) (sym (bodies_put_here rows d row lt)) each)
    | inr apart ↦ subst (AllByRecursion IsDatum) (sym (bodies_put_apart rows d row q apart)) (are.bodies_are q)
  ];
}

-- ---- the rings that hold the rows

pub row_read : {X : Type 0} (items : X → List Body) (rings : List X) (d : ℕ) (ring : X) → d < length rings → ring ≡ get_or rings d ring → bodies_at (map items rings) d ≡ items ring
row_read items rings d ring lt at = get_or-map items rings d ring [] lt ∙ ap items (sym at)

pub row_within : {X : Type 0} (items : X → List Body) (rings : List X) (d : ℕ) → d < length rings → d < length (map items rings)
row_within items rings d lt = omega (arith, length-map rings items)

-- a ring is written, but not what f says of it
pub none_changed : {X Y : Type 0} (f : X → Y) (rings : List X) (d : ℕ) (ring ring' : X) → ring ≡ get_or rings d ring → f ring' ≡ f ring → map f (put rings d ring') ≡ map f rings
none_changed f rings d ring ring' at same = map-set_same f rings d ring' ring (same ∙ ap f at)

-- the nodes stay, and no room is lost
pub record KeepsRooms (old new : List ℕ) : Type 0 where
  pub nodes : length new ≡ length old
  pub room : (q : ℕ) → get_or old q 0 ≤ get_or new q 0

module _ {X : Type 0} (room_of : X → ℕ) (rings : List X) where
  pub rings_len : (rooms : List ℕ) → map room_of rings ≡ rooms → length rings ≡ length rooms
  rings_len rooms shown = sym (length-map rings room_of) ∙ ap length shown

  pub room_read : (d : ℕ) (ring : X) (rooms : List ℕ) → d < length rings → ring ≡ get_or rings d ring → map room_of rings ≡ rooms → room_of ring ≡ get_or rooms d 0
  room_read d ring rooms lt at shown = sym (get_or-map room_of rings d ring 0 lt ∙ ap room_of (sym at)) ∙ ap (λ (rs : List ℕ). get_or rs d 0) shown

  room_put_here : (d : ℕ) (ring : X) → d < length rings → get_or (map room_of (put rings d ring)) d 0 ≡ room_of ring
  room_put_here d ring lt = ap (λ (rs : List ℕ). get_or rs d 0) (map-set room_of rings d ring) ∙ get_or-set_same (map room_of rings) d (room_of ring) 0 (omega (arith, length-map rings room_of))

  -- one more datum uses up the room for one
  pub room_used : (d : ℕ) (ring ring' : X) (rooms : List ℕ) → d < length rings → ring ≡ get_or rings d ring → room_of ring' ≡ room_of ring - 1 → map room_of rings ≡ rooms → map room_of (put rings d ring') ≡ put rooms d (get_or rooms d 0 - 1)
  room_used d ring ring' rooms lt at less shown =
      map-set room_of rings d ring' ∙ ap (λ (rs : List ℕ). put rs d (room_of ring')) shown
      ∙ ap (put rooms d) (less ∙ ap (λ (n : ℕ). n - 1) (room_read d ring rooms lt at shown))

  -- a ring that has no less room than before
  pub rooms_kept : (d : ℕ) (ring ring' : X) (rooms : List ℕ) → d < length rings → ring ≡ get_or rings d ring → room_of ring ≤ room_of ring' → map room_of rings ≡ rooms → KeepsRooms rooms (map room_of (put rings d ring'))
  rooms_kept d ring ring' rooms lt at le shown = record {
    nodes = length-map (put rings d ring') room_of ∙ length-set rings d ring' ∙ rings_len rooms shown;
    room = λ q. elim (cases_eq q d) [
      | inl same ↦
          let old = room_read d ring rooms lt at shown in
          let new = room_put_here d ring' lt in
          subst (λ p. get_or rooms p 0 ≤ get_or (map room_of (put rings d ring')) p 0) (sym same) (omega arith)
      | inr apart ↦
          let new : get_or (map room_of (put rings d ring')) q 0 ≡ get_or rooms q 0 = ap (λ (rs : List ℕ). get_or rs q 0) (map-set room_of rings d ring') ∙ get_or-set_other (map room_of rings) d q (room_of ring') 0 apart ∙ ap (λ (rs : List ℕ). get_or rs q 0) shown in
          omega arith
    ];
  }

  pub room_made : (d : ℕ) (ring : X) (r : Result (Unit {0}) NoMemory) → d < length rings → OnOk r (0 < room_of ring) → OnOk r (0 < get_or (map room_of (put rings d ring)) d 0)
  room_made d ring (Ok u) lt made = let new = room_put_here d ring lt in omega arith
  room_made d ring (Err e) lt made = made

pub room_there : (rooms : List ℕ) (d : ℕ) → 0 < get_or rooms d 0 → d < length rooms
room_there rooms d some =
    elim (cases_lt d (length rooms)) [ inl lt ↦ lt | inr past ↦ absurd (let none : get_or rooms d 0 ≡ 0 = get_or_past rooms d 0 past in omega arith) ]

pub some_left : (b : Bool) (bs : List Body) → (IsTrue b ↔ (bs ≡ [])) → b ≡ false → has_data bs ≡ true
some_left b [] is e = absurd (not_both (sym e ∙ is.1 refl))
  where
    not_both : false ≡ true → ⊥
    not_both e = cc
some_left b (x ∷ bs) is e = refl

-- ---- data of a row

pub front_some : (bs : List Body) (b : Body) → 0 < length bs → b ≡ get_or bs 0 b → (has_data bs ≡ true) × (b ≡ first_body bs) × (AllByRecursion IsDatum bs → IsDatum b)
front_some [] b lt at = absurd (omega arith)
front_some (x ∷ bs) b lt at = (refl, at, λ all. subst IsDatum (sym at) all.0)

pub front_none : (bs : List Body) → (0 < length bs → false ≡ true) → has_data bs ≡ false
front_none [] none = refl
front_none (x ∷ bs) none = sym (none (omega arith))

pub some_of_len : (bs : List Body) (k : ℕ) → k < length bs → has_data bs ≡ true
some_of_len [] k lt = absurd (omega arith)
some_of_len (b ∷ bs) k lt = refl

pub get_read : (bs : List Body) (k : ℕ) (b : Body) → k < length bs → b ≡ get_or bs k b → slice_get bs k ≡ Some b
get_read [] k b lt at = absurd (omega arith)
get_read (x ∷ bs) zero b lt at = ap (λ (y : Body). Some y) (sym at)
get_read (x ∷ bs) (suc k) b lt at = get_read bs k b (omega arith) at

pub get_all : (bs : List Body) (k : ℕ) (b : Body) → k < length bs → b ≡ get_or bs k b → AllByRecursion IsDatum bs → IsDatum b
get_all [] k b lt at all = absurd (omega arith)
get_all (x ∷ bs) zero b lt at all = subst IsDatum (sym at) all.0
get_all (x ∷ bs) (suc k) b lt at all = get_all bs k b (omega arith) at all.1

-- ---- rows without data

abbrev pub AreEmpty : Rows → Type 0
AreEmpty rows = AllByRecursion (λ row. row ≡ []) rows

pub empty_push : {X : Type 0} (items : X → List Body) (rings : List X) (ring : X) → AreEmpty (map items rings) → items ring ≡ [] → AreEmpty (map items (rings ++ ring ∷ []))
empty_push items [] ring all none = (none, tt)
empty_push items (r ∷ rings) ring all none = (all.0, empty_push items rings ring all.1 none)

empty_at : (rows : Rows) (q : ℕ) → AreEmpty rows → bodies_at rows q ≡ []
empty_at [] q all = refl
empty_at (r ∷ rows) zero all = all.0
empty_at (r ∷ rows) (suc q) all = empty_at rows q all.1

pub empty_rows : (rows : Rows) (with_data needing : NodeIds) → length rows ≤ 200 → AreEmpty rows → with_data ≡ sets.empty → needing ≡ sets.empty → AreRows rows with_data needing
empty_rows rows with_data needing few all no_data no_needs = record {
  few = few;
  data_are = λ d. ap (λ (s : NodeIds). sets.contains s d) no_data ∙ sets.contains-empty nat_cmp d ∙ sym (ap has_data (empty_at rows d all));
  needing_are = λ d need. absurd (not_both (sym (ap (λ (s : NodeIds). sets.contains s d) no_needs ∙ sets.contains-empty nat_cmp d) ∙ need));
  bodies_are = λ d. subst (AllByRecursion IsDatum) (sym (empty_at rows d all)) tt;
}
  where
    not_both : false ≡ true → ⊥
    not_both e = cc

pub empty_store : (needing : NodeIds) (rows : Rows) → AreEmpty rows → store_of needing rows ≡ maps.empty
empty_store needing rows all = same_store (store_of needing rows) maps.empty (λ q. get-store_of needing rows q ∙ ap (waiting_of (sets.contains needing q)) (empty_at rows q all) ∙ sym (maps.get-empty nat_cmp q))
