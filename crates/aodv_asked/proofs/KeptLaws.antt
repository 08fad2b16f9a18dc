-- The rows, each with the ids of its last interval.
use Rattle.std.proofs.Common.{◌≡◌, ◌≢◌, ◌<◌, ◌≤◌, ℕ, zero, suc, ◌+◌, ◌-◌, Bool, true, false, cond, eqb, ltb, not, ◌&&◌, ◌||◌, List, [], ◌∷◌, length, get_or, Option, refl, sym, ap, subst, ◌∙◌, arith, ◌⊎◌, inl, inr}
use Rattle.std.proofs.Math.ListN.{set as put, replicate}
use Rattle.std.proofs.lemmas.Bool.{cases_eq, cases_lt, ne_eqb, eqb-false, le-ltb}
use Rattle.std.proofs.lemmas.Bool.Decides.{nat_tests}
use Rattle.std.proofs.lemmas.List.{get_or-set_same, get_or-set_other, length-set, set-get_or, get_or_default, get_or-map, get_or-replicate, get_or_past, length-replicate}
use Rattle.std.specs.FinSet as sets
use Rattle.std.specs.FinSet.{empty, contains, contains-empty}
use Rattle.std.specs.Ordering.{nat_cmp}
use Rattle.std.specs.Cmp.{unsigned_tied}
use Rattle.std.proofs.lemmas.Cmp.{nat_cmp_total}
use Rattle.std.specs.List.{All}
use Rattle.mesh_base.specs.Members.{NodeIds}
use Rattle.aodv_asked.specs.declared.interval.Interval.{Interval}
use Rattle.aodv_model.specs.Cores.{SeenRequests}
use Rattle.aodv_asked.specs.Intervals.{IdSet, RoomyIds, with_range, IsGreatest, is_near_in}
use Rattle.aodv_asked.specs.Requests.{is_near}
use Rattle.aodv_asked.specs.Rows.{no_ids, ids_at, pairs_of, rooms_of}
use Rattle.aodv_asked.proofs.RowLaws.{AreEmpty, shown, same_ids, one_more, rows_len, row_read, room_put_here, room_put_apart}
use Rattle.aodv_asked.proofs.TopLaws.{greatest_all}
use Rattle.aodv_asked.specs.Tops.{no_top, with_interval, ids_of, IsBehind, top_at, room_at, room_in, with_top, rows_with_tops, AreKept, AreNoted}

pub topped_len : (rows : List RoomyIds) (tops : List Interval) → length (rows_with_tops rows tops) ≡ length rows
unfolding rows_with_tops
topped_len rows [] = refl
topped_len [] (v ∷ tops) = refl
topped_len (row ∷ rows) (v ∷ tops) = ap (λ (n : ℕ). suc n) (topped_len rows tops)

pub topped_at : (rows : List RoomyIds) (tops : List Interval) (o : ℕ) → o < length rows → ids_at (rows_with_tops rows tops) o ≡ with_interval (ids_at rows o) (top_at tops o)
unfolding rows_with_tops with_range
topped_at rows [] o lt = refl
topped_at [] (v ∷ tops) o lt = absurd (omega arith)
topped_at (row ∷ rows) (v ∷ tops) zero lt = refl
topped_at (row ∷ rows) (v ∷ tops) (suc o) lt = topped_at rows tops o (omega arith)

pub topped_put : (rows : List RoomyIds) (tops : List Interval) (o : ℕ) (row : RoomyIds) (v : Interval) → length tops ≡ length rows → rows_with_tops (put rows o row) (put tops o v) ≡ put (rows_with_tops rows tops) o (with_top row v)
unfolding rows_with_tops
topped_put [] [] o row v each = refl
topped_put [] (w ∷ tops) o row v each = absurd (omega arith)
topped_put (r ∷ rows) [] o row v each = absurd (omega arith)
topped_put (r ∷ rows) (w ∷ tops) zero row v each = refl
topped_put (r ∷ rows) (w ∷ tops) (suc o) row v each = ap (λ (rs : List RoomyIds). with_top r w ∷ rs) (topped_put rows tops o row v (omega arith))

pub topped_empty : (rows : List RoomyIds) (n : ℕ) → AreEmpty rows → AreEmpty (rows_with_tops rows (replicate n no_top))
unfolding rows_with_tops with_range
topped_empty rows zero all = all
topped_empty [] (suc n) all = tt
topped_empty (row ∷ rows) (suc n) all = (all.0, topped_empty rows n all.1)

topped_row : (rows : List RoomyIds) (tops : List Interval) (o : ℕ) → o < length rows → length tops ≡ length rows → get_or (rows_with_tops rows tops) o no_ids ≡ with_top (get_or rows o no_ids) (top_at tops o)
unfolding rows_with_tops
topped_row [] tops o lt each = absurd (omega arith)
topped_row (row ∷ rows) [] o lt each = absurd (omega arith)
topped_row (row ∷ rows) (v ∷ tops) zero lt each = refl
topped_row (row ∷ rows) (v ∷ tops) (suc o) lt each = topped_row rows tops o (omega arith) (omega arith)

-- ---- rooms

pub nodes_len : (rows : List RoomyIds) (tops : List Interval) (rooms : List ℕ) → rooms_of (rows_with_tops rows tops) ≡ rooms → length rows ≡ length rooms
nodes_len rows tops rooms is = sym (topped_len rows tops) ∙ rows_len (rows_with_tops rows tops) rooms is

pub nodes_seen : (rows : List RoomyIds) (tops : List Interval) → length (rooms_of (rows_with_tops rows tops)) ≡ length rows
nodes_seen rows tops = sym (nodes_len rows tops (rooms_of (rows_with_tops rows tops)) refl)

-- the room of an originator is that of its row, and that of its last interval
pub room_topped : (rows : List RoomyIds) (tops : List Interval) (rooms : List ℕ) (o : ℕ) → o < length rows → length tops ≡ length rows → rooms_of (rows_with_tops rows tops) ≡ rooms → get_or rooms o 0 ≡ room_at rows o + room_in (top_at tops o)
room_topped rows tops rooms o lt each is =
    let long = topped_len rows tops in
    ap (λ (rs : List ℕ). get_or rs o 0) (sym is)
    ∙ get_or-map (λ (r : RoomyIds). r.room) (rows_with_tops rows tops) o no_ids 0 (omega arith)
    ∙ ap (λ (r : RoomyIds). r.room) (topped_row rows tops o lt each)

pub row_room : (rows : List RoomyIds) (o : ℕ) (row : RoomyIds) → o < length rows → row ≡ get_or rows o row → room_at rows o ≡ row.room
row_room rows o row lt at = ap (λ (r : RoomyIds). r.room) (get_or_default rows o no_ids row lt ∙ sym at)

-- an interval with ids has no room
pub no_room_in : (v : Interval) → v.first ≤ v.last → room_in v ≡ 0
no_room_in v some = rw (le-ltb v.last v.first some) refl

pub most_room_in : (v : Interval) → room_in v ≤ 1
most_room_in v = elim (ltb v.last v.first) as (λ b. cond b 1 0 ≤ 1) [ true ↦ omega arith | false ↦ omega arith ]

-- where an originator has room, its row has room
pub row_has_room : (rows : List RoomyIds) (tops : List Interval) (roomy : NodeIds) (rooms : List ℕ) (o : ℕ) → o < length rows → AreKept rows tops roomy → rooms_of (rows_with_tops rows tops) ≡ rooms → 0 < get_or rooms o 0 → 0 < room_at rows o
row_has_room rows tops roomy rooms o lt kept is some =
    let shows = room_topped rows tops rooms o lt kept.each is in
    elim (cases_lt (top_at tops o).last (top_at tops o).first) [
      | inl free ↦ kept.free o lt free
      | inr full ↦ let none = no_room_in (top_at tops o) full in omega arith
    ]

pub room_topped_put : (rows : List RoomyIds) (tops : List Interval) (o : ℕ) (row : RoomyIds) (v : Interval) → o < length rows → length tops ≡ length rows → get_or (rooms_of (rows_with_tops (put rows o row) (put tops o v))) o 0 ≡ row.room + room_in v
room_topped_put rows tops o row v lt each =
    let long = topped_len rows tops in
    ap (λ (rs : List RoomyIds). get_or (rooms_of rs) o 0) (topped_put rows tops o row v each)
    ∙ room_put_here (rows_with_tops rows tops) o (with_top row v) (omega arith)

pub room_topped_apart : (rows : List RoomyIds) (tops : List Interval) (rooms : List ℕ) (o : ℕ) (row : RoomyIds) (v : Interval) (q : ℕ) → length tops ≡ length rows → rooms_of (rows_with_tops rows tops) ≡ rooms → q ≢ o → get_or (rooms_of (rows_with_tops (put rows o row) (put tops o v))) q 0 ≡ get_or rooms q 0
room_topped_apart rows tops rooms o row v q each is apart =
    ap (λ (rs : List RoomyIds). get_or (rooms_of rs) q 0) (topped_put rows tops o row v each)
    ∙ room_put_apart (rows_with_tops rows tops) rooms o (with_top row v) q is apart

-- only the last interval has changed
pub room_top_put : (rows : List RoomyIds) (tops : List Interval) (o : ℕ) (v : Interval) → o < length rows → length tops ≡ length rows → get_or (rooms_of (rows_with_tops rows (put tops o v))) o 0 ≡ room_at rows o + room_in v
room_top_put rows tops o v lt each =
    ap (λ (rs : List RoomyIds). get_or (rooms_of (rows_with_tops rs (put tops o v))) o 0) (sym (set-get_or rows o no_ids))
    ∙ room_topped_put rows tops o (get_or rows o no_ids) v lt each

pub room_top_apart : (rows : List RoomyIds) (tops : List Interval) (rooms : List ℕ) (o : ℕ) (v : Interval) (q : ℕ) → length tops ≡ length rows → rooms_of (rows_with_tops rows tops) ≡ rooms → q ≢ o → get_or (rooms_of (rows_with_tops rows (put tops o v))) q 0 ≡ get_or rooms q 0
room_top_apart rows tops rooms o v q each is apart =
    ap (λ (rs : List RoomyIds). get_or (rooms_of (rows_with_tops rs (put tops o v))) q 0) (sym (set-get_or rows o no_ids))
    ∙ room_topped_apart rows tops rooms o (get_or rows o no_ids) v q each is apart

-- only the row has changed
pub room_row_put : (rows : List RoomyIds) (tops : List Interval) (o : ℕ) (row : RoomyIds) → o < length rows → length tops ≡ length rows → get_or (rooms_of (rows_with_tops (put rows o row) tops)) o 0 ≡ row.room + room_in (top_at tops o)
room_row_put rows tops o row lt each =
    ap (λ (vs : List Interval). get_or (rooms_of (rows_with_tops (put rows o row) vs)) o 0) (sym (set-get_or tops o no_top))
    ∙ room_topped_put rows tops o row (top_at tops o) lt each

pub rooms_topped_kept : (rows : List RoomyIds) (tops : List Interval) (rooms : List ℕ) (o : ℕ) (row row' : RoomyIds) → o < length rows → length tops ≡ length rows → rooms_of (rows_with_tops rows tops) ≡ rooms → row ≡ get_or rows o row → row.room ≤ row'.room → (q : ℕ) → get_or rooms q 0 ≤ get_or (rooms_of (rows_with_tops (put rows o row') tops)) q 0
rooms_topped_kept rows tops rooms o row row' lt each is at le q =
    elim (cases_eq q o) [
      | inl same ↦
          let old = room_topped rows tops rooms o lt each is in
          let here = row_room rows o row lt at in
          let new = room_row_put rows tops o row' lt each in
          subst (λ p. get_or rooms p 0 ≤ get_or (rooms_of (rows_with_tops (put rows o row') tops)) p 0) (sym same) (omega arith)
      | inr apart ↦
          let alike : get_or (rooms_of (rows_with_tops (put rows o row') tops)) q 0 ≡ get_or rooms q 0 =
          ap (λ (vs : List Interval). get_or (rooms_of (rows_with_tops (put rows o row') vs)) q 0) (sym (set-get_or tops o no_top))
          ∙ room_topped_apart rows tops rooms o row' (top_at tops o) q each is apart in
          omega arith
    ]

top_of_none : (n o : ℕ) → top_at (replicate n no_top) o ≡ no_top
top_of_none n o = elim (cases_lt o n) [
  | inl lt ↦ get_or-replicate n o no_top no_top lt
  | inr ge ↦ let size = length-replicate n no_top in get_or_past (replicate n no_top) o no_top (omega arith)
]

-- rows that are just made have room for one id more than each of them
pub rooms_none : (rows : List RoomyIds) (tops : List Interval) (n o m : ℕ) → tops ≡ replicate n no_top → length rows ≡ n → All (λ (r : RoomyIds). r.room ≡ m) rows → o < n → get_or (rooms_of (rows_with_tops rows tops)) o 0 ≡ m + 1
rooms_none rows tops n o m is len each lt =
    let size = length-replicate n no_top in
    let long : length tops ≡ length rows = ap length is ∙ size ∙ sym len in
    room_topped rows tops (rooms_of (rows_with_tops rows tops)) o (omega arith) long refl
    ∙ ap (λ (k : ℕ). k + room_in (top_at tops o)) (each o no_ids (omega arith))
    ∙ ap (λ (v : Interval). m + room_in v) (ap (λ (vs : List Interval). top_at vs o) is ∙ top_of_none n o)

-- an originator's last interval, as it is read
pub top_read : (tops : List Interval) (o : ℕ) (v : Interval) → o < length tops → v ≡ get_or tops o v → top_at tops o ≡ v
top_read tops o v lt at = get_or_default tops o no_top v lt ∙ sym at

pub ids_topped : (rows : List RoomyIds) (tops : List Interval) (o : ℕ) (v : Interval) → o < length rows → top_at tops o ≡ v → ids_at (rows_with_tops rows tops) o ≡ with_interval (ids_at rows o) v
ids_topped rows tops o v lt top =
    topped_at rows tops o lt ∙ ap (λ (w : Interval). with_interval (ids_at rows o) w) top

pub behind_topped : (rows : List RoomyIds) (tops : List Interval) (roomy : NodeIds) (o : ℕ) (v : Interval) → AreKept rows tops roomy → top_at tops o ≡ v → IsBehind (ids_at rows o) v
behind_topped rows tops roomy o v kept top = subst (λ (w : Interval). IsBehind (ids_at rows o) w) top (kept.behind o)

pub shown_topped : (rows : List RoomyIds) (tops : List Interval) (seen : SeenRequests) (o q : ℕ) (v : Interval) → o < length rows → pairs_of (rows_with_tops rows tops) ≡ seen → top_at tops o ≡ v → contains seen (o, q) ≡ contains (with_interval (ids_at rows o) v) q
shown_topped rows tops seen o q v lt is top =
    shown (rows_with_tops rows tops) seen o q is ∙ ap (λ (s : IdSet). contains s q) (ids_topped rows tops o v lt top)

pub near_topped : (rows : List RoomyIds) (tops : List Interval) (seen : SeenRequests) (o id : ℕ) (v : Interval) → o < length rows → pairs_of (rows_with_tops rows tops) ≡ seen → top_at tops o ≡ v → is_near seen o id ≡ is_near_in (with_interval (ids_at rows o) v) id
near_topped rows tops seen o id v lt is top =
    let each : (q : ℕ) → contains seen (o, q) ≡ contains (with_interval (ids_at rows o) v) q = λ q. shown_topped rows tops seen o q v lt is top in
    rw (each id, each (id + 1), each (id - 1)) refl

pub greatest_topped : (rows : List RoomyIds) (tops : List Interval) (roomy : NodeIds) (o : ℕ) (v : Interval) (r : Option ℕ) → o < length rows → AreKept rows tops roomy → top_at tops o ≡ v → IsGreatest (ids_of v) r → IsGreatest (ids_at (rows_with_tops rows tops) o) r
greatest_topped rows tops roomy o v r lt kept top greatest =
    subst (λ (s : IdSet). IsGreatest s r) (sym (ids_topped rows tops o v lt top)) (greatest_all (ids_at rows o) v r (behind_topped rows tops roomy o v kept top) greatest)

-- ---- what changes

-- only the room of a row has changed
pub pairs_kept : (rows : List RoomyIds) (tops : List Interval) (o : ℕ) (row : RoomyIds) → o < length rows → length tops ≡ length rows → row.ids ≡ ids_at rows o → pairs_of (rows_with_tops (put rows o row) tops) ≡ pairs_of (rows_with_tops rows tops)
pairs_kept rows tops o row lt each is =
    let top = top_at tops o in
    let long = topped_len rows tops in
    ap (λ (vs : List Interval). pairs_of (rows_with_tops (put rows o row) vs)) (sym (set-get_or tops o no_top))
    ∙ ap pairs_of (topped_put rows tops o row top each)
    ∙ same_ids (rows_with_tops rows tops) o (with_top row top) (omega arith) (ap (λ (s : IdSet). with_interval s top) is ∙ sym (topped_at rows tops o lt))

-- o has one more id
pub pairs_more : (rows : List RoomyIds) (tops : List Interval) (o id : ℕ) (row : RoomyIds) (v w : Interval) → o < length rows → length tops ≡ length rows → top_at tops o ≡ v → with_interval row.ids w ≡ sets.insert (with_interval (ids_at rows o) v) id → pairs_of (rows_with_tops (put rows o row) (put tops o w)) ≡ sets.insert (pairs_of (rows_with_tops rows tops)) (o, id)
pairs_more rows tops o id row v w lt each top is =
    let long = topped_len rows tops in
    ap pairs_of (topped_put rows tops o row w each)
    ∙ one_more (rows_with_tops rows tops) o id (with_top row w) (omega arith) (is ∙ ap (λ (s : IdSet). sets.insert s id) (sym (ids_topped rows tops o v lt top)))

-- and its row has not changed
pub pairs_more_top : (rows : List RoomyIds) (tops : List Interval) (o id : ℕ) (v w : Interval) → o < length rows → length tops ≡ length rows → top_at tops o ≡ v → with_interval (ids_at rows o) w ≡ sets.insert (with_interval (ids_at rows o) v) id → pairs_of (rows_with_tops rows (put tops o w)) ≡ sets.insert (pairs_of (rows_with_tops rows tops)) (o, id)
pairs_more_top rows tops o id v w lt each top is =
    ap (λ (rs : List RoomyIds). pairs_of (rows_with_tops rs (put tops o w))) (sym (set-get_or rows o no_ids))
    ∙ pairs_more rows tops o id (get_or rows o no_ids) v w lt each top is

-- ---- what is kept

pub kept_none : (rows : List RoomyIds) (roomy : NodeIds) (n : ℕ) → length rows ≡ n → ((o : ℕ) → ids_at rows o ≡ empty) → ((o : ℕ) → o < length rows → 0 < room_at rows o) → ((o : ℕ) → contains roomy o ≡ true → 0 < room_at rows o) → AreKept rows (replicate n no_top) roomy
kept_none rows roomy n len none free room = record {
  each = length-replicate n no_top ∙ sym len;
  behind = λ o. subst (λ (w : Interval). IsBehind (ids_at rows o) w) (sym (top_of_none n o)) (before o, λ lt. refl);
  free = λ o lt empty_top. free o lt;
  room = room;
}
  where
    apart : false ≡ true → ⊥
    apart e = cc

    before : (o id : ℕ) → contains (ids_at rows o) id ≡ true → id + 1 < 1
    before o id here = absurd (apart (sym (contains-empty nat_cmp id) ∙ ap (λ (s : IdSet). contains s id) (sym (none o)) ∙ here))

put_some : (tops : List Interval) (o q : ℕ) (v : Interval) → o < length tops → q ≡ o → v.first ≤ v.last → (top_at (put tops o v) q).last < (top_at (put tops o v) q).first → ⊥
put_some tops o q v lt same some none =
    let is : top_at (put tops o v) q ≡ v = ap (λ (k : ℕ). top_at (put tops o v) k) same ∙ get_or-set_same tops o v no_top lt in
    let less : v.last < v.first = subst (λ (w : Interval). w.last < w.first) is none in
    omega arith

-- another interval stands behind o's row
pub kept_top : (rows : List RoomyIds) (tops : List Interval) (roomy : NodeIds) (o : ℕ) (v : Interval) → o < length rows → AreKept rows tops roomy → IsBehind (ids_at rows o) v → v.first ≤ v.last → AreKept rows (put tops o v) roomy
kept_top rows tops roomy o v lt kept behind some = record {
  each = length-set tops o v ∙ kept.each;
  behind = λ q. elim (cases_eq q o) [
    | inl same ↦ subst (λ p. IsBehind (ids_at rows p) (top_at (put tops o v) p)) (sym same) (subst (λ (w : Interval). IsBehind (ids_at rows o) w) (sym (get_or-set_same tops o v no_top (omega (arith, kept.each)))) behind)
    | inr apart ↦ subst (λ (w : Interval). IsBehind (ids_at rows q) w) (sym (get_or-set_other tops o q v no_top apart)) (kept.behind q)
  ];
  free = λ q within none. elim (cases_eq q o) [
    | inl same ↦ absurd (put_some tops o q v (omega (arith, kept.each)) same some none)
    | inr apart ↦ kept.free q within (subst (λ (w : Interval). w.last < w.first) (get_or-set_other tops o q v no_top apart) none)
  ];
  room = kept.room;
}

-- o's row is another, with an interval behind it
pub kept_row : (rows : List RoomyIds) (tops : List Interval) (roomy roomy' : NodeIds) (o : ℕ) (row : RoomyIds) (v : Interval) (b : Bool) → o < length rows → AreKept rows tops roomy → IsBehind row.ids v → (v.last < v.first → 0 < row.room) → AreNoted roomy o b roomy' → (b ≡ true → 0 < row.room) → AreKept (put rows o row) (put tops o v) roomy'
kept_row rows tops roomy roomy' o row v b lt kept behind free noted room = record {
  each = length-set tops o v ∙ kept.each ∙ sym (length-set rows o row);
  behind = λ q. elim (cases_eq q o) [
    | inl same ↦
        subst (λ p. IsBehind (ids_at (put rows o row) p) (top_at (put tops o v) p)) (sym same)
        (subst (λ (w : Interval). IsBehind (ids_at (put rows o row) o) w) (sym (get_or-set_same tops o v no_top (omega (arith, kept.each))))
        (subst (λ (r : RoomyIds). IsBehind r.ids v) (sym (get_or-set_same rows o row no_ids lt)) behind))
    | inr apart ↦
        subst (λ (w : Interval). IsBehind (ids_at (put rows o row) q) w) (sym (get_or-set_other tops o q v no_top apart))
        (subst (λ (r : RoomyIds). IsBehind r.ids (top_at tops q)) (sym (get_or-set_other rows o q row no_ids apart)) (kept.behind q))
  ];
  free = λ q within none. elim (cases_eq q o) [
    | inl same ↦
        let top : top_at (put tops o v) q ≡ v = ap (λ (k : ℕ). top_at (put tops o v) k) same ∙ get_or-set_same tops o v no_top (omega (arith, kept.each)) in
        subst (λ p. 0 < room_at (put rows o row) p) (sym same) (subst (λ (r : RoomyIds). 0 < r.room) (sym (get_or-set_same rows o row no_ids lt)) (free (subst (λ (w : Interval). w.last < w.first) top none)))
    | inr apart ↦
        let long = length-set rows o row in
        subst (λ (r : RoomyIds). 0 < r.room) (sym (get_or-set_other rows o q row no_ids apart)) (kept.free q (omega arith) (subst (λ (w : Interval). w.last < w.first) (get_or-set_other tops o q v no_top apart) none))
  ];
  room = room_noted;
}
  where
    room_noted : (q : ℕ) → contains roomy' q ≡ true → 0 < room_at (put rows o row) q
    room_noted q here = elim (noted q here) [
      | inl at ↦ subst (λ p. 0 < room_at (put rows o row) p) (sym at.0) (subst (λ (r : RoomyIds). 0 < r.room) (sym (get_or-set_same rows o row no_ids lt)) (room at.1))
      | inr apart ↦ subst (λ (r : RoomyIds). 0 < r.room) (sym (get_or-set_other rows o q row no_ids apart.0)) (kept.room q apart.1)
    ]

-- o's row has more room
pub kept_roomier : (rows : List RoomyIds) (tops : List Interval) (roomy roomy' : NodeIds) (o : ℕ) (row row' : RoomyIds) (b : Bool) → o < length rows → AreKept rows tops roomy → row ≡ get_or rows o row → row'.ids ≡ row.ids → AreNoted roomy o b roomy' → 0 < row'.room → AreKept (put rows o row') tops roomy'
kept_roomier rows tops roomy roomy' o row row' b lt kept at same noted some =
    let ids : ids_at rows o ≡ row'.ids = row_read rows o row lt at ∙ sym same in
    subst (λ (vs : List Interval). AreKept (put rows o row') vs roomy') (set-get_or tops o no_top)
    (kept_row rows tops roomy roomy' o row' (top_at tops o) b lt kept (subst (λ (s : IdSet). IsBehind s (top_at tops o)) ids (kept.behind o)) (λ none. some) noted (λ yes. some))

-- a row that stays as it is
pub same_row : (rows : List RoomyIds) (o : ℕ) (row row' : RoomyIds) → o < length rows → row ≡ get_or rows o row → row' ≡ row → put rows o row' ≡ rows
same_row rows o row row' lt at same = ap (λ (r : RoomyIds). put rows o r) (same ∙ at ∙ get_or_default rows o row no_ids lt) ∙ set-get_or rows o no_ids

-- ---- the nodes that are known to have room

pub noted_more : (before after : NodeIds) (o : ℕ) (b : Bool) → b ≡ true → after ≡ sets.insert before o → AreNoted before o b after
noted_more before after o b room is q here = elim (cases_eq q o) [
  | inl same ↦ inl (same, room)
  | inr apart ↦ inr (apart, sym (sets.contains-insert nat_cmp_total before o q ∙ ap (λ (t : Bool). t || contains before q) (unsigned_tied q o ∙ ne_eqb q o apart)) ∙ ap (λ (s : NodeIds). contains s q) (sym is) ∙ here)
]

pub noted_fewer : (before after : NodeIds) (o : ℕ) (b : Bool) → after ≡ sets.remove before o → AreNoted before o b after
noted_fewer before after o b is q here = at (eqb q o) refl (sym (sets.contains-remove nat_cmp_total before o q ∙ ap (λ (t : Bool). not t && contains before q) (unsigned_tied q o)) ∙ ap (λ (s : NodeIds). contains s q) (sym is) ∙ here)
  where
    at : (t : Bool) → eqb q o ≡ t → (not t && contains before q) ≡ true → ((q ≡ o) × (b ≡ true)) ⊎ ((q ≢ o) × (contains before q ≡ true))
    at true e h = absurd cc
    at false e h = inr (eqb-false q o e, h)

pub none_noted : (roomy : NodeIds) → roomy ≡ empty → (q : ℕ) → contains roomy q ≡ true → q < 0
none_noted roomy is q here = absurd (apart (sym (contains-empty nat_cmp q) ∙ ap (λ (s : NodeIds). contains s q) (sym is) ∙ here))
  where
    apart : false ≡ true → ⊥
    apart e = cc

pub noted_below : (before after : NodeIds) (o : ℕ) (b : Bool) → ((q : ℕ) → contains before q ≡ true → q < o) → AreNoted before o b after → (q : ℕ) → contains after q ≡ true → q < o + 1
noted_below before after o b below noted q here = elim (noted q here) [
  | inl at ↦ let same : q ≡ o = at.0 in omega arith
  | inr apart ↦ let lt : q < o = below q apart.1 in omega arith
]

pub room_of_all : (rows : List RoomyIds) (o n : ℕ) → All (λ (r : RoomyIds). r.room ≡ suc n) rows → o < length rows → 0 < room_at rows o
room_of_all rows o n each lt = let is : room_at rows o ≡ suc n = each o no_ids lt in omega arith

pub some_room : (n : ℕ) → ltb 0 n ≡ true → 0 < n
some_room n h = grind (arith, nat_tests)
