-- Lists in chunks: what an edit of one chunk does to the list of them all.
use Rattle.std.proofs.Common.{◌≡◌, ◌<◌, ◌≤◌, ℕ, zero, suc, ◌+◌, ◌-◌, List, [], ◌∷◌, ◌++◌, length, length-append, append_assoc, get_or, set, take, drop, map, refl, sym, ap, subst, ◌∙◌, arith, inl, inr}
use Rattle.std.specs.List.{insert, remove, flat_map, All}
use Rattle.std.specs.Global.{Vec}
use Rattle.std.proofs.lemmas.Bool.{lt-ltb, le-ltb, cases_lt}
use Rattle.std.proofs.lemmas.List.{get_or_append_left, get_or-append-add, set-append_left, set-append_right, append-nil, length-take-le, take-append-drop}
use Rattle.std.proofs.lemmas.List.Elements.{All-cons, All-append, All-take, All-drop}
use Rattle.std.proofs.lemmas.List.Edits.{insert-append_left, insert-append_right, remove-append_left, remove-append_right}
use Rattle.aodv_asked.specs.declared.interval.Interval.{Interval}
use Rattle.aodv_asked.specs.Spots.{position_at, all_of}

-- a chunk as the list of its intervals
abbrev pub listed : Vec Interval → List Interval
listed c = c.items

-- how many each chunk has
abbrev pub lengths : {X A : Type 0} → (X → List A) → List X → List ℕ
lengths f xs = map (λ x. length (f x)) xs

pub length-flat : {X A : Type 0} (f : X → List A) (xs : List X) → length (flat_map f xs) ≡ all_of (lengths f xs)
length-flat f [] = refl
length-flat f (x ∷ xs) = length-append (f x) (flat_map f xs) ∙ ap (λ n. length (f x) + n) (length-flat f xs)

-- ---- the position of what stands in a chunk

pub position_here : (n : ℕ) (ns : List ℕ) (o : ℕ) → o < n → position_at (n ∷ ns) zero o ≡ o
position_here n ns o lt = rw (lt-ltb o n lt) refl

position_past : (n : ℕ) (ns : List ℕ) (o : ℕ) → n ≤ o → position_at (n ∷ ns) zero o ≡ n + all_of ns
position_past n ns o le = rw (le-ltb o n le) refl

-- where something stands, the chunk and the offset are there
pub record IsIn {X A : Type 0} (f : X → List A) (xs : List X) (k o : ℕ) : Type 0 where
  pub chunk : k < length xs
  pub offset : (d : X) → o < length (f (get_or xs k d))

pub is_in_chunk : {X A : Type 0} (f : X → List A) (xs : List X) (k o : ℕ) → position_at (lengths f xs) k o < length (flat_map f xs) → IsIn f xs k o
is_in_chunk f [] k o lt = absurd (omega arith)
is_in_chunk f (x ∷ xs) zero o lt = elim (cases_lt o (length (f x))) [
  | inl less ↦ record { chunk = omega arith; offset = λ d. less }
  | inr ge ↦ absurd (
      let past = position_past (length (f x)) (lengths f xs) o ge in
      let len = length-append (f x) (flat_map f xs) in
      let all = length-flat f xs in
      omega arith)
]
is_in_chunk f (x ∷ xs) (suc k) o lt =
    let len = length-append (f x) (flat_map f xs) in
    let rest = is_in_chunk f xs k o (omega arith) in
    record { chunk = omega (arith, rest.chunk); offset = rest.offset }

pub at_position : {X A : Type 0} (f : X → List A) (xs : List X) (k o : ℕ) (d : X) (e : A) → k < length xs → o < length (f (get_or xs k d)) → get_or (flat_map f xs) (position_at (lengths f xs) k o) e ≡ get_or (f (get_or xs k d)) o e
at_position f [] k o d e lt inside = absurd (omega arith)
at_position f (x ∷ xs) zero o d e lt inside =
    ap (λ i. get_or (f x ++ flat_map f xs) i e) (position_here (length (f x)) (lengths f xs) o inside) ∙ get_or_append_left (f x) (flat_map f xs) e o inside
at_position f (x ∷ xs) (suc k) o d e lt inside = get_or-append-add (f x) (flat_map f xs) (position_at (lengths f xs) k o) e ∙ at_position f xs k o d e (omega arith) inside

pub position_within : {X A : Type 0} (f : X → List A) (xs : List X) (k o : ℕ) (d : X) → k < length xs → o < length (f (get_or xs k d)) → position_at (lengths f xs) k o < length (flat_map f xs)
position_within f [] k o d lt inside = absurd (omega arith)
position_within f (x ∷ xs) zero o d lt inside =
    let here = position_here (length (f x)) (lengths f xs) o inside in
    let len = length-append (f x) (flat_map f xs) in
    omega arith
position_within f (x ∷ xs) (suc k) o d lt inside =
    let len = length-append (f x) (flat_map f xs) in
    let rest = position_within f xs k o d (omega arith) inside in
    omega arith

-- ---- what stands behind

pub position_next : {X A : Type 0} (f : X → List A) (xs : List X) (k o : ℕ) (d : X) → k < length xs → o + 1 < length (f (get_or xs k d)) → position_at (lengths f xs) k (o + 1) ≡ position_at (lengths f xs) k o + 1
position_next f [] k o d lt inside = absurd (omega arith)
position_next f (x ∷ xs) zero o d lt inside =
    let one = position_here (length (f x)) (lengths f xs) (o + 1) inside in
    let here = position_here (length (f x)) (lengths f xs) o (omega arith) in
    omega arith
position_next f (x ∷ xs) (suc k) o d lt inside =
    let rest = position_next f xs k o d (omega arith) inside in
    omega arith

position_next_suc : {X A : Type 0} (f : X → List A) (xs : List X) (k o : ℕ) (d : X) → suc k < length xs → 0 < length (f (get_or xs (suc k) d)) → length (f (get_or xs k d)) ≡ o + 1 → position_at (lengths f xs) (suc k) 0 ≡ position_at (lengths f xs) k o + 1
position_next_suc f [] k o d lt some len = absurd (omega arith)
position_next_suc f (x ∷ []) k o d lt some len = absurd (omega arith)
position_next_suc f (x ∷ y ∷ xs) zero o d lt some len =
    let next = position_here (length (f y)) (lengths f xs) 0 some in
    let here = position_here (length (f x)) (lengths f (y ∷ xs)) o (omega arith) in
    omega arith
position_next_suc f (x ∷ y ∷ xs) (suc k) o d lt some len =
    let rest = position_next_suc f (y ∷ xs) k o d (omega arith) some len in
    omega arith

pub position_next_chunk : {X A : Type 0} (f : X → List A) (xs : List X) (k j o : ℕ) (d : X) → j ≡ k + 1 → j < length xs → 0 < length (f (get_or xs j d)) → length (f (get_or xs k d)) ≡ o + 1 → position_at (lengths f xs) j 0 ≡ position_at (lengths f xs) k o + 1
position_next_chunk f xs k j o d next lt some len =
    let up : j ≡ suc k = omega arith in
    ap (λ i. position_at (lengths f xs) i 0) up ∙ position_next_suc f xs k o d (omega arith) (subst (λ i. 0 < length (f (get_or xs i d))) up some) len

pub position_last : {X A : Type 0} (f : X → List A) (xs : List X) (k o : ℕ) (d : X) → k + 1 ≡ length xs → length (f (get_or xs k d)) ≡ o + 1 → position_at (lengths f xs) k o + 1 ≡ length (flat_map f xs)
position_last f [] k o d last len = absurd (omega arith)
position_last f (x ∷ []) zero o d last len =
    let here = position_here (length (f x)) [] o (omega arith) in
    let all = length-append (f x) [] in
    omega arith
position_last f (x ∷ y ∷ xs) zero o d last len = absurd (omega arith)
position_last f (x ∷ xs) (suc k) o d last len =
    let all = length-append (f x) (flat_map f xs) in
    let rest = position_last f xs k o d (omega arith) len in
    omega arith

-- ---- edits

pub set_in : {X A : Type 0} (f : X → List A) (xs : List X) (k o : ℕ) (d y : X) (v : A) → k < length xs → o < length (f (get_or xs k d)) → f y ≡ set (f (get_or xs k d)) o v → flat_map f (set xs k y) ≡ set (flat_map f xs) (position_at (lengths f xs) k o) v
set_in f [] k o d y v lt inside is = absurd (omega arith)
set_in f (x ∷ xs) zero o d y v lt inside is =
    ap (λ r. r ++ flat_map f xs) is ∙ sym (set-append_left (f x) (flat_map f xs) o v inside)
    ∙ ap (λ i. set (f x ++ flat_map f xs) i v) (sym (position_here (length (f x)) (lengths f xs) o inside))
set_in f (x ∷ xs) (suc k) o d y v lt inside is =
    let n = length (f x) in
    let p = position_at (lengths f xs) k o in
    let back : p ≡ n + p - n = omega arith in
    ap (λ r. f x ++ r) (set_in f xs k o d y v (omega arith) inside is)
    ∙ ap (λ i. f x ++ set (flat_map f xs) i v) back
    ∙ sym (set-append_right (f x) (flat_map f xs) n (n + p) v refl (omega arith))

pub set_lengths : {X A : Type 0} (f : X → List A) (xs : List X) (k : ℕ) (d y : X) → length (f y) ≡ length (f (get_or xs k d)) → lengths f (set xs k y) ≡ lengths f xs
set_lengths f [] k d y len = refl
set_lengths f (x ∷ xs) zero d y len = ap (λ n. n ∷ lengths f xs) len
set_lengths f (x ∷ xs) (suc k) d y len = ap (λ ns. length (f x) ∷ ns) (set_lengths f xs k d y len)

pub insert_in : {X A : Type 0} (f : X → List A) (xs : List X) (k o : ℕ) (d y : X) (v : A) → k < length xs → o < length (f (get_or xs k d)) → f y ≡ insert (f (get_or xs k d)) o v → flat_map f (set xs k y) ≡ insert (flat_map f xs) (position_at (lengths f xs) k o) v
insert_in f [] k o d y v lt inside is = absurd (omega arith)
insert_in f (x ∷ xs) zero o d y v lt inside is =
    ap (λ r. r ++ flat_map f xs) is ∙ sym (insert-append_left (f x) (flat_map f xs) o v (omega arith))
    ∙ ap (λ i. insert (f x ++ flat_map f xs) i v) (sym (position_here (length (f x)) (lengths f xs) o inside))
insert_in f (x ∷ xs) (suc k) o d y v lt inside is =
    let n = length (f x) in
    let p = position_at (lengths f xs) k o in
    let back : p ≡ n + p - n = omega arith in
    ap (λ r. f x ++ r) (insert_in f xs k o d y v (omega arith) inside is)
    ∙ ap (λ i. f x ++ insert (flat_map f xs) i v) back
    ∙ sym (insert-append_right (f x) (flat_map f xs) n (n + p) v refl (omega arith))

-- a chunk becomes two
split_suc : {X A : Type 0} (f : X → List A) (xs : List X) (k o : ℕ) (d y z : X) (v : A) → k < length xs → o < length (f (get_or xs k d)) → f y ++ f z ≡ insert (f (get_or xs k d)) o v → flat_map f (insert (set xs k y) (suc k) z) ≡ insert (flat_map f xs) (position_at (lengths f xs) k o) v
split_suc f [] k o d y z v lt inside is = absurd (omega arith)
split_suc f (x ∷ xs) zero o d y z v lt inside is =
    sym (append_assoc (f y) (f z) (flat_map f xs))
    ∙ ap (λ r. r ++ flat_map f xs) is ∙ sym (insert-append_left (f x) (flat_map f xs) o v (omega arith))
    ∙ ap (λ i. insert (f x ++ flat_map f xs) i v) (sym (position_here (length (f x)) (lengths f xs) o inside))
split_suc f (x ∷ xs) (suc k) o d y z v lt inside is =
    let n = length (f x) in
    let p = position_at (lengths f xs) k o in
    let back : p ≡ n + p - n = omega arith in
    ap (λ r. f x ++ r) (split_suc f xs k o d y z v (omega arith) inside is)
    ∙ ap (λ i. f x ++ insert (flat_map f xs) i v) back
    ∙ sym (insert-append_right (f x) (flat_map f xs) n (n + p) v refl (omega arith))

pub split_in : {X A : Type 0} (f : X → List A) (xs : List X) (k o : ℕ) (d y z : X) (v : A) → k < length xs → o < length (f (get_or xs k d)) → f y ++ f z ≡ insert (f (get_or xs k d)) o v → flat_map f (insert (set xs k y) (k + 1) z) ≡ insert (flat_map f xs) (position_at (lengths f xs) k o) v
split_in f xs k o d y z v lt inside is =
    let up : k + 1 ≡ suc k = omega arith in
    ap (λ i. flat_map f (insert (set xs k y) i z)) up ∙ split_suc f xs k o d y z v lt inside is

pub remove_in : {X A : Type 0} (f : X → List A) (xs : List X) (k o : ℕ) (d y : X) → k < length xs → o < length (f (get_or xs k d)) → f y ≡ remove (f (get_or xs k d)) o → flat_map f (set xs k y) ≡ remove (flat_map f xs) (position_at (lengths f xs) k o)
remove_in f [] k o d y lt inside is = absurd (omega arith)
remove_in f (x ∷ xs) zero o d y lt inside is =
    ap (λ r. r ++ flat_map f xs) is ∙ sym (remove-append_left (f x) (flat_map f xs) o inside)
    ∙ ap (λ i. remove (f x ++ flat_map f xs) i) (sym (position_here (length (f x)) (lengths f xs) o inside))
remove_in f (x ∷ xs) (suc k) o d y lt inside is =
    let n = length (f x) in
    let p = position_at (lengths f xs) k o in
    let back : p ≡ n + p - n = omega arith in
    ap (λ r. f x ++ r) (remove_in f xs k o d y (omega arith) inside is)
    ∙ ap (λ i. f x ++ remove (flat_map f xs) i) back
    ∙ sym (remove-append_right (f x) (flat_map f xs) n (n + p) refl (omega arith))

one_gone : {A : Type 0} (xs : List A) (o : ℕ) → length xs ≡ 1 → o < 1 → [] ≡ remove xs o
one_gone [] o len lt = absurd (omega arith)
one_gone (x ∷ []) zero len lt = refl
one_gone (x ∷ []) (suc o) len lt = absurd (omega arith)
one_gone (x ∷ y ∷ xs) o len lt = absurd (omega arith)

-- a chunk of one goes as a whole
pub remove_chunk : {X A : Type 0} (f : X → List A) (xs : List X) (k o : ℕ) (d : X) → k < length xs → o < length (f (get_or xs k d)) → length (f (get_or xs k d)) ≡ 1 → flat_map f (remove xs k) ≡ remove (flat_map f xs) (position_at (lengths f xs) k o)
remove_chunk f [] k o d lt inside one = absurd (omega arith)
remove_chunk f (x ∷ xs) zero o d lt inside one =
    ap (λ r. r ++ flat_map f xs) (one_gone (f x) o one (omega arith))
    ∙ sym (remove-append_left (f x) (flat_map f xs) o inside)
    ∙ ap (λ i. remove (f x ++ flat_map f xs) i) (sym (position_here (length (f x)) (lengths f xs) o inside))
remove_chunk f (x ∷ xs) (suc k) o d lt inside one =
    let n = length (f x) in
    let p = position_at (lengths f xs) k o in
    let back : p ≡ n + p - n = omega arith in
    ap (λ r. f x ++ r) (remove_chunk f xs k o d (omega arith) inside one)
    ∙ ap (λ i. f x ++ remove (flat_map f xs) i) back
    ∙ sym (remove-append_right (f x) (flat_map f xs) n (n + p) refl (omega arith))

pub push_chunk : {X A : Type 0} (f : X → List A) (xs : List X) (y : X) → flat_map f (xs ++ y ∷ []) ≡ flat_map f xs ++ f y
push_chunk f [] y = append-nil (f y)
push_chunk f (x ∷ xs) y = ap (λ r. f x ++ r) (push_chunk f xs y) ∙ sym (append_assoc (f x) (flat_map f xs) (f y))

pub push_last : {X A : Type 0} (f : X → List A) (xs : List X) (k : ℕ) (d y : X) (v : A) → k + 1 ≡ length xs → f y ≡ f (get_or xs k d) ++ v ∷ [] → flat_map f (set xs k y) ≡ flat_map f xs ++ v ∷ []
push_last f [] k d y v last is = absurd (omega arith)
push_last f (x ∷ []) zero d y v last is = append-nil (f y) ∙ is ∙ ap (λ r. r ++ v ∷ []) (sym (append-nil (f x)))
push_last f (x ∷ z ∷ xs) zero d y v last is = absurd (omega arith)
push_last f (x ∷ xs) (suc k) d y v last is = ap (λ r. f x ++ r) (push_last f xs k d y v (omega arith) is) ∙ sym (append_assoc (f x) (flat_map f xs) (v ∷ []))

-- ---- chunks that are not empty stay so

abbrev pub AreFilled : {X A : Type 0} → (X → List A) → List X → Type 0
AreFilled f xs = All (λ x. 0 < length (f x)) xs

pub filled_insert : {X A : Type 0} (f : X → List A) (xs : List X) (k : ℕ) (z : X) → AreFilled f xs → 0 < length (f z) → AreFilled f (insert xs k z)
filled_insert f xs k z all some = All-append (λ x. 0 < length (f x)) (take k xs) (z ∷ drop k xs) (All-take (λ x. 0 < length (f x)) k xs all) (All-cons (λ x. 0 < length (f x)) z (drop k xs) some (All-drop (λ x. 0 < length (f x)) k xs all))

pub filled_remove : {X A : Type 0} (f : X → List A) (xs : List X) (k : ℕ) → AreFilled f xs → AreFilled f (remove xs k)
filled_remove f xs k all = All-append (λ x. 0 < length (f x)) (take k xs) (drop (suc k) xs) (All-take (λ x. 0 < length (f x)) k xs all) (All-drop (λ x. 0 < length (f x)) (suc k) xs all)

-- ---- halves of a chunk, one of them with one more

pub lower_put : {A : Type 0} (xs : List A) (m o : ℕ) (v : A) → o ≤ m → m ≤ length xs → insert (take m xs) o v ++ drop m xs ≡ insert xs o v
lower_put xs m o v le lt =
    sym (insert-append_left (take m xs) (drop m xs) o v (omega (arith, length-take-le m xs lt)))
    ∙ ap (λ r. insert r o v) (take-append-drop m xs)

pub upper_put : {A : Type 0} (xs : List A) (m o : ℕ) (v : A) → m ≤ o → m ≤ length xs → take m xs ++ insert (drop m xs) (o - m) v ≡ insert xs o v
upper_put xs m o v le lt =
    sym (insert-append_right (take m xs) (drop m xs) m o v (length-take-le m xs lt) le)
    ∙ ap (λ r. insert r o v) (take-append-drop m xs)
