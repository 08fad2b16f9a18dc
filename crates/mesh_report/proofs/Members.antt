-- The members of a set one after another, and their names.
use Rattle.std.proofs.Common.{◌≡◌, ◌<◌, ◌≤◌, ℕ, zero, suc, ◌+◌, Bool, true, false, cond, List, [], ◌∷◌, ◌++◌, length, refl, sym, ap, ◌∙◌, append_assoc, append-nil, arith, inl, inr}
use Rattle.std.specs.FinSet.{contains}
use Rattle.std.proofs.lemmas.Bool.{cases_eq}
use Rattle.std.proofs.lemmas.List.{length_push}
use Rattle.mesh_base.specs.Members.{NodeIds}
use Rattle.mesh_base.specs.Meshes.{Nodes}
use Rattle.mesh_model.specs.Worlds.{members_below}
use Rattle.mesh_text.specs.Lines.{name_of}
use Rattle.mesh_text.specs.Effects.{names, more_names}
use Rattle.mesh_base.proofs.Ranks.{members-none, members-next, members-zero}

-- the first member
pub members-first : (m : ℕ) (s : NodeIds) → contains s m ≡ true → ((q : ℕ) → 0 ≤ q → q < m → contains s q ≡ false) → members_below (m + 1) s ≡ m ∷ []
members-first m s is none = members-next m 0 s (omega arith) is none ∙ ap (λ (ms : List ℕ). ms ++ m ∷ []) (members-zero s)

pub members-empty : (n : ℕ) (s : NodeIds) → ((q : ℕ) → 0 ≤ q → contains s q ≡ false) → members_below n s ≡ []
unfolding members_below
members-empty zero s none = refl
members-empty (suc n) s none = rw (none n (omega arith)) (members-empty n s none)

-- ---- the members of a set below n begin with those below i

abbrev pub Rest : ℕ → List ℕ → NodeIds → Type 0
Rest n prefix s = (rest : List ℕ) × (members_below n s ≡ prefix ++ rest)

one_more : (b : Bool) (n : ℕ) (prefix ms rest : List ℕ) → ms ≡ prefix ++ rest → (more : List ℕ) × (cond b (ms ++ n ∷ []) ms ≡ prefix ++ more)
one_more true n prefix ms rest e = (rest ++ n ∷ [], ap (λ (l : List ℕ). l ++ n ∷ []) e ∙ append_assoc prefix rest (n ∷ []))
one_more false n prefix ms rest e = (rest, e)

pub members-front : (n i : ℕ) (s : NodeIds) → i ≤ n → Rest n (members_below i s) s
unfolding members_below
members-front zero i s le = let is : 0 ≡ i = omega arith in ([], ap (λ (k : ℕ). members_below k s) is ∙ sym (append-nil (members_below i s)))
members-front (suc n) i s le = elim (cases_eq i (suc n)) [
  | inl same ↦ ([], ap (λ (k : ℕ). members_below k s) (sym same) ∙ sym (append-nil (members_below i s)))
  | inr ne ↦
      let before : Rest n (members_below i s) s = members-front n i s (omega arith) in
      one_more (contains s n) n (members_below i s) (members_below n s) before.0 before.1
]

-- ---- names

more-push : (mesh : Nodes) (xs : List ℕ) (y : ℕ) → more_names mesh (xs ++ y ∷ []) ≡ more_names mesh xs ++ 44 ∷ name_of mesh y
more-push mesh [] y = append-nil (44 ∷ name_of mesh y)
more-push mesh (x ∷ xs) y =
    ap (λ (l : List ℕ). 44 ∷ name_of mesh x ++ l) (more-push mesh xs y) ∙ sym (append_assoc (44 ∷ name_of mesh x) (more_names mesh xs) (44 ∷ name_of mesh y))

-- one name more
pub names-push : (mesh : Nodes) (xs : List ℕ) (y : ℕ) → 0 < length xs → names mesh (xs ++ y ∷ []) ≡ names mesh xs ++ 44 ∷ name_of mesh y
names-push mesh [] y some = absurd (omega arith)
names-push mesh (x ∷ xs) y some =
    ap (λ (l : List ℕ). name_of mesh x ++ l) (more-push mesh xs y) ∙ sym (append_assoc (name_of mesh x) (more_names mesh xs) (44 ∷ name_of mesh y))

-- the name of the first member
pub first_name : (mesh : Nodes) (m : ℕ) (s : NodeIds) → contains s m ≡ true → ((q : ℕ) → 0 ≤ q → q < m → contains s q ≡ false)
    → (names mesh (members_below (m + 1) s) ≡ name_of mesh m) × (0 < length (members_below (m + 1) s))
first_name mesh m s is none =
    let first = members-first m s is none in
    let one : 0 < length (members_below (m + 1) s) = rw first (omega arith) in
    (ap (λ (ms : List ℕ). names mesh ms) first ∙ append-nil (name_of mesh m), one)

-- the name of the next member
pub next_name : (mesh : Nodes) (m i : ℕ) (s : NodeIds) → i ≤ m → contains s m ≡ true → ((q : ℕ) → i ≤ q → q < m → contains s q ≡ false) → 0 < length (members_below i s)
    → (names mesh (members_below (m + 1) s) ≡ names mesh (members_below i s) ++ 44 ∷ name_of mesh m) × (0 < length (members_below (m + 1) s))
next_name mesh m i s le is none some =
    let next = members-next m i s le is none in
    let one : 0 < length (members_below (m + 1) s) = rw next (omega (arith, length_push (members_below i s) m)) in
    (ap (λ (ms : List ℕ). names mesh ms) next ∙ names-push mesh (members_below i s) m some, one)

more_names-append : (mesh : Nodes) (xs ys : List ℕ) → more_names mesh (xs ++ ys) ≡ more_names mesh xs ++ more_names mesh ys
more_names-append mesh [] ys = refl
more_names-append mesh (x ∷ xs) ys =
    ap (λ (l : List ℕ). 44 ∷ name_of mesh x ++ l) (more_names-append mesh xs ys) ∙ sym (append_assoc (44 ∷ name_of mesh x) (more_names mesh xs) (more_names mesh ys))

names-append : (mesh : Nodes) (xs ys : List ℕ) → 0 < length xs → names mesh (xs ++ ys) ≡ names mesh xs ++ more_names mesh ys
names-append mesh [] ys some = absurd (omega arith)
names-append mesh (x ∷ xs) ys some =
    ap (λ (l : List ℕ). name_of mesh x ++ l) (more_names-append mesh xs ys) ∙ sym (append_assoc (name_of mesh x) (more_names mesh xs) (more_names mesh ys))

-- the names of the members so far, and those of the others
pub front_names : (mesh : Nodes) (i : ℕ) (s : NodeIds) → i ≤ length mesh → 0 < length (members_below i s)
    → (rest : List ℕ) × (names mesh (members_below (length mesh) s) ≡ names mesh (members_below i s) ++ rest)
front_names mesh i s le some =
    let split : Rest (length mesh) (members_below i s) s = members-front (length mesh) i s le in
    (more_names mesh split.0, ap (λ (ms : List ℕ). names mesh ms) split.1 ∙ names-append mesh (members_below i s) split.0 some)

-- there is no member
pub no_name : (mesh : Nodes) (s : NodeIds) → ((q : ℕ) → 0 ≤ q → contains s q ≡ false) → names mesh (members_below (length mesh) s) ≡ 45 ∷ []
no_name mesh s none = ap (λ (ms : List ℕ). names mesh ms) (members-empty (length mesh) s none)

-- there is no further member
pub all_names : (mesh : Nodes) (i : ℕ) (s : NodeIds) → i ≤ length mesh → ((q : ℕ) → i ≤ q → contains s q ≡ false)
    → names mesh (members_below (length mesh) s) ≡ names mesh (members_below i s)
all_names mesh i s le none = ap (λ (ms : List ℕ). names mesh ms) (members-none (length mesh) i s le (λ q from lt. none q from))
