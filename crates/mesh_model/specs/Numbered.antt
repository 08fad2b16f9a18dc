-- Part of what the headline says.
-- Lists of things with ids, by which copies of messages, and copies of bytes, are found.
use Rattle.std.specs.Prelude.{ℕ, ◌+◌, ◌≤◌, ◌==◌, not, if◌then◌else◌, Option, Some, None, List, [], ◌∷◌, filter}

-- the first with that id
abbrev pub find_by : {A : Type 0} → (A → ℕ) → List A → ℕ → Option A
find_by id_of [] id = None
find_by id_of (a ∷ all) id = if id_of a == id then Some a else find_by id_of all id

-- all but those with that id
abbrev pub without_by : {A : Type 0} → (A → ℕ) → List A → ℕ → List A
without_by id_of all id = filter (λ a. not (id_of a == id)) all

-- the ids rise from `low` on, and are below `next`
abbrev pub AreNumberedBy : {A : Type 0} → (A → ℕ) → ℕ → List A → ℕ → Type 0
AreNumberedBy id_of low [] next = low ≤ next
AreNumberedBy id_of low (a ∷ all) next =
    (low ≤ id_of a) × AreNumberedBy id_of (id_of a + 1) all next

-- one for each of these receivers, with ids that rise from `id` on
abbrev pub numbered_from : {A : Type 0} → (ℕ → ℕ → A) → List ℕ → ℕ → List A
numbered_from make [] id = []
numbered_from make (to ∷ tos) id = make id to ∷ numbered_from make tos (id + 1)
