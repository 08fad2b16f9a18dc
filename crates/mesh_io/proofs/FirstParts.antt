-- The parts of some bytes between LF, by the first line of them.
use Rattle.std.proofs.Common.{◌≡◌, ℕ, zero, suc, ◌+◌, ◌-◌, ◌<◌, ◌≤◌, Bool, true, false, cond, ltb, eqb, List, [], ◌∷◌, length, take, refl, ap, ◌∙◌, arith}
use Rattle.std.specs.Prelude.{nat_lt}
use Rattle.std.specs.List.{onto_first}
use Rattle.std.proofs.lemmas.Bool.Decides.{nat_tests}
use Rattle.mesh_base.specs.Parts.{parts}
use Rattle.mesh_io.specs.NextLines.{FirstLine, first_line, with_byte}

-- how many bytes come after the first line, and its LF
abbrev pub after_line : FirstLine → ℕ
after_line f = cond f.ends (1 + length f.rest) 0

pub first_length : (bytes : List ℕ) → length bytes ≡ length (first_line bytes).line + after_line (first_line bytes)
first_length [] = refl
first_length (b ∷ bs) = by_test (eqb b 10) (first_line bs) (first_length bs)
  where
    by_test : (t : Bool) (f : FirstLine) → length bs ≡ length f.line + after_line f
        → length (b ∷ bs) ≡ length (cond t (record { line = []; ends = true; rest = bs }) (with_byte b f)).line + after_line (cond t (record { line = []; ends = true; rest = bs }) (with_byte b f))
    by_test true f h = omega arith
    by_test false f h = omega arith

pub nothing_after : (bytes : List ℕ) → (first_line bytes).ends ≡ false → (first_line bytes).rest ≡ []
nothing_after [] unended = refl
nothing_after (b ∷ bs) unended = by_test (eqb b 10) (first_line bs) (nothing_after bs) unended
  where
    by_test : (t : Bool) (f : FirstLine) → (f.ends ≡ false → f.rest ≡ []) → (cond t (record { line = []; ends = true; rest = bs }) (with_byte b f)).ends ≡ false
        → (cond t (record { line = []; ends = true; rest = bs }) (with_byte b f)).rest ≡ []
    by_test true f h unended = absurd (let P : ⊥ = cc in P)
    by_test false f h unended = h unended

pub whole_line : (bytes : List ℕ) → (first_line bytes).ends ≡ false → (first_line bytes).line ≡ bytes
whole_line [] unended = refl
whole_line (b ∷ bs) unended = by_test (eqb b 10) (first_line bs) (whole_line bs) unended
  where
    by_test : (t : Bool) (f : FirstLine) → (f.ends ≡ false → f.line ≡ bs) → (cond t (record { line = []; ends = true; rest = bs }) (with_byte b f)).ends ≡ false
        → (cond t (record { line = []; ends = true; rest = bs }) (with_byte b f)).line ≡ b ∷ bs
    by_test true f h unended = absurd (let P : ⊥ = cc in P)
    by_test false f h unended = ap (λ l. b ∷ l) (h unended)

-- a line whose LF is among the first bytes
pub parts_within : (bytes : List ℕ) (room : ℕ) → (first_line bytes).ends ≡ true → length (first_line bytes).line < room
    → parts 10 (take room bytes) ≡ (first_line bytes).line ∷ parts 10 (take (room - (length (first_line bytes).line + 1)) (first_line bytes).rest)
parts_within [] room ends short = absurd (let P : ⊥ = cc in P)
parts_within (b ∷ bs) zero ends short = absurd (omega arith)
parts_within (b ∷ bs) (suc r) ends short = by_test (eqb b 10) (first_line bs) (parts_within bs r) ends short
  where
    by_test : (t : Bool) (f : FirstLine) → (f.ends ≡ true → length f.line < r → parts 10 (take r bs) ≡ f.line ∷ parts 10 (take (r - (length f.line + 1)) f.rest))
        → (cond t (record { line = []; ends = true; rest = bs }) (with_byte b f)).ends ≡ true
        → length (cond t (record { line = []; ends = true; rest = bs }) (with_byte b f)).line < suc r
        → cond t ([] ∷ parts 10 (take r bs)) (onto_first b (parts 10 (take r bs)))
        ≡ (cond t (record { line = []; ends = true; rest = bs }) (with_byte b f)).line
        ∷ parts 10 (take (suc r - (length (cond t (record { line = []; ends = true; rest = bs }) (with_byte b f)).line + 1)) (cond t (record { line = []; ends = true; rest = bs }) (with_byte b f)).rest)
    by_test true f h ends short =
        let same : r ≡ suc r - (0 + 1) = omega arith in
        ap (λ k. [] ∷ parts 10 (take k bs)) same
    by_test false f h ends short =
        let same : r - (length f.line + 1) ≡ suc r - (suc (length f.line) + 1) = omega arith in
        ap (onto_first b) (h ends (omega arith)) ∙ ap (λ k. (b ∷ f.line) ∷ parts 10 (take k f.rest)) same

-- and where it isn't
pub parts_past : (bytes : List ℕ) (room : ℕ) → ((first_line bytes).ends ≡ true → room ≤ length (first_line bytes).line) → parts 10 (take room bytes) ≡ take room bytes ∷ []
parts_past bytes zero past = refl
parts_past [] (suc r) past = refl
parts_past (b ∷ bs) (suc r) past = by_test (eqb b 10) (first_line bs) (parts_past bs r) past
  where
    by_test : (t : Bool) (f : FirstLine) → ((f.ends ≡ true → r ≤ length f.line) → parts 10 (take r bs) ≡ take r bs ∷ [])
        → ((cond t (record { line = []; ends = true; rest = bs }) (with_byte b f)).ends ≡ true → suc r ≤ length (cond t (record { line = []; ends = true; rest = bs }) (with_byte b f)).line)
        → cond t ([] ∷ parts 10 (take r bs)) (onto_first b (parts 10 (take r bs))) ≡ (b ∷ take r bs) ∷ []
    by_test true f h past = absurd (let low : suc r ≤ 0 = past refl in omega arith)
    by_test false f h past = ap (onto_first b) (h (λ e. let low = past e in omega arith))

-- ---- whether there is room

pub goes_past : (room count : ℕ) → room < count → nat_lt room count ≡ true
goes_past room count h = by_test (ltb room count) refl
  where
    by_test : (b : Bool) → ltb room count ≡ b → b ≡ true
    by_test true e = refl
    by_test false e = absurd (grind (arith, nat_tests))

pub fits_in : (room count : ℕ) → count ≤ room → nat_lt room count ≡ false
fits_in room count h = by_test (ltb room count) refl
  where
    by_test : (b : Bool) → ltb room count ≡ b → b ≡ false
    by_test false e = refl
    by_test true e = absurd (grind (arith, nat_tests))
