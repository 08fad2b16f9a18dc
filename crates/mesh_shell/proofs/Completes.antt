-- The first line of some bytes, with its LF.
use Rattle.std.proofs.Common.{◌≡◌, ℕ, Bool, true, false, cond, eqb, List, [], ◌∷◌, ◌++◌, inr, refl, sym, ap, arith, append_assoc}
use Rattle.std.proofs.lemmas.Bool.Decides.{nat_tests}
use Rattle.mesh_io.specs.NextLines.{FirstLine, first_line, with_byte}
use Rattle.mesh_shell.specs.Outputs.{EndsWithLf}

is_lf : (b : ℕ) → eqb b 10 ≡ true → b ≡ 10
is_lf b e = grind (arith, nat_tests)

-- a line that has an LF, and what stands after it
pub ended_is : (bytes : List ℕ) → (first_line bytes).ends ≡ true → bytes ≡ ((first_line bytes).line ++ 10 ∷ []) ++ (first_line bytes).rest
ended_is [] ends = absurd (let P : ⊥ = cc in P)
ended_is (b ∷ bs) ends = by_test (eqb b 10) refl (first_line bs) (ended_is bs) ends
  where
    by_test : (t : Bool) → eqb b 10 ≡ t → (f : FirstLine) → (f.ends ≡ true → bs ≡ (f.line ++ 10 ∷ []) ++ f.rest)
        → (cond t (record { line = []; ends = true; rest = bs }) (with_byte b f)).ends ≡ true
        → b ∷ bs ≡ ((cond t (record { line = []; ends = true; rest = bs }) (with_byte b f)).line ++ 10 ∷ []) ++ (cond t (record { line = []; ends = true; rest = bs }) (with_byte b f)).rest
    by_test true e f h ends = ap (λ x. x ∷ bs) (is_lf b e)
    by_test false e f h ends = ap (λ l. b ∷ l) (h ends)

-- lines, and one more
pub one_more : (front line : List ℕ) → EndsWithLf (front ++ (line ++ 10 ∷ []))
one_more front line = inr (front ++ line, sym (append_assoc front line (10 ∷ [])))
