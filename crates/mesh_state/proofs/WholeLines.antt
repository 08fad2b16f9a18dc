-- Bytes that are empty or end with an LF are complete lines.
use Rattle.std.proofs.Common.{◌≡◌, ◌∙◌, inl, inr, ℕ, ◌≤◌, Bool, true, false, cond, eqb, List, [], ◌∷◌, ◌++◌, length, length-append, refl, sym, ap, subst, arith}
use Rattle.std.specs.List.{onto_first}
use Rattle.std.proofs.lemmas.Bool.{eqb-true}
use Rattle.mesh_base.specs.declared.events.Variant.TheVariants.{Base}
use Rattle.mesh_base.specs.Parts.{parts}
use Rattle.mesh_grammar.specs.Lines.{complete, complete_parts}
use Rattle.mesh_text.specs.Schedule.{opening}
use Rattle.mesh_text.specs.Text.{text_of_input}
use Rattle.mesh_text.proofs.Seams.{run_goes_on}
use Rattle.mesh_state.specs.Saved.{HasWholeLines}
use Rattle.mesh_state.specs.Laws.{SavedRunGoesOn}

-- a byte more before parts of which all but the last are these bytes
onto : (x : ℕ) (ls : List (List ℕ)) (s : List ℕ) → complete_parts ls ≡ s → 1 ≤ length s → complete_parts (onto_first x ls) ≡ x ∷ s
unfolding complete_parts
onto x [] s is some = absurd (let none = ap length is in omega arith)
onto x (l ∷ []) s is some = absurd (let none = ap length is in omega arith)
onto x (l ∷ m ∷ ls) s is some = ap (λ bytes. x ∷ bytes) is

before : (ls : List (List ℕ)) (s : List ℕ) → complete_parts ls ≡ s → 1 ≤ length s → complete_parts ([] ∷ ls) ≡ 10 ∷ s
unfolding complete_parts
before [] s is some = absurd (let none = ap length is in omega arith)
before (l ∷ ls) s is some = ap (λ bytes. 10 ∷ bytes) is

one_more : (c : Bool) (x : ℕ) (ls : List (List ℕ)) (s : List ℕ) → eqb x 10 ≡ c → complete_parts ls ≡ s → 1 ≤ length s → complete_parts (cond c ([] ∷ ls) (onto_first x ls)) ≡ x ∷ s
one_more true x ls s lf is some = before ls s is some ∙ ap (λ b. b ∷ s) (sym (eqb-true x 10 lf))
one_more false x ls s lf is some = onto x ls s is some

ends_with_lf : (prefix : List ℕ) → complete (prefix ++ 10 ∷ []) ≡ prefix ++ 10 ∷ []
unfolding complete_parts
ends_with_lf [] = refl
ends_with_lf (x ∷ xs) =
    one_more (eqb x 10) x (parts 10 (xs ++ 10 ∷ [])) (xs ++ 10 ∷ []) refl (ends_with_lf xs) (omega (arith, length-append xs (10 ∷ [])))

whole_lines : (bytes : List ℕ) → HasWholeLines bytes → complete bytes ≡ bytes
unfolding complete_parts
whole_lines bytes (inl none) = let P : List ℕ → Type 0 = λ l. complete l ≡ l in subst P (sym none) refl
whole_lines bytes (inr last) = let P : List ℕ → Type 0 = λ l. complete l ≡ l in subst P (sym last.1) (ends_with_lf last.0)

pub saved_run_goes_on : SavedRunGoesOn
unfolding text_of_input
saved_run_goes_on first second whole few finished = run_goes_on (opening Base) first second (whole_lines first whole) few finished
