-- The lines of a text, put together again.
use Rattle.std.proofs.Common.{◌≡◌, ℕ, ◌≤◌, Bool, true, false, cond, leb, List, [], ◌∷◌, ◌++◌, length, take, refl, sym, ap, ◌∙◌, subst, arith}
use Rattle.std.specs.Prelude.{nat_lt, ◌⊎◌}
use Rattle.std.specs.List.{join_with_byte}
use Rattle.std.proofs.Common.{inl, inr}
use Rattle.std.proofs.Math.Seq.{take_all}
use Rattle.std.proofs.lemmas.List.Splits.{join_with_byte-slice_split}
use Rattle.std.proofs.lemmas.List.{append_assoc}
use Rattle.std.proofs.lemmas.Bool.Decides.{nat_tests}
use Rattle.mesh_base.specs.Parts.{parts}
use Rattle.mesh_base.proofs.Lemmas.Lists.{some_parts}
use Rattle.mesh_io.specs.declared.limits.Limits.{Limits}
use Rattle.mesh_shell.specs.Pieces.{Piece, Whole, Long, Beyond, last_piece, pieces_of, pieces_within}
use Rattle.mesh_shell.specs.Laws.{AreWhole, text_of}

-- these lines are this text, but for a last LF
abbrev AreText : List Piece → List ℕ → Type 0
AreText pieces text = (text_of pieces ≡ text) ⊎ (text_of pieces ≡ text ++ 10 ∷ [])

-- a last part, where the input goes on, is no line
pub more_past : (most : Limits) (l : List ℕ) → 1 ≤ length l → AreWhole (last_piece most true l) → ⊥
more_past most [] some whole = whole
more_past most (b ∷ bs) some whole = by_test (leb (length (b ∷ bs)) most.line) whole
  where
    by_test : (t : Bool) → AreWhole (cond t Beyond (cond t (Whole (b ∷ bs)) Long) ∷ []) → ⊥
    by_test true whole = whole
    by_test false whole = whole

last_text : (most : Limits) (more : Bool) (l : List ℕ) → AreWhole (last_piece most more l) → AreText (last_piece most more l) l
last_text most true [] whole = absurd whole
last_text most false [] whole = inl refl
last_text most true (b ∷ bs) whole = absurd (more_past most (b ∷ bs) (omega arith) whole)
last_text most false (b ∷ bs) whole = by_test (leb (length (b ∷ bs)) most.line) whole
  where
    by_test : (t : Bool) → AreWhole (cond t (Whole (b ∷ bs)) Long ∷ []) → AreText (cond t (Whole (b ∷ bs)) Long ∷ []) (b ∷ bs)
    by_test true whole = inr refl
    by_test false whole = absurd whole

one_more : (l : List ℕ) (rest : List Piece) (text : List ℕ) → AreText rest text → AreText (Whole l ∷ rest) (l ++ 10 ∷ text)
one_more l rest text (inl same) = inl (ap (λ t. l ++ 10 ∷ t) same)
one_more l rest text (inr same) = inr (ap (λ t. l ++ 10 ∷ t) same ∙ sym (append_assoc l (10 ∷ text) (10 ∷ [])))

lines_text : (most : Limits) (more : Bool) (ls : List (List ℕ)) → AreWhole (pieces_of most more ls) → AreText (pieces_of most more ls) (join_with_byte 10 ls)
unfolding pieces_of
lines_text most more [] whole = inl refl
lines_text most more (l ∷ []) whole = last_text most more l whole
lines_text most more (l ∷ m ∷ ls) whole = by_test (lines_text most more (m ∷ ls)) (leb (length l) most.line) whole
  where
    by_test : (AreWhole (pieces_of most more (m ∷ ls)) → AreText (pieces_of most more (m ∷ ls)) (join_with_byte 10 (m ∷ ls))) → (t : Bool) → AreWhole (cond t (Whole l) Long ∷ pieces_of most more (m ∷ ls)) → AreText (cond t (Whole l) Long ∷ pieces_of most more (m ∷ ls)) (l ++ 10 ∷ join_with_byte 10 (m ∷ ls))
    by_test others true whole = one_more l (pieces_of most more (m ∷ ls)) (join_with_byte 10 (m ∷ ls)) (others whole)
    by_test others false whole = absurd whole

-- a text that goes past its limit has a last piece that says so
pub no_more : (most : Limits) (ls : List (List ℕ)) → 1 ≤ length ls → AreWhole (pieces_of most true ls) → ⊥
unfolding pieces_of
no_more most [] some whole = absurd (omega arith)
no_more most ([] ∷ []) some whole = whole
no_more most ((b ∷ bs) ∷ []) some whole = more_past most (b ∷ bs) (omega arith) whole
no_more most (l ∷ m ∷ ls) some whole = by_test (no_more most (m ∷ ls) (omega arith)) (leb (length l) most.line) whole
  where
    by_test : (AreWhole (pieces_of most true (m ∷ ls)) → ⊥) → (t : Bool) → AreWhole (cond t (Whole l) Long ∷ pieces_of most true (m ∷ ls)) → ⊥
    by_test others true whole = others whole
    by_test others false whole = whole

pub lines_are_the_text : (most : Limits) (text : List ℕ) → AreWhole (pieces_within most text) → AreText (pieces_within most text) text
lines_are_the_text most text whole = by_test (nat_lt most.input (length text)) refl whole
  where
    by_test : (b : Bool) → nat_lt most.input (length text) ≡ b → AreWhole (pieces_of most b (parts 10 (take most.input text)))
        → AreText (pieces_of most b (parts 10 (take most.input text))) text
    by_test true long whole = absurd (no_more most (parts 10 (take most.input text)) (some_parts 10 (take most.input text)) whole)
    by_test false short whole =
        let all : take most.input text ≡ text = take_all most.input text (grind (arith, nat_tests)) in
        subst (AreText (pieces_of most false (parts 10 (take most.input text))))
        (join_with_byte-slice_split 10 (take most.input text) ∙ all)
        (lines_text most false (parts 10 (take most.input text)) whole)
