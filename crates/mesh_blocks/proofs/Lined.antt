-- The lines of a text, one after another.
use Rattle.std.proofs.Common.{◌≡◌, ◌∙◌, ◌==◌, ℕ, ◌+◌, List, [], ◌∷◌, length, ap, refl, sym, arith}
use Rattle.std.proofs.lemmas.List.Splits.{length-slice_split}
use Rattle.mesh_base.specs.Parts.{parts}
use Rattle.mesh_blocks.specs.Changes.{but_last, lines_of}

-- a text has at least one part
record Some (ps : List (List ℕ)) : Type 0 where
  first : List ℕ
  others : List (List ℕ)
  is : ps ≡ first ∷ others

some_of : (ps : List (List ℕ)) (n : ℕ) → length ps ≡ n + 1 → Some ps
some_of [] n long = absurd (omega arith)
some_of (p ∷ ps) n long = record { first = p; others = ps; is = refl }

some_part : (text : List ℕ) → Some (parts 10 text)
some_part text = some_of (parts 10 text) _ (length-slice_split (λ b. b == 10) text)

-- a line, and those of what stands behind it
pub line_first : (text line rest : List ℕ) → parts 10 text ≡ line ∷ parts 10 rest → lines_of text ≡ line ∷ lines_of rest
unfolding lines_of
line_first text line rest is =
    let some = some_part rest in
    ap but_last is ∙ ap (λ ps. but_last (line ∷ ps)) some.is ∙ ap (λ ps. line ∷ but_last ps) (sym some.is)

-- no LF
pub line_none : (text line : List ℕ) → parts 10 text ≡ line ∷ [] → lines_of text ≡ []
unfolding lines_of
line_none text line is = ap but_last is
