-- Lines by their words.
use Rattle.std.proofs.Common.{◌≡◌, ◌≤◌, ℕ, ◌+◌, true, false, List, [], ◌∷◌, length, Option, Some, None, refl, arith, eqb}
use Rattle.std.specs.Prelude.{codes, IfNone}
use Rattle.std.specs.Str.{bytes_eq}
use Rattle.std.proofs.lemmas.List.Splits.{length-slice_split}
use Rattle.mesh_base.specs.Parts.{parts}
use Rattle.mesh_tables.specs.Printed.{Reading, after_line, show_line, other_line, entry_in}

-- one more line was read
abbrev counted : Reading → Reading
counted r = record r { lines = r.lines + 1 }

pub by_show : (r : Reading) (line word : List ℕ) (words : List (List ℕ)) → parts 32 line ≡ word ∷ words → bytes_eq word (codes "show") ≡ true
    → after_line r line ≡ show_line (counted r) words
unfolding after_line
by_show r line word words is show = rw (is, show) refl

pub by_other : (r : Reading) (line word : List ℕ) (words : List (List ℕ)) → parts 32 line ≡ word ∷ words → bytes_eq word (codes "show") ≡ false
    → after_line r line ≡ other_line (counted r) r.block line
unfolding after_line
by_other r line word words is other = rw (is, other) refl

some_part : (bytes : List ℕ) → 1 ≤ length (parts 32 bytes)
some_part bytes = omega (arith, length-slice_split (λ (b : ℕ). eqb b 32) bytes)

-- two words after `show`
show_more : (r : Reading) (word : List ℕ) (words : List (List ℕ)) → 1 ≤ length words → show_line r (word ∷ words) ≡ None
show_more r word [] h = absurd (omega arith)
show_more r word (next ∷ words) h = refl

pub show_two : (r : Reading) (word rest : List ℕ) → show_line r (word ∷ parts 32 rest) ≡ None
show_two r word rest = show_more r word (parts 32 rest) (some_part rest)

-- eight words after `  entry `
entry_more : (a b c d e f g : List ℕ) (words : List (List ℕ)) → 1 ≤ length words → entry_in (a ∷ b ∷ c ∷ d ∷ e ∷ f ∷ g ∷ words) ≡ None
unfolding entry_in
entry_more a b c d e f g [] h = absurd (omega arith)
entry_more a b c d e f g (next ∷ words) h = refl

pub eight_words : (a b c d e f g rest : List ℕ) → entry_in (a ∷ b ∷ c ∷ d ∷ e ∷ f ∷ g ∷ parts 32 rest) ≡ None
eight_words a b c d e f g rest = entry_more a b c d e f g (parts 32 rest) (some_part rest)

pub unread : {A : Type 0} (o : Option A) (words : List (List ℕ)) → entry_in words ≡ None → IfNone o (entry_in words ≡ None)
unread None words h = h
unread (Some a) words h = tt
