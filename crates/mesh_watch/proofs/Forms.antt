-- Lists of words, by their number.
use Rattle.std.proofs.Common.{◌≡◌, ◌≤◌, ◌<◌, ℕ, List, [], ◌∷◌, length, map, get_or, arith, refl, Some, None}
use Rattle.std.specs.Borrow.{Bor}
use Rattle.mesh_base.specs.declared.events.Variant.TheVariants.{Base}
use Rattle.mesh_blocks.specs.declared.below.Below.TheVariants.{Blocks}
use Rattle.mesh_watch.specs.Words.{asked_with, of_one, of_two, of_three, asked_of}

abbrev texts : List (Bor (List ℕ)) → List (List ℕ)
texts ws = map (λ w. w.now) ws

pub no_words : (ws : List (Bor (List ℕ))) → length ws < 1 → asked_with Blocks (Some Base) ≡ asked_of (texts ws)
unfolding asked_of
no_words [] b = refl
no_words (w ∷ ws) b = absurd (omega arith)

pub one_word : (ws : List (Bor (List ℕ))) (d : Bor (List ℕ)) → 1 ≤ length ws → length ws < 2 → of_one (get_or ws 0 d).now ≡ asked_of (texts ws)
unfolding asked_of
one_word [] d a b = absurd (omega arith)
one_word (w ∷ []) d a b = refl
one_word (w ∷ x ∷ ws) d a b = absurd (omega arith)

pub two_words : (ws : List (Bor (List ℕ))) (d : Bor (List ℕ)) → 2 ≤ length ws → length ws < 3 → of_two (get_or ws 0 d).now (get_or ws 1 d).now ≡ asked_of (texts ws)
unfolding asked_of
two_words [] d a b = absurd (omega arith)
two_words (w ∷ []) d a b = absurd (omega arith)
two_words (w ∷ x ∷ []) d a b = refl
two_words (w ∷ x ∷ y ∷ ws) d a b = absurd (omega arith)

pub three_words : (ws : List (Bor (List ℕ))) (d : Bor (List ℕ)) → 3 ≤ length ws → length ws < 4
    → of_three (get_or ws 0 d).now (get_or ws 1 d).now (get_or ws 2 d).now ≡ asked_of (texts ws)
unfolding asked_of
three_words [] d a b = absurd (omega arith)
three_words (w ∷ []) d a b = absurd (omega arith)
three_words (w ∷ x ∷ []) d a b = absurd (omega arith)
three_words (w ∷ x ∷ y ∷ []) d a b = refl
three_words (w ∷ x ∷ y ∷ z ∷ ws) d a b = absurd (omega arith)

pub more_words : (ws : List (Bor (List ℕ))) → 4 ≤ length ws → None ≡ asked_of (texts ws)
unfolding asked_of
more_words [] a = absurd (omega arith)
more_words (w ∷ []) a = absurd (omega arith)
more_words (w ∷ x ∷ []) a = absurd (omega arith)
more_words (w ∷ x ∷ y ∷ []) a = absurd (omega arith)
more_words (w ∷ x ∷ y ∷ z ∷ ws) a = refl
