-- Lists of words, by their number.
use Rattle.std.proofs.Common.{◌≡◌, ◌≤◌, ◌<◌, ℕ, List, [], ◌∷◌, length, map, get_or, arith, false, refl, None}
use Rattle.std.specs.Borrow.{Bor}
use Rattle.mesh_cli.specs.Words.{command_of, of_one, of_two, run_of, of_four, of_six}

abbrev texts : List (Bor (List ℕ)) → List (List ℕ)
texts ws = map (λ w. w.now) ws

pub one_word : (ws : List (Bor (List ℕ))) (d : Bor (List ℕ)) → 1 ≤ length ws → length ws < 2 → of_one (get_or ws 0 d).now ≡ command_of (texts ws)
unfolding command_of
one_word [] d a b = absurd (omega arith)
one_word (w ∷ []) d a b = refl
one_word (w ∷ x ∷ ws) d a b = absurd (omega arith)

pub two_words : (ws : List (Bor (List ℕ))) (d : Bor (List ℕ)) → 2 ≤ length ws → length ws < 3
    → of_two (get_or ws 0 d).now (get_or ws 1 d).now ≡ command_of (texts ws)
unfolding command_of
two_words [] d a b = absurd (omega arith)
two_words (w ∷ []) d a b = absurd (omega arith)
two_words (w ∷ x ∷ []) d a b = refl
two_words (w ∷ x ∷ y ∷ ws) d a b = absurd (omega arith)

pub four_words : (ws : List (Bor (List ℕ))) (d : Bor (List ℕ)) → 4 ≤ length ws → length ws < 5
    → of_four (get_or ws 0 d).now (get_or ws 1 d).now (get_or ws 2 d).now (get_or ws 3 d).now ≡ command_of (texts ws)
unfolding command_of
four_words [] d a b = absurd (omega arith)
four_words (w ∷ []) d a b = absurd (omega arith)
four_words (w ∷ x ∷ []) d a b = absurd (omega arith)
four_words (w ∷ x ∷ y ∷ []) d a b = absurd (omega arith)
four_words (w ∷ x ∷ y ∷ z ∷ []) d a b = refl
four_words (w ∷ x ∷ y ∷ z ∷ v ∷ ws) d a b = absurd (omega arith)

pub no_words : (ws : List (Bor (List ℕ))) → length ws < 1 → None ≡ command_of (texts ws)
unfolding command_of
no_words [] b = refl
no_words (w ∷ ws) b = absurd (omega arith)

pub three_words : (ws : List (Bor (List ℕ))) (d : Bor (List ℕ)) → 3 ≤ length ws → length ws < 4
    → run_of false (get_or ws 0 d).now (get_or ws 1 d).now (get_or ws 2 d).now ≡ command_of (texts ws)
unfolding command_of
three_words [] d a b = absurd (omega arith)
three_words (w ∷ []) d a b = absurd (omega arith)
three_words (w ∷ x ∷ []) d a b = absurd (omega arith)
three_words (w ∷ x ∷ y ∷ []) d a b = refl
three_words (w ∷ x ∷ y ∷ z ∷ ws) d a b = absurd (omega arith)

pub five_words : (ws : List (Bor (List ℕ))) → 5 ≤ length ws → length ws < 6 → None ≡ command_of (texts ws)
unfolding command_of
five_words [] a b = absurd (omega arith)
five_words (w ∷ []) a b = absurd (omega arith)
five_words (w ∷ x ∷ []) a b = absurd (omega arith)
five_words (w ∷ x ∷ y ∷ []) a b = absurd (omega arith)
five_words (w ∷ x ∷ y ∷ z ∷ []) a b = absurd (omega arith)
five_words (w ∷ x ∷ y ∷ z ∷ v ∷ []) a b = refl
five_words (w ∷ x ∷ y ∷ z ∷ v ∷ u ∷ ws) a b = absurd (omega arith)

pub six_words : (ws : List (Bor (List ℕ))) (d : Bor (List ℕ)) → 6 ≤ length ws → length ws < 7
    → of_six (get_or ws 0 d).now (get_or ws 1 d).now (get_or ws 2 d).now (get_or ws 3 d).now (get_or ws 4 d).now (get_or ws 5 d).now ≡ command_of (texts ws)
unfolding command_of
six_words [] d a b = absurd (omega arith)
six_words (w ∷ []) d a b = absurd (omega arith)
six_words (w ∷ x ∷ []) d a b = absurd (omega arith)
six_words (w ∷ x ∷ y ∷ []) d a b = absurd (omega arith)
six_words (w ∷ x ∷ y ∷ z ∷ []) d a b = absurd (omega arith)
six_words (w ∷ x ∷ y ∷ z ∷ v ∷ []) d a b = absurd (omega arith)
six_words (w ∷ x ∷ y ∷ z ∷ v ∷ u ∷ []) d a b = refl
six_words (w ∷ x ∷ y ∷ z ∷ v ∷ u ∷ t ∷ ws) d a b = absurd (omega arith)

pub more_words : (ws : List (Bor (List ℕ))) → 7 ≤ length ws → None ≡ command_of (texts ws)
unfolding command_of
more_words [] a = absurd (omega arith)
more_words (w ∷ []) a = absurd (omega arith)
more_words (w ∷ x ∷ []) a = absurd (omega arith)
more_words (w ∷ x ∷ y ∷ []) a = absurd (omega arith)
more_words (w ∷ x ∷ y ∷ z ∷ []) a = absurd (omega arith)
more_words (w ∷ x ∷ y ∷ z ∷ v ∷ []) a = absurd (omega arith)
more_words (w ∷ x ∷ y ∷ z ∷ v ∷ u ∷ []) a = absurd (omega arith)
more_words (w ∷ x ∷ y ∷ z ∷ v ∷ u ∷ t ∷ ws) a = refl
