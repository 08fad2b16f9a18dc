-- Lists of words, by their number.
use Rattle.std.proofs.Common.{◌≡◌, ◌≤◌, ◌<◌, ℕ, List, [], ◌∷◌, length, map, get_or, arith, refl, None}
use Rattle.std.specs.Borrow.{Bor}
use Rattle.mesh_why.specs.Routes.{of_two, asked_of}

pub two_words : (ws : List (Bor (List ℕ))) (d : Bor (List ℕ)) → 2 ≤ length ws → length ws < 3
    → of_two (get_or ws 0 d).now (get_or ws 1 d).now ≡ asked_of (map (λ w. w.now) ws)
unfolding asked_of
two_words [] d a b = absurd (omega arith)
two_words (w ∷ []) d a b = absurd (omega arith)
two_words (w ∷ x ∷ []) d a b = refl
two_words (w ∷ x ∷ y ∷ ws) d a b = absurd (omega arith)

pub fewer_words : (ws : List (Bor (List ℕ))) → length ws < 2 → None ≡ asked_of (map (λ w. w.now) ws)
unfolding asked_of
fewer_words [] b = refl
fewer_words (w ∷ []) b = refl
fewer_words (w ∷ x ∷ ws) b = absurd (omega arith)

pub more_words : (ws : List (Bor (List ℕ))) → 3 ≤ length ws → None ≡ asked_of (map (λ w. w.now) ws)
unfolding asked_of
more_words [] a = absurd (omega arith)
more_words (w ∷ []) a = absurd (omega arith)
more_words (w ∷ x ∷ []) a = absurd (omega arith)
more_words (w ∷ x ∷ y ∷ ws) a = refl
