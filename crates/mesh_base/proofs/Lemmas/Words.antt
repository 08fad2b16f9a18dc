-- The words of a command line from an index on.
use Rattle.std.proofs.Common.{◌≡◌, ◌∙◌, ℕ, zero, suc, ◌+◌, ◌<◌, ◌≤◌, List, [], ◌∷◌, length, map, drop, get_or, refl, sym, ap, arith, drop-cons}
use Rattle.std.specs.Borrow.{Bor}
use Rattle.std.proofs.lemmas.List.{drop-map}

abbrev pub text_of : Bor (List ℕ) → List ℕ
text_of w = w.now

pub word_at : (words : List (Bor (List ℕ))) (i : ℕ) (d : Bor (List ℕ)) → i < length words → drop i (map text_of words) ≡ (get_or words i d).now ∷ drop (i + 1) (map text_of words)
word_at words i d h =
    let one : suc i ≡ i + 1 = omega arith in
    drop-map text_of i words ∙ ap (map text_of) (drop-cons words i d h ∙ ap (λ k. get_or words i d ∷ drop k words) one) ∙ ap (λ l. (get_or words i d).now ∷ l) (sym (drop-map text_of (i + 1) words))

-- two of them
pub words_at : (words : List (Bor (List ℕ))) (i : ℕ) (d e : Bor (List ℕ)) → i + 1 < length words → drop i (map text_of words) ≡ (get_or words i d).now ∷ (get_or words (i + 1) e).now ∷ drop (i + 2) (map text_of words)
words_at words i d e h =
    let two : i + 1 + 1 ≡ i + 2 = omega arith in
    word_at words i d (omega (arith, h)) ∙ ap (λ l. (get_or words i d).now ∷ l) (word_at words (i + 1) e h) ∙ ap (λ k. (get_or words i d).now ∷ (get_or words (i + 1) e).now ∷ drop k (map text_of words)) two

-- none is left
pub none_past : (words : List (Bor (List ℕ))) (i : ℕ) → length words ≤ i → drop i (map text_of words) ≡ []
none_past [] zero h = refl
none_past [] (suc i) h = refl
none_past (w ∷ words) zero h = absurd (omega arith)
none_past (w ∷ words) (suc i) h = none_past words i (omega arith)
