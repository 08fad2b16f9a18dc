-- What stands behind the bytes that were put.
use Rattle.std.proofs.Common.{◌≡◌, ◌∙◌, ℕ, ◌+◌, List, drop, sym, ap}
use Rattle.std.proofs.lemmas.List.{drop-drop}

-- where it is as it was behind an offset, so it is behind one further on
pub further : (at n : ℕ) (xs ys zs : List ℕ) → drop (at + n) zs ≡ drop (at + n) ys → drop at ys ≡ drop at xs → drop (at + n) zs ≡ drop (at + n) xs
further at n xs ys zs now before = now ∙ sym (drop-drop n at ys) ∙ ap (drop n) before ∙ drop-drop n at xs
