-- What is left of gathered bytes once the first of them are removed.
use Rattle.std.proofs.Common.{◌≡◌, ℕ, ◌+◌, ◌-◌, ◌≤◌, List, ◌++◌, length, take, drop, length-append, length-drop, length-take, sym, ap, ◌∙◌, arith}
use Rattle.std.specs.List.{copy_within}
use Rattle.std.proofs.lemmas.List.{drop-take, take-take, take-append-le}
use Rattle.std.proofs.Math.Seq.{take-append-add}
use Rattle.std.proofs.lemmas.List.Edits.{take-paste}

-- the cells from n on, up to the end of the text, are moved to the start
pub shifted : (xs ys : List ℕ) (n len : ℕ) → n ≤ len → len ≤ length xs → ys ≡ copy_within xs n len 0
    → take (len - n) ys ≡ drop n (take len xs)
shifted xs ys n len within fits moved =
    let rest : len - n ≤ length (drop n xs) = omega (arith, length-drop n xs) in
    let whole : n + (len - n) ≡ len = omega arith in
    let all : len - n ≡ 0 + (len - n) = omega arith in
    ap (take (len - n)) moved
    ∙ ap (λ k. take k (copy_within xs n len 0)) all
    ∙ take-paste xs 0 (drop n xs) (len - n) (omega arith) rest
    ∙ sym (drop-take n (len - n) xs)
    ∙ ap (λ k. drop n (take k xs)) whole

-- a short text is copied over the cells behind what is gathered, with all of its array
pub gathered_front : (cells whole text rest tail : List ℕ) (n len width : ℕ) → len ≤ length cells → width ≤ length whole → len + width ≤ n → take width whole ≡ text
    → take (len + width) (take n ((take len cells ++ (whole ++ rest)) ++ tail)) ≡ take len cells ++ text
gathered_front cells whole text rest tail n len width le short within e =
    let front : length (take len cells) ≡ len = omega (arith, length-take len cells) in
    let long : len + width ≤ length (take len cells ++ (whole ++ rest)) = omega (arith, length-append (take len cells) (whole ++ rest), length-append whole rest) in
    take-take (len + width) n _ within ∙ take-append-le (len + width) (take len cells ++ (whole ++ rest)) tail long
    ∙ ap (λ k. take (k + width) (take len cells ++ (whole ++ rest))) (sym front) ∙ take-append-add (take len cells) (whole ++ rest) width
    ∙ ap (λ xs. take len cells ++ xs) (take-append-le width whole rest short ∙ e)
