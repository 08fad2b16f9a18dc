-- What a source in memory gives.
use Rattle.std.proofs.Common.{◌≡◌, ℕ, ◌+◌, ◌<◌, ◌≤◌, min, List, [], ◌++◌, sym, ap, subst, ◌∙◌, length, take, drop, arith, take-append-drop, drop_of_length-le}
use Rattle.std.proofs.lemmas.List.{drop-drop, length-take-le}
use Rattle.std.proofs.Math.Seq.{take-append_seam}

pub gives_front : (rest back : List ℕ) (n : ℕ) → n ≤ length rest → rest ≡ take n (take n rest ++ back) ++ drop n rest
gives_front rest back n fits =
    let len = length-take-le n rest fits in
    let seam : take n (take n rest ++ back) ≡ take n rest =
    let P : ℕ → Type 0 = λ k. take k (take n rest ++ back) ≡ take n rest in
    subst P len (take-append_seam (take n rest) back) in
    sym (rw seam (take-append-drop n rest))

-- a call gives the prefix of what is left, and nothing only at the end or where there is no room
pub gives : (bytes seen left old buf : List ℕ) (at n most : ℕ) → drop at bytes ≡ left → seen ≡ left → 0 < most
    → n ≡ min (length seen) (min (length old) most) → buf ≡ take n seen ++ drop n old
    → (left ≡ take n buf ++ drop (at + n) bytes) × (n ≡ 0 → 0 < length buf → drop (at + n) bytes ≡ [])
gives bytes seen left old buf at n most here same some count copied =
    let fits : n ≤ length seen = omega arith in
    let on : drop n seen ≡ drop (at + n) bytes = ap (drop n) (same ∙ sym here) ∙ drop-drop n at bytes in
    let prefix : seen ≡ take n buf ++ drop n seen =
    let P : List ℕ → Type 0 = λ l. seen ≡ take n l ++ drop n seen in subst P (sym copied) (gives_front seen (drop n old) n fits) in
    (sym same ∙ prefix ∙ ap (λ l. take n buf ++ l) on, λ zero room. sym on ∙ nothing_left seen old buf n most some count copied zero room)
  where
    nothing_left : (seen old buf : List ℕ) (n most : ℕ) → 0 < most → n ≡ min (length seen) (min (length old) most)
        → buf ≡ take n seen ++ drop n old → n ≡ 0 → 0 < length buf → drop n seen ≡ []
    nothing_left seen old buf n most some count copied zero room =
        let P : ℕ → Type 0 = λ k. buf ≡ take k seen ++ drop k old in
        let same : buf ≡ old = subst P zero copied in
        let long = ap length same in
        drop_of_length-le seen {i = n} (omega arith)
