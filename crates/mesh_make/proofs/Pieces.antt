-- A buffer that is filled piece by piece.
use Rattle.std.proofs.Common.{◌≡◌, ℕ, ◌+◌, ◌-◌, ◌≤◌, List, [], ◌++◌, length, take, drop, sym, ap, ◌∙◌, append_assoc, append-nil, length-drop, arith}
use Rattle.std.proofs.lemmas.List.{take_at, drop_at, take_all, drop_all, drop-drop, length-take-le}
use Rattle.std.proofs.Math.Seq.{take-add}
use borrow.Rule.Slice.PartMut.{mid_of, post_of, put_mid}

-- i elements of what is left stand at the buffer's prefix, and a piece of n more is put behind them
pub filled_more : (left old buf rest piece : List ℕ) (i n : ℕ) → i ≤ length left → rest ≡ drop i left → buf ≡ take i left ++ drop i old
    → piece ≡ take n rest ++ drop n (mid_of i (length buf - i) buf)
    → put_mid i (length buf - i) buf piece ≡ take (i + n) left ++ drop (i + n) old
filled_more left old buf rest piece i n h rests fills pieces =
    let len : length (take i left) ≡ i = length-take-le i left h in
    let prefix : take i buf ≡ take i left = ap (take i) fills ∙ take_at (take i left) (drop i old) i len in
    let back : drop i buf ≡ drop i old = ap (drop i) fills ∙ drop_at (take i left) (drop i old) i len in
    let long : length (drop i buf) ≡ length buf - i = length-drop i buf in
    let mid : mid_of i (length buf - i) buf ≡ drop i old = take_all (length buf - i) (drop i buf) (omega arith) ∙ back in
    let none : post_of i (length buf - i) buf ≡ [] = drop_all (length buf - i) (drop i buf) (omega arith) in
    let tail : drop n (drop i old) ≡ drop (i + n) old = drop-drop n i old in
    let p : piece ≡ take n (drop i left) ++ drop (i + n) old =
    pieces ∙ ap (λ (l : List ℕ). take n l ++ drop n (mid_of i (length buf - i) buf)) rests
    ∙ ap (λ (l : List ℕ). take n (drop i left) ++ l) (ap (drop n) mid ∙ tail) in
    ap (λ (l : List ℕ). l ++ (piece ++ post_of i (length buf - i) buf)) prefix
    ∙ ap (λ (l : List ℕ). take i left ++ (piece ++ l)) none
    ∙ ap (λ (l : List ℕ). take i left ++ l) (append-nil piece ∙ p)
    ∙ sym (append_assoc (take i left) (take n (drop i left)) (drop (i + n) old))
    ∙ ap (λ (l : List ℕ). l ++ drop (i + n) old) (sym (take-add i n left))
