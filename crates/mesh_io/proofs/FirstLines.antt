-- The first line of bytes, and of these bytes with more behind them.
use Rattle.std.proofs.Common.{◌≡◌, ℕ, suc, ◌+◌, ◌<◌, ◌≤◌, Bool, true, false, cond, eqb, List, [], ◌∷◌, ◌++◌, length, take, drop, get_or, refl, sym, ap, ◌∙◌, arith, append-nil}
use Rattle.std.specs.List.{All}
use Rattle.std.proofs.lemmas.List.{take-append-drop, get_or-take, get_or_default, length-take-le}
use Rattle.std.proofs.lemmas.List.Elements.{All-head, All-tail}
use Rattle.std.proofs.Math.Seq.{drop-cons}
use Rattle.memchr.specs.Find.{Nowhere, Passes, is_byte}
use Rattle.mesh_io.specs.NextLines.{FirstLine, first_line, with_byte, line_size}

-- the line is the bytes' prefix, what stands after it their back
pub record IsFirst (bytes : List ℕ) (first : FirstLine) : Type 0 where
  pub prefix : first.line ≡ take (length first.line) bytes
  pub back : first.rest ≡ drop (line_size first) bytes
  pub within : line_size first ≤ length bytes

pub first_is : (bytes : List ℕ) → IsFirst bytes (first_line bytes)
first_is [] = record { prefix = refl; back = refl; within = omega arith }
first_is (b ∷ bs) = by_test (eqb b 10) (first_line bs) (first_is bs)
  where
    by_test : (t : Bool) (first : FirstLine) → IsFirst bs first
        → IsFirst (b ∷ bs) (cond t (record { line = []; ends = true; rest = bs }) (with_byte b first))
    by_test true first h = record { prefix = refl; back = refl; within = omega arith }
    by_test false first h =
        let size : line_size (with_byte b first) ≡ suc (line_size first) = omega arith in
        let low = h.within in record
        { prefix = ap (λ l. b ∷ l) h.prefix; back = h.back ∙ sym (ap (λ n. drop n (b ∷ bs)) size); within = omega arith }

-- a line that has its LF, with these bytes behind
abbrev pub with_rest : List ℕ → FirstLine → FirstLine
with_rest rest first = record first { rest = first.rest ++ rest }

pub first_ended : (bytes rest : List ℕ) → (first_line bytes).ends ≡ true → first_line (bytes ++ rest) ≡ with_rest rest (first_line bytes)
first_ended [] rest e = absurd cc
first_ended (b ∷ bs) rest e = by_test (eqb b 10) (first_ended bs rest) e
  where
    by_test : (t : Bool) → ((first_line bs).ends ≡ true → first_line (bs ++ rest) ≡ with_rest rest (first_line bs))
        → (cond t (record { line = []; ends = true; rest = bs }) (with_byte b (first_line bs))).ends ≡ true
        → cond t (record { line = []; ends = true; rest = bs ++ rest }) (with_byte b (first_line (bs ++ rest)))
        ≡ with_rest rest (cond t (record { line = []; ends = true; rest = bs }) (with_byte b (first_line bs)))
    by_test true h e = refl
    by_test false h e = ap (with_byte b) (h e)

-- a line that goes on with these bytes
abbrev pub after : List ℕ → FirstLine → FirstLine
after bytes first = record first { line = bytes ++ first.line }

pub first_open : (bytes rest : List ℕ) → (first_line bytes).ends ≡ false → first_line (bytes ++ rest) ≡ after bytes (first_line rest)
first_open [] rest e = refl
first_open (b ∷ bs) rest e = by_test (eqb b 10) (first_open bs rest) e
  where
    by_test : (t : Bool) → ((first_line bs).ends ≡ false → first_line (bs ++ rest) ≡ after bs (first_line rest))
        → (cond t (record { line = []; ends = true; rest = bs }) (with_byte b (first_line bs))).ends ≡ false
        → cond t (record { line = []; ends = true; rest = bs ++ rest }) (with_byte b (first_line (bs ++ rest))) ≡ after (b ∷ bs) (first_line rest)
    by_test true h e = absurd cc
    by_test false h e = ap (with_byte b) (h e)

-- bytes without an LF are the line
pub first_whole : (bytes : List ℕ) → (first_line bytes).ends ≡ false → first_line bytes ≡ record { line = bytes; ends = false; rest = [] }
first_whole bytes e =
    ap first_line (sym (append-nil bytes)) ∙ first_open bytes [] e ∙ ap (λ l. record { line = l; ends = false; rest = [] }) (append-nil bytes)

-- ---- by the position of the first LF

-- no byte is an LF
abbrev HasNone : List ℕ → Type 0
HasNone xs = All (λ b. eqb b 10 ≡ false) xs

no_end : (xs : List ℕ) → HasNone xs → (first_line xs).ends ≡ false
no_end [] h = refl
no_end (x ∷ xs) h =
    ap (λ b. (cond b (record { line = []; ends = true; rest = xs }) (with_byte x (first_line xs))).ends) (All-head (λ b. eqb b 10 ≡ false) x xs h)
    ∙ no_end xs (All-tail (λ b. eqb b 10 ≡ false) x xs h)

failed : (b : Bool) → ¬ (b ≡ true) → b ≡ false
failed true h = absurd (h refl)
failed false h = refl

pub ends_nowhere : (xs : List ℕ) → Nowhere (Passes (is_byte 10) xs) 0 (length xs) → (first_line xs).ends ≡ false
ends_nowhere xs h = no_end xs (λ i d lt. ap (λ b. eqb b 10) (get_or_default xs i d 0 lt) ∙ failed (eqb (get_or xs i 0) 10) (h i (omega arith) lt))

none_before : (xs : List ℕ) (k : ℕ) → k ≤ length xs → Nowhere (Passes (is_byte 10) xs) 0 k → HasNone (take k xs)
none_before xs k within h = λ i d lt.
    let short : length (take k xs) ≡ k = length-take-le k xs within in
    let low : i < k = omega (arith, short) in
    let same : get_or (take k xs) i d ≡ get_or xs i 0 = get_or-take k xs i d low ∙ get_or_default xs i d 0 (omega arith) in
    ap (λ b. eqb b 10) same ∙ failed (eqb (get_or xs i 0) 10) (h i (omega arith) low)

-- the bytes up to an LF, the LF, and those after it
split_at : (xs : List ℕ) (k : ℕ) → k < length xs → eqb (get_or xs k 0) 10 ≡ true → xs ≡ take k xs ++ 10 ∷ drop (k + 1) xs
split_at xs k lt e = sym (
    let lf : get_or xs k 0 ≡ 10 = grind arith in
    let next : suc k ≡ k + 1 = omega arith in
    let rest : drop k xs ≡ 10 ∷ drop (k + 1) xs = drop-cons xs k 0 lt ∙ ap (λ b. b ∷ drop (suc k) xs) lf ∙ ap (λ j. 10 ∷ drop j xs) next in
    ap (λ ys. take k xs ++ ys) (sym rest) ∙ take-append-drop k xs)

pub ends_at : (xs : List ℕ) (k : ℕ) → k < length xs → Nowhere (Passes (is_byte 10) xs) 0 k → Passes (is_byte 10) xs k
    → first_line xs ≡ record { line = take k xs; ends = true; rest = drop (k + 1) xs }
ends_at xs k lt before at =
    ap first_line (split_at xs k lt at) ∙ first_open (take k xs) (10 ∷ drop (k + 1) xs) (no_end (take k xs) (none_before xs k (omega arith) before))
    ∙ ap (λ l. record { line = l; ends = true; rest = drop (k + 1) xs }) (append-nil (take k xs))
