-- The lines of the bytes that an input has left, by the next line of them.
use Rattle.std.proofs.Common.{◌≡◌, ℕ, ◌+◌, ◌-◌, ◌<◌, ◌≤◌, Bool, true, false, cond, leb, ltb, List, [], ◌∷◌, length, take, refl, sym, ap, ap₂, ◌∙◌, arith}
use Rattle.std.specs.Prelude.{nat_lt}
use Rattle.std.proofs.lemmas.Bool.Decides.{nat_tests}
use Rattle.std.proofs.lemmas.List.{length-take}
use Rattle.std.proofs.Math.Seq.{take_all}
use Rattle.mesh_base.specs.Parts.{parts}
use Rattle.mesh_base.proofs.Lemmas.Lists.{some_parts}
use Rattle.mesh_io.specs.NextLines.{FirstLine, first_line, line_size, NextLine, End, Line, TooLong, TooMuch, next_of}
use Rattle.mesh_io.proofs.FirstParts.{first_length, nothing_after, whole_line, parts_within, parts_past, goes_past, fits_in}
use Rattle.mesh_io.specs.declared.limits.Limits.{Limits}
use Rattle.mesh_shell.specs.Pieces.{Piece, Whole, Long, Beyond, piece_of, last_piece, pieces_of, pieces_within}

-- the lines of these bytes, where so many were given
abbrev pub pieces_at : Limits → ℕ → List ℕ → List Piece
pieces_at most given bytes = pieces_of most (nat_lt (most.input - given) (length bytes)) (parts 10 (take (most.input - given) bytes))

pub pieces_at_front : (most : Limits) (bytes : List ℕ) → pieces_within most bytes ≡ pieces_at most 0 bytes
pieces_at_front most bytes =
    let room : most.input - 0 ≡ most.input = omega arith in
    sym (ap (λ n. pieces_of most (nat_lt n (length bytes)) (parts 10 (take n bytes))) room)

-- ---- one line

first_piece : (most : Limits) (more : Bool) (l : List ℕ) (ls : List (List ℕ)) → 1 ≤ length ls → pieces_of most more (l ∷ ls) ≡ piece_of most l ∷ pieces_of most more ls
unfolding pieces_of
first_piece most more l [] some = absurd (omega arith)
first_piece most more l (m ∷ ls) some = refl

only_piece : (most : Limits) (more : Bool) (l : List ℕ) → pieces_of most more (l ∷ []) ≡ last_piece most more l
unfolding pieces_of
only_piece most more l = refl

pub piece_short : (most : Limits) (l : List ℕ) → length l ≤ most.line → piece_of most l ≡ Whole l
piece_short most l h = by_test (leb (length l) most.line) refl
  where
    by_test : (b : Bool) → leb (length l) most.line ≡ b → cond b (Whole l) Long ≡ Whole l
    by_test true e = refl
    by_test false e = absurd (grind (arith, nat_tests))

piece_long : (most : Limits) (l : List ℕ) → most.line < length l → piece_of most l ≡ Long
piece_long most l h = by_test (leb (length l) most.line) refl
  where
    by_test : (b : Bool) → leb (length l) most.line ≡ b → cond b (Whole l) Long ≡ Long
    by_test true e = absurd (grind (arith, nat_tests))
    by_test false e = refl

pub last_few : (most : Limits) (more : Bool) (l : List ℕ) → length (last_piece most more l) ≤ 1
last_few most true [] = omega arith
last_few most false [] = omega arith
last_few most more (b ∷ bs) = omega arith

-- a last part that is too long, whether or not the input goes on
last_long : (most : Limits) (more : Bool) (l : List ℕ) → most.line < length l → last_piece most more l ≡ Long ∷ []
last_long most more [] h = absurd (omega arith)
last_long most false (b ∷ bs) h = ap (λ p. p ∷ []) (piece_long most (b ∷ bs) h)
last_long most true (b ∷ bs) h = by_test (leb (length (b ∷ bs)) most.line) refl
  where
    by_test : (t : Bool) → leb (length (b ∷ bs)) most.line ≡ t → cond t Beyond (piece_of most (b ∷ bs)) ∷ [] ≡ Long ∷ []
    by_test true e = absurd (grind (arith, nat_tests))
    by_test false e = ap (λ p. p ∷ []) (piece_long most (b ∷ bs) h)

-- one that isn't, where the input goes on
last_more : (most : Limits) (l : List ℕ) → length l ≤ most.line → last_piece most true l ≡ Beyond ∷ []
last_more most [] h = refl
last_more most (b ∷ bs) h = by_test (leb (length (b ∷ bs)) most.line) refl
  where
    by_test : (t : Bool) → leb (length (b ∷ bs)) most.line ≡ t → cond t Beyond (piece_of most (b ∷ bs)) ∷ [] ≡ Beyond ∷ []
    by_test true e = refl
    by_test false e = absurd (grind (arith, nat_tests))

last_short : (most : Limits) (l : List ℕ) → 1 ≤ length l → length l ≤ most.line → last_piece most false l ≡ Whole l ∷ []
last_short most [] some h = absurd (omega arith)
last_short most (b ∷ bs) some h = ap (λ p. p ∷ []) (piece_short most (b ∷ bs) h)

-- ---- the front

-- none are left
pub pieces_none : (most : Limits) (given : ℕ) → pieces_at most given [] ≡ []
pieces_none most given =
    ap₂ (pieces_of most) (fits_in (most.input - given) 0 (omega arith)) (ap (parts 10) (take_all (most.input - given) [] (omega arith)))
    ∙ only_piece most false []

pub no_pieces : (most : Limits) → pieces_within most [] ≡ []
no_pieces most = pieces_at_front most [] ∙ pieces_none most 0

-- the first line has its LF within what an input may have
pieces_line : (most : Limits) (given : ℕ) (bytes : List ℕ) → (first_line bytes).ends ≡ true → given + length (first_line bytes).line + 1 ≤ most.input
    → pieces_at most given bytes ≡ piece_of most (first_line bytes).line ∷ pieces_at most (given + length (first_line bytes).line + 1) (first_line bytes).rest
pieces_line most given bytes ends fits =
    let f : FirstLine = first_line bytes in
    let room : ℕ = most.input - given in
    let rest : room - (length f.line + 1) ≡ most.input - (given + length f.line + 1) = omega arith in
    let all : length bytes ≡ length f.line + (1 + length f.rest) = first_length bytes ∙ ap (λ b. length f.line + cond b (1 + length f.rest) 0) ends in
    let more : nat_lt room (length bytes) ≡ nat_lt (most.input - (given + length f.line + 1)) (length f.rest) = shifted room (length bytes) (most.input - (given + length f.line + 1)) (length f.rest) (length f.line + 1) (omega arith) (omega arith) in
    ap₂ (pieces_of most) more (parts_within bytes room ends (omega arith) ∙ ap (λ k. f.line ∷ parts 10 (take k f.rest)) rest)
    ∙ first_piece most (nat_lt (most.input - (given + length f.line + 1)) (length f.rest)) f.line (parts 10 (take (most.input - (given + length f.line + 1)) f.rest)) (some_parts 10 (take (most.input - (given + length f.line + 1)) f.rest))
  where
    shifted : (a b c d k : ℕ) → a ≡ c + k → b ≡ d + k → nat_lt a b ≡ nat_lt c d
    shifted a b c d k ea eb = by_test (ltb c d) refl
      where
        by_test : (t : Bool) → ltb c d ≡ t → nat_lt a b ≡ t
        by_test true e = goes_past a b (let low : c < d = grind (arith, nat_tests) in omega arith)
        by_test false e = fits_in a b (let low : d ≤ c = grind (arith, nat_tests) in omega arith)

-- it has not: what is left of the input's bytes is one part
pieces_open : (most : Limits) (given : ℕ) (bytes : List ℕ) → ((first_line bytes).ends ≡ true → most.input - given ≤ length (first_line bytes).line)
    → pieces_at most given bytes ≡ last_piece most (nat_lt (most.input - given) (length bytes)) (take (most.input - given) bytes)
pieces_open most given bytes past =
    ap (pieces_of most (nat_lt (most.input - given) (length bytes))) (parts_past bytes (most.input - given) past)
    ∙ only_piece most _ (take (most.input - given) bytes)

-- ---- by what comes next

-- a line within the limits
ahead_line : (most : Limits) (given : ℕ) (bytes : List ℕ) → 1 ≤ length bytes → length (first_line bytes).line ≤ most.line → given + line_size (first_line bytes) ≤ most.input
    → pieces_at most given bytes ≡ Whole (first_line bytes).line ∷ pieces_at most (given + line_size (first_line bytes)) (first_line bytes).rest
ahead_line most given bytes some short fits = by_end (first_line bytes).ends refl
  where
    f : FirstLine
    f = first_line bytes

    by_end : (b : Bool) → (first_line bytes).ends ≡ b → pieces_at most given bytes ≡ Whole f.line ∷ pieces_at most (given + line_size f) f.rest
    by_end true e =
        let size : line_size f ≡ length f.line + 1 = ap (λ b. length f.line + cond b 1 0) e in
        let there : given + length f.line + 1 ≡ given + line_size f = omega arith in
        pieces_line most given bytes e (omega arith) ∙ ap₂ (λ p k. p ∷ pieces_at most k f.rest) (piece_short most f.line short) there
    by_end false e =
        let size : line_size f ≡ length f.line + 0 = ap (λ b. length f.line + cond b 1 0) e in
        let same : f.line ≡ bytes = whole_line bytes e in
        let count : length f.line ≡ length bytes = ap length same in
        let none : f.rest ≡ [] = nothing_after bytes e in
        pieces_open most given bytes (λ ends. absurd (let clash : true ≡ false = sym ends ∙ e in let P : ⊥ = cc in P))
        ∙ ap₂ (last_piece most) (fits_in (most.input - given) (length bytes) (omega arith)) (take_all (most.input - given) bytes (omega arith))
        ∙ last_short most bytes some (omega arith)
        ∙ ap₂ (λ l ps. Whole l ∷ ps) (sym same) (sym (ap (pieces_at most (given + line_size f)) none ∙ pieces_none most (given + line_size f)))

-- the first piece is this one
abbrev pub Begins : Piece → List Piece → Type 0
Begins p pieces = (others : List Piece) × (pieces ≡ p ∷ others)

-- a line with a byte too many, before the input has one
ahead_long : (most : Limits) (given : ℕ) (bytes : List ℕ) → most.line < length (first_line bytes).line → given + most.line + 1 ≤ most.input → Begins Long (pieces_at most given bytes)
ahead_long most given bytes long before = by_end (first_line bytes).ends refl (leb (given + length (first_line bytes).line + 1) most.input) refl
  where
    f : FirstLine
    f = first_line bytes

    unended : ((first_line bytes).ends ≡ true → most.input - given ≤ length f.line) → Begins Long (pieces_at most given bytes)
    unended past =
        let all = first_length bytes in
        let taken = length-take (most.input - given) bytes in
        ([], pieces_open most given bytes past ∙ last_long most (nat_lt (most.input - given) (length bytes)) (take (most.input - given) bytes) (omega arith))

    by_end : (b : Bool) → (first_line bytes).ends ≡ b → (t : Bool) → leb (given + length f.line + 1) most.input ≡ t → Begins Long (pieces_at most given bytes)
    by_end true e true lf =
        let there : given + length f.line + 1 ≤ most.input = grind (arith, nat_tests) in
        (pieces_at most (given + length f.line + 1) f.rest, pieces_line most given bytes e there ∙ ap (λ p. p ∷ pieces_at most (given + length f.line + 1) f.rest) (piece_long most f.line long))
    by_end true e false lf =
        let past : most.input < given + length f.line + 1 = grind (arith, nat_tests) in
        unended (λ ends. omega arith)
    by_end false e t lf = unended (λ ends. absurd (let clash : true ≡ false = sym ends ∙ e in let P : ⊥ = cc in P))

-- the input has a byte too many, before a line has
ahead_much : (most : Limits) (given : ℕ) (bytes : List ℕ) → given ≤ most.input → most.input - given ≤ most.line → most.input - given < length bytes
    → ((first_line bytes).ends ≡ true → most.input - given ≤ length (first_line bytes).line) → Begins Beyond (pieces_at most given bytes)
ahead_much most given bytes few near more past =
    let taken = length-take (most.input - given) bytes in (
      [],
      pieces_open most given bytes past ∙ ap (λ t. last_piece most t (take (most.input - given) bytes)) (goes_past (most.input - given) (length bytes) more)
          ∙ last_more most (take (most.input - given) bytes) (omega arith),
    )

-- a line of the input's last bytes, which the input ends before
ahead_past : (most : Limits) (given : ℕ) (bytes : List ℕ) → given ≤ most.input → length (first_line bytes).line ≤ most.line → most.input < given + line_size (first_line bytes) → Begins Beyond (pieces_at most given bytes)
ahead_past most given bytes few short past = by_end (first_line bytes).ends refl
  where
    f : FirstLine
    f = first_line bytes

    by_end : (b : Bool) → (first_line bytes).ends ≡ b → Begins Beyond (pieces_at most given bytes)
    by_end true e =
        let size : line_size f ≡ length f.line + 1 = ap (λ b. length f.line + cond b 1 0) e in
        let all : length bytes ≡ length f.line + (1 + length f.rest) = first_length bytes ∙ ap (λ b. length f.line + cond b (1 + length f.rest) 0) e in
        ahead_much most given bytes few (omega arith) (omega arith) (λ ends. omega arith)
    by_end false e =
        let size : line_size f ≡ length f.line + 0 = ap (λ b. length f.line + cond b 1 0) e in
        let count : length f.line ≡ length bytes = ap length (whole_line bytes e) in
        ahead_much most given bytes few (omega arith) (omega arith) (λ ends. absurd (let clash : true ≡ false = sym ends ∙ e in let P : ⊥ = cc in P))

-- a line that goes past the input's limit before its own
ahead_over : (most : Limits) (given : ℕ) (bytes : List ℕ) → given ≤ most.input → most.line < length (first_line bytes).line → most.input < given + most.line + 1 → Begins Beyond (pieces_at most given bytes)
ahead_over most given bytes few long past =
    let all = first_length bytes in
    ahead_much most given bytes few (omega arith) (omega arith) (λ ends. omega arith)

-- what the pieces are, by what comes next
abbrev pub IsAhead : Limits → ℕ → List ℕ → NextLine → Type 0
IsAhead most given bytes End = pieces_at most given bytes ≡ []
IsAhead most given bytes (Line f) = (f ≡ first_line bytes) × (pieces_at most given bytes ≡ Whole f.line ∷ pieces_at most (given + line_size f) f.rest)
IsAhead most given bytes TooLong = Begins Long (pieces_at most given bytes)
IsAhead most given bytes TooMuch = Begins Beyond (pieces_at most given bytes)

pub ahead : (most : Limits) (given : ℕ) (bytes : List ℕ) → given ≤ most.input → IsAhead most given bytes (next_of most given bytes)
unfolding next_of
ahead most given [] few = pieces_none most given
ahead most given (b ∷ bs) few = by_tests (ltb most.line (length f.line)) (leb (given + most.line + 1) most.input) (leb (given + line_size f) most.input) refl refl refl
  where
    f : FirstLine
    f = first_line (b ∷ bs)

    by_tests : (x y z : Bool) → ltb most.line (length f.line) ≡ x → leb (given + most.line + 1) most.input ≡ y → leb (given + line_size f) most.input ≡ z
        → IsAhead most given (b ∷ bs) (cond x (cond y TooLong TooMuch) (cond z (Line f) TooMuch))
    by_tests true true z ex ey ez = ahead_long most given (b ∷ bs) (grind (arith, nat_tests)) (grind (arith, nat_tests))
    by_tests true false z ex ey ez = ahead_over most given (b ∷ bs) few (grind (arith, nat_tests)) (grind (arith, nat_tests))
    by_tests false y true ex ey ez = (refl, ahead_line most given (b ∷ bs) (omega arith) (grind (arith, nat_tests)) (grind (arith, nat_tests)))
    by_tests false y false ex ey ez = ahead_past most given (b ∷ bs) few (grind (arith, nat_tests)) (grind (arith, nat_tests))
