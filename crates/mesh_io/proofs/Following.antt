-- What the bytes at hand decide stays so whatever comes after them.
use Rattle.std.proofs.Common.{◌≡◌, ◌≢◌, ℕ, ◌+◌, ◌<◌, ◌≤◌, Bool, true, false, cond, leb, ltb, List, [], ◌∷◌, ◌++◌, length, take, eqb, inl, inr, refl, sym, ap, ◌∙◌, arith, append-nil, length-append, ◌||◌}
use Rattle.std.proofs.lemmas.Bool.{cases_lt, lt-leb}
use Rattle.std.proofs.lemmas.Bool.Decides.{nat_tests}
use Rattle.std.proofs.lemmas.List.{length-take-le}
use Rattle.mesh_io.specs.NextLines.{FirstLine, first_line, with_byte, line_size, NextLine, End, Line, TooLong, TooMuch, next_by, next_of}
use Rattle.mesh_io.specs.Decisions.{decides, decision_by, decision_of}
use Rattle.mesh_io.specs.Cutting.{IsCounted}
use Rattle.mesh_io.specs.declared.limits.Limits.{Limits}
use Rattle.mesh_io.specs.declared.decision.Decision.{Decision}
use Rattle.mesh_io.specs.declared.decision.Decision.TheVariants as decision
use Rattle.mesh_io.proofs.FirstLines.{with_rest, after, first_ended, first_open, first_whole, first_is}
use Rattle.mesh_io.proofs.Deciding.{by_long, by_much, next_is}

-- a line found, with these bytes behind it
abbrev pub next_with : List ℕ → NextLine → NextLine
next_with rest End = End
next_with rest (Line f) = Line (with_rest rest f)
next_with rest TooLong = TooLong
next_with rest TooMuch = TooMuch

next_with-nil : (next : NextLine) → next_with [] next ≡ next
next_with-nil End = refl
next_with-nil (Line f) = ap (λ r. Line (record f { rest = r })) (append-nil f.rest)
next_with-nil TooLong = refl
next_with-nil TooMuch = refl

longer : (xs ys : List ℕ) → length xs ≤ length (xs ++ ys)
longer xs ys = let len = length-append xs ys in omega arith

-- why the bytes at hand decide
by_reasons : {P : Type 0} (a b c d : Bool) → (a || b || c || d) ≡ true → (a ≡ true → P) → (b ≡ true → P) → (b ≡ false → c ≡ true → P)
    → (b ≡ false → c ≡ false → d ≡ true → P) → P
by_reasons true b c d e p q r s = p refl
by_reasons false true c d e p q r s = q refl
by_reasons false false true d e p q r s = r refl refl
by_reasons false false false true e p q r s = s refl refl refl
by_reasons false false false false e p q r s = absurd cc

-- bytes with an LF
some_bytes : (bytes : List ℕ) → (first_line bytes).ends ≡ true → 0 < length bytes
some_bytes [] e = absurd cc
some_bytes (b ∷ bs) e = omega arith

by_rest : (most : Limits) (given : ℕ) (rest : List ℕ) (f : FirstLine) → next_by most given (with_rest rest f) ≡ next_with rest (next_by most given f)
by_rest most given rest f =
    by_tests (ltb most.line (length f.line)) (leb (given + most.line + 1) most.input) (leb (given + line_size f) most.input)
  where
    by_tests : (a b c : Bool) → cond a (cond b TooLong TooMuch) (cond c (Line (with_rest rest f)) TooMuch)
        ≡ next_with rest (cond a (cond b TooLong TooMuch) (cond c (Line f) TooMuch))
    by_tests true true c = refl
    by_tests true false c = refl
    by_tests false b true = refl
    by_tests false b false = refl

next_ended : (most : Limits) (given : ℕ) (bytes rest : List ℕ) → (first_line bytes).ends ≡ true
    → next_of most given (bytes ++ rest) ≡ next_with rest (next_of most given bytes)
next_ended most given bytes rest e =
    let some = some_bytes bytes e in
    let more = longer bytes rest in
    next_is most given (bytes ++ rest) (omega arith) ∙ ap (next_by most given) (first_ended bytes rest e)
    ∙ by_rest most given rest (first_line bytes) ∙ ap (next_with rest) (sym (next_is most given bytes some))

next_long : (most : Limits) (given : ℕ) (bytes rest : List ℕ) → (first_line bytes).ends ≡ false → most.line < length bytes
    → next_of most given (bytes ++ rest) ≡ next_with rest (next_of most given bytes)
next_long most given bytes rest e long =
    let t = leb (given + most.line + 1) most.input in
    let more = longer bytes rest in
    let further = longer bytes (first_line rest).line in
    next_is most given (bytes ++ rest) (omega arith) ∙ ap (next_by most given) (first_open bytes rest e)
    ∙ by_long most given (after bytes (first_line rest)) (omega arith) ∙ sym (
    ap (next_with rest) (next_is most given bytes (omega arith) ∙ ap (next_by most given) (first_whole bytes e) ∙ by_long most given (record { line = bytes; ends = false; rest = [] }) long)
    ∙ same t)
  where
    same : (b : Bool) → next_with rest (cond b TooLong TooMuch) ≡ cond b TooLong TooMuch
    same true = refl
    same false = refl

next_much : (most : Limits) (given : ℕ) (bytes rest : List ℕ) → given ≤ most.input → (first_line bytes).ends ≡ false → length bytes ≤ most.line → most.input < given + length bytes
    → next_of most given (bytes ++ rest) ≡ next_with rest (next_of most given bytes)
next_much most given bytes rest few e short past =
    let f : FirstLine = record { line = bytes; ends = false; rest = [] } in
    let more = longer bytes rest in
    let further = longer bytes (first_line rest).line in
    next_is most given (bytes ++ rest) (omega arith) ∙ ap (next_by most given) (first_open bytes rest e) ∙ much (after bytes (first_line rest)) further
    ∙ sym (ap (next_with rest) (next_is most given bytes (omega arith) ∙ ap (next_by most given) (first_whole bytes e) ∙ by_much most given f short (omega arith)))
  where
    much : (f : FirstLine) → length bytes ≤ length f.line → next_by most given f ≡ TooMuch
    much f further = elim (cases_lt most.line (length f.line)) [
      | inl long ↦ by_long most given f long ∙ ap (λ b. cond b TooLong TooMuch) (lt-leb (given + most.line + 1) most.input (omega arith))
      | inr short ↦ by_much most given f short (omega arith)
    ]

pub next_same : (most : Limits) (given : ℕ) (ended : Bool) (bytes rest : List ℕ) → given ≤ most.input → decides most given ended bytes ≡ true → (ended ≡ true → rest ≡ [])
    → next_of most given (bytes ++ rest) ≡ next_with rest (next_of most given bytes)
next_same most given ended bytes rest few d none =
    by_reasons ended (first_line bytes).ends (ltb most.line (length bytes)) (ltb most.input (given + length bytes)) d
    (λ a. ap (λ r. next_of most given (bytes ++ r)) (none a) ∙ ap (next_of most given) (append-nil bytes)
    ∙ sym (ap (λ r. next_with r (next_of most given bytes)) (none a) ∙ next_with-nil (next_of most given bytes)))
    (λ b. next_ended most given bytes rest b)
    (λ b c. next_long most given bytes rest b (below most.line (length bytes) c))
    (λ b c d. next_much most given bytes rest few b (not_below most.line (length bytes) c) (below most.input (given + length bytes) d))
  where
    below : (x y : ℕ) → ltb x y ≡ true → x < y
    below x y e = grind (arith, nat_tests)

    not_below : (x y : ℕ) → ltb x y ≡ false → y ≤ x
    not_below x y e = grind (arith, nat_tests)

-- bytes within the limits that have no LF decide only where none come after them
ended_by : (most : Limits) (given : ℕ) (ended : Bool) (bytes : List ℕ) → decides most given ended bytes ≡ true → (first_line bytes).ends ≡ false
    → length bytes ≤ most.line → given + length bytes ≤ most.input → ended ≡ true
ended_by most given ended bytes d none short few =
    by_reasons ended (first_line bytes).ends (ltb most.line (length bytes)) (ltb most.input (given + length bytes)) d
    (λ a. a) (λ b. absurd (let clash : true ≡ false = sym b ∙ none in cc)) (λ b c. absurd (grind (arith, nat_tests))) (λ b c e. absurd (grind (arith, nat_tests)))

-- ---- what a decision says

-- a decision of a line
pub record DecidesLine (most : Limits) (given : ℕ) (ended : Bool) (bytes : List ℕ) (len size : ℕ) : Type 0 where
  pub closed : decides most given ended bytes ≡ true
  pub next : next_of most given bytes ≡ Line (first_line bytes)
  pub len_is : len ≡ length (first_line bytes).line
  pub size_is : size ≡ line_size (first_line bytes)
  pub some : 1 ≤ size
  pub few : given + size ≤ most.input
  pub short : len ≤ most.line
  pub last : (first_line bytes).ends ≡ false → ended ≡ true

some_size : (b : ℕ) (bs : List ℕ) → 1 ≤ line_size (first_line (b ∷ bs))
some_size b bs = by_test (eqb b 10)
  where
    by_test : (t : Bool) → 1 ≤ line_size (cond t (record { line = []; ends = true; rest = bs }) (with_byte b (first_line bs)))
    by_test true = omega arith
    by_test false = omega arith

pub decides_line : (most : Limits) (given : ℕ) (ended : Bool) (bytes : List ℕ) (d : Decision) (len size : ℕ) → d ≡ decision_of most given ended bytes
    → d ≡ decision.Line len size → DecidesLine most given ended bytes len size
unfolding decision_of next_of
decides_line most given ended [] d len size e is = absurd (by_test (decides most given ended []) (sym e ∙ is))
  where
    by_test : (t : Bool) → cond t decision.End decision.Open ≢ decision.Line len size
    by_test true e = absurd cc
    by_test false e = absurd cc
decides_line most given ended (b ∷ bs) d len size e is =
    by_tests (decides most given ended (b ∷ bs)) (ltb most.line (length f.line)) (leb (given + most.line + 1) most.input) (leb (given + line_size f) most.input)
    refl refl refl (sym e ∙ is)
  where
    f : FirstLine
    f = first_line (b ∷ bs)

    by_tests : (t x y z : Bool) → decides most given ended (b ∷ bs) ≡ t → ltb most.line (length f.line) ≡ x → leb (given + line_size f) most.input ≡ z
        → cond t (decision_by (cond x (cond y TooLong TooMuch) (cond z (Line f) TooMuch))) decision.Open ≡ decision.Line len size
        → DecidesLine most given ended (b ∷ bs) len size
    by_tests true false y true et ex ez e =
        let some = some_size b bs in
        let len_is : len ≡ length f.line = cc in
        let size_is : size ≡ line_size f = cc in record {
          closed = et;
          next = ap (λ t. cond t (cond (leb (given + most.line + 1) most.input) TooLong TooMuch) (cond (leb (given + line_size f) most.input) (Line f) TooMuch)) ex
              ∙ ap (λ t. cond t (Line f) TooMuch) ez;
          len_is = len_is;
          size_is = size_is;
          some = omega arith;
          few = let fits : given + line_size f ≤ most.input = grind (arith, nat_tests) in omega arith;
          short = let low : length f.line ≤ most.line = grind (arith, nat_tests) in omega arith;
          last = λ none.
              let low : length f.line ≤ most.line = grind (arith, nat_tests) in
              let fits : given + line_size f ≤ most.input = grind (arith, nat_tests) in
              let all : length f.line ≡ length (b ∷ bs) = ap (λ x. length x.line) (first_whole (b ∷ bs) none) in
              ended_by most given ended (b ∷ bs) et none (omega arith) (omega arith);
        }
    by_tests true true true z et ex ez e = absurd cc
    by_tests true true false z et ex ez e = absurd cc
    by_tests true false y false et ex ez e = absurd cc
    by_tests false x y z et ex ez e = absurd cc

-- a line that is given is counted with its LF, or is the last
pub counted_by : (most : Limits) (before given after : ℕ) (ended ended' : Bool) (bytes line : List ℕ) (len size : ℕ) → DecidesLine most given ended bytes len size
    → given ≡ before → after ≡ given + size → ended' ≡ ended → line ≡ take len bytes → IsCounted (length line) before after ended'
counted_by most before given after ended ended' bytes line len size d same more stays shown =
    let whole = first_is bytes in
    let within = whole.within in
    let len_is = d.len_is in
    let size_is = d.size_is in
    let some : length line ≡ len = ap length shown ∙ length-take-le len bytes (omega arith) in
    by_end (first_line bytes).ends refl some
  where
    by_end : (b : Bool) → (first_line bytes).ends ≡ b → length line ≡ len → IsCounted (length line) before after ended'
    by_end true e some =
        let len_is = d.len_is in
        let lf : size ≡ length (first_line bytes).line + 1 = d.size_is ∙ ap (λ b. length (first_line bytes).line + cond b 1 0) e in
        inl (omega arith)
    by_end false e some =
        let len_is = d.len_is in
        let none : size ≡ length (first_line bytes).line + 0 = d.size_is ∙ ap (λ b. length (first_line bytes).line + cond b 1 0) e in
        inr (omega arith, stays ∙ d.last e)

-- the input ends only where it has ended and no bytes are at hand
pub decides_end : (most : Limits) (given : ℕ) (ended : Bool) (bytes : List ℕ) (d : Decision) → given ≤ most.input → d ≡ decision_of most given ended bytes
    → d ≡ decision.End → (bytes ≡ []) × (ended ≡ true)
unfolding decision_of next_of
decides_end most given true [] d few e is = (refl, refl)
decides_end most given false [] d few e is = absurd (by_tests (ltb most.line 0) (ltb most.input (given + 0)) (grind (arith, nat_tests)) (grind (arith, nat_tests)) (sym e ∙ is))
  where
    by_tests : (x y : Bool) → x ≡ false → y ≡ false → cond (false || false || x || y) decision.End decision.Open ≢ decision.End
    by_tests true y p q e = absurd cc
    by_tests false true p q e = absurd cc
    by_tests false false p q e = absurd cc
decides_end most given ended (b ∷ bs) d few e is =
    absurd (by_tests (decides most given ended (b ∷ bs)) (ltb most.line (length f.line)) (leb (given + most.line + 1) most.input) (leb (given + line_size f) most.input) (sym e ∙ is))
  where
    f : FirstLine
    f = first_line (b ∷ bs)

    by_tests : (t x y z : Bool) → cond t (decision_by (cond x (cond y TooLong TooMuch) (cond z (Line f) TooMuch))) decision.Open ≢ decision.End
    by_tests true true true z e = absurd cc
    by_tests true true false z e = absurd cc
    by_tests true false y true e = absurd cc
    by_tests true false y false e = absurd cc
    by_tests false x y z e = absurd cc

-- a refusal
pub decides_long : (most : Limits) (given : ℕ) (ended : Bool) (bytes : List ℕ) (d : Decision) → d ≡ decision_of most given ended bytes
    → d ≡ decision.TooLong → (decides most given ended bytes ≡ true) × (next_of most given bytes ≡ TooLong)
unfolding decision_of
decides_long most given ended bytes d e is = by_test (decides most given ended bytes) (next_of most given bytes) (sym e ∙ is)
  where
    by_test : (t : Bool) (next : NextLine) → cond t (decision_by next) decision.Open ≡ decision.TooLong → (t ≡ true) × (next ≡ TooLong)
    by_test true End e = absurd cc
    by_test true (Line f) e = absurd cc
    by_test true TooLong e = (refl, refl)
    by_test true TooMuch e = absurd cc
    by_test false next e = absurd cc

pub decides_much : (most : Limits) (given : ℕ) (ended : Bool) (bytes : List ℕ) (d : Decision) → d ≡ decision_of most given ended bytes
    → d ≡ decision.TooMuch → (decides most given ended bytes ≡ true) × (next_of most given bytes ≡ TooMuch)
unfolding decision_of
decides_much most given ended bytes d e is = by_test (decides most given ended bytes) (next_of most given bytes) (sym e ∙ is)
  where
    by_test : (t : Bool) (next : NextLine) → cond t (decision_by next) decision.Open ≡ decision.TooMuch → (t ≡ true) × (next ≡ TooMuch)
    by_test true End e = absurd cc
    by_test true (Line f) e = absurd cc
    by_test true TooLong e = absurd cc
    by_test true TooMuch e = (refl, refl)
    by_test false next e = absurd cc
