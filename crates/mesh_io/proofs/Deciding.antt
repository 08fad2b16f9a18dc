-- What the bytes at hand decide.
use Rattle.std.proofs.Common.{◌≡◌, ◌≢◌, ℕ, ◌+◌, ◌-◌, ◌<◌, ◌≤◌, Bool, true, false, cond, leb, ltb, List, [], ◌∷◌, length, take, drop, refl, sym, ap, ◌∙◌, arith, Option, Some, None, unwrap_or, ◌||◌}
use Rattle.std.proofs.lemmas.Bool.{lt-ltb, le-ltb, le-leb, lt-leb}
use Rattle.std.proofs.lemmas.List.{length-take-le}
use Rattle.std.proofs.lemmas.Bool.Decides.{nat_tests}
use Rattle.memchr.specs.Find.{IsFirstByte, is_byte}
use Rattle.mesh_io.specs.NextLines.{FirstLine, first_line, line_size, NextLine, End, Line, TooLong, TooMuch, next_by, next_of}
use Rattle.mesh_io.specs.Decisions.{decides, decision_by, decision_of, decision_past}
use Rattle.mesh_io.specs.declared.limits.Limits.{Limits}
use Rattle.mesh_io.specs.declared.decision.Decision.{Decision}
use Rattle.mesh_io.specs.declared.decision.Decision.TheVariants as decision
use Rattle.mesh_io.proofs.FirstLines.{first_is, first_whole, ends_at, ends_nowhere}

-- ---- what comes next, by the first line

pub by_long : (most : Limits) (given : ℕ) (f : FirstLine) → most.line < length f.line
    → next_by most given f ≡ cond (leb (given + most.line + 1) most.input) TooLong TooMuch
by_long most given f long =
    ap (λ b. cond b (cond (leb (given + most.line + 1) most.input) TooLong TooMuch) (cond (leb (given + line_size f) most.input) (Line f) TooMuch)) (lt-ltb most.line (length f.line) long)

pub by_short : (most : Limits) (given : ℕ) (f : FirstLine) → length f.line ≤ most.line
    → next_by most given f ≡ cond (leb (given + line_size f) most.input) (Line f) TooMuch
by_short most given f short =
    ap (λ b. cond b (cond (leb (given + most.line + 1) most.input) TooLong TooMuch) (cond (leb (given + line_size f) most.input) (Line f) TooMuch)) (le-ltb most.line (length f.line) short)

pub by_line : (most : Limits) (given : ℕ) (f : FirstLine) → length f.line ≤ most.line → given + line_size f ≤ most.input → next_by most given f ≡ Line f
by_line most given f short fits = by_short most given f short ∙ ap (λ b. cond b (Line f) TooMuch) (le-leb (given + line_size f) most.input fits)

pub by_much : (most : Limits) (given : ℕ) (f : FirstLine) → length f.line ≤ most.line → most.input < given + line_size f → next_by most given f ≡ TooMuch
by_much most given f short past = by_short most given f short ∙ ap (λ b. cond b (Line f) TooMuch) (lt-leb (given + line_size f) most.input past)

pub next_is : (most : Limits) (given : ℕ) (bytes : List ℕ) → 0 < length bytes → next_of most given bytes ≡ next_by most given (first_line bytes)
unfolding next_of
next_is most given [] some = absurd (omega arith)
next_is most given (b ∷ bs) some = refl

-- ---- when the bytes decide

pub decides_ended : (most : Limits) (given : ℕ) (ended : Bool) (bytes : List ℕ) → ended ≡ true → decides most given ended bytes ≡ true
decides_ended most given ended bytes e = ors ended (first_line bytes).ends (ltb most.line (length bytes)) (ltb most.input (given + length bytes)) e
  where
    ors : (a b c d : Bool) → a ≡ true → (a || b || c || d) ≡ true
    ors true b c d e = refl
    ors false b c d e = absurd cc

pub decides_at_end : (most : Limits) (given : ℕ) (ended : Bool) (bytes : List ℕ) → (first_line bytes).ends ≡ true → decides most given ended bytes ≡ true
decides_at_end most given ended bytes e = ors ended (first_line bytes).ends (ltb most.line (length bytes)) (ltb most.input (given + length bytes)) e
  where
    ors : (a b c d : Bool) → b ≡ true → (a || b || c || d) ≡ true
    ors true b c d e = refl
    ors false true c d e = refl
    ors false false c d e = absurd cc

pub decides_long : (most : Limits) (given : ℕ) (ended : Bool) (bytes : List ℕ) → most.line < length bytes → decides most given ended bytes ≡ true
decides_long most given ended bytes long =
    ors ended (first_line bytes).ends (ltb most.line (length bytes)) (ltb most.input (given + length bytes)) (lt-ltb most.line (length bytes) long)
  where
    ors : (a b c d : Bool) → c ≡ true → (a || b || c || d) ≡ true
    ors true b c d e = refl
    ors false true c d e = refl
    ors false false true d e = refl
    ors false false false d e = absurd cc

pub decides_much : (most : Limits) (given : ℕ) (ended : Bool) (bytes : List ℕ) → most.input < given + length bytes → decides most given ended bytes ≡ true
decides_much most given ended bytes past =
    ors ended (first_line bytes).ends (ltb most.line (length bytes)) (ltb most.input (given + length bytes)) (lt-ltb most.input (given + length bytes) past)
  where
    ors : (a b c d : Bool) → d ≡ true → (a || b || c || d) ≡ true
    ors true b c d e = refl
    ors false true c d e = refl
    ors false false true d e = refl
    ors false false false d e = e

pub undecided : (most : Limits) (given : ℕ) (ended : Bool) (bytes : List ℕ) → ended ≡ false → (first_line bytes).ends ≡ false
    → length bytes ≤ most.line → given + length bytes ≤ most.input → decides most given ended bytes ≡ false
undecided most given ended bytes a b c d =
    ors ended (first_line bytes).ends (ltb most.line (length bytes)) (ltb most.input (given + length bytes)) a b
    (le-ltb most.line (length bytes) c) (le-ltb most.input (given + length bytes) d)
  where
    ors : (a b c d : Bool) → a ≡ false → b ≡ false → c ≡ false → d ≡ false → (a || b || c || d) ≡ false
    ors true b c d p q r s = absurd cc
    ors false true c d p q r s = absurd cc
    ors false false true d p q r s = absurd cc
    ors false false false d p q r s = s

-- ---- the decision

pub decision_closed : (most : Limits) (given : ℕ) (ended : Bool) (bytes : List ℕ) → decides most given ended bytes ≡ true
    → decision_of most given ended bytes ≡ decision_by (next_of most given bytes)
unfolding decision_of
decision_closed most given ended bytes e = ap (λ b. cond b (decision_by (next_of most given bytes)) decision.Open) e

pub decision_open : (most : Limits) (given : ℕ) (ended : Bool) (bytes : List ℕ) → decides most given ended bytes ≡ false
    → decision_of most given ended bytes ≡ decision.Open
unfolding decision_of
decision_open most given ended bytes e = ap (λ b. cond b (decision_by (next_of most given bytes)) decision.Open) e

decision_next : (most : Limits) (given : ℕ) (ended : Bool) (bytes : List ℕ) (next : NextLine) → decides most given ended bytes ≡ true → 0 < length bytes
    → next_by most given (first_line bytes) ≡ next → decision_of most given ended bytes ≡ decision_by next
decision_next most given ended bytes next d some e =
    decision_closed most given ended bytes d ∙ ap decision_by (next_is most given bytes some ∙ e)

pub decision_long : (most : Limits) (given : ℕ) (ended : Bool) (bytes : List ℕ) → given ≤ most.input → most.line < length (first_line bytes).line
    → decision_past most (most.input - given) ≡ decision_of most given ended bytes
decision_long most given ended bytes few long =
    let f = first_line bytes in
    let within = (first_is bytes).within in
    let prefix : length f.line ≤ line_size f = longer f in
    sym (
    decision_next most given ended bytes _ (decides_long most given ended bytes (omega arith)) (omega arith) (by_long most given f long)
    ∙ same (leb (given + most.line + 1) most.input) ∙ ap (λ b. cond b decision.TooLong decision.TooMuch) tests)
  where
    longer : (f : FirstLine) → length f.line ≤ line_size f
    longer f = omega arith

    same : (b : Bool) → decision_by (cond b TooLong TooMuch) ≡ cond b decision.TooLong decision.TooMuch
    same true = refl
    same false = refl

    tests : leb (given + most.line + 1) most.input ≡ ltb most.line (most.input - given)
    tests = grind (arith, nat_tests)

pub decision_line : (most : Limits) (given : ℕ) (ended : Bool) (bytes : List ℕ) (n : ℕ) → first_line bytes ≡ record { line = take n bytes; ends = true; rest = drop (n + 1) bytes }
    → n < length bytes → n ≤ most.line → given + n + 1 ≤ most.input → decision_of most given ended bytes ≡ decision.Line n (n + 1)
decision_line most given ended bytes n e lt short fits =
    let f : FirstLine = record { line = take n bytes; ends = true; rest = drop (n + 1) bytes } in
    let len : length (take n bytes) ≡ n = length-take-le n bytes (omega arith) in
    decision_next most given ended bytes (Line f) (decides_at_end most given ended bytes (ap (λ f. f.ends) e)) (omega arith)
    (ap (next_by most given) e ∙ by_line most given f (omega arith) (omega arith)) ∙ ap (λ k. decision.Line k (k + 1)) len

pub decision_much_at : (most : Limits) (given : ℕ) (ended : Bool) (bytes : List ℕ) (n : ℕ) → first_line bytes ≡ record { line = take n bytes; ends = true; rest = drop (n + 1) bytes }
    → n < length bytes → n ≤ most.line → most.input < given + n + 1 → decision_of most given ended bytes ≡ decision.TooMuch
decision_much_at most given ended bytes n e lt short past =
    let f : FirstLine = record { line = take n bytes; ends = true; rest = drop (n + 1) bytes } in
    let len : length (take n bytes) ≡ n = length-take-le n bytes (omega arith) in
    decision_next most given ended bytes TooMuch (decides_at_end most given ended bytes (ap (λ f. f.ends) e)) (omega arith)
    (ap (next_by most given) e ∙ by_much most given f (omega arith) (omega arith))

pub decision_much : (most : Limits) (given : ℕ) (ended : Bool) (bytes : List ℕ) → (first_line bytes).ends ≡ false
    → given ≤ most.input → length bytes ≤ most.line → most.input < given + length bytes → decision_of most given ended bytes ≡ decision.TooMuch
decision_much most given ended bytes e few short past =
    let f : FirstLine = record { line = bytes; ends = false; rest = [] } in
    decision_next most given ended bytes TooMuch (decides_much most given ended bytes past) (omega arith)
    (ap (next_by most given) (first_whole bytes e) ∙ by_much most given f short (omega arith))

pub decision_last : (most : Limits) (given : ℕ) (ended : Bool) (bytes : List ℕ) → (first_line bytes).ends ≡ false → ended ≡ true
    → 0 < length bytes → length bytes ≤ most.line → given + length bytes ≤ most.input → decision_of most given ended bytes ≡ decision.Line (length bytes) (length bytes)
decision_last most given ended bytes e end some short fits =
    let f : FirstLine = record { line = bytes; ends = false; rest = [] } in
    let size : line_size f ≡ length bytes = omega arith in
    decision_next most given ended bytes (Line f) (decides_ended most given ended bytes end) some
    (ap (next_by most given) (first_whole bytes e) ∙ by_line most given f short (omega arith)) ∙ ap (decision.Line (length bytes)) size

pub decision_end : (most : Limits) (given : ℕ) (ended : Bool) (bytes : List ℕ) → ended ≡ true → length bytes ≡ 0 → decision_of most given ended bytes ≡ decision.End
unfolding next_of
decision_end most given ended [] end none = decision_closed most given ended [] (decides_ended most given ended [] end)
decision_end most given ended (b ∷ bs) end none = absurd (omega arith)

-- ---- by the answer of a search for an LF

pub longest_of : (most : Limits) (bytes : List ℕ) (r : Option ℕ) (len : ℕ) → IsFirstByte (is_byte 10) bytes r → len ≡ unwrap_or r (length bytes) → most.line < len
    → most.line < length (first_line bytes).line
longest_of most bytes None len none e long =
    let whole = ap (λ f. length f.line) (first_whole bytes (ends_nowhere bytes none)) in omega arith
longest_of most bytes (Some n) len found e long =
    let whole = ap (λ f. length f.line) (ends_at bytes n found.0.high found.0.before found.1) in
    let size = length-take-le n bytes (let low = found.0.high in omega arith) in omega arith

-- ---- open or not

pub open_is : (most : Limits) (given : ℕ) (ended : Bool) (bytes : List ℕ) (d : Decision) → d ≡ decision_of most given ended bytes
    → d ≡ decision.Open → decides most given ended bytes ≡ false
unfolding decision_of
open_is most given ended bytes d e is = by_test (decides most given ended bytes) (next_of most given bytes) (sym e ∙ is)
  where
    by_test : (t : Bool) (next : NextLine) → cond t (decision_by next) decision.Open ≡ decision.Open → t ≡ false
    by_test true End e = absurd cc
    by_test true (Line f) e = absurd cc
    by_test true TooLong e = absurd cc
    by_test true TooMuch e = absurd cc
    by_test false next e = refl

pub closed_is : (most : Limits) (given : ℕ) (ended : Bool) (bytes : List ℕ) (d : Decision) → d ≡ decision_of most given ended bytes
    → d ≢ decision.Open → decides most given ended bytes ≡ true
unfolding decision_of
closed_is most given ended bytes d e closed = by_test (decides most given ended bytes) (next_of most given bytes) (λ o. closed (e ∙ o))
  where
    by_test : (t : Bool) (next : NextLine) → cond t (decision_by next) decision.Open ≢ decision.Open → t ≡ true
    by_test true next e = refl
    by_test false next e = absurd (e refl)
