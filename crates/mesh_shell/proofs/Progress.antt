-- How far a run has come in its input: the lines that were done, and the bytes that are to come.
use Rattle.std.proofs.Common.{◌≡◌, ℕ, ◌+◌, ◌≤◌, ◌⊎◌, inl, inr, Bool, true, false, cond, eqb, ltb, leb, List, [], ◌∷◌, ◌++◌, Option, Some, None, Ok, Err, length, length-append, refl, sym, ap, ap₂, subst, ◌∙◌, append_assoc, append-nil, arith}
use Rattle.std.specs.Prelude.{IfSome}
use Rattle.std.specs.Io.KnownBytes.{prepend_known}
use Rattle.std.proofs.lemmas.Bool.Decides.{nat_tests}
use Rattle.mesh_io.specs.NextLines.{FirstLine, first_line, with_byte, line_size, End, Line, TooLong as LineTooLong, TooMuch as LineTooMuch, next_of}
use Rattle.mesh_io.specs.Cutting.{Tells, FindsLine, IsCounted, HasNoLf}
use Rattle.mesh_io.specs.declared.limits.Limits.{Limits}
use Rattle.mesh_io.specs.declared.line_error.LineError.TheVariants as error
use Rattle.mesh_io.proofs.FirstParts.{whole_line, nothing_after}
use Rattle.mesh_io.proofs.FirstLines.{first_open}
use Rattle.mesh_shell.specs.Pieces.{Piece, Whole, Long, Beyond, pieces_within}
use Rattle.mesh_shell.specs.Outputs.{EndsWithLf}
use Rattle.mesh_shell.specs.Runs.{IsCutAt}
use Rattle.mesh_shell.proofs.Pieces.{pieces_at, pieces_at_front, pieces_none, IsAhead, Begins, ahead}
use Rattle.mesh_shell.proofs.Completes.{ended_is, one_more}

-- ---- a line and whatever follows it

-- the first line of some bytes has no LF
line_open : (bytes : List ℕ) → HasNoLf (first_line bytes).line
line_open [] = refl
line_open (b ∷ bs) = by_test (eqb b 10) refl (first_line bs) (line_open bs)
  where
    by_test : (t : Bool) → eqb b 10 ≡ t → (f : FirstLine) → HasNoLf f.line → HasNoLf (cond t (record { line = []; ends = true; rest = bs }) (with_byte b f)).line
    by_test true e f h = refl
    by_test false e f h = ap (λ c. (cond c (record { line = []; ends = true; rest = f.line }) (with_byte b (first_line f.line))).ends) e ∙ h

first_with : (l rest : List ℕ) → HasNoLf l → first_line ((l ++ 10 ∷ []) ++ rest) ≡ record { line = l; ends = true; rest = rest }
first_with l rest none =
    ap first_line (append_assoc l (10 ∷ []) rest) ∙ first_open l (10 ∷ rest) none ∙ ap (λ x. record { line = x; ends = true; rest = rest }) (append-nil l)

-- within the limits a line is what comes next
comes_next : (most : Limits) (given : ℕ) (bytes : List ℕ) → 1 ≤ length bytes → length (first_line bytes).line ≤ most.line → given + line_size (first_line bytes) ≤ most.input
    → next_of most given bytes ≡ Line (first_line bytes)
unfolding next_of
comes_next most given [] some short fits = absurd (omega arith)
comes_next most given (b ∷ bs) some short fits = by_tests (ltb most.line (length f.line)) (leb (given + line_size f) most.input) refl refl
  where
    f : FirstLine
    f = first_line (b ∷ bs)

    by_tests : (x z : Bool) → ltb most.line (length f.line) ≡ x → leb (given + line_size f) most.input ≡ z
        → cond x (cond (leb (given + most.line + 1) most.input) LineTooLong LineTooMuch) (cond z (Line f) LineTooMuch) ≡ Line f
    by_tests true z ex ez = absurd (grind (arith, nat_tests))
    by_tests false true ex ez = refl
    by_tests false false ex ez = absurd (grind (arith, nat_tests))

pieces_with : (most : Limits) (given : ℕ) (l rest : List ℕ) → HasNoLf l → length l ≤ most.line → given + (length l + 1) ≤ most.input
    → pieces_at most given ((l ++ 10 ∷ []) ++ rest) ≡ Whole l ∷ pieces_at most (given + (length l + 1)) rest
pieces_with most given l rest none short fits =
    let bytes : List ℕ = (l ++ 10 ∷ []) ++ rest in
    let f : FirstLine = record { line = l; ends = true; rest = rest } in
    let first : first_line bytes ≡ f = first_with l rest none in
    let line : length (first_line bytes).line ≡ length l = ap (λ (x : FirstLine). length x.line) first in
    let size : line_size (first_line bytes) ≡ length l + 1 = ap line_size first in
    let next : next_of most given bytes ≡ Line (first_line bytes) =
    comes_next most given bytes (omega (arith, length-append (l ++ 10 ∷ []) rest, length-append l (10 ∷ []))) (omega (arith, line)) (omega (arith, size)) in
    let a : IsAhead most given bytes (Line (first_line bytes)) = subst (IsAhead most given bytes) next (ahead most given bytes (omega arith)) in
    a.1 ∙ ap (λ (x : FirstLine). Whole x.line ∷ pieces_at most (given + line_size x) x.rest) first

-- ---- progress

-- the lines so far each had its LF, and these are they: whatever follows them comes after them
pub record AreDone (most : Limits) (done : List Piece) (front : List ℕ) : Type 0 where
  pub whole_lines : EndsWithLf front
  pub goes : (rest : List ℕ) → pieces_within most (front ++ rest) ≡ done ++ pieces_at most (length front) rest

-- these lines of a text were done; the others are to come
pub record Progress (most : Limits) (text to_come : List ℕ) (given : ℕ) (ended : Bool) (done : List Piece) : Type 0 where
  pub front : List ℕ
  pub split : text ≡ front ++ to_come
  pub count : length front ≡ given
  pub all : pieces_within most text ≡ done ++ pieces_at most given to_come
  -- the last line alone may have no LF
  pub last : ((ended ≡ true) × (to_come ≡ [])) ⊎ AreDone most done front

-- where the source tells its bytes
abbrev pub IsProgress : Limits → Option (List ℕ) → Option (List ℕ) → ℕ → Bool → List Piece → Type 0
IsProgress most None to_come given ended done = Unit {0}
IsProgress most (Some text) None given ended done = ⊥
IsProgress most (Some text) (Some bytes) given ended done = Progress most text bytes given ended done

pub begins : (most : Limits) (left : Option (List ℕ)) (pending : List ℕ) (given : ℕ) (ended : Bool) → pending ≡ [] → given ≡ 0 → IsProgress most left (prepend_known pending left) given ended []
begins most None pending given ended none zero_is = tt
begins most (Some text) pending given ended none zero_is =
    subst (λ (p : List ℕ). Progress most text (p ++ text) given ended []) (sym none)
    (subst (λ (n : ℕ). Progress most text text n ended []) (sym zero_is) (record {
      front = [];
      split = refl;
      count = refl;
      all = pieces_at_front most text;
      last = inr (record { whole_lines = inl refl; goes = λ rest. pieces_at_front most rest });
    }))

-- ---- one line more

-- an end of the bytes has no next line
none_next : (most : Limits) (given : ℕ) (bytes : List ℕ) (f : FirstLine) → bytes ≡ [] → next_of most given bytes ≡ Line f → ⊥
unfolding next_of
none_next most given bytes f none next = let clash : End ≡ Line f = sym (ap (next_of most given) none) ∙ next in let P : ⊥ = cc in P

-- the lines so far and this one
done_more : (most : Limits) (done : List Piece) (front l : List ℕ) → AreDone most done front → HasNoLf l → length l ≤ most.line → length front + (length l + 1) ≤ most.input → AreDone most (done ++ Whole l ∷ []) (front ++ (l ++ 10 ∷ []))
done_more most done front l are none short few =
    let taken : List ℕ = l ++ 10 ∷ [] in
    let size : length (front ++ taken) ≡ length front + (length l + 1) = omega (arith, length-append front taken, length-append l (10 ∷ [])) in
    record {
      whole_lines = one_more front l;
      goes = λ rest.
          ap (pieces_within most) (append_assoc front taken rest) ∙ are.goes (taken ++ rest)
          ∙ ap (λ (ps : List Piece). done ++ ps) (pieces_with most (length front) l rest none short few)
          ∙ sym (append_assoc done (Whole l ∷ []) (pieces_at most (length front + (length l + 1)) rest))
          ∙ ap (λ k. (done ++ Whole l ∷ []) ++ pieces_at most k rest) (sym size);
    }

open_ended : (len given after size : ℕ) (ended : Bool) → size ≡ len + 0 → after ≡ given + size → IsCounted len given after ended → ended ≡ true
open_ended len given after size ended is more (inl lf) = absurd (omega arith)
open_ended len given after size ended is more (inr last) = last.1

line_told : (most : Limits) (text bytes line : List ℕ) (given after : ℕ) (ended ended' : Bool) (left : Option (List ℕ)) (done : List Piece)
    → given ≤ most.input → after ≤ most.input → length line ≤ most.line → Progress most text bytes given ended done → FindsLine most given bytes line after left
    → IsCounted (length line) given after ended' → IsProgress most (Some text) left after ended' (done ++ Whole line ∷ [])
line_told most text bytes line given after ended ended' left done few fits short s told counted =
    let a : IsAhead most given bytes (Line told.first) = subst (IsAhead most given bytes) told.next (ahead most given bytes few) in
    let f : FirstLine = first_line bytes in
    let line_is : line ≡ f.line = told.line_is ∙ ap (λ (x : FirstLine). x.line) a.0 in
    let after_is : after ≡ given + line_size f = told.after_is ∙ ap (λ x. given + line_size x) a.0 in
    let left_is : left ≡ Some f.rest = told.left_is ∙ ap (λ (x : FirstLine). Some x.rest) a.0 in
    let pieces : pieces_at most given bytes ≡ Whole f.line ∷ pieces_at most after f.rest =
    a.1 ∙ ap (λ (x : FirstLine). Whole x.line ∷ pieces_at most (given + line_size x) x.rest) a.0 ∙ ap (λ k. Whole f.line ∷ pieces_at most k f.rest) (sym after_is) in
    let all : pieces_within most text ≡ (done ++ Whole f.line ∷ []) ++ pieces_at most after f.rest =
    s.all ∙ ap (λ (ps : List Piece). done ++ ps) pieces ∙ sym (append_assoc done (Whole f.line ∷ []) (pieces_at most after f.rest)) in
    let low : length f.line ≤ most.line = subst (λ l. length l ≤ most.line) line_is short in
    subst (λ (o : Option (List ℕ)). IsProgress most (Some text) o after ended' (done ++ Whole line ∷ [])) (sym left_is)
    (subst (λ (l : List ℕ). Progress most text f.rest after ended' (done ++ Whole l ∷ [])) (sym line_is) (by_end f.ends refl line_is after_is all low))
  where
    f : FirstLine
    f = first_line bytes

    are_done : AreDone most done s.front
    are_done = by_last s.last
      where
        by_last : ((ended ≡ true) × (bytes ≡ [])) ⊎ AreDone most done s.front → AreDone most done s.front
        by_last (inl closed) = absurd (none_next most given bytes told.first closed.1 told.next)
        by_last (inr are) = are

    by_end : (b : Bool) → f.ends ≡ b → line ≡ f.line → after ≡ given + line_size f → pieces_within most text ≡ (done ++ Whole f.line ∷ []) ++ pieces_at most after f.rest → length f.line ≤ most.line
        → Progress most text f.rest after ended' (done ++ Whole f.line ∷ [])
    by_end true e line_is after_is all low =
        let taken : List ℕ = f.line ++ 10 ∷ [] in
        let size : line_size f ≡ length f.line + 1 = ap (λ b. length f.line + cond b 1 0) e in
        let before_is = s.count in
        record {
          front = s.front ++ taken;
          split = s.split ∙ ap (λ l. s.front ++ l) (ended_is bytes e) ∙ sym (append_assoc s.front taken f.rest);
          count = omega (arith, length-append s.front taken, length-append f.line (10 ∷ []));
          all = all;
          last = inr (done_more most done s.front f.line are_done (line_open bytes) low (omega arith));
        }
    by_end false e line_is after_is all low =
        let size : line_size f ≡ length f.line + 0 = ap (λ b. length f.line + cond b 1 0) e in
        let same : length line ≡ length f.line = ap length line_is in
        let whole_is : bytes ≡ f.line ++ f.rest = sym (ap₂ (λ l r. l ++ r) (whole_line bytes e) (nothing_after bytes e) ∙ append-nil bytes) in
        record {
          front = s.front ++ f.line;
          split = s.split ∙ ap (λ l. s.front ++ l) whole_is ∙ sym (append_assoc s.front f.line f.rest);
          count = let before = s.count in omega (arith, length-append s.front f.line);
          all = all;
          last = inl (open_ended (length line) given after (line_size f) ended' (omega arith) after_is counted, nothing_after bytes e);
        }

pub goes : (most : Limits) (left to_come after : Option (List ℕ)) (line : List ℕ) (given given' : ℕ) (ended ended' : Bool) (done : List Piece) → given ≤ most.input → given' ≤ most.input → length line ≤ most.line → IsProgress most left to_come given ended done
    → IfSome to_come (λ bytes. Tells most given bytes (Ok true) line given' after) → IsCounted (length line) given given' ended' → IsProgress most left after given' ended' (done ++ Whole line ∷ [])
goes most None to_come after line given given' ended ended' done few fits short s told counted = tt
goes most (Some text) None after line given given' ended ended' done few fits short s told counted = absurd s
goes most (Some text) (Some bytes) after line given given' ended ended' done few fits short s told counted = line_told most text bytes line given given' ended ended' after done few fits short s told counted

-- ---- what is to come

-- the lines of the input are those that were done, and then these
abbrev pub AreAll : Limits → Option (List ℕ) → List Piece → List Piece → Type 0
AreAll most left done later = IfSome left (λ bytes. pieces_within most bytes ≡ done ++ later)

-- some are
pub rest_of : (most : Limits) (left to_come : Option (List ℕ)) (given : ℕ) (ended : Bool) (done : List Piece) → IsProgress most left to_come given ended done → (later : List Piece) × AreAll most left done later
rest_of most None to_come given ended done s = ([], tt)
rest_of most (Some text) None given ended done s = absurd s
rest_of most (Some text) (Some bytes) given ended done s = (pieces_at most given bytes, s.all)

-- none are, where the input ends
pub at_end : (most : Limits) (left to_come after : Option (List ℕ)) (line : List ℕ) (given given' : ℕ) (ended : Bool) (done : List Piece) → IsProgress most left to_come given ended done → IfSome to_come (λ bytes. Tells most given bytes (Ok false) line given' after)
    → AreAll most left done []
at_end most None to_come after line given given' ended done s told = tt
at_end most (Some text) None after line given given' ended done s told = absurd s
at_end most (Some text) (Some bytes) after line given given' ended done s told = s.all ∙ ap (λ (ps : List Piece). done ++ ps) (ap (pieces_at most given) told.0 ∙ pieces_none most given)

-- the next is this one
abbrev pub ComesNext : Limits → Option (List ℕ) → List Piece → Piece → Type 0
ComesNext most left done piece = (rest : List Piece) × AreAll most left done (piece ∷ rest)

next_is : (most : Limits) (text bytes : List ℕ) (given : ℕ) (ended : Bool) (done : List Piece) (piece : Piece) → Progress most text bytes given ended done → Begins piece (pieces_at most given bytes) → ComesNext most (Some text) done piece
next_is most text bytes given ended done piece s b = (b.0, s.all ∙ ap (λ (ps : List Piece). done ++ ps) b.1)

pub at_line : (most : Limits) (left to_come after : Option (List ℕ)) (line : List ℕ) (given given' : ℕ) (ended : Bool) (done : List Piece) → given ≤ most.input → IsProgress most left to_come given ended done
    → IfSome to_come (λ bytes. Tells most given bytes (Ok true) line given' after) → ComesNext most left done (Whole line)
at_line most None to_come after line given given' ended done few s told = ([], tt)
at_line most (Some text) None after line given given' ended done few s told = absurd s
at_line most (Some text) (Some bytes) after line given given' ended done few s told =
    let a : IsAhead most given bytes (Line told.first) = subst (IsAhead most given bytes) told.next (ahead most given bytes few) in
    let rest : List Piece = pieces_at most (given + line_size told.first) (told.first).rest in
    next_is most text bytes given ended done (Whole line) s (rest, a.1 ∙ ap (λ (l : List ℕ). Whole l ∷ rest) (sym told.line_is))

pub at_long : (most : Limits) (left to_come after : Option (List ℕ)) (line : List ℕ) (given given' : ℕ) (ended : Bool) (done : List Piece) → given ≤ most.input → IsProgress most left to_come given ended done
    → IfSome to_come (λ bytes. Tells most given bytes (Err error.TooLong) line given' after) → ComesNext most left done Long
at_long most None to_come after line given given' ended done few s told = ([], tt)
at_long most (Some text) None after line given given' ended done few s told = absurd s
at_long most (Some text) (Some bytes) after line given given' ended done few s told = next_is most text bytes given ended done Long s (subst (IsAhead most given bytes) told.0 (ahead most given bytes few))

pub at_beyond : (most : Limits) (left to_come after : Option (List ℕ)) (line : List ℕ) (given given' : ℕ) (ended : Bool) (done : List Piece) → given ≤ most.input → IsProgress most left to_come given ended done
    → IfSome to_come (λ bytes. Tells most given bytes (Err error.TooMuch) line given' after) → ComesNext most left done Beyond
at_beyond most None to_come after line given given' ended done few s told = ([], tt)
at_beyond most (Some text) None after line given given' ended done few s told = absurd s
at_beyond most (Some text) (Some bytes) after line given given' ended done few s told = next_is most text bytes given ended done Beyond s (subst (IsAhead most given bytes) told.0 (ahead most given bytes few))

-- a read failed: no line that was read whole was held back
cut_at : (most : Limits) (text front pending rest : List ℕ) (done : List Piece) → text ≡ front ++ (pending ++ rest) → AreDone most done front → HasNoLf pending → IsCutAt most text (Some rest) done
cut_at most text front pending rest done split are none = record {
  lines = front;
  others = pending;
  whole_lines = are.whole_lines;
  unended = none;
  consumed = split ∙ sym (append_assoc front pending rest);
  pieces = ap (pieces_within most) (sym (append-nil front)) ∙ are.goes [] ∙ ap (λ (ps : List Piece). done ++ ps) (pieces_none most (length front)) ∙ append-nil done;
}

pub at_fault : (most : Limits) (left to_come new : Option (List ℕ)) (pending line : List ℕ) (given given' : ℕ) (ended : Bool) (done : List Piece) → IsProgress most left to_come given ended done
    → IfSome to_come (λ bytes. Tells most given bytes (Err error.ReadFault) line given' (prepend_known pending new)) → HasNoLf pending → ¬ (ended ≡ true) → IfSome left (λ bytes. IsCutAt most bytes new done)
at_fault most None to_come new pending line given given' ended done s told none unended = tt
at_fault most (Some text) None new pending line given given' ended done s told none unended = absurd s
at_fault most (Some text) (Some bytes) None pending line given given' ended done s told none unended = absurd (let clash : None ≡ Some bytes = told.1 in let P : ⊥ = cc in P)
at_fault most (Some text) (Some bytes) (Some rest) pending line given given' ended done s told none unended = by_last s.last
  where
    some_is : {x y : List ℕ} → Some x ≡ Some y → x ≡ y
    some_is h = cc

    by_last : ((ended ≡ true) × (bytes ≡ [])) ⊎ AreDone most done s.front → IsCutAt most text (Some rest) done
    by_last (inl closed) = absurd (unended closed.0)
    by_last (inr are) = cut_at most text s.front pending rest done (s.split ∙ ap (λ l. s.front ++ l) (sym (some_is told.1))) are none
