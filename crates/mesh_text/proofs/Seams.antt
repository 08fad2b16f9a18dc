-- A run of lines, and then of others, is the run of the others from the state to which the first lead.
use Rattle.std.proofs.Common.{◌≡◌, ℕ, ◌≤◌, Bool, true, false, cond, eqb, List, [], ◌∷◌, ◌++◌, length, length-append, refl, sym, ap, ap₂, subst, ◌∙◌, arith, append_assoc}
use Rattle.std.specs.Prelude.{nat_lt}
use Rattle.std.specs.List.{join_with_byte, onto_first}
use Rattle.std.proofs.lemmas.Bool.{ltb-true}
use Rattle.std.proofs.lemmas.List.Splits.{join_with_byte-slice_split}
use Rattle.std.proofs.Math.Seq.{take_all}
use Rattle.mesh_base.specs.declared.limits.TheConstants.{LONGEST_INPUT}
use Rattle.mesh_base.specs.Parts.{parts}
use Rattle.mesh_base.proofs.Lemmas.Lists.{some_parts}
use Rattle.mesh_grammar.specs.Lines.{complete, complete_parts}
use Rattle.mesh_io.specs.NextLines.{schedule_limits}
use Rattle.mesh_shell.specs.Pieces.{Piece, piece_of, pieces_of}
use Rattle.mesh_shell.specs.Fold as shell
use Rattle.mesh_text.specs.Schedule.{RunState}
use Rattle.mesh_text.specs.Text.{pieces_of_input, LineOutcome, On, Refused, Full, outcome_of_piece, RunText, lines_before, goes_on, text_from}
use Rattle.mesh_text.specs.declared.verdict.Verdict.TheVariants.{Finished}
use Rattle.mesh_text.specs.Laws.{RunGoesOn}

-- ---- parts

-- the last part of the one goes on as the first of the other
glue : List (List ℕ) → List (List ℕ) → List (List ℕ)
glue [] rs = rs
glue (l ∷ []) [] = l ∷ []
glue (l ∷ []) (r ∷ rs) = (l ++ r) ∷ rs
glue (l ∷ m ∷ ls) rs = l ∷ glue (m ∷ ls) rs

glue_some : (ls rs : List (List ℕ)) → 1 ≤ length rs → 1 ≤ length (glue ls rs)
unfolding glue
glue_some [] rs some = some
glue_some (l ∷ []) [] some = omega arith
glue_some (l ∷ []) (r ∷ rs) some = omega arith
glue_some (l ∷ m ∷ ls) rs some = omega arith

glue_none : (rs : List (List ℕ)) → 1 ≤ length rs → glue ([] ∷ []) rs ≡ rs
unfolding glue
glue_none [] some = absurd (omega arith)
glue_none (r ∷ rs) some = refl

glue_first : (ls rs : List (List ℕ)) → 1 ≤ length ls → glue ([] ∷ ls) rs ≡ [] ∷ glue ls rs
unfolding glue
glue_first [] rs some = absurd (omega arith)
glue_first (l ∷ ls) rs some = refl

glue_onto : (b : ℕ) (ls rs : List (List ℕ)) → 1 ≤ length ls → 1 ≤ length rs → glue (onto_first b ls) rs ≡ onto_first b (glue ls rs)
unfolding glue
glue_onto b [] rs some more = absurd (omega arith)
glue_onto b (l ∷ []) [] some more = absurd (omega arith)
glue_onto b (l ∷ []) (r ∷ rs) some more = refl
glue_onto b (l ∷ m ∷ ls) rs some more = refl

split_glue : (c : Bool) (x : ℕ) (ls rs whole : List (List ℕ)) → 1 ≤ length ls → 1 ≤ length rs → whole ≡ glue ls rs
    → cond c ([] ∷ whole) (onto_first x whole) ≡ glue (cond c ([] ∷ ls) (onto_first x ls)) rs
split_glue true x ls rs whole some more is = ap (λ l. [] ∷ l) is ∙ sym (glue_first ls rs some)
split_glue false x ls rs whole some more is = ap (onto_first x) is ∙ sym (glue_onto x ls rs some more)

parts_glue : (a b : List ℕ) → parts 10 (a ++ b) ≡ glue (parts 10 a) (parts 10 b)
parts_glue [] b = sym (glue_none (parts 10 b) (some_parts 10 b))
parts_glue (x ∷ xs) b = split_glue (eqb x 10) x (parts 10 xs) (parts 10 b) (parts 10 (xs ++ b)) (some_parts 10 xs) (some_parts 10 b) (parts_glue xs b)

-- the last part is empty
EndsEmpty : List (List ℕ) → Type 0
EndsEmpty [] = Unit {0}
EndsEmpty (l ∷ []) = l ≡ []
EndsEmpty (l ∷ m ∷ ls) = EndsEmpty (m ∷ ls)

no_bytes : (l : List ℕ) → length l ≡ 0 → l ≡ []
no_bytes [] none = refl
no_bytes (b ∷ bs) none = absurd (omega arith)

ends_empty : (ls : List (List ℕ)) → length (complete_parts ls) ≡ length (join_with_byte 10 ls) → EndsEmpty ls
unfolding EndsEmpty complete_parts
ends_empty [] same = tt
ends_empty (l ∷ []) same = no_bytes l (omega arith)
ends_empty (l ∷ m ∷ ls) same =
    ends_empty (m ∷ ls) (omega (arith, length-append l (10 ∷ complete_parts (m ∷ ls)), length-append l (10 ∷ join_with_byte 10 (m ∷ ls))))

complete_ends : (bytes : List ℕ) → complete bytes ≡ bytes → EndsEmpty (parts 10 bytes)
complete_ends bytes whole = ends_empty (parts 10 bytes) (ap length (whole ∙ sym (join_with_byte-slice_split 10 bytes)))

first_complete : (l : List ℕ) (ls : List (List ℕ)) → 1 ≤ length ls → complete_parts (l ∷ ls) ≡ l ++ 10 ∷ complete_parts ls
unfolding complete_parts
first_complete l [] some = absurd (omega arith)
first_complete l (m ∷ ls) some = refl

complete_glue : (ls rs : List (List ℕ)) → 1 ≤ length ls → 1 ≤ length rs → EndsEmpty ls → complete_parts (glue ls rs) ≡ complete_parts ls ++ complete_parts rs
unfolding EndsEmpty glue complete_parts
complete_glue [] rs some more empty = absurd (omega arith)
complete_glue (l ∷ []) rs some more empty =
    subst (λ k. complete_parts (glue (k ∷ []) rs) ≡ complete_parts rs) (sym empty) (ap complete_parts (glue_none rs more))
complete_glue (l ∷ m ∷ ls) rs some more empty =
    first_complete l (glue (m ∷ ls) rs) (glue_some (m ∷ ls) rs more)
    ∙ ap (λ k. l ++ 10 ∷ k) (complete_glue (m ∷ ls) rs (omega arith) more empty)
    ∙ sym (append_assoc l (10 ∷ complete_parts (m ∷ ls)) (complete_parts rs))

-- what is complete after complete lines
pub complete_seam : (a b : List ℕ) → complete a ≡ a → complete (a ++ b) ≡ a ++ complete b
complete_seam a b whole =
    ap complete_parts (parts_glue a b) ∙ complete_glue (parts 10 a) (parts 10 b) (some_parts 10 a) (some_parts 10 b) (complete_ends a whole) ∙ ap (λ l. l ++ complete b) whole

-- ---- pieces

pub first_piece : (l : List ℕ) (ls : List (List ℕ)) → 1 ≤ length ls → pieces_of schedule_limits false (l ∷ ls) ≡ piece_of schedule_limits l ∷ pieces_of schedule_limits false ls
unfolding pieces_of
first_piece l [] some = absurd (omega arith)
first_piece l (m ∷ ls) some = refl

pieces_glue : (ls rs : List (List ℕ)) → 1 ≤ length ls → 1 ≤ length rs → EndsEmpty ls → pieces_of schedule_limits false (glue ls rs) ≡ pieces_of schedule_limits false ls ++ pieces_of schedule_limits false rs
unfolding EndsEmpty glue pieces_of
pieces_glue [] rs some more empty = absurd (omega arith)
pieces_glue (l ∷ []) rs some more empty =
    subst (λ k. pieces_of schedule_limits false (glue (k ∷ []) rs) ≡ pieces_of schedule_limits false (k ∷ []) ++ pieces_of schedule_limits false rs) (sym empty) (ap (pieces_of schedule_limits false) (glue_none rs more))
pieces_glue (l ∷ m ∷ ls) rs some more empty =
    first_piece l (glue (m ∷ ls) rs) (glue_some (m ∷ ls) rs more) ∙ ap (λ ps. piece_of schedule_limits l ∷ ps) (pieces_glue (m ∷ ls) rs (omega arith) more empty)

pub short_pieces : (input : List ℕ) → length input ≤ LONGEST_INPUT → pieces_of_input input ≡ pieces_of schedule_limits false (parts 10 input)
short_pieces input few = ap₂ (λ more bytes. pieces_of schedule_limits more (parts 10 bytes)) (not_more (nat_lt LONGEST_INPUT (length input)) refl) (take_all LONGEST_INPUT input few)
  where
    not_more : (b : Bool) → nat_lt LONGEST_INPUT (length input) ≡ b → nat_lt LONGEST_INPUT (length input) ≡ false
    not_more true is = absurd (let past = ltb-true LONGEST_INPUT (length input) is in omega arith)
    not_more false is = is

pieces_seam : (a b : List ℕ) → complete a ≡ a → length (a ++ b) ≤ LONGEST_INPUT → pieces_of_input (a ++ b) ≡ pieces_of_input a ++ pieces_of_input b
pieces_seam a b whole few =
    let both = length-append a b in
    short_pieces (a ++ b) few ∙ ap (pieces_of schedule_limits false) (parts_glue a b)
    ∙ pieces_glue (parts 10 a) (parts 10 b) (some_parts 10 a) (some_parts 10 b) (complete_ends a whole)
    ∙ sym (ap₂ (λ ps qs. ps ++ qs) (short_pieces a (omega arith)) (short_pieces b (omega arith)))

-- ---- the run

GoesOn : RunState → RunText → List Piece → List Piece → Type 0
GoesOn m w ps qs = w.verdict ≡ Finished → text_from m (ps ++ qs) ≡ lines_before w.lines (text_from w.after qs)

came_goes_on : (m : RunState) (c : LineOutcome) (ps qs : List Piece) → ((n : RunState) → GoesOn n (text_from n ps) ps qs)
    → (goes_on m c (λ n. text_from n ps)).verdict ≡ Finished
    → goes_on m c (λ n. text_from n (ps ++ qs))
    ≡ lines_before (goes_on m c (λ n. text_from n ps)).lines (text_from (goes_on m c (λ n. text_from n ps)).after qs)
unfolding GoesOn
came_goes_on m (On text n) ps qs rest finished =
    let w : RunText = text_from n ps in
    let v : RunText = text_from w.after qs in
    ap (lines_before text) (rest n finished) ∙ ap (λ l. record v { lines = l }) (sym (append_assoc text w.lines v.lines))
came_goes_on m (Refused why) ps qs rest finished = absurd (let P : ⊥ = cc in P)
came_goes_on m (Full text n e field) ps qs rest finished = absurd (let P : ⊥ = cc in P)

goes_on_from : (m : RunState) (ps qs : List Piece) → GoesOn m (text_from m ps) ps qs
unfolding GoesOn shell.text_from
goes_on_from m [] qs finished = refl
goes_on_from m (p ∷ ps) qs finished = came_goes_on m (outcome_of_piece m p) ps qs (λ n. goes_on_from n ps qs) finished

pub run_goes_on : RunGoesOn
unfolding shell.text_on GoesOn
run_goes_on m front rest whole few finished =
    ap (text_from m) (pieces_seam front rest whole few) ∙ goes_on_from m (pieces_of_input front) (pieces_of_input rest) finished
