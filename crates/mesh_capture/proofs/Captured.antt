-- A text of lines that are taken has the packets of the copies that they end as its capture.
use Rattle.std.proofs.Common.{◌≡◌, ℕ, ◌≤◌, Bool, true, false, cond, leb, List, [], ◌∷◌, ◌++◌, map, take, Option, Some, None, length, refl, sym, ap, ◌∙◌, subst, append_assoc, arith}
use Rattle.std.specs.Prelude.{nat_lt}
use Rattle.std.specs.List.{AllByRecursion, flat_map}
use Rattle.std.proofs.Math.Seq.{take_all}
use Rattle.std.proofs.lemmas.Bool.Decides.{nat_tests}
use Rattle.mesh_base.specs.Parts.{parts}
use Rattle.mesh_base.proofs.WrittenForms.{parts_at, parts_none}
use Rattle.mesh_base.proofs.Lemmas.Lists.{some_parts}
use Rattle.mesh_grammar.specs.Written.{line}
use Rattle.mesh_io.specs.declared.limits.Limits.{Limits}
use Rattle.mesh_io.specs.NextLines.{text_limits}
use Rattle.mesh_shell.specs.Laws.{AreWhole}
use Rattle.mesh_shell.specs.Pieces.{Piece, Whole, Long, piece_of, pieces_of, pieces_within}
use Rattle.mesh_shell.specs.Fold.{RunText, whole, text_from, text_on, goes_on}
use Rattle.mesh_shell.proofs.Joined.{no_more}
use Rattle.mesh_text.proofs.Clean.{is_clean, lacks_lf}
use Rattle.mesh_capture.specs.declared.frame.Frame.{Frame}
use Rattle.mesh_capture.specs.declared.status.CaptureVerdict.{CaptureVerdict}
use Rattle.mesh_capture.specs.declared.status.CaptureVerdict.TheVariants.{Done}
use Rattle.mesh_capture.specs.Captures.{capture, captured_after, framed_if, capture_of}
use Rattle.mesh_capture.specs.Copies.{Reading, LineOutcome, nothing_read}
use Rattle.mesh_capture.specs.Frames.{record_of, file_header}
use Rattle.mesh_capture.specs.Runs.{file_of}
use Rattle.mesh_capture.proofs.Told.{AreTaken, IsTold, frames_in}

-- ---- lines

abbrev pieces_are : List (List ℕ) → List Piece
pieces_are lines = map Whole lines

-- the parts of a text of whole lines are these, and an empty one
lines_cut : (lines : List (List ℕ)) → AllByRecursion (λ l. is_clean l ≡ true) lines → parts 10 (flat_map line lines) ≡ lines ++ [] ∷ []
lines_cut [] clean = parts_none 10 [] (lacks_lf [] refl)
lines_cut (l ∷ ls) clean =
    ap (parts 10) (append_assoc l (10 ∷ []) (flat_map line ls)) ∙ parts_at 10 l (flat_map line ls) (lacks_lf l clean.0) ∙ ap (λ ps. l ∷ ps) (lines_cut ls clean.1)

one_whole : (most : Limits) (l : List ℕ) (ls : List (List ℕ)) (more : List Piece) → AreWhole (piece_of most l ∷ more) → (piece_of most l ≡ Whole l) × AreWhole more
one_whole most l ls more whole = by_test (leb (length l) most.line) whole
  where
    by_test : (b : Bool) → AreWhole (cond b (Whole l) Long ∷ more) → (cond b (Whole l) Long ≡ Whole l) × AreWhole more
    by_test true whole = (refl, whole)
    by_test false whole = absurd whole

first_of : (most : Limits) (l : List ℕ) (ls : List (List ℕ)) → pieces_of most false (l ∷ ls ++ [] ∷ []) ≡ piece_of most l ∷ pieces_of most false (ls ++ [] ∷ [])
unfolding pieces_of
first_of most l [] = refl
first_of most l (m ∷ ms) = refl

whole_lines : (most : Limits) (lines : List (List ℕ)) → AreWhole (pieces_of most false (lines ++ [] ∷ [])) → pieces_of most false (lines ++ [] ∷ []) ≡ pieces_are lines
unfolding pieces_of
whole_lines most [] whole = refl
whole_lines most (l ∷ ls) whole =
    let each = one_whole most l ls (pieces_of most false (ls ++ [] ∷ [])) (subst AreWhole (first_of most l ls) whole) in
    first_of most l ls ∙ ap (λ p. p ∷ pieces_of most false (ls ++ [] ∷ [])) each.0 ∙ ap (λ ps. Whole l ∷ ps) (whole_lines most ls each.1)

text_pieces : (most : Limits) (text : List ℕ) (lines : List (List ℕ)) → text ≡ flat_map line lines → AllByRecursion (λ l. is_clean l ≡ true) lines → AreWhole (pieces_within most text)
    → pieces_within most text ≡ pieces_are lines
text_pieces most text lines same clean whole = by_test (nat_lt most.input (length text)) refl whole
  where
    by_test : (b : Bool) → nat_lt most.input (length text) ≡ b → AreWhole (pieces_of most b (parts 10 (take most.input text))) → pieces_of most b (parts 10 (take most.input text)) ≡ pieces_are lines
    by_test true long whole = absurd (no_more most (parts 10 (take most.input text)) (some_parts 10 (take most.input text)) whole)
    by_test false short whole =
        let all : take most.input text ≡ text = take_all most.input text (grind (arith, nat_tests)) in
        let cut : parts 10 (take most.input text) ≡ lines ++ [] ∷ [] = ap (parts 10) (all ∙ same) ∙ lines_cut lines clean in
        ap (pieces_of most false) cut ∙ whole_lines most lines (subst (λ ps. AreWhole (pieces_of most false ps)) cut whole)

-- a text within a limit is no longer than it
pub text_short : (most : Limits) (text : List ℕ) → AreWhole (pieces_within most text) → length text ≤ most.input
text_short most text whole = by_test (nat_lt most.input (length text)) refl whole
  where
    by_test : (b : Bool) → nat_lt most.input (length text) ≡ b → AreWhole (pieces_of most b (parts 10 (take most.input text))) → length text ≤ most.input
    by_test true long whole = absurd (no_more most (parts 10 (take most.input text)) (some_parts 10 (take most.input text)) whole)
    by_test false short whole = grind (arith, nat_tests)

-- ---- the file

-- the packets are written, and nothing is refused
abbrev IsWritten : RunText Reading CaptureVerdict → List ℕ → Type 0
IsWritten w packets = (whole w ≡ packets) × (w.verdict ≡ Done)

frames_written : (ended : Option Frame) (fs : List Frame) → framed_if ended ++ flat_map record_of fs ≡ flat_map record_of (frames_in ended ++ fs)
frames_written None fs = refl
frames_written (Some f) fs = refl

lines_written : (r s : Reading) (lines : List (List ℕ)) (fs : List Frame) → AreTaken r lines fs s → IsWritten (text_from capture r (pieces_are lines)) (flat_map record_of fs)
unfolding AreTaken text_from
lines_written r s [] fs taken = (ap (flat_map record_of) (sym taken.0), refl)
lines_written r s (l ∷ ls) fs taken =
    let o : LineOutcome = taken.0 in
    let gs : List Frame = taken.1 in
    let rest : IsWritten (text_from capture o.now (pieces_are ls)) (flat_map record_of gs) = lines_written o.now s ls gs taken.4 in
    subst (λ a. IsWritten (goes_on r (captured_after r a) (λ n. text_from capture n (pieces_are ls))) (flat_map record_of fs)) (sym taken.2) (
      append_assoc (framed_if o.frame) (text_from capture o.now (pieces_are ls)).lines (text_from capture o.now (pieces_are ls)).last
          ∙ ap (λ t. framed_if o.frame ++ t) rest.0 ∙ frames_written o.frame gs ∙ ap (flat_map record_of) (sym taken.3),
      rest.1,
    )

-- the capture of a text that is told from the beginning on
pub captured : (text : List ℕ) (fs : List Frame) (s : Reading) → IsTold nothing_read text fs s → AreWhole (pieces_within text_limits text)
    → (whole (capture_of text) ≡ file_of fs) × ((capture_of text).verdict ≡ Done)
unfolding text_on
captured text fs s told within =
    let pieces = text_pieces text_limits text told.lines told.whole told.clean within in
    let written = lines_written nothing_read s told.lines fs told.taken in
    subst (λ ps. IsWritten (record (text_from capture nothing_read ps) { lines = file_header ++ (text_from capture nothing_read ps).lines }) (file_of fs)) (sym pieces)
    (append_assoc file_header (text_from capture nothing_read (pieces_are told.lines)).lines (text_from capture nothing_read (pieces_are told.lines)).last ∙ ap (λ t. file_header ++ t) written.0, written.1)
