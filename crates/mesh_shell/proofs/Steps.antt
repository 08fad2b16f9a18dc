-- What a script's calls tell of the lines to come.
use Rattle.std.proofs.Common.{◌≡◌, ◌≤◌, ◌+◌, ◌-◌, ℕ, List, [], ◌∷◌, Option, Result, Ok, Err, refl, sym, ap, subst, ◌∙◌, append_assoc, arith}
use Rattle.std.specs.Io.KnownBytes.{Appends}
use Rattle.mesh_io.specs.Puts.{AppendsPrefix}
use Rattle.mesh_io.specs.declared.limits.Limits.{Limits}
use Rattle.mesh_io.proofs.Writing.{Appends-join, AppendsPrefix-join, AppendsPrefix-more}
use Rattle.mesh_shell.specs.Pieces.{Piece, pieces_within}
use Rattle.mesh_shell.specs.Fold.{Outcome, On, Ended, Ending, Fold, RunText, whole, lines_before, finished_run, goes_on, text_from, text_on}
use Rattle.mesh_shell.specs.Outputs.{text_in, IsLineDone, IsLineLast, IsLastRun, IsEndRun}
use Rattle.mesh_shell.specs.declared.fault.Fault.{Fault}

-- ---- the text from a state on

pub text_on-pieces : {M V : Type 0} (fold : Fold M V) (most : Limits) (m : M) (input : List ℕ) → text_on fold most m input ≡ lines_before (fold.head m) (text_from fold m (pieces_within most input))
unfolding text_on
text_on-pieces fold most m input = refl

text_from-cons : {M V : Type 0} (fold : Fold M V) (m : M) (piece : Piece) (pieces : List Piece) → text_from fold m (piece ∷ pieces) ≡ goes_on m (fold.outcome m piece) (λ n. text_from fold n pieces)
unfolding text_from
text_from-cons fold m piece pieces = refl

pub text_from-end : {M V : Type 0} (fold : Fold M V) (m : M) → text_from fold m [] ≡ finished_run (fold.ending m)
unfolding text_from
text_from-end fold m = refl

-- ---- what was told of a text

-- without a failed read: all of it with its verdict, or a prefix
abbrev pub IsWritten : {M V : Type 0} → RunText M V → Option (List ℕ) → Option (List ℕ) → Result V Fault → Type 0
IsWritten w before now (Ok v) = (v ≡ w.verdict) × Appends before now (whole w)
IsWritten w before now (Err e) = AppendsPrefix before now (whole w)

-- lines before it
pub written_before : {M V : Type 0} (v w : RunText M V) (text : List ℕ) (a b c : Option (List ℕ)) (s : Result V Fault) → v ≡ lines_before text w → Appends a b text → IsWritten w b c s → IsWritten v a c s
written_before {M} {V} v w text a b c s is p t = subst (λ (x : RunText M V). IsWritten x a c s) (sym is) (by_answer s t)
  where
    by_answer : (s : Result V Fault) → IsWritten w b c s → IsWritten (lines_before text w) a c s
    by_answer (Ok v) t = (t.0, Appends-join a b c text (whole w) _ (append_assoc text w.lines w.last) p t.1)
    by_answer (Err e) t = AppendsPrefix-join a b c text (whole w) _ (append_assoc text w.lines w.last) p t

-- ---- a line

-- a line that was done
pub line_on : {M V : Type 0} (fold : Fold M V) (m n : M) (piece : Piece) (before now : Option (List ℕ)) (did : IsLineDone (fold.outcome m piece) n before now) (pieces : List Piece)
    → text_from fold m (piece ∷ pieces) ≡ lines_before did.text (text_from fold n pieces)
line_on fold m n piece before now did pieces = text_from-cons fold m piece pieces ∙ ap (λ k. goes_on m k (λ x. text_from fold x pieces)) did.is

-- a line that has ended the run
line_last : {M V : Type 0} (fold : Fold M V) (m : M) (piece : Piece) (v : V) (before now : Option (List ℕ)) → IsLineLast (fold.outcome m piece) v before now → (pieces : List Piece)
    → IsWritten (text_from fold m (piece ∷ pieces)) before now (Ok v)
line_last {M} {V} fold m piece v before now did pieces =
    subst (λ (w : RunText M V). IsWritten w before now (Ok v)) (sym (text_from-cons fold m piece pieces ∙ ap (λ k. goes_on m k (λ x. text_from fold x pieces)) did.is)) (refl, did.grown)

-- a prefix of a line's text is a prefix of all that follows
front_of_line : {M V : Type 0} (m : M) (k : Outcome M V) (others : M → RunText M V) (before now : Option (List ℕ)) → AppendsPrefix before now (text_in k) → AppendsPrefix before now (whole (goes_on m k others))
front_of_line m (On text n) others before now f = AppendsPrefix-more before now text _ _ (append_assoc text (others n).lines (others n).last) f
front_of_line m (Ended text last v) others before now f = f

line_broken : {M V : Type 0} (fold : Fold M V) (m : M) (piece : Piece) (e : Fault) (before now : Option (List ℕ)) → AppendsPrefix before now (text_in (fold.outcome m piece)) → (pieces : List Piece)
    → IsWritten {M = M} {V = V} (text_from fold m (piece ∷ pieces)) before now (Err e)
line_broken {M} {V} fold m piece e before now f pieces =
    subst (λ (w : RunText M V). AppendsPrefix before now (whole w)) (sym (text_from-cons fold m piece pieces)) (front_of_line m (fold.outcome m piece) (λ x. text_from fold x pieces) before now f)

-- whatever follows it
pub last_told : {M V : Type 0} (fold : Fold M V) (m : M) (piece : Piece) (result : Result V Fault) (before now : Option (List ℕ)) → IsLastRun (fold.outcome m piece) before now result → (pieces : List Piece)
    → IsWritten (text_from fold m (piece ∷ pieces)) before now result
last_told fold m piece (Ok v) before now did pieces = line_last fold m piece v before now did pieces
last_told fold m piece (Err e) before now did pieces = line_broken fold m piece e before now did pieces

-- the end
pub end_told : {M V : Type 0} (e : Ending M V) (n : M) (before now : Option (List ℕ)) (result : Result V Fault) → IsEndRun e n before now result → IsWritten (finished_run e) before now result
end_told e n before now (Ok v) did = (did.0, did.2)
end_told e n before now (Err fault) did = did

-- ---- the laws of a script

-- fewer bytes lead to where these do
pub leads_within : {M : Type 0} (leads : M → ℕ → M → Type 0) (stays : (m : M) (n : ℕ) → leads m n m) (joins : (a b c : M) (m n : ℕ) → leads a m b → leads b n c → leads a (m + n) c)
    (a b c : M) (given size all : ℕ) → leads a given b → leads b size c → given + size ≤ all → leads a all c
leads_within leads stays joins a b c given size all first then fits =
    let split : (given + size) + (all - (given + size)) ≡ all = omega arith in
    subst (λ n. leads a n c) split (joins a c c (given + size) (all - (given + size)) (joins a b c given size first then) (stays c (all - (given + size))))
