-- A script that says all of its run, whatever its states are: what it tells of a line, and what was told of its input, by the status.
use Rattle.std.proofs.Common.{◌≡◌, ℕ, ◌+◌, true, false, List, [], ◌∷◌, Option, Result, Ok, Err, refl, sym, ap, subst, ◌∙◌}
use Rattle.std.specs.Prelude.{IsErr, IsErrOf}
use Rattle.std.specs.Io.KnownBytes.{Appends}
use Rattle.mesh_grammar.specs.Faults.{bad_line}
use Rattle.mesh_grammar.specs.declared.fault.BadWhy.{BadWhy}
use Rattle.mesh_io.specs.Puts.{AppendsPrefix}
use Rattle.mesh_io.specs.declared.limits.Limits.{Limits}
use Rattle.mesh_shell.specs.Causes as causes
use Rattle.mesh_shell.specs.Outputs as outputs
use Rattle.mesh_shell.specs.Pieces.{Piece, pieces_within}
use Rattle.mesh_shell.specs.Fold as shell
use Rattle.mesh_shell.specs.declared.fault.Fault.{Fault}
use Rattle.mesh_shell.specs.declared.fault.Fault.TheVariants.{ReadFault, WriteFault, NoMemory}
use Rattle.mesh_text.specs.Schedule.{RunState}
use Rattle.mesh_text.specs.Text.{LineOutcome, Refused, outcome_in_run}
use Rattle.mesh_text.specs.declared.verdict.Verdict.{Verdict}
use Rattle.mesh_text.specs.declared.verdict.Verdict.TheVariants.{Finished, RefusedAt, FullAt}
use Rattle.mesh_run.specs.declared.say.Say.TheVariants.{All}
use Rattle.mesh_run.specs.declared.status.Status.TheVariants as status
use Rattle.mesh_run.specs.declared.stop.Stop.{Stop}
use Rattle.mesh_run.specs.Causes.{HasSourceCause, HasStatusCause}
use Rattle.mesh_run.specs.Codes.{status_of}
use Rattle.mesh_run.specs.Ends.{IsSettled}
use Rattle.mesh_run.specs.Outputs.{IsOutputOf}
use Rattle.mesh_run.specs.Running.{said, outcome_as}
use Rattle.mesh_run.specs.Runs.{IsLineRun}
use Rattle.mesh_run.proofs.Settled.{line_told, past_written, past_failed}

-- ---- a line

all_said : {M N V : Type 0} (to : M → N) (k : shell.Outcome M V) → outcome_as to (said true k) ≡ outcome_as to k
all_said to (shell.On text n) = refl
all_said to (shell.Ended text last v) = refl

pub same_as : {M V : Type 0} (k : shell.Outcome M V) → outcome_as (λ n. n) k ≡ k
same_as (shell.On text n) = refl
same_as (shell.Ended text last v) = refl

-- what a line came to, and what was settled then
pub loud_line_as : {N : Type 0} (to : RunState → N) (m n : RunState) (k : LineOutcome) (a b d : Option (List ℕ)) (did : Result (Unit {0}) Stop) (result : Result (Option Verdict) Fault)
    → IsLineRun true m k n a b did → IsSettled n b d did result → outputs.IsLineRun (outcome_as to (outcome_in_run m k)) (to n) a d result
loud_line_as {N} to m n k a b d did result ran told =
    subst (λ (c : shell.Outcome N Verdict). outputs.IsLineRun c (to n) a d result) (all_said to (outcome_in_run m k)) (line_told true to m n k a b d did result ran told)

pub loud_line : (m n : RunState) (k : LineOutcome) (a b d : Option (List ℕ)) (did : Result (Unit {0}) Stop) (result : Result (Option Verdict) Fault)
    → IsLineRun true m k n a b did → IsSettled n b d did result → outputs.IsLineRun (outcome_in_run m k) n a d result
loud_line m n k a b d did result ran told =
    subst (λ (c : shell.Outcome RunState Verdict). outputs.IsLineRun c n a d result) (same_as (outcome_in_run m k)) (loud_line_as (λ (x : RunState). x) m n k a b d did result ran told)

-- one that goes past a limit, and its last line, or a prefix of it
pub loud_past_as : {N : Type 0} (to : RunState → N) (m : RunState) (k : LineOutcome) (v : Verdict) (why : BadWhy) (a b : Option (List ℕ)) → k ≡ Refused why → v ≡ RefusedAt (m.lines + 1) → Appends a b (bad_line (m.lines + 1) why)
    → outputs.IsLineLast (outcome_as to (outcome_in_run m k)) v a b
loud_past_as {N} to m k v why a b is verdict put =
    subst (λ (c : shell.Outcome N Verdict). outputs.IsLineLast c v a b) (all_said to (outcome_in_run m k)) (past_written true to m k v why a b is verdict put)

pub loud_past_failed_as : {N : Type 0} (to : RunState → N) (m : RunState) (k : LineOutcome) (why : BadWhy) (a b : Option (List ℕ)) (answer : Result Verdict Fault) → IsErr answer → k ≡ Refused why → AppendsPrefix a b (bad_line (m.lines + 1) why)
    → outputs.IsLastRun (outcome_as to (outcome_in_run m k)) a b answer
loud_past_failed_as {N} to m k why a b answer failed is put =
    subst (λ (c : shell.Outcome N Verdict). outputs.IsLastRun c a b answer) (all_said to (outcome_in_run m k)) (past_failed true to m k why a b answer failed is put)

-- ---- a fold whose states have more than those of another

-- a text, where its state is seen so
abbrev pub text_as : {M N V : Type 0} → (M → N) → shell.RunText M V → shell.RunText N V
text_as to w = record { lines = w.lines; last = w.last; verdict = w.verdict; after = to w.after; complete = w.complete }

abbrev pub ending_as : {M N V : Type 0} → (M → N) → shell.Ending M V → shell.Ending N V
ending_as to e = record { text = e.text; verdict = e.verdict; after = to e.after }

-- it makes the same of each
pub record IsSeenAs {M N V : Type 0} (to : M → N) (s : shell.Fold M V) (t : shell.Fold N V) : Type 0 where
  pub head : (m : M) → t.head (to m) ≡ s.head m
  pub outcome : (m : M) (piece : Piece) → t.outcome (to m) piece ≡ outcome_as to (s.outcome m piece)
  pub ending : (m : M) → t.ending (to m) ≡ ending_as to (s.ending m)

goes_as : {M N V : Type 0} (to : M → N) (m : M) (c : shell.Outcome M V) (others : M → shell.RunText M V) (script : N → shell.RunText N V) → ((n : M) → script (to n) ≡ text_as to (others n))
    → shell.goes_on (to m) (outcome_as to c) script ≡ text_as to (shell.goes_on m c others)
goes_as to m (shell.On text n) others script rest = ap (shell.lines_before text) (rest n)
goes_as to m (shell.Ended text last v) others script rest = refl

lines_as : {M N V : Type 0} (to : M → N) (s : shell.Fold M V) (t : shell.Fold N V) → IsSeenAs to s t → (m : M) (pieces : List Piece) → shell.text_from t (to m) pieces ≡ text_as to (shell.text_from s m pieces)
unfolding shell.text_from
lines_as to s t is m [] = ap shell.finished_run (is.ending m)
lines_as to s t is m (piece ∷ pieces) =
    ap (λ c. shell.goes_on (to m) c (λ n. shell.text_from t n pieces)) (is.outcome m piece)
    ∙ goes_as to m (s.outcome m piece) (λ n. shell.text_from s n pieces) (λ n. shell.text_from t n pieces) (λ n. lines_as to s t is n pieces)

-- and of an input
pub text_on_as : {M N V : Type 0} (to : M → N) (s : shell.Fold M V) (t : shell.Fold N V) → IsSeenAs to s t → (most : Limits) (m : M) (input : List ℕ) → shell.text_on t most (to m) input ≡ text_as to (shell.text_on s most m input)
unfolding shell.text_on
text_on_as to s t is most m input =
    ap (λ (text : List ℕ). shell.lines_before text (shell.text_from t (to m) (pieces_within most input))) (is.head m) ∙ ap (shell.lines_before (s.head m)) (lines_as to s t is m (pieces_within most input))

-- ---- what was told

pub loud_told : {M : Type 0} (text : List ℕ → shell.RunText M Verdict) (bytes : List ℕ) (left before now : Option (List ℕ)) (answer : Result Verdict Fault)
    → outputs.IsOutputOf text bytes left before now answer → IsOutputOf All text bytes left before now (status_of answer)
loud_told text bytes left before now (Ok Finished) told = (sym told.0, told.1)
loud_told text bytes left before now (Ok (RefusedAt n)) told = (sym told.0, told.1)
loud_told text bytes left before now (Ok (FullAt n)) told = (sym told.0, told.1)
loud_told text bytes left before now (Err ReadFault) told = told
loud_told text bytes left before now (Err WriteFault) told = told
loud_told text bytes left before now (Err NoMemory) told = told

pub loud_told_as : {M N : Type 0} (to : M → N) (text : List ℕ → shell.RunText M Verdict) (script : List ℕ → shell.RunText N Verdict) → ((input : List ℕ) → script input ≡ text_as to (text input)) → (bytes : List ℕ) (left before now : Option (List ℕ)) (answer : Result Verdict Fault)
    → outputs.IsOutputOf script bytes left before now answer → IsOutputOf All text bytes left before now (status_of answer)
loud_told_as {M} {N} to text script same bytes left before now answer told = loud_told text bytes left before now answer (by_answer answer told)
  where
    by_answer : (answer : Result Verdict Fault) → outputs.IsOutputOf script bytes left before now answer → outputs.IsOutputOf text bytes left before now answer
    by_answer (Ok v) told = subst (λ (w : shell.RunText N Verdict). (v ≡ w.verdict) × Appends before now (shell.whole w)) (same bytes) told
    by_answer (Err ReadFault) told = record {
      lines = told.lines;
      others = told.others;
      whole_lines = told.whole_lines;
      unended = told.unended;
      consumed = told.consumed;
      done = subst (λ (w : shell.RunText N Verdict). w.complete ≡ true) (same told.lines) told.done;
      grown = subst (λ (w : shell.RunText N Verdict). Appends before now w.lines) (same told.lines) told.grown;
      prefix = subst (λ (w : shell.RunText N Verdict). AppendsPrefix before now (shell.whole w)) (same bytes) told.prefix;
    }
    by_answer (Err WriteFault) told = subst (λ (w : shell.RunText N Verdict). AppendsPrefix before now (shell.whole w)) (same bytes) told
    by_answer (Err NoMemory) told = subst (λ (w : shell.RunText N Verdict). AppendsPrefix before now (shell.whole w)) (same bytes) told

-- ---- why a fault is answered

pub read_failed : (answer : Result Verdict Fault) → status_of answer ≡ status.ReadFault → IsErrOf answer ReadFault
read_failed (Ok Finished) e = cc
read_failed (Ok (RefusedAt n)) e = cc
read_failed (Ok (FullAt n)) e = cc
read_failed (Err ReadFault) e = refl
read_failed (Err WriteFault) e = cc
read_failed (Err NoMemory) e = cc

write_failed : (answer : Result Verdict Fault) → status_of answer ≡ status.WriteFault → IsErrOf answer WriteFault
write_failed (Ok Finished) e = cc
write_failed (Ok (RefusedAt n)) e = cc
write_failed (Ok (FullAt n)) e = cc
write_failed (Err ReadFault) e = cc
write_failed (Err WriteFault) e = refl
write_failed (Err NoMemory) e = cc

pub source_cause : (before now : ℕ) (answer : Result Verdict Fault) → causes.HasSourceCause before now answer → HasSourceCause before now (status_of answer)
source_cause before now answer cause = record {
  later = cause.later;
  failed = λ e. cause.failed (read_failed answer e);
  none = λ read write. cause.none (λ e. read (ap status_of e)) (λ e. write (ap status_of e));
}

pub sink_cause : (before now : ℕ) (answer : Result Verdict Fault) → causes.HasFaultCause WriteFault before now answer → HasStatusCause status.WriteFault before now (status_of answer)
sink_cause before now answer cause = record { later = cause.later; failed = λ e. cause.failed (write_failed answer e); none = λ not. cause.none (λ e. not (ap status_of e)) }
