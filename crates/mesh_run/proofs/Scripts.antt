-- The run of a schedule as a script writes what is said of the schedule's run.
use Rattle.std.proofs.Common.{◌≡◌, ℕ, Bool, true, false, List, [], ◌∷◌, ◌++◌, Option, Some, None, Result, Ok, Err, is_some, refl, sym, ap, subst, ◌∙◌}
use Rattle.std.specs.Prelude.{◌≢◌, IfOk, IfSome}
use Rattle.std.specs.Io.KnownBytes.{Appends}
use Rattle.mesh_io.specs.NextLines.{schedule_limits}
use Rattle.mesh_io.specs.Puts.{AppendsPrefix}
use Rattle.mesh_shell.specs.Pieces.{Piece, Whole}
use Rattle.mesh_shell.specs.Fold as shell
use Rattle.mesh_shell.specs.Outputs as outputs
use Rattle.mesh_shell.specs.Scripts.{piece_past}
use Rattle.mesh_shell.specs.declared.fault.Fault.{Fault}
use Rattle.mesh_shell.specs.declared.fault.Fault.TheVariants.{ReadFault, WriteFault, NoMemory}
use Rattle.mesh_shell.specs.declared.limit.Limit.{Limit}
use Rattle.mesh_shell.specs.declared.limit.Limit.TheVariants.{Line, Input}
use Rattle.mesh_text.specs.Schedule.{RunState}
use Rattle.mesh_text.specs.Text.{pieces_of_input, LineOutcome, On, Refused, Full, RunText, outcome_of_piece, outcome_in_run, lines_before, goes_on, finished_run, text_from, text_on}
use Rattle.mesh_text.specs.declared.verdict.Verdict.{Verdict}
use Rattle.mesh_text.specs.declared.verdict.Verdict.TheVariants.{Finished, RefusedAt, FullAt}
use Rattle.mesh_run.specs.declared.running.Running.{Running}
use Rattle.mesh_run.specs.declared.say.Say.{Say}
use Rattle.mesh_run.specs.declared.say.Say.TheVariants.{All, Last, Faults}
use Rattle.mesh_run.specs.declared.status.Status.TheVariants as status
use Rattle.mesh_run.specs.declared.status.Status.TheVariants.{Done, BadLine, Full as Overfull}
use Rattle.mesh_run.specs.Codes.{status_of}
use Rattle.mesh_run.specs.Ends.{why_past}
use Rattle.mesh_run.specs.Outputs.{says_lines, part, IsOutputOf}
use Rattle.mesh_run.specs.Running.{said, outcome_as, moved, running}
use Rattle.mesh_run.specs.Runs.{output_if}

-- ---- the text

-- what is said of a run, as the text of its script
abbrev pub text_as : {S : Type 0} → Running S → RunText → shell.RunText (Running S) Verdict
text_as r w = record {
  lines = (part r.say w).lines;
  last = (part r.say w).last;
  verdict = (part r.say w).verdict;
  after = moved r w.after;
  complete = (part r.say w).complete;
}

finished_as : {S : Type 0} (r : Running S) (say : Say) → r.say ≡ say → shell.finished_run (running.ending r) ≡ text_as r (finished_run r.at)
finished_as r say is = by_say r.say
  where
    by_say : (say : Say) → shell.finished_run (running.ending (record r { say = say })) ≡ text_as (record r { say = say }) (finished_run r.at)
    by_say All = refl
    by_say Last = refl
    by_say Faults = refl

-- one line, and then others from the next state on
line_as : {S : Type 0} (r : Running S) (k : LineOutcome) (others : RunState → RunText) (script : Running S → shell.RunText (Running S) Verdict)
    → ((n : RunState) → script (moved r n) ≡ text_as (moved r n) (others n))
    → shell.goes_on r (outcome_as (moved r) (said (says_lines r.say) (outcome_in_run r.at k))) script ≡ text_as r (goes_on r.at k others)
line_as {S} r k others script rest = by_say r.say k rest
  where
    by_say : (say : Say) (k : LineOutcome) → let q : Running S = record r { say = say } in ((n : RunState) → script (moved q n) ≡ text_as (moved q n) (others n))
        → shell.goes_on q (outcome_as (moved q) (said (says_lines say) (outcome_in_run r.at k))) script ≡ text_as q (goes_on r.at k others)
    by_say All (On text n) rest = ap (lines_before text) (rest n)
    by_say Last (On text n) rest = ap (lines_before []) (rest n)
    by_say Faults (On text n) rest = ap (lines_before []) (rest n)
    by_say All (Refused why) rest = refl
    by_say Last (Refused why) rest = refl
    by_say Faults (Refused why) rest = refl
    by_say All (Full text n e field) rest = refl
    by_say Last (Full text n e field) rest = refl
    by_say Faults (Full text n e field) rest = refl

lines_as : {S : Type 0} (r : Running S) (pieces : List Piece) → shell.text_from running r pieces ≡ text_as r (text_from r.at pieces)
unfolding shell.text_from
lines_as r [] = finished_as r r.say refl
lines_as r (piece ∷ pieces) = line_as r (outcome_of_piece r.at piece) (λ n. text_from n pieces) (λ q. shell.text_from running q pieces) (λ n. lines_as (moved r n) pieces)

input_as : {S : Type 0} (r : Running S) (input : List ℕ) → shell.text_on running schedule_limits r input ≡ text_as r (text_on r.at input)
unfolding shell.text_on
input_as r input = lines_as r (pieces_of_input input)

-- ---- what was told

told_as : {S : Type 0} (r : Running S) (bytes : List ℕ) (left before now : Option (List ℕ)) (answer : Result Verdict Fault) → outputs.IsOutputOf (λ input. text_as r (text_on r.at input)) bytes left before now answer
    → IsOutputOf r.say (text_on r.at) bytes left before now (status_of answer)
told_as r bytes left before now (Ok Finished) told = (sym told.0, told.1)
told_as r bytes left before now (Ok (RefusedAt n)) told = (sym told.0, told.1)
told_as r bytes left before now (Ok (FullAt n)) told = (sym told.0, told.1)
told_as r bytes left before now (Err ReadFault) told =
    record { lines = told.lines; others = told.others; whole_lines = told.whole_lines; unended = told.unended; consumed = told.consumed; done = told.done; grown = told.grown; prefix = told.prefix }
told_as r bytes left before now (Err WriteFault) told = told
told_as r bytes left before now (Err NoMemory) told = told

-- of an input, by what is said of the schedule's run
pub input_told : {S : Type 0} (r : Running S) (given left before now : Option (List ℕ)) (answer : Result Verdict Fault)
    → IfSome given (λ bytes. outputs.IsOutputFrom running schedule_limits r bytes left before now answer) → IfSome given (λ bytes. IsOutputOf r.say (text_on r.at) bytes left before now (status_of answer))
input_told r None left before now answer told = tt
input_told {S} r (Some bytes) left before now answer told = told_as r bytes left before now answer (output_as answer told)
  where
    script : List ℕ → shell.RunText (Running S) Verdict
    script input = shell.text_on running schedule_limits r input

    run : List ℕ → shell.RunText (Running S) Verdict
    run input = text_as r (text_on r.at input)

    output_as : (answer : Result Verdict Fault) → outputs.IsOutputOf script bytes left before now answer → outputs.IsOutputOf run bytes left before now answer
    output_as (Ok v) told = subst (λ (w : shell.RunText (Running S) Verdict). (v ≡ w.verdict) × Appends before now (shell.whole w)) (input_as r bytes) told
    output_as (Err ReadFault) told = record {
      lines = told.lines;
      others = told.others;
      whole_lines = told.whole_lines;
      unended = told.unended;
      consumed = told.consumed;
      done = subst (λ (w : shell.RunText (Running S) Verdict). w.complete ≡ true) (input_as r told.lines) told.done;
      grown = subst (λ (w : shell.RunText (Running S) Verdict). Appends before now w.lines) (input_as r told.lines) told.grown;
      prefix = subst (λ (w : shell.RunText (Running S) Verdict). AppendsPrefix before now (shell.whole w)) (input_as r bytes) told.prefix;
    }
    output_as (Err WriteFault) told = subst (λ (w : shell.RunText (Running S) Verdict). AppendsPrefix before now (shell.whole w)) (input_as r bytes) told
    output_as (Err NoMemory) told = subst (λ (w : shell.RunText (Running S) Verdict). AppendsPrefix before now (shell.whole w)) (input_as r bytes) told

-- and the state after it
pub after_as : {S : Type 0} (r q : Running S) (given : Option (List ℕ)) → IfSome given (λ bytes. q ≡ (shell.text_on running schedule_limits r bytes).after)
    → IfSome given (λ bytes. q.at ≡ (text_on r.at bytes).after)
after_as r q None is = tt
after_as {S} r q (Some bytes) is = ap (λ (x : Running S). x.at) (is ∙ ap (λ (w : shell.RunText (Running S) Verdict). w.after) (input_as r bytes))

-- ---- a line that goes past a limit

pub past_refused : (m : RunState) (limit : Limit) → outcome_of_piece m (piece_past limit) ≡ Refused (why_past limit)
unfolding outcome_of_piece
past_refused m Line = refl
past_refused m Input = refl

-- ---- a run that is done

pub where_done : (P : Type 0) (answer : Result Verdict Fault) → status_of answer ≡ Done → IfOk answer (λ v. v ≡ Finished → P) → P
where_done P (Ok Finished) done p = p refl
where_done P (Ok (RefusedAt n)) done p = absurd (let clash : BadLine n ≡ Done = done in let Q : ⊥ = cc in Q)
where_done P (Ok (FullAt n)) done p = absurd (let clash : Overfull n ≡ Done = done in let Q : ⊥ = cc in Q)
where_done P (Err ReadFault) done p = absurd (let clash : status.ReadFault ≡ Done = done in let Q : ⊥ = cc in Q)
where_done P (Err WriteFault) done p = absurd (let clash : status.WriteFault ≡ Done = done in let Q : ⊥ = cc in Q)
where_done P (Err NoMemory) done p = absurd (let clash : status.NoMemory ≡ Done = done in let Q : ⊥ = cc in Q)

pub no_words : (answer : Result Verdict Fault) → status_of answer ≢ status.Usage
no_words (Ok Finished) e = cc
no_words (Ok (RefusedAt n)) e = cc
no_words (Ok (FullAt n)) e = cc
no_words (Err ReadFault) e = cc
no_words (Err WriteFault) e = cc
no_words (Err NoMemory) e = cc
