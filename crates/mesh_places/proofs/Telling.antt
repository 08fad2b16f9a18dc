-- What a run with places tells, as a script: of a line, and of its input.
use Rattle.std.proofs.Common.{◌≡◌, ℕ, ◌+◌, ◌*◌, ◌≤◌, List, Option, Result, Ok, Err, OnOk, IsErr, length, refl, sym, ap, subst, ◌∙◌, arith}
use Rattle.std.specs.Io.KnownBytes.{Appends}
use Rattle.mesh_base.specs.declared.limits.TheConstants.{MOST_EVENTS}
use Rattle.mesh_grammar.specs.Faults.{bad_line}
use Rattle.mesh_io.specs.NextLines.{schedule_limits}
use Rattle.mesh_io.specs.Puts.{AppendsPrefix}
use Rattle.mesh_shell.specs.Outputs as outputs
use Rattle.mesh_shell.specs.Pieces.{Piece, Whole}
use Rattle.mesh_shell.specs.Fold as shell
use Rattle.mesh_shell.specs.Scripts.{GoesOn, size_of_line, piece_past}
use Rattle.mesh_shell.specs.declared.fault.Fault.{Fault}
use Rattle.mesh_shell.specs.declared.limit.Limit.{Limit}
use Rattle.mesh_shell.specs.declared.limit.Limit.TheVariants.{Line, Input}
use Rattle.mesh_text.specs.Schedule as schedule
use Rattle.mesh_text.specs.Text as texts
use Rattle.mesh_text.specs.Text.{Refused}
use Rattle.mesh_text.specs.declared.verdict.Verdict.{Verdict}
use Rattle.mesh_text.specs.declared.verdict.Verdict.TheVariants.{RefusedAt}
use Rattle.mesh_run.specs.Codes.{status_of}
use Rattle.mesh_run.specs.Ends.{IsSettled, why_past}
use Rattle.mesh_run.specs.Running.{outcome_as}
use Rattle.mesh_run.specs.declared.stop.Stop.{Stop}
use Rattle.mesh_run.proofs.Loud.{IsSeenAs, loud_line_as, loud_past_as, loud_past_failed_as, loud_told_as, text_on_as}
use Rattle.mesh_run.proofs.Settled.{goes_on_where_done, line_at}
use Rattle.mesh_grid.specs.Text.{RunState, outcome_of_piece, outcome_with, next, places_after, placed_run, text_on}
use Rattle.mesh_grid.proofs.PlaceSteps.{came-long, came-beyond}
use Rattle.mesh_places.specs.declared.placed.Placed.{Placed}
use Rattle.mesh_places.specs.RunStates.{run_state_of, moved, IsRunOfLine}
use Rattle.mesh_places.specs.Outputs.{IsOutputFrom}
use Rattle.mesh_run.specs.Room.{CanLead}
use Rattle.mesh_places.specs.Running.{running}

-- ---- a line

-- the state to which a line leads with the run in this state
abbrev after_line : Placed → Piece → schedule.RunState → Placed
after_line p piece n = moved p (next (run_state_of p) piece n)

as_with : {N : Type 0} (to : RunState → N) (next_of : schedule.RunState → RunState) (c : shell.Outcome schedule.RunState Verdict) → outcome_as to (outcome_with next_of c) ≡ outcome_as (λ n. to (next_of n)) c
as_with to next_of (shell.On text n) = refl
as_with to next_of (shell.Ended text last v) = refl

outcome_is : (p : Placed) (piece : Piece) → running.outcome p piece ≡ outcome_as (after_line p piece) (texts.outcome_in_run p.point (outcome_of_piece p.reach (run_state_of p) piece))
outcome_is p piece = as_with (moved p) (next (run_state_of p) piece) (texts.outcome_in_run p.point (outcome_of_piece p.reach (run_state_of p) piece))

-- what was done of the line, and what was settled then; `r` is the same as `q`
pub line_told : (p q r : Placed) (bytes : List ℕ) (a b d : Option (List ℕ)) (did : Result (Unit {0}) Stop) (result : Result (Option Verdict) Fault) → IsRunOfLine p q bytes a b did → IsSettled q.point b d did result → r ≡ q
    → outputs.IsLineRun (running.outcome p (Whole bytes)) r a d result
line_told p q r bytes a b d did result ran told same =
    let at : Placed = after_line p (Whole bytes) q.point in
    let here : outputs.IsLineRun (running.outcome p (Whole bytes)) at a d result =
    subst (λ (c : shell.Outcome Placed Verdict). outputs.IsLineRun c at a d result) (sym (outcome_is p (Whole bytes)))
    (loud_line_as (after_line p (Whole bytes)) p.point q.point (outcome_of_piece p.reach (run_state_of p) (Whole bytes)) a b d did result ran.comes told) in
    line_at (running.outcome p (Whole bytes)) at r a d result (goes_on_where_done (r ≡ at) q.point b d did result told (by_did did ran.places)) here
  where
    by_did : (did : Result (Unit {0}) Stop) → OnOk did (q.places ≡ places_after (run_state_of p) (Whole bytes)) → OnOk did (r ≡ after_line p (Whole bytes) q.point)
    by_did (Ok done) places = same ∙ ran.only ∙ ap (λ there. moved p (record { run = q.point; places = there })) places
    by_did (Err stop) places = tt

-- how far it leads where it was done
pub line_leads : (p q r : Placed) (bytes : List ℕ) (a b d : Option (List ℕ)) (did : Result (Unit {0}) Stop) (result : Result (Option Verdict) Fault) → IsRunOfLine p q bytes a b did → IsSettled q.point b d did result → r ≡ q
    → GoesOn result (CanLead p.point (size_of_line bytes) r.point)
line_leads p q r bytes a b d did result ran told same = goes_on_where_done (CanLead p.point (size_of_line bytes) r.point) q.point b d did result told (by_did did ran.lines ran.steps)
  where
    by_did : (did : Result (Unit {0}) Stop) → OnOk did (q.point.lines ≡ p.point.lines + 1) → OnOk did (4 * q.point.steps ≤ 4 * p.point.steps + MOST_EVENTS * length bytes) → OnOk did (CanLead p.point (size_of_line bytes) r.point)
    by_did (Ok done) lines steps =
        let here : CanLead p.point (size_of_line bytes) q.point = record { lines = omega arith; steps = omega arith } in
        subst (λ (x : Placed). CanLead p.point (size_of_line bytes) x.point) (sym same) here
    by_did (Err stop) lines steps = tt

-- ---- a line that goes past a limit

came_past : (reach : ℕ) (m : RunState) (limit : Limit) → outcome_of_piece reach m (piece_past limit) ≡ Refused (why_past limit)
came_past reach m Line = came-long reach m
came_past reach m Input = came-beyond reach m

-- its last line is written, or a prefix of it
pub past_told : (p : Placed) (limit : Limit) (v : Verdict) (a b : Option (List ℕ)) → v ≡ RefusedAt (p.point.lines + 1) → Appends a b (bad_line (p.point.lines + 1) (why_past limit))
    → outputs.IsLineLast (running.outcome p (piece_past limit)) v a b
past_told p limit v a b verdict put =
    subst (λ (c : shell.Outcome Placed Verdict). outputs.IsLineLast c v a b) (sym (outcome_is p (piece_past limit)))
    (loud_past_as (after_line p (piece_past limit)) p.point _ v (why_past limit) a b (came_past p.reach (run_state_of p) limit) verdict put)

pub past_broken : (p : Placed) (limit : Limit) (a b : Option (List ℕ)) (answer : Result Verdict Fault) → IsErr answer → AppendsPrefix a b (bad_line (p.point.lines + 1) (why_past limit))
    → outputs.IsLastRun (running.outcome p (piece_past limit)) a b answer
past_broken p limit a b answer failed put =
    subst (λ (c : shell.Outcome Placed Verdict). outputs.IsLastRun c a b answer) (sym (outcome_is p (piece_past limit)))
    (loud_past_failed_as (after_line p (piece_past limit)) p.point _ (why_past limit) a b answer failed (came_past p.reach (run_state_of p) limit) put)

-- ---- an input

-- the script makes of each state what the run with places does
is_placed_run : (p : Placed) → IsSeenAs (moved p) (placed_run p.reach) running
is_placed_run p = record { head = λ m. refl; outcome = λ m piece. refl; ending = λ m. refl }

pub input_told : (p : Placed) (bytes : List ℕ) (left before now : Option (List ℕ)) (answer : Result Verdict Fault) → outputs.IsOutputFrom running schedule_limits p bytes left before now answer
    → IsOutputFrom p.reach (run_state_of p) bytes left before now (status_of answer)
input_told p bytes left before now answer told =
    loud_told_as (moved p) (text_on p.reach (run_state_of p)) (shell.text_on running schedule_limits p) (λ input. text_on_as (moved p) (placed_run p.reach) running (is_placed_run p) schedule_limits (run_state_of p) input) bytes left before now answer told
