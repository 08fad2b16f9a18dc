-- What a router writes and sends for its script, and its verdict, from the bytes of the script and
-- from what the calls that receive datagrams find.
use Rattle.std.specs.Prelude.{ℕ, ◌+◌, List, [], ◌∷◌, ◌++◌, codes}
use Rattle.mesh_base.specs.declared.events.Full.{Full as Counter}
use Rattle.mesh_grammar.specs.declared.fault.BadWhy.{BadWhy}
use Rattle.mesh_grammar.specs.Faults.{bad_line}
use Rattle.mesh_shell.specs.Pieces.{Piece}
use Rattle.mesh_grammar.specs.Written.{line, label_number}
use Rattle.mesh_text.specs.Lines.{field_text}
use Rattle.mesh_text.specs.Text.{pieces_of_input}
use Rattle.mesh_text.specs.declared.verdict.Verdict.{Verdict}
use Rattle.mesh_text.specs.declared.verdict.Verdict.TheVariants.{Finished, RefusedAt, FullAt}
use Rattle.mesh_router.specs.Logs.{Log, text_log, followed_by}
use Rattle.mesh_router.specs.Routers.{Router, router_in, RunState, opening_run_state}
use Rattle.mesh_router.specs.Finds.{Find}
use Rattle.mesh_router.specs.Lines.{LineOutcome, On, Refused, Full, outcome_of_piece}

-- a run: its log, which includes the last line, and its verdict
pub record Run : Type 0 where
  pub log : Log
  pub verdict : Verdict

-- ---- the last line

-- the last line of a run that has read its whole script
abbrev pub counts_line : Router → List ℕ
counts_line r =
    line (label_number (codes "done heard ") r.heard ++ label_number (codes " sent ") r.sent
    ++ label_number (codes " dropped ") r.dropped)

-- the last line of a run in which a counter is full at the line of this number
abbrev pub full_line : ℕ → List ℕ → Counter → List ℕ
full_line number words field =
    line (label_number (codes "full line ") number ++ codes ": " ++ words ++ codes ": "
    ++ field_text field)

-- ---- all lines

abbrev pub finished_run : RunState → Run
finished_run m = record { log = text_log (counts_line (router_in m.stage)); verdict = Finished }

abbrev pub refused_run : RunState → BadWhy → Run
refused_run m why = record {
  log = text_log (bad_line (m.lines + 1) why);
  verdict = RefusedAt (m.lines + 1);
}

abbrev pub overfull_run : RunState → Log → List ℕ → Counter → Run
overfull_run m log words field = record {
  log = followed_by log (text_log (full_line (m.lines + 1) words field));
  verdict = FullAt (m.lines + 1);
}

-- the log before the rest of a run
abbrev pub run_after : Log → Run → Run
run_after log run = record run { log = followed_by log run.log }

-- the run of a line with this outcome, and of the rest from the next state on
abbrev pub goes_on : RunState → LineOutcome → (RunState → List Find → Run) → Run
goes_on m (On log n finds) others = run_after log (others n finds)
goes_on m (Refused why) others = refused_run m why
goes_on m (Full log words field) others = overfull_run m log words field

-- the run of these lines from a state on
unfoldable pub run_from : RunState → List Piece → List Find → Run
run_from m [] finds = finished_run m
run_from m (piece ∷ pieces) finds =
    goes_on m (outcome_of_piece m piece finds) (λ n left. run_from n pieces left)

-- what a router writes and sends for this script if its receive calls find this, and the verdict
unfoldable pub run_of_script : List ℕ → List Find → Run
run_of_script script finds = run_from opening_run_state (pieces_of_input script) finds
