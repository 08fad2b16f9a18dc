-- What is told of a line of a watched run.
use Rattle.std.proofs.Common.{◌≡◌, ◌≢◌, ℕ, ◌+◌, ◌*◌, ◌≤◌, List, Option, Result, Ok, Err, OnOk, IsErr, length, is_some, true, refl, sym, ap, subst, ◌∙◌, arith}
use Rattle.std.specs.Io.KnownBytes.{Appends}
use Rattle.mesh_base.specs.declared.limits.TheConstants.{MOST_EVENTS}
use Rattle.mesh_grammar.specs.declared.fault.LineFault.{LineFault}
use Rattle.mesh_grammar.specs.declared.fault.BadWhy.{BadWhy}
use Rattle.mesh_grammar.specs.declared.fault.BadWhy.TheVariants.{Fault}
use Rattle.mesh_grammar.specs.Faults.{bad_line}
use Rattle.mesh_io.specs.Puts.{AppendsPrefix}
use Rattle.mesh_shell.specs.Outputs as outputs
use Rattle.mesh_shell.specs.Pieces.{Whole}
use Rattle.mesh_shell.specs.Fold as shell
use Rattle.mesh_shell.specs.Scripts.{GoesOn, size_of_line, piece_past}
use Rattle.mesh_shell.specs.declared.fault.Fault.{Fault as ShellFault}
use Rattle.mesh_shell.specs.declared.limit.Limit.{Limit}
use Rattle.mesh_shell.specs.declared.limit.Limit.TheVariants.{Line as LineLimit, Input}
use Rattle.mesh_text.specs.Schedule.{RunState, AcceptedLine, Nothing, NewNode, ShowsNode, ShowsRoute, ShowsFlight, line_of}
use Rattle.mesh_text.specs.Text as texts
use Rattle.mesh_text.specs.Text.{Refused, outcome_in_run}
use Rattle.mesh_text.specs.declared.verdict.Verdict.{Verdict}
use Rattle.mesh_text.specs.declared.verdict.Verdict.TheVariants.{RefusedAt}
use Rattle.mesh_run.specs.Ends.{IsSettled, why_past}
use Rattle.mesh_run.specs.Runs.{IsLineRun}
use Rattle.mesh_run.specs.declared.stop.Stop.{Stop}
use Rattle.mesh_script.specs.declared.line.Line.{Line}
use Rattle.mesh_script.specs.declared.line.Line.TheVariants as line
use Rattle.mesh_script.specs.Seen.{accepted_of}
use Rattle.mesh_run.proofs.Loud.{same_as, loud_line, loud_past_as, loud_past_failed_as}
use Rattle.mesh_run.proofs.Settled.{goes_on_where_done}
use Rattle.mesh_run.specs.Room.{CanLead}
use Rattle.mesh_blocks.specs.declared.below.Below.{Below}
use Rattle.mesh_blocks.specs.Text.{watched_line, watched_read, watched_piece}

-- ---- a line, by what is read of it

came-whole : (form : Below) (m : RunState) (bytes : List ℕ) → watched_piece form m (Whole bytes) ≡ watched_read form m (line_of m.mesh (is_some m.world) bytes)
unfolding watched_piece
came-whole form m bytes = refl

came-accepted : (form : Below) (m : RunState) (bytes : List ℕ) (a : AcceptedLine) → line_of m.mesh (is_some m.world) bytes ≡ Ok a → watched_piece form m (Whole bytes) ≡ watched_line form m a
came-accepted form m bytes a e = came-whole form m bytes ∙ ap (watched_read form m) e

pub came-refused : (form : Below) (m : RunState) (bytes : List ℕ) (f : LineFault) → line_of m.mesh (is_some m.world) bytes ≡ Err f → watched_piece form m (Whole bytes) ≡ Refused (Fault f)
came-refused form m bytes f e = came-whole form m bytes ∙ ap (watched_read form m) e

-- one that goes past a limit
pub came-past : (form : Below) (m : RunState) (limit : Limit) → watched_piece form m (piece_past limit) ≡ Refused (why_past limit)
unfolding watched_piece texts.outcome_of_piece
came-past form m LineLimit = refl
came-past form m Input = refl

-- ---- what was told of a line, by what is read of it

pub run_accepted : (form : Below) (m n : RunState) (bytes : List ℕ) (l : AcceptedLine) (a b : Option (List ℕ)) (r : Result (Unit {0}) Stop) → line_of m.mesh (is_some m.world) bytes ≡ Ok l
    → IsLineRun true m (watched_line form m l) n a b r → IsLineRun true m (watched_piece form m (Whole bytes)) n a b r
run_accepted form m n bytes l a b r e g = subst (λ k. IsLineRun true m k n a b r) (sym (came-accepted form m bytes l e)) g

-- a line that does no event comes to what it comes to in the run
pub run_other : (form : Below) (m n : RunState) (bytes : List ℕ) (l : Line) (a b : Option (List ℕ)) (r : Result (Unit {0}) Stop) → line_of m.mesh (is_some m.world) bytes ≡ Ok (accepted_of l)
    → ((e : _) → l ≢ line.Step e) → ((count : _) → l ≢ line.Auto count)
    → IsLineRun true m (texts.outcome_of_piece m (Whole bytes)) n a b r → IsLineRun true m (watched_piece form m (Whole bytes)) n a b r
unfolding texts.outcome_of_piece watched_line
run_other form m n bytes l a b r is step many g = by_line l is step many
  where
    by : (k : AcceptedLine) → line_of m.mesh (is_some m.world) bytes ≡ Ok k → watched_line form m k ≡ texts.outcome_of_line m k → IsLineRun true m (watched_piece form m (Whole bytes)) n a b r
    by k e same = run_accepted form m n bytes k a b r e (subst (λ x. IsLineRun true m x n a b r) (sym same) (subst (λ x. IsLineRun true m (texts.outcome_of_read m x) n a b r) e g))

    by_line : (l : Line) → line_of m.mesh (is_some m.world) bytes ≡ Ok (accepted_of l) → ((e : _) → l ≢ line.Step e) → ((count : _) → l ≢ line.Auto count) → IsLineRun true m (watched_piece form m (Whole bytes)) n a b r
    by_line line.Blank is step many = by Nothing is refl
    by_line (line.Node x first) is step many = by (NewNode x.0 first) is refl
    by_line (line.Step e) is step many = absurd (step e refl)
    by_line (line.Auto count) is step many = absurd (many count refl)
    by_line (line.Show node) is step many = by (ShowsNode node) is refl
    by_line (line.Route node dest) is step many = by (ShowsRoute node dest) is refl
    by_line line.Flight is step many = by ShowsFlight is refl

-- ---- what its script tells

-- what was done of the line, and what was settled then; `s` is the same state as `m`, and `k` as `n`
pub line_told : (form f : Below) (s m n k : RunState) (bytes : List ℕ) (a b d : Option (List ℕ)) (did : Result (Unit {0}) Stop) (result : Result (Option Verdict) ShellFault) → f ≡ form → s ≡ m → k ≡ n
    → IsLineRun true s (watched_piece f s (Whole bytes)) n a b did → IsSettled n b d did result → outputs.IsLineRun (outcome_in_run m (watched_piece form m (Whole bytes))) k a d result
line_told form f s m n k bytes a b d did result is same back ran told =
    subst (λ (x : RunState). outputs.IsLineRun (outcome_in_run m (watched_piece form m (Whole bytes))) x a d result) (sym back)
    (subst (λ (x : RunState). outputs.IsLineRun (outcome_in_run x (watched_piece form x (Whole bytes))) n a d result) same
    (subst (λ (x : Below). outputs.IsLineRun (outcome_in_run s (watched_piece x s (Whole bytes))) n a d result) is
    (loud_line s n (watched_piece f s (Whole bytes)) a b d did result ran told)))

-- how far it leads where it was done
pub line_leads : (s m n k : RunState) (bytes : List ℕ) (b d : Option (List ℕ)) (did : Result (Unit {0}) Stop) (result : Result (Option Verdict) ShellFault) → s ≡ m → k ≡ n → IsSettled n b d did result
    → OnOk did (n.lines ≡ s.lines + 1) → OnOk did (4 * n.steps ≤ 4 * s.steps + MOST_EVENTS * length bytes) → GoesOn result (CanLead m (size_of_line bytes) k)
line_leads s m n k bytes b d did result same back told lines steps = goes_on_where_done (CanLead m (size_of_line bytes) k) n b d did result told (by_did did lines steps)
  where
    by_did : (did : Result (Unit {0}) Stop) → OnOk did (n.lines ≡ s.lines + 1) → OnOk did (4 * n.steps ≤ 4 * s.steps + MOST_EVENTS * length bytes) → OnOk did (CanLead m (size_of_line bytes) k)
    by_did (Ok done) lines steps =
        let lines_before = ap (λ (x : RunState). x.lines) same in
        let lines_after = ap (λ (x : RunState). x.lines) back in
        let steps_before = ap (λ (x : RunState). x.steps) same in
        let steps_after = ap (λ (x : RunState). x.steps) back in
        record { lines = omega arith; steps = omega arith }
    by_did (Err stop) lines steps = tt

-- the last line of one that goes past a limit
pub past_told : (form : Below) (s m : RunState) (limit : Limit) (why : BadWhy) (v : Verdict) (a b : Option (List ℕ)) → s ≡ m → why ≡ why_past limit → v ≡ RefusedAt (s.lines + 1) → Appends a b (bad_line (s.lines + 1) why)
    → outputs.IsLineLast (outcome_in_run m (watched_piece form m (piece_past limit))) v a b
past_told form s m limit why v a b same is verdict put =
    let piece : texts.LineOutcome = watched_piece form m (piece_past limit) in
    let here = subst (λ (x : RunState). Appends a b (bad_line (x.lines + 1) why)) same put in
    subst (λ (c : shell.Outcome RunState Verdict). outputs.IsLineLast c v a b) (same_as (outcome_in_run m piece))
    (loud_past_as (λ (x : RunState). x) m piece v why a b (came-past form m limit ∙ ap Refused (sym is)) (verdict ∙ ap (λ (x : RunState). RefusedAt (x.lines + 1)) same) here)

pub past_broken : (form : Below) (s m : RunState) (limit : Limit) (why : BadWhy) (a b : Option (List ℕ)) (answer : Result Verdict ShellFault) → s ≡ m → why ≡ why_past limit → IsErr answer → AppendsPrefix a b (bad_line (s.lines + 1) why)
    → outputs.IsLastRun (outcome_in_run m (watched_piece form m (piece_past limit))) a b answer
past_broken form s m limit why a b answer same is failed put =
    let piece : texts.LineOutcome = watched_piece form m (piece_past limit) in
    let here = subst (λ (x : RunState). AppendsPrefix a b (bad_line (x.lines + 1) why)) same put in
    subst (λ (c : shell.Outcome RunState Verdict). outputs.IsLastRun c a b answer) (same_as (outcome_in_run m piece))
    (loud_past_failed_as (λ (x : RunState). x) m piece why a b answer failed (came-past form m limit ∙ ap Refused (sym is)) here)
