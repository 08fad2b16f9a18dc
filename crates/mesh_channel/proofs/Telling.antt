-- What a run over a channel tells, as a script: of a line, and of its input.
use Rattle.std.proofs.Common.{◌≡◌, ◌≢◌, ℕ, ◌+◌, Bool, true, false, List, [], ◌∷◌, Option, Some, None, Result, Ok, Err, IsErr, OnOk, is_some, refl, sym, ap, subst, ◌∙◌, ◌≤◌, length, arith}
use Rattle.std.specs.Io.KnownBytes.{Appends}
use Rattle.mesh_grammar.specs.declared.fault.LineFault.{LineFault}
use Rattle.mesh_grammar.specs.declared.fault.BadWhy.TheVariants.{Fault as FaultWhy}
use Rattle.mesh_grammar.specs.Faults.{bad_line}
use Rattle.mesh_io.specs.NextLines.{schedule_limits}
use Rattle.mesh_io.specs.Puts.{AppendsPrefix}
use Rattle.mesh_shell.specs.Outputs as outputs
use Rattle.mesh_shell.specs.Pieces.{Piece, Whole}
use Rattle.mesh_shell.specs.Fold as shell
use Rattle.mesh_shell.specs.Scripts.{GoesOn, size_of_line, piece_past}
use Rattle.mesh_shell.specs.declared.fault.Fault.{Fault}
use Rattle.mesh_shell.specs.declared.fault.Fault.TheVariants.{ReadFault, WriteFault, NoMemory}
use Rattle.mesh_shell.specs.declared.limit.Limit.{Limit}
use Rattle.mesh_shell.specs.declared.limit.Limit.TheVariants.{Line as LineLimit, Input}
use Rattle.mesh_text.specs.Schedule as schedule
use Rattle.mesh_text.specs.Schedule.{AcceptedLine, Does, Chooses, line_of, with_world}
use Rattle.mesh_text.specs.Text as texts
use Rattle.mesh_text.specs.Text.{LineOutcome, Refused, pieces_of_input}
use Rattle.mesh_text.specs.declared.verdict.Verdict.{Verdict}
use Rattle.mesh_text.specs.declared.verdict.Verdict.TheVariants.{Finished, RefusedAt, FullAt}
use Rattle.mesh_run.specs.Codes.{status_of}
use Rattle.mesh_run.specs.Ends.{IsSettled, why_past}
use Rattle.mesh_run.specs.Outputs.{says_lines, part, IsOutputOf}
use Rattle.mesh_run.specs.Running.{outcome_as, said}
use Rattle.mesh_run.specs.declared.say.Say.{Say}
use Rattle.mesh_run.specs.declared.say.Say.TheVariants.{All, Last, Faults}
use Rattle.mesh_run.specs.declared.stop.Stop.{Stop}
use Rattle.mesh_run.proofs.Settled as settled
use Rattle.mesh_fates.specs.declared.rates.Rates.{Rates}
use Rattle.mesh_fates.specs.Channels.{Channel}
use Rattle.mesh_channel.specs.Lines.{Line, Passes, Plain, passing_of, channel_line, line_by, plain_by}
use Rattle.mesh_channel.specs.Chosen.{given, chosen}
use Rattle.mesh_channel.specs.Text.{RunState, drawn_by, line_at, outcome_of_drawn, outcome_of_line, outcome_of_read, outcome_of_piece, channel_by, channel_after, next, outcome_with, outcome_in_run, channel_run, text_on}
use Rattle.mesh_channel.specs.declared.channeled.Channeled.{Channeled}
use Rattle.mesh_channel.specs.RunStates.{run_state_of, moved, IsRunOfLine}
use Rattle.mesh_channel.specs.Outputs.{IsOutputFrom}
use Rattle.mesh_channel.specs.Room.{CanLead, most_left}
use Rattle.mesh_channel.specs.Choices.{tick_behind}
use Rattle.mesh_channel.specs.declared.until.Until.{Until}
use Rattle.mesh_channel.specs.declared.until.Until.TheVariants.{Events}
use Rattle.mesh_channel.specs.declared.until.TheConstants.{LAST_TICK}
use Rattle.mesh_channel.proofs.Lining.{other_leads}
use Rattle.mesh_model.specs.Worlds.{Event}
use Rattle.mesh_script.specs.declared.line.Line.{Line as ScriptLine}
use Rattle.mesh_script.specs.declared.line.Line.TheVariants as scripts
use Rattle.mesh_script.specs.Seen.{accepted_of}
use Rattle.mesh_run.specs.Runs.{IsLineRun}
use Rattle.mesh_channel.specs.Running.{running}

-- ---- what is read of a line

pub read_passes : (m : RunState) (bytes : List ℕ) (ticks : ℕ) → passing_of m.run.mesh bytes ≡ Ok (Some ticks) → line_at m bytes ≡ Ok (Passes ticks)
unfolding channel_line
read_passes m bytes ticks e = ap (λ r. line_by r (line_of m.run.mesh (is_some m.run.world) bytes)) e

pub read_fault : (m : RunState) (bytes : List ℕ) (f : LineFault) → passing_of m.run.mesh bytes ≡ Err f → line_at m bytes ≡ Err f
unfolding channel_line
read_fault m bytes f e = ap (λ r. line_by r (line_of m.run.mesh (is_some m.run.world) bytes)) e

read_other : (m : RunState) (bytes : List ℕ) → passing_of m.run.mesh bytes ≡ Ok None → line_at m bytes ≡ plain_by (line_of m.run.mesh (is_some m.run.world) bytes)
unfolding channel_line
read_other m bytes e = ap (λ r. line_by r (line_of m.run.mesh (is_some m.run.world) bytes)) e

pub read_plain : (m : RunState) (bytes : List ℕ) (l : AcceptedLine) → passing_of m.run.mesh bytes ≡ Ok None → line_of m.run.mesh (is_some m.run.world) bytes ≡ Ok l → line_at m bytes ≡ Ok (Plain l)
read_plain m bytes l e is = read_other m bytes e ∙ ap plain_by is

pub read_refused : (m : RunState) (bytes : List ℕ) (f : LineFault) → passing_of m.run.mesh bytes ≡ Ok None → line_of m.run.mesh (is_some m.run.world) bytes ≡ Err f → line_at m bytes ≡ Err f
read_refused m bytes f e is = read_other m bytes e ∙ ap plain_by is

-- ---- what it comes to

pub came_allowed : (rates : Rates) (m : RunState) (bytes : List ℕ) (l : Line) → line_at m bytes ≡ Ok l → outcome_of_piece rates m (Whole bytes) ≡ outcome_of_line rates m l
unfolding outcome_of_piece
came_allowed rates m bytes l e = ap (outcome_of_read rates m) e

pub came_refused : (rates : Rates) (m : RunState) (bytes : List ℕ) (f : LineFault) → line_at m bytes ≡ Err f → outcome_of_piece rates m (Whole bytes) ≡ Refused (FaultWhy f)
unfolding outcome_of_piece
came_refused rates m bytes f e = ap (outcome_of_read rates m) e

pub channel_allowed : (rates : Rates) (m : RunState) (bytes : List ℕ) (l : Line) → line_at m bytes ≡ Ok l → channel_after rates m (Whole bytes) ≡ (drawn_by rates m l).channel
unfolding channel_after
channel_allowed rates m bytes l e = ap (channel_by rates m) e

-- a line that has no events comes to what it comes to in a schedule
pub other_outcome : (rates : Rates) (m : RunState) (l : AcceptedLine) → ((e : _) → l ≢ Does e) → ((count : ℕ) → l ≢ Chooses count) → outcome_of_line rates m (Plain l) ≡ texts.outcome_of_line m.run l
other_outcome rates m schedule.Nothing does chooses = refl
other_outcome rates m (schedule.NewNode a first) does chooses = refl
other_outcome rates m (Does e) does chooses = absurd (does e refl)
other_outcome rates m (Chooses count) does chooses = absurd (chooses count refl)
other_outcome rates m (schedule.ShowsNode x) does chooses = refl
other_outcome rates m (schedule.ShowsRoute x d) does chooses = refl
other_outcome rates m schedule.ShowsFlight does chooses = refl

pub other_channel : (rates : Rates) (m : RunState) (l : AcceptedLine) → ((e : _) → l ≢ Does e) → ((count : ℕ) → l ≢ Chooses count) → (drawn_by rates m (Plain l)).channel ≡ m.channel
other_channel rates m schedule.Nothing does chooses = refl
other_channel rates m (schedule.NewNode a first) does chooses = refl
other_channel rates m (Does e) does chooses = absurd (does e refl)
other_channel rates m (Chooses count) does chooses = absurd (chooses count refl)
other_channel rates m (schedule.ShowsNode x) does chooses = refl
other_channel rates m (schedule.ShowsRoute x d) does chooses = refl
other_channel rates m schedule.ShowsFlight does chooses = refl

pub schedule_outcome : (m : schedule.RunState) (bytes : List ℕ) (l : AcceptedLine) → line_of m.mesh (is_some m.world) bytes ≡ Ok l → texts.outcome_of_piece m (Whole bytes) ≡ texts.outcome_of_line m l
unfolding texts.outcome_of_piece
schedule_outcome m bytes l e = ap (texts.outcome_of_read m) e

-- ---- a line

-- the state to which a line leads with the run in this state
abbrev after_line : Channeled → Piece → schedule.RunState → Channeled
after_line p piece n = moved p (next p.rates (run_state_of p) piece n)

said_with : {N : Type 0} (say : Bool) (to : RunState → N) (next_of : schedule.RunState → RunState) (c : shell.Outcome schedule.RunState Verdict) → outcome_as to (said say (outcome_with next_of c)) ≡ outcome_as (λ n. to (next_of n)) (said say c)
said_with say to next_of (shell.On text n) = refl
said_with say to next_of (shell.Ended text last v) = refl

outcome_is : (p : Channeled) (piece : Piece) → running.outcome p piece ≡ outcome_as (after_line p piece) (said (says_lines p.say) (texts.outcome_in_run p.point (outcome_of_piece p.rates (run_state_of p) piece)))
outcome_is p piece = said_with (says_lines p.say) (moved p) (next p.rates (run_state_of p) piece) (texts.outcome_in_run p.point (outcome_of_piece p.rates (run_state_of p) piece))

-- what was done of the line, and what was settled then; `r` is the same as `q`
pub line_told : (p q r : Channeled) (bytes : List ℕ) (a b d : Option (List ℕ)) (did : Result (Unit {0}) Stop) (result : Result (Option Verdict) Fault) → IsRunOfLine p q bytes a b did → IsSettled q.point b d did result → r ≡ q
    → outputs.IsLineRun (running.outcome p (Whole bytes)) r a d result
line_told p q r bytes a b d did result ran told same =
    let at : Channeled = after_line p (Whole bytes) q.point in
    let here : outputs.IsLineRun (running.outcome p (Whole bytes)) at a d result =
    subst (λ (c : shell.Outcome Channeled Verdict). outputs.IsLineRun c at a d result) (sym (outcome_is p (Whole bytes)))
    (settled.line_told (says_lines p.say) (after_line p (Whole bytes)) p.point q.point (outcome_of_piece p.rates (run_state_of p) (Whole bytes)) a b d did result ran.comes told) in
    settled.line_at (running.outcome p (Whole bytes)) at r a d result (settled.goes_on_where_done (r ≡ at) q.point b d did result told (by_did did ran.channel)) here
  where
    by_did : (did : Result (Unit {0}) Stop) → OnOk did (q.channel ≡ channel_after p.rates (run_state_of p) (Whole bytes)) → OnOk did (r ≡ after_line p (Whole bytes) q.point)
    by_did (Ok done) channel = same ∙ ran.only ∙ ap (λ (there : Channel). moved p (record { run = q.point; channel = there })) channel
    by_did (Err stop) channel = tt

-- how far it leads where it was done
pub line_leads : (p q r : Channeled) (bytes : List ℕ) (a b d : Option (List ℕ)) (did : Result (Unit {0}) Stop) (result : Result (Option Verdict) Fault) → IsRunOfLine p q bytes a b did → IsSettled q.point b d did result → r ≡ q
    → GoesOn result (CanLead p (size_of_line bytes) r)
line_leads p q r bytes a b d did result ran told same = settled.goes_on_where_done (CanLead p (size_of_line bytes) r) q.point b d did result told (by_did did ran.led)
  where
    by_did : (did : Result (Unit {0}) Stop) → OnOk did (CanLead p (size_of_line bytes) q) → OnOk did (CanLead p (size_of_line bytes) r)
    by_did (Ok done) led = subst (λ (x : Channeled). CanLead p (size_of_line bytes) x) (sym same) led
    by_did (Err stop) led = tt

-- ---- a line that goes past a limit

came_past : (rates : Rates) (m : RunState) (limit : Limit) → outcome_of_piece rates m (piece_past limit) ≡ Refused (why_past limit)
unfolding outcome_of_piece texts.outcome_of_piece
came_past rates m LineLimit = refl
came_past rates m Input = refl

pub past_told : (p : Channeled) (limit : Limit) (v : Verdict) (a b : Option (List ℕ)) → v ≡ RefusedAt (p.point.lines + 1) → Appends a b (bad_line (p.point.lines + 1) (why_past limit))
    → outputs.IsLineLast (running.outcome p (piece_past limit)) v a b
past_told p limit v a b verdict put =
    subst (λ (c : shell.Outcome Channeled Verdict). outputs.IsLineLast c v a b) (sym (outcome_is p (piece_past limit)))
    (settled.past_written (says_lines p.say) (after_line p (piece_past limit)) p.point _ v (why_past limit) a b (came_past p.rates (run_state_of p) limit) verdict put)

pub past_broken : (p : Channeled) (limit : Limit) (a b : Option (List ℕ)) (answer : Result Verdict Fault) → IsErr answer → AppendsPrefix a b (bad_line (p.point.lines + 1) (why_past limit))
    → outputs.IsLastRun (running.outcome p (piece_past limit)) a b answer
past_broken p limit a b answer failed put =
    subst (λ (c : shell.Outcome Channeled Verdict). outputs.IsLastRun c a b answer) (sym (outcome_is p (piece_past limit)))
    (settled.past_failed (says_lines p.say) (after_line p (piece_past limit)) p.point _ (why_past limit) a b answer failed (came_past p.rates (run_state_of p) limit) put)

-- ---- an input

-- what is said of a run, as the text of its script
abbrev text_as : Channeled → shell.RunText RunState Verdict → shell.RunText Channeled Verdict
text_as p w = record {
  lines = (part p.say w).lines;
  last = (part p.say w).last;
  verdict = (part p.say w).verdict;
  after = moved p w.after;
  complete = (part p.say w).complete;
}

finished_as : (p : Channeled) → shell.finished_run (running.ending p) ≡ text_as p (shell.finished_run ((channel_run p.rates).ending (run_state_of p)))
finished_as p = by_say p.say
  where
    by_say : (say : Say) → shell.finished_run (running.ending (record p { say = say })) ≡ text_as (record p { say = say }) (shell.finished_run ((channel_run p.rates).ending (run_state_of p)))
    by_say All = refl
    by_say Last = refl
    by_say Faults = refl

-- one line, and then others from the next state on
line_as : (p : Channeled) (next_of : schedule.RunState → RunState) (k : LineOutcome) (others : RunState → shell.RunText RunState Verdict) (script : Channeled → shell.RunText Channeled Verdict)
    → ((n : RunState) → script (moved p n) ≡ text_as (moved p n) (others n))
    → shell.goes_on p (outcome_as (moved p) (said (says_lines p.say) (outcome_with next_of (texts.outcome_in_run p.point k)))) script
    ≡ text_as p (shell.goes_on (run_state_of p) (outcome_with next_of (texts.outcome_in_run p.point k)) others)
line_as p next_of k others script rest = by_say p.say k rest
  where
    by_say : (say : Say) (k : LineOutcome) → let q : Channeled = record p { say = say } in ((n : RunState) → script (moved q n) ≡ text_as (moved q n) (others n))
        → shell.goes_on q (outcome_as (moved q) (said (says_lines say) (outcome_with next_of (texts.outcome_in_run p.point k)))) script
        ≡ text_as q (shell.goes_on (run_state_of p) (outcome_with next_of (texts.outcome_in_run p.point k)) others)
    by_say All (texts.On text n) rest = ap (shell.lines_before text) (rest (next_of n))
    by_say Last (texts.On text n) rest = ap (shell.lines_before []) (rest (next_of n))
    by_say Faults (texts.On text n) rest = ap (shell.lines_before []) (rest (next_of n))
    by_say All (Refused why) rest = refl
    by_say Last (Refused why) rest = refl
    by_say Faults (Refused why) rest = refl
    by_say All (texts.Full text n e field) rest = refl
    by_say Last (texts.Full text n e field) rest = refl
    by_say Faults (texts.Full text n e field) rest = refl

lines_as : (p : Channeled) (pieces : List Piece) → shell.text_from running p pieces ≡ text_as p (shell.text_from (channel_run p.rates) (run_state_of p) pieces)
unfolding shell.text_from
lines_as p [] = finished_as p
lines_as p (piece ∷ pieces) =
    line_as p (next p.rates (run_state_of p) piece) (outcome_of_piece p.rates (run_state_of p) piece) (λ n. shell.text_from (channel_run p.rates) n pieces) (λ q. shell.text_from running q pieces) (λ n. lines_as (moved p n) pieces)

input_as : (p : Channeled) (input : List ℕ) → shell.text_on running schedule_limits p input ≡ text_as p (text_on p.rates (run_state_of p) input)
unfolding shell.text_on
input_as p input = by_say p.say (lines_as p (pieces_of_input input))
  where
    by_say : (say : Say) → let q : Channeled = record p { say = say } in shell.text_from running q (pieces_of_input input) ≡ text_as q (shell.text_from (channel_run p.rates) (run_state_of p) (pieces_of_input input))
        → shell.lines_before [] (shell.text_from running q (pieces_of_input input)) ≡ text_as q (shell.lines_before [] (shell.text_from (channel_run p.rates) (run_state_of p) (pieces_of_input input)))
    by_say All e = ap (shell.lines_before []) e
    by_say Last e = ap (shell.lines_before []) e
    by_say Faults e = ap (shell.lines_before []) e

told_as : (p : Channeled) (bytes : List ℕ) (left before now : Option (List ℕ)) (answer : Result Verdict Fault) → outputs.IsOutputOf (λ input. text_as p (text_on p.rates (run_state_of p) input)) bytes left before now answer
    → IsOutputOf p.say (text_on p.rates (run_state_of p)) bytes left before now (status_of answer)
told_as p bytes left before now (Ok Finished) told = (sym told.0, told.1)
told_as p bytes left before now (Ok (RefusedAt n)) told = (sym told.0, told.1)
told_as p bytes left before now (Ok (FullAt n)) told = (sym told.0, told.1)
told_as p bytes left before now (Err ReadFault) told =
    record { lines = told.lines; others = told.others; whole_lines = told.whole_lines; unended = told.unended; consumed = told.consumed; done = told.done; grown = told.grown; prefix = told.prefix }
told_as p bytes left before now (Err WriteFault) told = told
told_as p bytes left before now (Err NoMemory) told = told

pub input_told : (p : Channeled) (bytes : List ℕ) (left before now : Option (List ℕ)) (answer : Result Verdict Fault) → outputs.IsOutputFrom running schedule_limits p bytes left before now answer
    → IsOutputFrom p.say p.rates (run_state_of p) bytes left before now (status_of answer)
input_told p bytes left before now answer told = told_as p bytes left before now answer (output_as answer told)
  where
    script : List ℕ → shell.RunText Channeled Verdict
    script input = shell.text_on running schedule_limits p input

    run : List ℕ → shell.RunText Channeled Verdict
    run input = text_as p (text_on p.rates (run_state_of p) input)

    output_as : (answer : Result Verdict Fault) → outputs.IsOutputOf script bytes left before now answer → outputs.IsOutputOf run bytes left before now answer
    output_as (Ok v) told = subst (λ (w : shell.RunText Channeled Verdict). (v ≡ w.verdict) × Appends before now (shell.whole w)) (input_as p bytes) told
    output_as (Err ReadFault) told = record {
      lines = told.lines;
      others = told.others;
      whole_lines = told.whole_lines;
      unended = told.unended;
      consumed = told.consumed;
      done = subst (λ (w : shell.RunText Channeled Verdict). w.complete ≡ true) (input_as p told.lines) told.done;
      grown = subst (λ (w : shell.RunText Channeled Verdict). Appends before now w.lines) (input_as p told.lines) told.grown;
      prefix = subst (λ (w : shell.RunText Channeled Verdict). AppendsPrefix before now (shell.whole w)) (input_as p bytes) told.prefix;
    }
    output_as (Err WriteFault) told = subst (λ (w : shell.RunText Channeled Verdict). AppendsPrefix before now (shell.whole w)) (input_as p bytes) told
    output_as (Err NoMemory) told = subst (λ (w : shell.RunText Channeled Verdict). AppendsPrefix before now (shell.whole w)) (input_as p bytes) told

-- ---- what was told of a line that the channel fills, and of one with an event

-- a line that chooses so
pub record IsFilled (rates : Rates) (m : RunState) (l : Line) (until : Until) : Type 0 where
  pub outcome : outcome_of_line rates m l ≡ outcome_of_drawn m.run (chosen rates until m.run m.channel).events
  pub channel : (drawn_by rates m l).channel ≡ (chosen rates until m.run m.channel).channel

pub passes_is : (rates : Rates) (m : RunState) (ticks : ℕ) (until : Until) → until ≡ tick_behind m.channel.tick ticks → IsFilled rates m (Passes ticks) until
passes_is rates m ticks until is = subst (λ (u : Until). IsFilled rates m (Passes ticks) u) (sym is) (record { outcome = refl; channel = refl })

pub auto_is : (rates : Rates) (m : RunState) (count : ℕ) → IsFilled rates m (Plain (Chooses count)) (Events count)
auto_is rates m count = record { outcome = refl; channel = refl }

-- its LF is a byte too, and more bytes lead further
leads_more : (p q : Channeled) (bytes : List ℕ) → CanLead p 1 q → CanLead p (size_of_line bytes) q
leads_more p q bytes led = record {
  lines = omega (arith, led.lines);
  steps = omega (arith, led.steps);
  left = led.left;
  tick = led.tick;
  copies = led.copies;
}

on_leads : (p q : Channeled) (bytes : List ℕ) (r : Result (Unit {0}) Stop) → OnOk r (CanLead p 1 q) → OnOk r (CanLead p (size_of_line bytes) q)
on_leads p q bytes (Ok done) led = leads_more p q bytes led
on_leads p q bytes (Err stop) led = tt

on_channel : (q : Channeled) (k d : Channel) (r : Result (Unit {0}) Stop) → d ≡ k → OnOk r (q.channel ≡ k) → OnOk r (q.channel ≡ d)
on_channel q k d (Ok done) same is = is ∙ sym same
on_channel q k d (Err stop) same is = tt

pub line_filled : (p q : Channeled) (bytes : List ℕ) (l : Line) (until : Until) (a b : Option (List ℕ)) (r : Result (Unit {0}) Stop) → line_at (run_state_of p) bytes ≡ Ok l → IsFilled p.rates (run_state_of p) l until
    → IsLineRun (says_lines p.say) p.point (outcome_of_drawn p.point (chosen p.rates until p.point p.channel).events) q.point a b r → OnOk r (q.channel ≡ (chosen p.rates until p.point p.channel).channel) → q ≡ moved p (run_state_of q) → OnOk r (CanLead p 1 q)
    → IsRunOfLine p q bytes a b r
line_filled p q bytes l until a b r said filled comes channel only led = record {
  comes = subst (λ (k : LineOutcome). IsLineRun (says_lines p.say) p.point k q.point a b r) (sym (came_allowed p.rates (run_state_of p) bytes l said ∙ filled.outcome)) comes;
  only = only;
  channel = on_channel q (chosen p.rates until p.point p.channel).channel (channel_after p.rates (run_state_of p) (Whole bytes)) r (channel_allowed p.rates (run_state_of p) bytes l said ∙ filled.channel) channel;
  led = on_leads p q bytes r led;
}

pub line_given : (p q : Channeled) (bytes : List ℕ) (e : Event) (a b : Option (List ℕ)) (r : Result (Unit {0}) Stop) → line_at (run_state_of p) bytes ≡ Ok (Plain (Does e))
    → IsLineRun (says_lines p.say) p.point (outcome_of_drawn p.point (given p.rates (with_world p.point) e p.channel).events) q.point a b r → OnOk r (q.channel ≡ (given p.rates (with_world p.point) e p.channel).channel) → q ≡ moved p (run_state_of q) → OnOk r (CanLead p 1 q)
    → IsRunOfLine p q bytes a b r
line_given p q bytes e a b r said comes channel only led = record {
  comes = subst (λ (k : LineOutcome). IsLineRun (says_lines p.say) p.point k q.point a b r) (sym (came_allowed p.rates (run_state_of p) bytes (Plain (Does e)) said)) comes;
  only = only;
  channel = on_channel q (given p.rates (with_world p.point) e p.channel).channel (channel_after p.rates (run_state_of p) (Whole bytes)) r (channel_allowed p.rates (run_state_of p) bytes (Plain (Does e)) said) channel;
  led = on_leads p q bytes r led;
}

-- ---- and of any other

leads_other : (p q : Channeled) (l : AcceptedLine) (n : schedule.RunState) (t : List ℕ) → ((e : Event) → l ≢ Does e) → ((count : ℕ) → l ≢ Chooses count) → q ≡ record p { point = q.point } → texts.outcome_of_line p.point l ≡ texts.On t q.point → CanLead p 1 q
leads_other p q l n t does chooses only is =
    let led = other_leads p.point q.point l t does chooses is in
    let kept : q.channel ≡ p.channel = ap (λ (x : Channeled). x.channel) only in
    record {
      lines = omega (arith, led.lines);
      steps = omega (arith, led.steps);
      left = λ few. subst (λ (x : Channel). length x.left ≤ most_left) (sym kept) few;
      tick = λ few. subst (λ (x : Channel). x.tick ≤ LAST_TICK) (sym kept) few;
      copies = led.copies;
    }

by_other : (p q : Channeled) (bytes : List ℕ) (l : AcceptedLine) (a b : Option (List ℕ)) (r : Result (Unit {0}) Stop) → passing_of p.point.mesh bytes ≡ Ok None → line_of p.point.mesh (is_some p.point.world) bytes ≡ Ok l
    → ((e : Event) → l ≢ Does e) → ((count : ℕ) → l ≢ Chooses count) → q ≡ record p { point = q.point } → IsLineRun (says_lines p.say) p.point (texts.outcome_of_piece p.point (Whole bytes)) q.point a b r → IsRunOfLine p q bytes a b r
by_other p q bytes l a b r passing read does chooses only ran =
    let said = read_plain (run_state_of p) bytes l passing read in
    let here : IsLineRun (says_lines p.say) p.point (texts.outcome_of_line p.point l) q.point a b r = subst (λ (k : LineOutcome). IsLineRun (says_lines p.say) p.point k q.point a b r) (schedule_outcome p.point bytes l read) ran in
    record {
      comes = subst (λ (k : LineOutcome). IsLineRun (says_lines p.say) p.point k q.point a b r) (sym (came_allowed p.rates (run_state_of p) bytes (Plain l) said ∙ other_outcome p.rates (run_state_of p) l does chooses)) here;
      only = only ∙ ap (λ (x : Channel). record p { point = q.point; channel = x }) (sym (ap (λ (x : Channeled). x.channel) only));
      channel = kept r;
      led = leads r here;
    }
  where
    kept : (r : Result (Unit {0}) Stop) → OnOk r (q.channel ≡ channel_after p.rates (run_state_of p) (Whole bytes))
    kept (Ok done) = ap (λ (x : Channeled). x.channel) only ∙ sym (channel_allowed p.rates (run_state_of p) bytes (Plain l) (read_plain (run_state_of p) bytes l passing read) ∙ other_channel p.rates (run_state_of p) l does chooses)
    kept (Err stop) = tt

    leads : (r : Result (Unit {0}) Stop) → IsLineRun (says_lines p.say) p.point (texts.outcome_of_line p.point l) q.point a b r → OnOk r (CanLead p (size_of_line bytes) q)
    leads (Ok done) g = leads_more p q bytes (leads_other p q l q.point g.text does chooses only g.is)
    leads (Err stop) g = tt

pub line_other : (p q : Channeled) (bytes : List ℕ) (l : ScriptLine) (a b : Option (List ℕ)) (r : Result (Unit {0}) Stop) → passing_of p.point.mesh bytes ≡ Ok None → line_of p.point.mesh (is_some p.point.world) bytes ≡ Ok (accepted_of l)
    → ((e : _) → l ≢ scripts.Step e) → ((count : _) → l ≢ scripts.Auto count) → q ≡ record p { point = q.point } → IsLineRun (says_lines p.say) p.point (texts.outcome_of_piece p.point (Whole bytes)) q.point a b r → IsRunOfLine p q bytes a b r
line_other p q bytes scripts.Blank a b r passing read step auto only ran = by_other p q bytes schedule.Nothing a b r passing read (λ e x. cc) (λ n x. cc) only ran
line_other p q bytes (scripts.Node x first) a b r passing read step auto only ran = by_other p q bytes (schedule.NewNode x.0 first) a b r passing read (λ e x. cc) (λ n x. cc) only ran
line_other p q bytes (scripts.Step e) a b r passing read step auto only ran = absurd (step e refl)
line_other p q bytes (scripts.Auto count) a b r passing read step auto only ran = absurd (auto count refl)
line_other p q bytes (scripts.Show node) a b r passing read step auto only ran = by_other p q bytes (schedule.ShowsNode node) a b r passing read (λ e x. cc) (λ n x. cc) only ran
line_other p q bytes (scripts.Route node dest) a b r passing read step auto only ran = by_other p q bytes (schedule.ShowsRoute node dest) a b r passing read (λ e x. cc) (λ n x. cc) only ran
line_other p q bytes scripts.Flight a b r passing read step auto only ran = by_other p q bytes schedule.ShowsFlight a b r passing read (λ e x. cc) (λ n x. cc) only ran
