-- A line that was done, or has ended the run, as its script tells it.
use Rattle.std.proofs.Common.{◌≡◌, inl, inr, ℕ, ◌+◌, ◌<◌, ◌≤◌, ◌^◌, Bool, true, false, List, [], ◌++◌, length, Option, Some, None, Result, Ok, Err, refl, sym, ap, subst, ◌∙◌, append-nil, arith}
use Rattle.std.specs.Prelude.{IsErrOf, ◌⊎◌, IsErr, OnOk}
use Rattle.std.specs.Io.KnownBytes.{Appends, Keeps}
use Rattle.mesh_base.specs.Meshes.{Nodes}
use Rattle.mesh_grammar.specs.Faults.{bad_line}
use Rattle.mesh_grammar.specs.declared.fault.BadWhy.{BadWhy}
use Rattle.mesh_grammar.specs.declared.fault.BadWhy.TheVariants.{Fault as LineFault}
use Rattle.mesh_io.specs.Puts.{AppendsPrefix}
use Rattle.mesh_io.proofs.Writing.{Appends-join, AppendsPrefix-join, AppendsPrefix-more}
use Rattle.mesh_meaning.specs.Events.{event_of}
use Rattle.mesh_model.specs.InMesh.{IsEvent}
use Rattle.mesh_shell.specs.Fold as shell
use Rattle.mesh_shell.specs.Outputs as outputs
use Rattle.mesh_shell.specs.Causes.{HasFaultCause}
use Rattle.mesh_shell.specs.Scripts.{GoesOn}
use Rattle.mesh_shell.specs.declared.fault.Fault.{Fault}
use Rattle.mesh_shell.specs.declared.fault.Fault.TheVariants.{ReadFault, WriteFault, NoMemory}
use Rattle.mesh_text.specs.Lines.{full_line}
use Rattle.mesh_text.specs.Schedule.{RunState}
use Rattle.mesh_text.specs.Text.{LineOutcome, On, Refused, Full, text_in, outcome_in_run}
use Rattle.mesh_text.specs.declared.verdict.Verdict.{Verdict}
use Rattle.mesh_text.specs.declared.verdict.Verdict.TheVariants.{RefusedAt, FullAt}
use Rattle.mesh_run.specs.declared.stop.Stop.{Stop}
use Rattle.mesh_run.specs.declared.stop.Stop.TheVariants as stop
use Rattle.mesh_run.specs.Causes.{HasStopCause}
use Rattle.mesh_run.specs.Ends.{CanBeTold, IsLastWritten, IsSettled, HasSettledCause}
use Rattle.mesh_run.specs.Runs.{output_if, IsLineDone, IsLineFull, IsLineRun}
use Rattle.mesh_run.specs.Running.{said, outcome_as}
use Rattle.mesh_run.proofs.Faults.{rose_later}
use Rattle.mesh_run.proofs.Shown.{shown_kept}

-- what stopped a line that was in its range can be told
pub can_be_told : (say : Bool) (m n : RunState) (k : LineOutcome) (before now : Option (List ℕ)) (did : Result (Unit {0}) Stop) → m.lines < 2 ^ 62 → IsLineRun say m k n before now did → CanBeTold n did
can_be_told say m n k before now (Ok done) few ran = tt
can_be_told say m n k before now (Err (stop.BadLine f)) few ran = subst (λ (x : RunState). x.lines < 2 ^ 62) (sym ran.1) few
can_be_told say m n k before now (Err (stop.Full e node field)) few ran = (omega (arith, ran.still.lines), subst (λ (mesh : Nodes). IsEvent (length mesh) (event_of e)) (sym ran.still.mesh) ran.still.event)
can_be_told say m n k before now (Err stop.WriteFault) few ran = tt
can_be_told say m n k before now (Err stop.NoMemory) few ran = tt

-- ---- what is told

-- a line that has ended the run, and its last line
last_told : {N : Type 0} (say : Bool) (c : shell.Outcome N Verdict) (n : N) (text last here : List ℕ) (v w : Verdict) (a b d : Option (List ℕ)) (result : Result (Option Verdict) Fault)
    → c ≡ shell.Ended (output_if say text) last v → last ≡ here → v ≡ w → Appends a b (output_if say text) → IsLastWritten here w b d result → outputs.IsLineRun c n a d result
last_told say c n text last here v w a b d (Ok None) is same also grown told = absurd told
last_told say c n text last here v w a b d (Ok (Some x)) is same also grown told =
    let it : v ≡ x = also ∙ sym told.0 in
    record {
      text = output_if say text;
      last = last;
      is = is ∙ ap (shell.Ended (output_if say text) last) it;
      grown = Appends-join a b d (output_if say text) here (output_if say text ++ last) (ap (λ l. output_if say text ++ l) same) grown told.1;
    }
last_told say c n text last here v w a b d (Err ReadFault) is same also grown told = absurd told
last_told {N} say c n text last here v w a b d (Err WriteFault) is same also grown told =
    subst (λ (x : shell.Outcome N Verdict). AppendsPrefix a d (outputs.text_in x)) (sym is)
    (AppendsPrefix-join a b d (output_if say text) here (output_if say text ++ last) (ap (λ l. output_if say text ++ l) same) grown told)
last_told say c n text last here v w a b d (Err NoMemory) is same also grown told = absurd told

-- a prefix of a line's text is a prefix of all that it writes
front_told : {N : Type 0} (say : Bool) (to : RunState → N) (m : RunState) (k : LineOutcome) (a b : Option (List ℕ)) → AppendsPrefix a b (output_if say (text_in k))
    → AppendsPrefix a b (outputs.text_in (outcome_as to (said say (outcome_in_run m k))))
front_told say to m (On text n) a b front = front
front_told say to m (Refused why) a b front = AppendsPrefix-more a b (output_if say []) _ _ refl front
front_told say to m (Full text n e field) a b front = AppendsPrefix-more a b (output_if say text) _ _ refl front

-- what a line came to, and what was settled then
pub line_told : {N : Type 0} (say : Bool) (to : RunState → N) (m n : RunState) (k : LineOutcome) (a b d : Option (List ℕ)) (did : Result (Unit {0}) Stop) (result : Result (Option Verdict) Fault)
    → IsLineRun say m k n a b did → IsSettled n b d did result → outputs.IsLineRun (outcome_as to (said say (outcome_in_run m k))) (to n) a d result
line_told {N} say to m n k a b d (Ok done) result ran told =
    let C : shell.Outcome N Verdict = outcome_as to (said say (outcome_in_run m k)) in
    subst (λ (r : Result (Option Verdict) Fault). outputs.IsLineRun C (to n) a d r) (sym told.0) (record {
      text = output_if say ran.text;
      is = ap (λ (x : LineOutcome). outcome_as to (said say (outcome_in_run m x))) ran.is;
      grown = subst (λ (x : Option (List ℕ)). Appends a x (output_if say ran.text)) (sym told.1) ran.grown;
    })
line_told say to m n k a b d (Err (stop.BadLine f)) result ran told =
    let same : m.lines + 1 ≡ n.lines + 1 = ap (λ (x : RunState). x.lines + 1) (sym ran.1) in
    last_told say _ (to n) [] (bad_line (m.lines + 1) (LineFault f)) (bad_line (n.lines + 1) (LineFault f)) (RefusedAt (m.lines + 1)) (RefusedAt (n.lines + 1)) a b d result
    (ap (λ (x : LineOutcome). outcome_as to (said say (outcome_in_run m x))) ran.0) (ap (λ l. bad_line l (LineFault f)) same) (ap RefusedAt same) (shown_kept say a b ran.2) told
line_told say to m n k a b d (Err (stop.Full e node field)) result ran told =
    let same : m.lines + 1 ≡ n.lines + 1 = ap (λ l. l + 1) (sym ran.still.lines) in
    last_told say _ (to n) ran.text (full_line m.mesh (m.lines + 1) (event_of e) field) (full_line n.mesh (n.lines + 1) (event_of e) field) (FullAt (m.lines + 1)) (FullAt (n.lines + 1)) a b d result
    (ap (λ (x : LineOutcome). outcome_as to (said say (outcome_in_run m x))) ran.is)
    (ap (λ x. full_line x (m.lines + 1) (event_of e) field) (sym ran.still.mesh) ∙ ap (λ l. full_line n.mesh l (event_of e) field) same) (ap FullAt same) ran.grown told
line_told {N} say to m n k a b d (Err stop.WriteFault) result ran told =
    let C : shell.Outcome N Verdict = outcome_as to (said say (outcome_in_run m k)) in
    subst (λ (r : Result (Option Verdict) Fault). outputs.IsLineRun C (to n) a d r) (sym told.0)
    (front_told say to m k a d (subst (λ (x : Option (List ℕ)). AppendsPrefix a x (output_if say (text_in k))) (sym told.1) ran))
line_told {N} say to m n k a b d (Err stop.NoMemory) result ran told =
    let C : shell.Outcome N Verdict = outcome_as to (said say (outcome_in_run m k)) in
    subst (λ (r : Result (Option Verdict) Fault). outputs.IsLineRun C (to n) a d r) (sym told.0)
    (front_told say to m k a d (subst (λ (x : Option (List ℕ)). AppendsPrefix a x (output_if say (text_in k))) (sym told.1) ran))

-- ---- why a fault is told

-- an answer of the line is the fault of the sink, or it isn't
sink_failed : (did : Result (Unit {0}) Stop) → IsErrOf did stop.WriteFault ⊎ ¬ IsErrOf did stop.WriteFault
sink_failed (Ok done) = inr (λ e. cc)
sink_failed (Err (stop.BadLine f)) = inr (λ e. cc)
sink_failed (Err (stop.Full e node field)) = inr (λ e. cc)
sink_failed (Err stop.WriteFault) = inl refl
sink_failed (Err stop.NoMemory) = inr (λ e. cc)

pub line_cause : (a b d : ℕ) (did : Result (Unit {0}) Stop) (result : Result (Option Verdict) Fault) → HasStopCause a b did → HasSettledCause b d did result → HasFaultCause WriteFault a d result
line_cause a b d did result line last = by_did (sink_failed did)
  where
    by_did : IsErrOf did stop.WriteFault ⊎ ¬ IsErrOf did stop.WriteFault → HasFaultCause WriteFault a d result
    by_did (inl failed) = record {
      later = omega (arith, line.later, last.later);
      failed = λ e. let rose = line.failed failed in omega (arith, last.later);
      none = λ not. absurd (not (last.told failed));
    }
    by_did (inr other) = record {
      later = omega (arith, line.later, last.later);
      failed = λ e. rose_later a b d line.later (last.failed e other);
      none = λ not. last.none not ∙ line.none other;
    }

-- ---- where a run goes on

pub on_done : {P : Type 0} (say : Bool) (m n : RunState) (k : LineOutcome) (a b : Option (List ℕ)) (did : Result (Unit {0}) Stop) → IsLineRun say m k n a b did → (IsLineDone say k n a b → P) → OnOk did P
on_done say m n k a b (Ok done) ran to = to ran
on_done say m n k a b (Err e) ran to = tt

-- its line was done
pub goes_on_where_done : (P : Type 0) (n : RunState) (b d : Option (List ℕ)) (did : Result (Unit {0}) Stop) (result : Result (Option Verdict) Fault) → IsSettled n b d did result → OnOk did P → GoesOn result P
goes_on_where_done P n b d (Ok done) (Ok None) told p = p
goes_on_where_done P n b d (Ok done) (Ok (Some v)) told p = tt
goes_on_where_done P n b d (Ok done) (Err e) told p = tt
goes_on_where_done P n b d (Err (stop.BadLine f)) (Ok None) told p = absurd told
goes_on_where_done P n b d (Err (stop.BadLine f)) (Ok (Some v)) told p = tt
goes_on_where_done P n b d (Err (stop.BadLine f)) (Err e) told p = tt
goes_on_where_done P n b d (Err (stop.Full x node field)) (Ok None) told p = absurd told
goes_on_where_done P n b d (Err (stop.Full x node field)) (Ok (Some v)) told p = tt
goes_on_where_done P n b d (Err (stop.Full x node field)) (Err e) told p = tt
goes_on_where_done P n b d (Err stop.WriteFault) (Ok None) told p = absurd (let clash = told.0 in let P : ⊥ = cc in P)
goes_on_where_done P n b d (Err stop.WriteFault) (Ok (Some v)) told p = tt
goes_on_where_done P n b d (Err stop.WriteFault) (Err e) told p = tt
goes_on_where_done P n b d (Err stop.NoMemory) (Ok None) told p = absurd (let clash = told.0 in let P : ⊥ = cc in P)
goes_on_where_done P n b d (Err stop.NoMemory) (Ok (Some v)) told p = tt
goes_on_where_done P n b d (Err stop.NoMemory) (Err e) told p = tt

-- the state to which it leads, by another name
pub line_at : {M V : Type 0} (c : shell.Outcome M V) (m n : M) (a b : Option (List ℕ)) (result : Result (Option V) Fault) → GoesOn result (n ≡ m) → outputs.IsLineRun c m a b result → outputs.IsLineRun c n a b result
line_at {M} {V} c m n a b (Ok None) same told =
    let k : Result (Option V) Fault = Ok None in
    subst (λ (x : M). outputs.IsLineRun c x a b k) (sym same) told
line_at c m n a b (Ok (Some v)) same told = told
line_at c m n a b (Err e) same told = told

-- ---- a line that goes past a limit

-- its last line is written
pub past_written : {N : Type 0} (say : Bool) (to : RunState → N) (m : RunState) (k : LineOutcome) (v : Verdict) (why : BadWhy) (a b : Option (List ℕ)) → k ≡ Refused why → v ≡ RefusedAt (m.lines + 1) → Appends a b (bad_line (m.lines + 1) why)
    → outputs.IsLineLast (outcome_as to (said say (outcome_in_run m k))) v a b
past_written say to m k v why a b is verdict put = by_say say
  where
    by_say : (q : Bool) → outputs.IsLineLast (outcome_as to (said q (outcome_in_run m k))) v a b
    by_say true = record { text = []; last = bad_line (m.lines + 1) why; is = ap (λ (x : LineOutcome). outcome_as to (said true (outcome_in_run m x))) is ∙ ap (shell.Ended [] (bad_line (m.lines + 1) why)) (sym verdict); grown = put }
    by_say false = record { text = []; last = bad_line (m.lines + 1) why; is = ap (λ (x : LineOutcome). outcome_as to (said false (outcome_in_run m x))) is ∙ ap (shell.Ended [] (bad_line (m.lines + 1) why)) (sym verdict); grown = put }

-- or a prefix of it is
past_broken : {N : Type 0} (say : Bool) (to : RunState → N) (m : RunState) (k : LineOutcome) (why : BadWhy) (a b : Option (List ℕ)) → k ≡ Refused why → AppendsPrefix a b (bad_line (m.lines + 1) why)
    → AppendsPrefix a b (outputs.text_in (outcome_as to (said say (outcome_in_run m k))))
past_broken say to m k why a b is put = by_say say
  where
    by_say : (q : Bool) → AppendsPrefix a b (outputs.text_in (outcome_as to (said q (outcome_in_run m k))))
    by_say true = subst (λ (x : LineOutcome). AppendsPrefix a b (outputs.text_in (outcome_as to (said true (outcome_in_run m x))))) (sym is) put
    by_say false = subst (λ (x : LineOutcome). AppendsPrefix a b (outputs.text_in (outcome_as to (said false (outcome_in_run m x))))) (sym is) put

pub past_failed : {N : Type 0} (say : Bool) (to : RunState → N) (m : RunState) (k : LineOutcome) (why : BadWhy) (a b : Option (List ℕ)) (answer : Result Verdict Fault) → IsErr answer → k ≡ Refused why → AppendsPrefix a b (bad_line (m.lines + 1) why)
    → outputs.IsLastRun (outcome_as to (said say (outcome_in_run m k))) a b answer
past_failed say to m k why a b (Ok v) failed is put = absurd (let P : ⊥ = cc in P)
past_failed say to m k why a b (Err e) failed is put = past_broken say to m k why a b is put
