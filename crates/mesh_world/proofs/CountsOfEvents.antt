-- What is counted of an event, from its answer.
use Rattle.std.proofs.Common.{◌≡◌, ℕ, Bool, true, List, Result, Ok, Err, refl, sym, ap, subst, ◌∙◌}
use Rattle.std.specs.Prelude.{IsOk, IsErrOf, IsErrAnd, slice_index_or, slice_set}
use Rattle.std.proofs.Math.Seq.{set-get_or}
use Rattle.std.proofs.lemmas.Result.{err_from_is_err_and}
use Rattle.mesh_base.specs.declared.events.Done.{Done}
use Rattle.mesh_base.specs.declared.events.Event.{Event as EventGiven}
use Rattle.mesh_model.specs.Worlds.{Event}
use Rattle.mesh_meaning.specs.Events.{event_of}
use Rattle.mesh_world.specs.Seen.{WorldSeen}
use Rattle.mesh_world.specs.Steps.{IsStep}
use Rattle.aodv_node.specs.Seen.{NodeSeen}
use Rattle.mesh_world.specs.Kept.{seen_of, IsKept}
use Rattle.mesh_world.specs.Parts.{AreKept, IsDoneTo, IsAnsweredTo, seen_in}
use Rattle.mesh_world.proofs.Moves.{changed}
use Rattle.mesh_world.specs.CountsOfEvents.{answer_with, HasEventCounts, IsStepCounted}
use Rattle.mesh_world.specs.declared.parts.Parts.{Parts}
use Rattle.mesh_world.specs.declared.steps.StepError.{StepError}
use Rattle.mesh_world.specs.declared.steps.StepError.TheVariants as errors
use Rattle.mesh_world.specs.declared.event_counts.EventCounts.{EventCounts}

-- an event was done, and told
pub told_done : (e : Event) (old : Parts) (wanted : Bool) (result : Result EventCounts StepError) (left : Done) (new : Parts) (packet : List ℕ) (d : Done) → IsDoneTo e old (Ok d) new packet
    → HasEventCounts (Ok d) result → (wanted ≡ true → answer_with result left ≡ Ok d) → IsAnsweredTo e old wanted result left new packet
told_done e old wanted result left new packet d done event_counts told = record { answer = Ok d; done = done; event_counts = event_counts; leaves = told }

-- it was refused
pub told_refused : (e : Event) (old : Parts) (wanted : Bool) (left : Done) (new : Parts) (packet : List ℕ) (error : StepError) → IsDoneTo e old (Err error) new packet
    → IsAnsweredTo e old wanted (Err error) left new packet
told_refused e old wanted left new packet error done = record { answer = Err error; done = done; event_counts = refl; leaves = λ _. refl }

-- it was refused for want of memory
pub told_short : (e : Event) (old : Parts) (wanted : Bool) (result : Result EventCounts StepError) (left : Done) (new : Parts) (packet : List ℕ) → IsErrAnd result (λ y. y ≡ errors.NoMemory)
    → IsDoneTo e old (Err errors.NoMemory) new packet → IsAnsweredTo e old wanted result left new packet
told_short e old wanted result left new packet short done =
    let p = err_from_is_err_and result short in
    let is : result ≡ Err errors.NoMemory = p.1 ∙ ap Err p.2 in
    subst (λ r. IsAnsweredTo e old wanted r left new packet) (sym is) (told_refused e old wanted left new packet errors.NoMemory done)

-- and node x, which is written back, is as it was
pub told_still : (e : Event) (old : Parts) (wanted : Bool) (result : Result EventCounts StepError) (left : Done) (x : ℕ) (read v : NodeSeen) (packet : List ℕ) → read ≡ slice_index_or (old.nodes).items x read → v ≡ read
    → IsErrAnd result (λ y. y ≡ errors.NoMemory) → AreKept old → IsAnsweredTo e old wanted result left (changed old x v old.radio) packet
told_still e old wanted result left x read v packet is back short kept =
    let same : slice_set (old.nodes).items x v ≡ (old.nodes).items = ap (slice_set (old.nodes).items x) (back ∙ is) ∙ set-get_or (old.nodes).items x read in
    told_short e old wanted result left (changed old x v old.radio) packet short (record {
      step = ap (λ ns. seen_of old.mesh ns old.radio old.steps) same;
      kept = subst (λ ns. IsKept old.mesh ns old.radio old.ready old.steps) (sym same) kept;
    })

-- the counts of a step, by that of its answer
pub counted_by : (e : Event) (old new : WorldSeen) (packet : List ℕ) (answer : Result Done StepError) (result : Result EventCounts StepError) → HasEventCounts answer result → IsStep e old answer new packet
    → IsStepCounted e old result new
counted_by e old new packet (Ok d) (Ok event_counts) is step = record { answer = d; packet = packet; done = step; counted = is }
counted_by e old new packet (Ok d) (Err error) is step = absurd is
counted_by e old new packet (Err error) (Ok event_counts) is step = absurd is
counted_by e old new packet (Err error) (Err refused) is step = subst (λ f. IsStepCounted e old (Err f) new) is (same error step)
  where
    same : (f : StepError) → IsStep e old (Err f) new packet → IsStepCounted e old (Err f) new
    same (errors.Full node field) s = s
    same errors.NoMemory s = s

pub told_counts : (e : Event) (old : Parts) (wanted : Bool) (result : Result EventCounts StepError) (left : Done) (new : Parts) (packet : List ℕ) → IsAnsweredTo e old wanted result left new packet
    → IsStepCounted e (seen_in old) result (seen_in new)
told_counts e old wanted result left new packet is = counted_by e (seen_in old) (seen_in new) packet is.answer result is.event_counts is.done.step

pub told_steps : (e : Event) (old : Parts) (wanted : Bool) (result : Result EventCounts StepError) (left : Done) (new : Parts) (packet : List ℕ) → IsAnsweredTo e old wanted result left new packet
    → wanted ≡ true → IsStep e (seen_in old) (answer_with result left) (seen_in new) packet
told_steps e old wanted result left new packet is w = subst (λ a. IsStep e (seen_in old) a (seen_in new) packet) (sym (is.leaves w)) is.done.step

-- the same, of the event that was given and of the world that is seen
pub counted_at : (e f : EventGiven) (w : WorldSeen) (old : Parts) (wanted : Bool) (result : Result EventCounts StepError) (left : Done) (new : Parts) (packet : List ℕ) → e ≡ f → seen_in old ≡ w
    → IsAnsweredTo (event_of f) old wanted result left new packet → IsStepCounted (event_of e) w result (seen_in new)
counted_at e f w old wanted result left new packet same view is =
    subst (λ (g : EventGiven). IsStepCounted (event_of g) w result (seen_in new)) (sym same)
    (subst (λ v. IsStepCounted (event_of f) v result (seen_in new)) view (told_counts (event_of f) old wanted result left new packet is))

pub steps_at : (e f : EventGiven) (w : WorldSeen) (old : Parts) (wanted : Bool) (result : Result EventCounts StepError) (left : Done) (new : Parts) (packet : List ℕ) → e ≡ f → seen_in old ≡ w
    → IsAnsweredTo (event_of f) old wanted result left new packet → wanted ≡ true → IsStep (event_of e) w (answer_with result left) (seen_in new) packet
steps_at e f w old wanted result left new packet same view is want =
    subst (λ (g : EventGiven). IsStep (event_of g) w (answer_with result left) (seen_in new) packet) (sym same)
    (subst (λ v. IsStep (event_of f) v (answer_with result left) (seen_in new) packet) view (told_steps (event_of f) old wanted result left new packet is want))

pub never_short : (r : Result EventCounts StepError) → IsOk r → IsErrOf r errors.NoMemory → ⊥
never_short (Ok event_counts) ok short = cc
never_short (Err error) ok short = cc
