-- What is counted of an event: all that a quiet run needs to know of what came of it.
use Rattle.std.specs.Prelude.{◌≡◌, ℕ, Bool, true, false, List, Result, Ok, Err, if◌then◌else◌}
use Rattle.mesh_base.specs.Meshes.{Nodes}
use Rattle.mesh_base.specs.declared.events.Done.{Done}
use Rattle.mesh_model.specs.Worlds as worlds
use Rattle.mesh_model.specs.Worlds.{World, Event, Give, Outcome, step}
use Rattle.mesh_model.specs.Accounts.{any, given_data, delivered_data, dropped_data, doubled_at}
use Rattle.mesh_meaning.specs.Answers.{outcome_in, IsDoneInMesh}
use Rattle.mesh_world.specs.Seen.{WorldSeen}
use Rattle.mesh_world.specs.Steps.{is_idle, IsDone}
use Rattle.mesh_world.specs.declared.steps.StepError.{StepError}
use Rattle.mesh_world.specs.declared.steps.StepError.TheVariants as errors
use Rattle.mesh_world.specs.declared.event_counts.EventCounts.{EventCounts}
use Rattle.mesh_world.specs.declared.event_counts.EventCounts.TheVariants as counted

-- 1 if it is so, else 0
abbrev pub count_of : Bool → ℕ
count_of b = if b then 1 else 0

-- ---- what the counts of an event say

-- nothing came of the event
abbrev pub says_idle : EventCounts → Bool
says_idle counted.Idle = true
says_idle others = false

-- the event gives a datum
abbrev pub is_give : Event → Bool
is_give (Give x d body) = true
is_give others = false

-- the event gives a datum, and was done
abbrev pub says_given : Event → EventCounts → Bool
says_given e counted.Changed = is_give e
says_given e others = false

-- a datum was delivered, dropped, doubled
abbrev pub says_delivered : EventCounts → Bool
says_delivered (counted.Taken delivers drops) = delivers
says_delivered others = false

abbrev pub says_dropped : EventCounts → Bool
says_dropped (counted.Taken delivers drops) = drops
says_dropped (counted.Lost parcel) = parcel
says_dropped others = false

abbrev pub says_doubled : EventCounts → Bool
says_doubled (counted.Doubled parcel) = parcel
says_doubled others = false

-- ---- when the counts are right

-- these are the counts of the outcome of an event
pub record AreEventCounts (e : Event) (o : Outcome) (t : EventCounts) : Type 0 where
  pub idle : is_idle o ≡ says_idle t
  pub given : given_data any e o ≡ count_of (says_given e t)
  pub delivered : delivered_data any e o ≡ count_of (says_delivered t)
  pub dropped : dropped_data any e o ≡ count_of (says_dropped t)
  pub doubled : doubled_at o ≡ count_of (says_doubled t)

-- these are the counts of an answer, whatever event it answers, and in whatever world
abbrev pub AreEventCountsOf : Done → EventCounts → Type 0
AreEventCountsOf done c =
    (mesh : Nodes) (x : ℕ) (old new : World) (packet : List ℕ) (e : Event)
    → IsDoneInMesh mesh done packet → step old e ≡ outcome_in mesh x new done packet
    → AreEventCounts e (step old e) c

-- ---- what is answered

-- the event was done, or wasn't enabled: there is an answer that says what came of it, and these
-- are the counts of that answer
pub record IsCounted (e : Event) (old : WorldSeen) (event_counts : EventCounts)
    (new : WorldSeen) : Type 0 where
  pub answer : Done
  pub packet : List ℕ
  pub done : IsDone e old answer new packet
  pub counted : AreEventCountsOf answer event_counts

-- an event in the world `old`: its counts, and the world after it. A refusal leaves the world as it
-- was
abbrev pub IsStepCounted : Event → WorldSeen → Result EventCounts StepError → WorldSeen → Type 0
IsStepCounted e old (Ok event_counts) new = IsCounted e old event_counts new
IsStepCounted e old (Err (errors.Full node field)) new =
    (step old.world e ≡ worlds.Full node field) × (new ≡ old)
IsStepCounted e old (Err errors.NoMemory) new = new ≡ old

-- the result is the counts of the answer, or the same refusal
abbrev pub HasEventCounts : Result Done StepError → Result EventCounts StepError → Type 0
HasEventCounts (Ok done) (Ok event_counts) = AreEventCountsOf done event_counts
HasEventCounts (Ok done) (Err error) = ⊥
HasEventCounts (Err error) (Ok event_counts) = ⊥
HasEventCounts (Err error) (Err refused) = error ≡ refused

-- the whole answer, if what came of the event was left in `done`
abbrev pub answer_with : Result EventCounts StepError → Done → Result Done StepError
answer_with (Ok event_counts) done = Ok done
answer_with (Err error) done = Err error
