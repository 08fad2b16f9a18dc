-- The account of the data at an event.
use Rattle.std.proofs.Common.{◌≡◌, ℕ, List, length, Bool, Result, Ok, Err, sym, ap, subst}
use Rattle.mesh_base.specs.declared.events.Done.{Done}
use Rattle.mesh_base.specs.declared.events.Event.{Event as EventGiven}
use Rattle.mesh_model.specs.Worlds.{Event, step, after}
use Rattle.mesh_model.specs.InMesh.{IsEvent}
use Rattle.mesh_model.proofs.AccountSteps.{step_balanced}
use Rattle.mesh_meaning.specs.Events.{event_of}
use Rattle.mesh_world.specs.Seen.{WorldSeen, IsSoundWorld}
use Rattle.mesh_world.specs.Parts.{AreKept, IsAnsweredTo, seen_in}
use Rattle.mesh_world.specs.CountsOfEvents.{IsStepCounted}
use Rattle.mesh_world.specs.Accounts.{held_data, IsAccounted, KeepsAccount}
use Rattle.mesh_world.specs.declared.parts.Parts.{Parts}
use Rattle.mesh_world.specs.declared.steps.StepError.{StepError}
use Rattle.mesh_world.specs.declared.steps.StepError.TheVariants as errors
use Rattle.mesh_world.specs.declared.event_counts.EventCounts.{EventCounts}
use Rattle.mesh_world.proofs.CountsOfEvents.{counted_at}

-- the world after an event
after_accounted : (old : WorldSeen) (e : Event) → IsSoundWorld old → IsEvent (length old.mesh) e → IsAccounted e old.world (after old.world (step old.world e))
after_accounted old e sound ok t =
    step_balanced t old.world e (subst (λ n. IsEvent n e) (sym sound.count) ok) (sound.invariant).in_mesh

pub counted_accounts : (e : Event) (old new : WorldSeen) (result : Result EventCounts StepError) → IsSoundWorld old → IsEvent (length old.mesh) e → IsStepCounted e old result new → KeepsAccount e old result new
counted_accounts e old new (Ok event_counts) sound ok is =
    subst (IsAccounted e old.world) (sym (ap (λ w. w.world) (is.done).world)) (after_accounted old e sound ok)
counted_accounts e old new (Err (errors.Full node field)) sound ok is = λ t. ap (λ w. held_data t w.world) is.1
counted_accounts e old new (Err errors.NoMemory) sound ok is = λ t. ap (λ w. held_data t w.world) is

-- the same of the event that was given and of the world that is seen
pub accounted_at : (e f : EventGiven) (w : WorldSeen) (old : Parts) (wanted : Bool) (result : Result EventCounts StepError) (left : Done) (new : Parts) (packet : List ℕ) → e ≡ f → seen_in old ≡ w → AreKept old
    → IsEvent (length w.mesh) (event_of e) → IsAnsweredTo (event_of f) old wanted result left new packet → KeepsAccount (event_of e) w result (seen_in new)
accounted_at e f w old wanted result left new packet same view kept ok is =
    counted_accounts (event_of e) w (seen_in new) result (subst IsSoundWorld view kept.sound) ok
    (counted_at e f w old wanted result left new packet same view is)
