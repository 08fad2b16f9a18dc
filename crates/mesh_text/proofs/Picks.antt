-- What is chosen is an event of the mesh; and what holds of each event that is chosen holds of all.
use Rattle.std.proofs.Common.{◌≡◌, ℕ, zero, suc, length, List, Option, Some, None, refl}
use Rattle.std.specs.List.{AllByRecursion}
use Rattle.mesh_model.specs.Worlds as worlds
use Rattle.mesh_model.specs.Worlds.{World, Event, Outcome, Idle, Next}
use Rattle.mesh_model.specs.Choices.{pick}
use Rattle.mesh_model.specs.InMesh.{IsEvent}
use Rattle.mesh_model.proofs.Chosen.{OnSome, pick_is_enabled}
use Rattle.mesh_text.specs.Schedule.{RunState, world_of, outcome_at, next_state}
use Rattle.mesh_text.specs.Auto.{event_then, choice_then, events_chosen}

pub picked : (w : World) → OnSome (IsEvent (length w.nodes)) (pick w)
unfolding OnSome
picked w = by (pick w) refl
  where
    by : (o : Option Event) → pick w ≡ o → OnSome (IsEvent (length w.nodes)) o
    by None is = tt
    by (Some e) is = (pick_is_enabled w e is).1

-- ---- events that are chosen

each_then : (P : Event → Type 0) (m : RunState) (e : Event) (o : Outcome) (more : RunState → List Event) → P e → AllByRecursion P (more (next_state m e)) → AllByRecursion P (event_then m e o more)
each_then P m e Idle more one rest = (one, rest)
each_then P m e (worlds.Full x field) more one rest = (one, tt)
each_then P m e (Next w world_effect) more one rest = (one, rest)

each_choice : (P : Event → Type 0) (m : RunState) (o : Option Event) (more : RunState → List Event) → OnSome P o → ((e : Event) → P e → AllByRecursion P (more (next_state m e))) → AllByRecursion P (choice_then m o more)
unfolding OnSome
each_choice P m None more one rest = tt
each_choice P m (Some e) more one rest = each_then P m e (outcome_at m e) more one (rest e one)

-- what holds of the event that is chosen in a state with I, which its events keep, holds of all that are chosen from there on
pub each_chosen : (I : RunState → Type 0) (P : Event → Type 0) → ((m : RunState) → I m → OnSome P (pick (world_of m))) → ((m : RunState) (e : Event) → P e → I m → I (next_state m e))
    → (most : ℕ) (m : RunState) → I m → AllByRecursion P (events_chosen most m)
unfolding events_chosen
each_chosen I P one kept zero m is = tt
each_chosen I P one kept (suc most) m is =
    each_choice P m (pick (world_of m)) (λ n. events_chosen most n) (one m is) (λ e picked. each_chosen I P one kept most (next_state m e) (kept m e picked is))
