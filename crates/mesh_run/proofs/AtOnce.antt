-- Two events that are done as one: the state between them, and the one after both.
use Rattle.std.proofs.Common.{◌≡◌, ◌<◌, ◌+◌, ℕ, Option, Some, Ok, length, refl, sym, ap, subst, ◌∙◌}
use Rattle.mesh_base.specs.Meshes.{Nodes}
use Rattle.mesh_base.specs.declared.events.Variant.{Variant}
use Rattle.mesh_model.specs.Worlds.{Outcome, Deliver, Turn}
use Rattle.mesh_text.specs.Schedule.{Sums, RunState, sums_after, world_of}
use Rattle.mesh_world.specs.Seen.{WorldSeen}
use Rattle.mesh_world.specs.CountsOfEvents.{AreEventCounts}
use Rattle.mesh_world.specs.AtOnce as worlds
use Rattle.mesh_world.specs.declared.event_counts.EventCounts.{EventCounts}
use Rattle.mesh_world.specs.declared.event_counts.EventCounts.TheVariants as counted
use Rattle.mesh_run.specs.Sums.{AreCounts}
use Rattle.mesh_run.specs.RunStates.{IsSound, IsSafe, IsTakenAtOnce, run_state_seen}
use Rattle.mesh_run.proofs.Choices.{picks_turn}
use Rattle.mesh_run.proofs.Sound.{answered_at, safe_sound, sum_by}

-- what is so after both
pub record Both (m : RunState) (variant : Variant) (nodes : Nodes) (new : WorldSeen) (u : Sums) (lines id : ℕ) : Type 0 where
  pub sound : IsSound (run_state_seen variant nodes (Some new) u lines) (Some new)
  pub safe : IsSafe (run_state_seen variant nodes (Some new) u lines)
  pub taken : IsTakenAtOnce m id (run_state_seen variant nodes (Some new) u lines)

pub both : (m : RunState) (variant : Variant) (nodes : Nodes) (seen : Option WorldSeen) (old new : WorldSeen) (s t u : Sums) (lines id to : ℕ) (event_counts : EventCounts)
    → run_state_seen variant nodes seen s lines ≡ m → seen ≡ Some old → IsSound (run_state_seen variant nodes seen s lines) seen → worlds.IsTakenAtOnce id old to event_counts new
    → ((steps : ℕ) → AreCounts s steps → AreCounts t (steps + 1)) → ((o : Outcome) → AreEventCounts (Deliver id) o counted.Moved → t ≡ sums_after s (Deliver id) o)
    → ((steps : ℕ) → AreCounts t steps → AreCounts u (steps + 1)) → ((o : Outcome) → AreEventCounts (Turn to) o event_counts → u ≡ sums_after t (Turn to) o)
    → Both m variant nodes new u lines id
both m variant nodes seen old new s t u lines id to event_counts is some sound took counts sum counts' sum' =
    let d = took.delivered in
    let e = took.taken in
    let first = answered_at m variant nodes seen old took.between s t lines (Deliver id) (Ok d.answer) d.answer d.packet is some sound tt d.done refl took.sound counts
    (sum_by (Deliver id) old took.between d.answer d.packet counted.Moved s t d.done d.counted sum) in
    let mid = run_state_seen variant nodes (Some took.between) t lines in
    let mesh : (took.between).mesh ≡ nodes = (((first.sound).world took.between refl).fits).mesh in
    let second = answered_at mid variant nodes (Some took.between) took.between new t u lines (Turn to) (Ok e.answer) e.answer e.packet refl refl first.sound (subst (λ (k : Nodes). to < length k) mesh took.within)
    e.done refl took.ends counts' (sum_by (Turn to) took.between new e.answer e.packet event_counts t u e.done e.counted sum') in
    record {
      sound = second.sound;
      safe = second.safe;
      taken = record {
        to = to;
        between = mid;
        delivered = record { done = d.answer; packet = d.packet; answer = first.answer };
        next = sym (picks_turn (took.between).world to (sym took.next));
        taken = record { done = e.answer; packet = e.packet; answer = second.answer };
      };
    }

-- the world of the state that is seen
pub world_at : (m : RunState) (variant : Variant) (nodes : Nodes) (seen : Option WorldSeen) (old : WorldSeen) (s : Sums) (lines : ℕ) → run_state_seen variant nodes seen s lines ≡ m → seen ≡ Some old → world_of m ≡ old.world
world_at m variant nodes seen old s lines is some = sym (ap world_of is) ∙ ap (λ o. world_of (run_state_seen variant nodes o s lines)) some

-- where nothing was done
pub safe_still : (variant : Variant) (nodes : Nodes) (seen : Option WorldSeen) (new : WorldSeen) (s : Sums) (lines : ℕ) → seen ≡ Some new → IsSound (run_state_seen variant nodes seen s lines) seen → IsSafe (run_state_seen variant nodes (Some new) s lines)
safe_still variant nodes seen new s lines some sound = subst (λ o. IsSafe (run_state_seen variant nodes o s lines)) some (safe_sound variant nodes seen s lines sound)
