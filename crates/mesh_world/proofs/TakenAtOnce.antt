-- A copy that the parts of a world delivered and took: what is seen of the world.
use Rattle.std.proofs.Common.{◌≡◌, ℕ, List, Option, Some, None, Ok, refl, ap, subst}
use Rattle.std.specs.Prelude.{IfSome}
use Rattle.mesh_base.specs.declared.events.Done.TheVariants as done
use Rattle.mesh_model.specs.Worlds.{Deliver, Turn}
use Rattle.mesh_model.specs.Accounts.{any, doubled_at, dropped_data}
use Rattle.mesh_world.specs.Seen.{WorldSeen}
use Rattle.mesh_world.specs.Steps.{is_idle}
use Rattle.mesh_world.specs.CountsOfEvents.{AreEventCountsOf, IsStepCounted}
use Rattle.mesh_world.specs.AtOnce.{IsTakenAtOnce}
use Rattle.mesh_world.specs.Parts.{AreKept, IsTakenFrom, seen_in}
use Rattle.mesh_world.specs.declared.parts.Parts.{Parts}
use Rattle.mesh_world.specs.declared.event_counts.EventCounts.{EventCounts}
use Rattle.mesh_world.specs.declared.event_counts.EventCounts.TheVariants as counted
use Rattle.mesh_world.proofs.Accounts.{counted_accounts}
use Rattle.mesh_world.proofs.Gains.{gives_none, delivers_none}

heard_counts : (from to : ℕ) → AreEventCountsOf (done.Heard from to) counted.Moved
heard_counts from to = λ mesh x old new packet e all is. record {
  idle = ap is_idle is;
  given = gives_none old new e _ tt is;
  delivered = delivers_none old new e _ tt is;
  dropped = ap (dropped_data any e) is;
  doubled = ap doubled_at is;
}

taken_seen : (id : ℕ) (old : Parts) (to : ℕ) (event_counts : EventCounts) (new : Parts) (packet : List ℕ) → AreKept old → IsTakenFrom id old to event_counts new packet → IsTakenAtOnce id (seen_in old) to event_counts (seen_in new)
taken_seen id old to event_counts new packet kept t =
    let first : IsStepCounted (Deliver id) (seen_in old) (Ok counted.Moved) (seen_in t.between) = record { answer = done.Heard t.from to; packet = packet; done = (t.delivered).step; counted = heard_counts t.from to } in
    let second : IsStepCounted (Turn to) (seen_in t.between) (Ok event_counts) (seen_in new) = record { answer = t.answer; packet = packet; done = (t.taken).step; counted = t.counted } in
    record {
      between = seen_in t.between;
      delivered = first;
      arrived = counted_accounts (Deliver id) (seen_in old) (seen_in t.between) (Ok counted.Moved) kept.sound tt first;
      sound = ((t.delivered).kept).sound;
      within = t.within;
      next = t.next;
      taken = second;
      kept = counted_accounts (Turn to) (seen_in t.between) (seen_in new) (Ok event_counts) ((t.delivered).kept).sound t.within second;
      ends = ((t.taken).kept).sound;
    }

-- the answer, whether or not it was done
pub answer_seen : (id : ℕ) (w : WorldSeen) (old : Parts) (r : Option (ℕ × EventCounts)) (new : Parts) (packet : List ℕ) → AreKept old → seen_in old ≡ w → IfSome r (λ p. IsTakenFrom id old p.0 p.1 new packet)
    → IfSome r (λ p. IsTakenAtOnce id w p.0 p.1 (seen_in new))
answer_seen id w old None new packet kept view t = tt
answer_seen id w old (Some p) new packet kept view t = subst (λ (v : WorldSeen). IsTakenAtOnce id v p.0 p.1 (seen_in new)) view (taken_seen id old p.0 p.1 new packet kept t)

pub answer_kept : (id : ℕ) (old : Parts) (r : Option (ℕ × EventCounts)) (new : Parts) (packet : List ℕ) → IfSome r (λ p. IsTakenFrom id old p.0 p.1 new packet) → (r ≡ None → (seen_in new ≡ seen_in old) × AreKept new) → AreKept new
answer_kept id old None new packet t none = (none refl).1
answer_kept id old (Some p) new packet t none = (t.taken).kept
