-- What an event's counts add to the sums.
use Rattle.std.proofs.Common.{◌≡◌, ℕ, ◌+◌, Bool, true, false, refl, sym, ap, ◌∙◌, arith}
use Rattle.mesh_model.specs.Worlds as worlds
use Rattle.mesh_model.specs.Worlds.{Event, Outcome, Idle, Next}
use Rattle.mesh_model.specs.Accounts.{any, given_data, delivered_data, doubled_at, dropped_data}
use mir.Val.{bool_byte}
use Rattle.mesh_text.specs.Schedule.{Sums, sums_after, idle_by}
use Rattle.mesh_world.specs.Steps.{is_idle}
use Rattle.mesh_world.specs.CountsOfEvents.{count_of, says_idle, says_given, says_delivered, says_dropped, says_doubled, AreEventCounts}
use Rattle.mesh_world.specs.declared.event_counts.EventCounts.{EventCounts}

idle_is : (o : Outcome) → idle_by o ≡ count_of (is_idle o)
idle_is Idle = refl
idle_is (worlds.Full x f) = refl
idle_is (Next w h) = refl

pub byte_is : (b : Bool) (n : ℕ) → n ≡ bool_byte b → n ≡ count_of b
byte_is true n h = h
byte_is false n h = h

pub no_more : (n k : ℕ) → k ≡ 0 → n ≡ n + k
no_more n k none = omega arith

-- each sum is what it was, and what the event adds
pub summed_by : (s : Sums) (e : Event) (o : Outcome) (v w x y z : ℕ) → v ≡ s.idle + idle_by o → w ≡ s.given + given_data any e o → x ≡ s.delivered + delivered_data any e o → y ≡ s.lost + dropped_data any e o → z ≡ s.copied + doubled_at o
    → record { events = s.events + 1; idle = v; given = w; delivered = x; lost = y; copied = z } ≡ sums_after s e o
summed_by s e o v w x y z iv gw dx ly cz = λ i. record { events = s.events + 1; idle = iv i; given = gw i; delivered = dx i; lost = ly i; copied = cz i }

-- the sums of an event by its counts
pub tallied : (s : Sums) (e : Event) (o : Outcome) (t : EventCounts) (v w x y z : ℕ) → AreEventCounts e o t → v ≡ s.idle + count_of (says_idle t) → w ≡ s.given + count_of (says_given e t)
    → x ≡ s.delivered + count_of (says_delivered t) → y ≡ s.lost + count_of (says_dropped t) → z ≡ s.copied + count_of (says_doubled t)
    → record { events = s.events + 1; idle = v; given = w; delivered = x; lost = y; copied = z } ≡ sums_after s e o
tallied s e o t v w x y z is iv gw dx ly cz =
    summed_by s e o v w x y z (iv ∙ ap (λ n. s.idle + n) (sym (idle_is o ∙ ap count_of is.idle))) (gw ∙ ap (λ n. s.given + n) (sym is.given)) (dx ∙ ap (λ n. s.delivered + n) (sym is.delivered))
    (ly ∙ ap (λ n. s.lost + n) (sym is.dropped)) (cz ∙ ap (λ n. s.copied + n) (sym is.doubled))
