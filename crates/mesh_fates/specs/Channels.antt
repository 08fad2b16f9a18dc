-- The channel: its words, its time, and what it has decided of copies.
use Rattle.std.specs.Prelude.{ℕ, zero, suc, ◌+◌, Bool, true, false, if◌then◌else◌, List, [], ◌∷◌, ◌++◌, Option, Some, None, length}
use Rattle.rand_pcg.specs.Lcg.{Lcg}
use Rattle.mesh_make.specs.Words.{of_seed, word, after}
use Rattle.aodv_model.specs.Handlers.{Cast, Nothing, One, Many, All, Effect}
use Rattle.mesh_model.specs.Worlds.{World, Event, Lose, Double, WorldEffect, Taken, Sent, CopyDoubled, Outcome, Next}
use Rattle.mesh_fates.specs.declared.rates.Rates.{Rates}
use Rattle.mesh_fates.specs.declared.fate.Lot.{Lot}
use Rattle.mesh_fates.specs.declared.fate.Fate.{Fate}
use Rattle.mesh_fates.specs.declared.due.Due.{Due}
use Rattle.mesh_fates.specs.Fates.{delay_by, draw}
use Rattle.mesh_fates.specs.Plans.{Plan, with_due}

-- the generator; the tick; the copies that aren't lost, by the tick in which they are due; and the
-- events, doublings and losses, that are decided and not done yet
pub record Channel : Type 0 where
  pub rng : Lcg
  pub tick : ℕ
  pub plan : Plan
  pub left : List Event

-- the channel before the first event
unfoldable pub opening : ℕ → Channel
opening seed = record { rng = of_seed seed; tick = 0; plan = []; left = [] }

-- ---- one copy

-- a copy that isn't lost is due in the tick after this one, or later by its delay
abbrev pub due_at : ℕ → ℕ → ℕ → Due
due_at tick id delay = record { tick = tick + 1 + delay; id = id }

-- a copy with this lot is planned, unless it is to be lost
abbrev pub planned : Plan → ℕ → ℕ → Lot → Plan
planned plan tick id lot = if lot.lost then plan else with_due plan (due_at tick id lot.delay)

-- the loss of copy id, if it is to be lost
abbrev pub losses : ℕ → Lot → List Event
losses id lot = if lot.lost then Lose id ∷ [] else []

-- the doubling of copy id, if it is doubled, and the loss of the double, whose number is `new`, if
-- that is to be lost
abbrev pub doublings : ℕ → ℕ → Option Lot → List Event
doublings id new None = []
doublings id new (Some lot) = Double id ∷ losses new lot

abbrev pub planned_double : Plan → ℕ → ℕ → Option Lot → Plan
planned_double plan tick new None = plan
planned_double plan tick new (Some lot) = planned plan tick new lot

-- the number of the next double: `new` itself if this copy isn't doubled
abbrev pub number_behind : ℕ → Option Lot → ℕ
number_behind new None = new
number_behind new (Some lot) = new + 1

-- what is decided of copy id: first it is doubled, if it is to be, and then lost, if it is to be
abbrev pub with_fate : Channel → ℕ → ℕ → Fate → Channel
with_fate c id new fate = record c {
  plan = planned (planned_double c.plan c.tick new fate.double) c.tick id fate.lot;
  left = c.left ++ doublings id new fate.double ++ losses id fate.lot;
}

-- ---- the copies of a cast

-- what is decided of this many copies, numbered from id on, whose doubles are numbered from new on
unfoldable pub decided : Rates → Bool → (count id new : ℕ) → Channel → Channel
decided rates unicast zero id new c = c
decided rates unicast (suc count) id new c =
    let drawn = draw rates unicast c.rng in
    decided rates unicast count (id + 1) (number_behind new drawn.fate.double)
    (with_fate (record c { rng = drawn.rng }) id new drawn.fate)

abbrev pub is_unicast : Cast → Bool
is_unicast Nothing = false
is_unicast (One y m) = true
is_unicast (Many s m) = false
is_unicast (All m) = false

-- what is decided of the copies that a cast made, from this number on
abbrev pub after_cast : Rates → (id : ℕ) → Effect → (count : ℕ) → Channel → Channel
after_cast rates id effect count c =
    decided rates (is_unicast effect.cast) count id (id + count) c

-- ---- after an event in a world

abbrev pub after_world_effect : Rates → World → WorldEffect → Channel → Channel
after_world_effect rates w (Taken took effect copies) c =
    after_cast rates w.next_copy effect (length copies) c
after_world_effect rates w (Sent effect copies) c =
    after_cast rates w.next_copy effect (length copies) c
after_world_effect rates w others c = c

-- after an event that the channel has chosen; about a double that this makes, it has decided
-- already
abbrev pub after_chosen : Rates → World → Outcome → Channel → Channel
after_chosen rates w (Next w' world_effect) c = after_world_effect rates w world_effect c
after_chosen rates w others c = c

-- a double that the input has made draws only its delay, by one word, and isn't lost
abbrev pub with_double : Rates → ℕ → Channel → Channel
with_double rates id c = record c {
  rng = after c.rng;
  plan = with_due c.plan (due_at c.tick id (delay_by rates (word c.rng)));
}

-- after an event of the input
abbrev pub after_given : Rates → World → Outcome → Channel → Channel
after_given rates w (Next w' (CopyDoubled id to parcel)) c = with_double rates id c
after_given rates w others c = after_chosen rates w others c
