-- The steps by which a channel decides. Only private functions speak of them.
use Rattle.std.specs.Prelude.{ℕ, Bool, Option, [], ◌∷◌, ◌++◌}
use Rattle.mesh_fates.specs.declared.rates.Rates.{Rates}
use Rattle.mesh_fates.specs.declared.decided.Decided.{Decided}
use Rattle.mesh_fates.specs.declared.fate.Lot.{Lot}
use Rattle.mesh_fates.specs.Fates.{draw}
use Rattle.mesh_fates.specs.Plans.{with_due}
use Rattle.mesh_fates.specs.Left.{event_left}
use Rattle.mesh_fates.specs.Channels.{Channel, due_at, planned, planned_double, losses, doublings, with_fate}

-- copy id is planned, with this delay
abbrev pub planned_late : Channel → ℕ → ℕ → Channel
planned_late c id delay = record c { plan = with_due c.plan (due_at c.tick id delay) }

-- one more thing is left to do
abbrev pub with_left : Channel → Decided → Channel
with_left c decided = record c { left = c.left ++ event_left decided ∷ [] }

-- copy id has this lot
abbrev pub settled : Channel → ℕ → Lot → Channel
settled c id lot = record c {
  plan = planned c.plan c.tick id lot;
  left = c.left ++ losses id lot;
}

-- copy id is doubled, if there is a lot for a double
abbrev pub settled_double : Channel → ℕ → ℕ → Option Lot → Channel
settled_double c id new lot = record c {
  plan = planned_double c.plan c.tick new lot;
  left = c.left ++ doublings id new lot;
}

-- copy id draws its fate
abbrev pub decided_one : Rates → Bool → ℕ → ℕ → Channel → Channel
decided_one rates unicast id new c =
    let drawn = draw rates unicast c.rng in
    with_fate (record c { rng = drawn.rng }) id new drawn.fate
