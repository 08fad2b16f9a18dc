-- How a channel decides of one copy after the other.
use Rattle.std.proofs.Common.{◌≡◌, ℕ, zero, suc, ◌+◌, ◌*◌, ◌≤◌, Bool, true, false, cond, Option, Some, None, [], ◌∷◌, ◌++◌, length, length-append, refl, arith}
use Rattle.mesh_model.specs.Worlds.{Lose}
use Rattle.mesh_fates.specs.declared.rates.Rates.{Rates}
use Rattle.mesh_fates.specs.declared.fate.Lot.{Lot}
use Rattle.mesh_fates.specs.Fates.{draw}
use Rattle.mesh_fates.specs.Channels.{Channel, losses, doublings, number_behind, decided}
use Rattle.mesh_fates.specs.Steps.{decided_one}

-- one copy more
pub decided_next : (rates : Rates) (unicast : Bool) (left rest id new next : ℕ) (c after : Channel) → left ≡ suc rest → after ≡ decided_one rates unicast id new c → next ≡ number_behind new (draw rates unicast c.rng).fate.double → decided rates unicast rest (id + 1) next after ≡ decided rates unicast left id new c
unfolding decided
decided_next rates unicast left rest id new next c after some is n = rw (some, is, n) refl

-- no copy more
pub decided_all : (rates : Rates) (unicast : Bool) (left id new : ℕ) (c : Channel) → left ≡ 0 → decided rates unicast left id new c ≡ c
unfolding decided
decided_all rates unicast left id new c none = rw none refl

pub behind_few : (new : ℕ) (double : Option Lot) → (new ≤ number_behind new double) × (number_behind new double ≤ new + 1)
behind_few new None = (omega arith, omega arith)
behind_few new (Some lot) = (omega arith, omega arith)

-- ---- how much is left to do

losses_few : (id : ℕ) (lot : Lot) → length (losses id lot) ≤ 1
losses_few id lot = by lot.lost
  where
    by : (lost : Bool) → length (cond lost (Lose id ∷ []) []) ≤ 1
    by true = omega arith
    by false = omega arith

pub doublings_few : (id new : ℕ) (double : Option Lot) → length (doublings id new double) ≤ 2
doublings_few id new None = omega arith
doublings_few id new (Some lot) = let few = losses_few new lot in omega (arith, few)

-- at most three events a copy
pub few_left : (rates : Rates) (unicast : Bool) (count id new : ℕ) (c : Channel) → length (decided rates unicast count id new c).left ≤ length c.left + 3 * count
unfolding decided
few_left rates unicast zero id new c = omega arith
few_left rates unicast (suc count) id new c =
    let fate = (draw rates unicast c.rng).fate in
    let step = decided_one rates unicast id new c in
    let double = doublings id new fate.double in
    let loss = losses id fate.lot in
    let whole : length (decided rates unicast (suc count) id new c).left ≡ length (decided rates unicast count (id + 1) (number_behind new fate.double) step).left = refl in
    let here : length step.left ≡ length (c.left ++ double ++ loss) = refl in
    let rest = few_left rates unicast count (id + 1) (number_behind new fate.double) step in
    let two = doublings_few id new fate.double in
    let one = losses_few id fate.lot in
    let inner = length-append c.left double in
    let outer = length-append (c.left ++ double) loss in
    omega (arith, whole, here, rest, two, one, inner, outer)
