-- How a store grows while it is read.
use Rattle.std.specs.Prelude.{ℕ, ◌<◌, Bool, true, if◌then◌else◌, List, [], ◌∷◌}
use Rattle.std.specs.Ordering.{nat_cmp}
use Rattle.std.specs.List.{AllByRecursion}
use Rattle.std.specs.FinMap as maps
use Rattle.std.specs.FinMap.{FinMap}
use Rattle.aodv_model.specs.Cores.{Body, Store, unset}

-- the keys of a map are below a number
abbrev pub AreBelow : {X : Type 0} → ℕ → FinMap nat_cmp X → Type 0
AreBelow low m = AllByRecursion (λ e. e.0 < low) (maps.entries m)

-- the store with these data for d, for which none waited before
abbrev pub with_bodies : Store → ℕ → List Body → Store
with_bodies store d [] = store
with_bodies store d (b ∷ bs) =
    maps.insert store d (record { needs_request = true; bodies = b ∷ bs })

-- the store in which what waits for d needs a request as before, or needs none
abbrev pub with_need : Store → ℕ → Bool → Store
with_need store d needs = if needs then store else unset store d
