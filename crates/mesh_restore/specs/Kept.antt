-- What a store has after a part was read into it.
use Rattle.std.specs.Prelude.{◌≡◌, ◌≤◌, ℕ, ◌+◌, length, List, [], ◌∷◌, ◌++◌, Option, Some}
use Rattle.aodv_model.specs.Cores.{Body, Store}
use Rattle.mesh_checkpoint.specs.Checkpoint.{Waits}
use Rattle.mesh_checkpoint.specs.Points.{waits_in}
use Rattle.mesh_restore.specs.Stores.{with_bodies, AreBelow}

-- at least this many data were read, these bytes are left, and the data now wait for d
pub record IsFilled (before : Store) (d count : ℕ) (read : Option (List Body × List ℕ))
    (after : Store) (rest : List ℕ) : Type 0 where
  pub found : List Body
  pub read_is : read ≡ Some (found, rest)
  pub many : count ≤ length found
  pub stored : after ≡ with_bodies before d found

-- what waits for d was read, these bytes are left, and it is the last in the store
pub record IsKeptFrom (read : Option (Waits × List ℕ)) (before after : Store) (d : ℕ)
    (rest : List ℕ) : Type 0 where
  pub found : Waits
  pub read_is : read ≡ Some (found, rest)
  pub dest : found.dest ≡ d
  pub last : waits_in after ≡ waits_in before ++ found ∷ []
  pub below : AreBelow (d + 1) after
