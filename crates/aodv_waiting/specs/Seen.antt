-- What is seen of a store of waiting data.
use Rattle.std.specs.Prelude.{ℕ, List, refl}
use Rattle.std.specs.Coded.{Coded, code_by, coded×, coded_list, coded_ℕ}
use Rattle.std.specs.FinMap as maps
use Rattle.aodv_model.specs.Cores.{Store}
use Rattle.aodv_model.specs.Codes.{waiting_code}

-- the store, and how many more data for each node of the mesh there is room for
pub record RoomyStore : Type 0 where
  pub store : Store
  pub rooms : List ℕ

-- a code, by which proofs tell such values apart
abbrev pub store_code : Coded RoomyStore
store_code =
    code_by (Store × List ℕ) (coded× (maps.code coded_ℕ waiting_code) (coded_list coded_ℕ))
    (λ s. (s.store, s.rooms)) (λ p. record { store = p.0; rooms = p.1 }) (λ _. refl)
