-- What the contracts of a type of table see of it.
use Rattle.std.specs.Prelude.{ℕ, refl}
use Rattle.std.specs.FinMap as maps
use Rattle.std.specs.FinSet as sets
use Rattle.std.specs.Coded.{Coded, code_by, coded×, coded_ℕ}
use Rattle.mesh_base.specs.Members.{NodeIds}
use Rattle.aodv_model.specs.Tables.{Table}
use Rattle.aodv_model.specs.Codes.{table_code}

-- the entries, the destinations that have room for one, and the number of nodes of the mesh
pub record TableSeen : Type 0 where
  pub entries : Table
  pub rooms : NodeIds
  pub nodes : ℕ

-- a table without entries
abbrev pub without_entries : NodeIds → ℕ → TableSeen
without_entries rooms nodes = record { entries = maps.empty; rooms = rooms; nodes = nodes }

-- a code, by which proofs tell such values apart
abbrev pub seen_code : Coded TableSeen
seen_code =
    code_by (Table × (NodeIds × ℕ)) (coded× table_code (coded× (sets.code coded_ℕ) coded_ℕ))
    (λ t. (t.entries, (t.rooms, t.nodes)))
    (λ p. record { entries = p.0; rooms = p.1.0; nodes = p.1.1 }) (λ _. refl)
