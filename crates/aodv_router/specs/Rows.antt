-- An entry of the routing table, in addresses.
use Rattle.std.specs.Prelude.{◌≡◌, ℕ, Option, Some, None, Result, Ok, Err, ⊤}
use Rattle.mesh_base.specs.Meshes.{Nodes, addr_at}
use Rattle.aodv_model.specs.declared.entry.Entry as entries
use Rattle.aodv_router.specs.declared.outcome.Row.{Row}
use Rattle.aodv_router.specs.declared.answers.Stranger.{Stranger}
use Rattle.aodv_router.specs.Stations.{addrs_of}

-- the row reports the entry
pub record TellsEntry (nodes : Nodes) (e : entries.Entry) (row : Row) : Type 0 where
  pub dsn : row.dsn ≡ e.dsn
  pub dsk : row.dsk ≡ e.dsk
  pub flag : row.flag ≡ e.flag
  pub hops : row.hops ≡ e.hops
  pub next : row.next ≡ addr_at nodes e.next
  pub pre : (row.pre).items ≡ addrs_of nodes e.pre

abbrev pub TellsRow : Nodes → Option entries.Entry → Option Row → Type 0
TellsRow nodes (Some e) (Some row) = TellsEntry nodes e row
TellsRow nodes (Some e) None = ⊥
TellsRow nodes None (Some row) = ⊥
TellsRow nodes None None = ⊤

-- the answer for an address: a value of which P holds with its node, or else that the mesh has no
-- such address
abbrev pub IsAnswerAt : {A : Type 0} → Option ℕ → Result A Stranger → (ℕ → A → Type 0) → Type 0
IsAnswerAt (Some d) (Ok x) P = P d x
IsAnswerAt (Some d) (Err _) P = ⊥
IsAnswerAt None (Ok x) P = ⊥
IsAnswerAt None (Err _) P = ⊤
