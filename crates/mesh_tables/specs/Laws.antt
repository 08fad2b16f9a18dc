-- What is proved of tables.
use Rattle.std.specs.Prelude.{ℕ}
use Rattle.mesh_tables.specs.Tables.{Tables, Cycle, IsSound}

-- sound tables have no cycle, for any destination
abbrev pub SoundTablesHaveNoCycle : Type 0
SoundTablesHaveNoCycle = (t : Tables) (d : ℕ) → IsSound t → ¬ (Cycle t d)
