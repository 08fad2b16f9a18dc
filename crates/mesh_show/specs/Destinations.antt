-- The text of what a node has for one destination, if it has anything.
use Rattle.std.specs.Prelude.{ℕ, List, [], Option, Some, None}
use Rattle.mesh_base.specs.Meshes.{Nodes}
use Rattle.aodv_model.specs.declared.entry.Entry.{Entry}
use Rattle.aodv_model.specs.Cores.{Waiting, bodies_in, needs_in}
use Rattle.mesh_text.specs.Tables.{entry_text, waits_text}

-- the entry for d, if there is one
abbrev pub entry_of : Nodes → ℕ → Option Entry → List ℕ
entry_of mesh d None = []
entry_of mesh d (Some e) = entry_text mesh d e

-- what waits for d, if anything does
abbrev pub waits_of : Nodes → ℕ → Option Waiting → List ℕ
waits_of mesh d waiting = waits_text mesh d (needs_in waiting) (bodies_in waiting)
