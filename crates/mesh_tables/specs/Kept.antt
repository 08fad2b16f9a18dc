-- How printed tables are kept: as maps of maps, seen as lists by rising key.
use Rattle.std.specs.Prelude.{ℕ, ◌+◌, ◌^◌, List, [], ◌∷◌, length, map, Option, Some, None}
use Rattle.std.specs.BTreeMap.{BTreeMap}
use Rattle.mesh_tables.specs.declared.row.Row.{Row}
use Rattle.mesh_tables.specs.declared.printed.OpenBlock.{OpenBlock}
use Rattle.mesh_tables.specs.declared.entry_line.Words.{Words}
use Rattle.mesh_tables.specs.Printed.{ShownTables, Block}

-- the most lines that are read
abbrev pub most_lines : ℕ
most_lines = 2 ^ 63

abbrev pub shown_in : List (ℕ × BTreeMap ℕ Row) → ShownTables
shown_in tables = map (λ t. (t.0, (t.1).entries)) tables

abbrev pub block_in : OpenBlock → Block
block_in b = record { node = b.node; rows = (b.rows).entries }

-- how many entries there are
abbrev pub size_of : ShownTables → ℕ
size_of [] = 0
size_of (t ∷ ts) = length t.1 + size_of ts

abbrev pub block_size : Option Block → ℕ
block_size None = 0
block_size (Some b) = length b.rows

-- the words of an entry line
abbrev pub words_in : Words → List (List ℕ)
words_in w =
    (w.dest).now ∷ (w.dsn).now ∷ (w.known).now ∷ (w.flag).now ∷ (w.hops).now ∷ (w.next).now
    ∷ (w.list).now ∷ []
