-- The tables that the lines of a text show. A line `show ADDR` opens a block, which goes on while
-- lines begin with two spaces; its `  entry ..` lines are the table of that address, and a later
-- block of the address replaces the table.
use Rattle.std.specs.Prelude.{ℕ, ◌+◌, ◌==◌, Bool, ◌&&◌, ◌||◌, not, nat_lt, if◌then◌else◌, List, [], ◌∷◌, length, take, drop, Option, Some, None, option_map, option_and_then, codes, is_some, count_by}
use Rattle.std.specs.List.{list_all}
use Rattle.std.specs.Str.{bytes_eq}
use Rattle.std.specs.Map.{lookup}
use Rattle.std.specs.Ordering.{nat_cmp}
use Rattle.std.specs.BTreeMap.{insert_entry, is_at}
use Rattle.mesh_base.specs.Parts.{parts}
use Rattle.mesh_base.specs.Addresses.{address_of}
use Rattle.mesh_base.specs.Numbers.{number_up_to, positive}
use Rattle.mesh_base.specs.declared.limits.TheConstants.{MOST_NODES}
use Rattle.aodv_model.specs.declared.entry.Known.{Known}
use Rattle.aodv_model.specs.declared.entry.Known.TheVariants.{Kno, Unk}
use Rattle.aodv_model.specs.declared.entry.Flag.{Flag}
use Rattle.aodv_model.specs.declared.entry.Flag.TheVariants.{Val, Inv}
use Rattle.aodv_model.specs.Quality.{is_val}
use Rattle.mesh_tables.specs.declared.row.Row.{Row}
use Rattle.mesh_tables.specs.Tables.{Tables}

-- ---- tables

-- a node's entries, by rising destination
abbrev pub Table : Type 0
Table = List (ℕ × Row)

-- the entry for d
abbrev pub row_in : Table → ℕ → Option Row
row_in rows d = lookup (is_at (nat_cmp d)) rows

-- the tables of the nodes that were shown, by rising address
abbrev pub ShownTables : Type 0
ShownTables = List (ℕ × Table)

-- the table of x
abbrev pub table_in : ShownTables → ℕ → Option Table
table_in shown x = lookup (is_at (nat_cmp x)) shown

-- these tables as a function
abbrev pub tables_of : ShownTables → Tables
tables_of shown x d = option_and_then (λ rows. row_in rows d) (table_in shown x)

-- how many edges x has: its valid entries for other destinations
abbrev pub edges_of : ℕ → Table → ℕ
edges_of x rows = count_by (λ e. is_val (e.1).flag && not (e.0 == x)) rows

-- how many edges there are for all destinations, including those whose next hop wasn't shown
abbrev pub edges_in : ShownTables → ℕ
edges_in [] = 0
edges_in (t ∷ ts) = edges_of t.0 t.1 + edges_in ts

-- ---- an entry line

-- `kno` or `unk`
abbrev pub known_of : List ℕ → Option Known
known_of word =
    if bytes_eq word (codes "kno") then Some Kno else
    if bytes_eq word (codes "unk") then Some Unk else None

-- `val` or `inv`
abbrev pub flag_of : List ℕ → Option Flag
flag_of word =
    if bytes_eq word (codes "val") then Some Val else
    if bytes_eq word (codes "inv") then Some Inv else None

-- precursors: `-`, or addresses joined by commas
abbrev pub is_list : List ℕ → Bool
is_list word =
    bytes_eq word (codes "-") || list_all (λ part. is_some (address_of part)) (parts 44 word)

-- the row that these words give: sequence number, whether that is known, flag, hop count from 1 to
-- 255, next hop
unfoldable pub row_of : List ℕ → List ℕ → List ℕ → List ℕ → List ℕ → Option Row
row_of number known flag hops next =
    option_and_then (λ dsn. option_and_then (λ dsk. option_and_then (λ f. option_and_then (λ h.
    option_and_then (λ y.
    Some (record { dsn = dsn; known = dsk; flag = f; hops = h; next = y }))
    (address_of next))
    (positive (number_up_to 255 hops))) (flag_of flag)) (known_of known))
    (number_up_to 4294967295 number)

-- the words after `  entry `: destination, number, `kno` or `unk`, flag, hops, next hop, precursors
unfoldable pub entry_in : List (List ℕ) → Option (ℕ × Row)
entry_in (dest ∷ number ∷ known ∷ flag ∷ hops ∷ next ∷ list ∷ []) =
    if is_list list
    then
    option_and_then (λ d. option_map (λ row. (d, row)) (row_of number known flag hops next))
    (address_of dest)
    else None
entry_in others = None

-- ---- a line

-- the node whose block is open, and its entries so far
pub record Block : Type 0 where
  pub node : ℕ
  pub rows : Table

-- what the lines read so far show: the tables whose blocks are closed, the block that is open, and
-- how many lines
pub record Reading : Type 0 where
  pub closed : ShownTables
  pub block : Option Block
  pub lines : ℕ

abbrev pub nothing_read : Reading
nothing_read = record { closed = []; block = None; lines = 0 }

abbrev pub with_block : ShownTables → Option Block → ShownTables
with_block shown None = shown
with_block shown (Some b) = insert_entry nat_cmp shown b.node b.rows

-- all tables that were shown, with that of the open block
abbrev pub shown_by : Reading → ShownTables
shown_by r = with_block r.closed r.block

abbrev pub closed_up : Reading → Reading
closed_up r = record r { closed = shown_by r; block = None }

-- an empty block of x opens; a 201st address is refused. None, here and below, says that the line
-- is refused
abbrev pub opened_at : Reading → Option ℕ → Option Reading
opened_at r None = None
opened_at r (Some x) =
    if is_some (table_in r.closed x) || nat_lt (length r.closed) MOST_NODES
    then Some (record r { block = Some (record { node = x; rows = [] }) }) else None

-- the words after `show`: one address
abbrev pub show_line : Reading → List (List ℕ) → Option Reading
show_line r (word ∷ []) = opened_at (closed_up r) (address_of word)
show_line r others = None

-- an entry joins the block. It is refused if its destination is there already
abbrev pub with_entry : Block → Option (ℕ × Row) → Option Block
with_entry b None = None
with_entry b (Some e) =
    if is_some (row_in b.rows e.0) then None
    else Some (record b { rows = insert_entry nat_cmp b.rows e.0 e.1 })

-- a line of the block, which is passed over if it isn't an entry
abbrev pub inner_line : Block → List ℕ → Option Block
inner_line b line =
    if bytes_eq (take 8 line) (codes "  entry ")
    then with_entry b (entry_in (parts 32 (drop 8 line))) else Some b

-- a line that doesn't begin with two spaces closes the block
abbrev pub other_line : Reading → Option Block → List ℕ → Option Reading
other_line r None line = Some r
other_line r (Some b) line =
    if bytes_eq (take 2 line) (codes "  ")
    then option_map (λ c. record r { block = Some c }) (inner_line b line)
    else Some (closed_up r)

-- a line by its first word
abbrev pub line_by : Reading → List ℕ → List (List ℕ) → Option Reading
line_by r line [] = Some r
line_by r line (word ∷ words) =
    if bytes_eq word (codes "show") then show_line r words else other_line r r.block line

-- what is shown after one more line
unfoldable pub after_line : Reading → List ℕ → Option Reading
after_line r line = line_by (record r { lines = r.lines + 1 }) line (parts 32 line)
