-- The answer that is right for what a text says, and the line that is written.
use Rattle.std.specs.Prelude.{ℕ, ◌≡◌, List, ◌∷◌, ◌++◌, length, codes, Option, None, ⊤}
use Rattle.std.specs.Io.KnownBytes.{Appends}
use Rattle.mesh_base.specs.Addresses.{dotted_decimal}
use Rattle.mesh_grammar.specs.Written.{line, label_number}
use Rattle.mesh_io.specs.Puts.{AppendsPrefix}
use Rattle.mesh_tables.specs.declared.search.FailingEdge.{FailingEdge}
use Rattle.mesh_tables.specs.Tables.{Cycle, IsSound, IsFirstFailing}
use Rattle.mesh_tables.specs.Printed.{ShownTables, tables_of, edges_in}
use Rattle.mesh_shell.specs.Outputs as runs
use Rattle.mesh_check.specs.Says.{Says, Refuses, Shows, reading_of}
use Rattle.mesh_check.specs.declared.status.CheckStatus.{CheckStatus}
use Rattle.mesh_check.specs.declared.status.CheckStatus.TheVariants.{Yes, No, Usage, BadLine, ReadFault, WriteFault, NoMemory}

unfoldable pub bad_line : ℕ → List ℕ
bad_line n = line (label_number (codes "bad line ") n)

-- the line of sound tables: how many nodes were shown, and how many edges they have
unfoldable pub yes_line : ShownTables → List ℕ
yes_line shown =
    line (label_number (codes "yes nodes ") (length shown)
    ++ label_number (codes " edges ") (edges_in shown))

-- the line of an edge that fails: its destination, node and next hop
unfoldable pub no_line : FailingEdge → List ℕ
no_line e =
    line (codes "no " ++ dotted_decimal e.dest ++ 32 ∷ dotted_decimal e.node
    ++ 32 ∷ dotted_decimal e.next)

-- an edge of these tables is the first that fails, and the line names it
pub record IsNo (shown : ShownTables) (text : List ℕ) : Type 0 where
  pub edge : FailingEdge
  pub first : IsFirstFailing (tables_of shown) edge
  pub line_is : text ≡ no_line edge

-- this is the right answer, and this the line that goes with it. The answers for a word on the
-- command line, a failure or lack of memory are never right
abbrev pub IsRight : Says → CheckStatus → List ℕ → Type 0
IsRight (Refuses n) Yes text = ⊥
IsRight (Refuses n) No text = ⊥
IsRight (Refuses n) (BadLine m) text = (m ≡ n) × (text ≡ bad_line n)
IsRight (Refuses n) Usage text = ⊥
IsRight (Refuses n) ReadFault text = ⊥
IsRight (Refuses n) WriteFault text = ⊥
IsRight (Refuses n) NoMemory text = ⊥
IsRight (Shows shown) Yes text = IsSound (tables_of shown) × (text ≡ yes_line shown)
IsRight (Shows shown) No text = IsNo shown text
IsRight (Shows shown) (BadLine m) text = ⊥
IsRight (Shows shown) Usage text = ⊥
IsRight (Shows shown) ReadFault text = ⊥
IsRight (Shows shown) WriteFault text = ⊥
IsRight (Shows shown) NoMemory text = ⊥

-- the right answer was given and its line written
pub record IsWholeOutput (before now : Option (List ℕ)) (s : Says) (status : CheckStatus)
    : Type 0 where
  pub text : List ℕ
  pub right : IsRight s status text
  pub written : Appends before now text

-- a prefix of the line that goes with the right answer was written
pub record IsCutShort (before now : Option (List ℕ)) (s : Says) : Type 0 where
  pub status : CheckStatus
  pub text : List ℕ
  pub right : IsRight s status text
  pub written : AppendsPrefix before now text

-- what the sink held before and holds now, and the answer: nothing is written about a text that
-- couldn't be read
abbrev pub IsOutput : Option (List ℕ) → Option (List ℕ) → Says → CheckStatus → Type 0
IsOutput before now s Yes = IsWholeOutput before now s Yes
IsOutput before now s No = IsWholeOutput before now s No
IsOutput before now s (BadLine n) = IsWholeOutput before now s (BadLine n)
IsOutput before now s Usage = ⊥
IsOutput before now s ReadFault = now ≡ before
IsOutput before now s WriteFault = IsCutShort before now s
IsOutput before now s NoMemory = now ≡ before

-- a read failed after some lines with their LFs, and bytes without one, were taken, and this is
-- left: none of these lines is refused
abbrev pub IsCutOff : List ℕ → Option (List ℕ) → Type 0
IsCutOff text left = runs.IsCutShort reading_of text left None None

-- no destination has a cycle in the tables that a text shows
abbrev pub HasNoCycle : Says → Type 0
HasNoCycle (Refuses n) = ⊥
HasNoCycle (Shows shown) = (d : ℕ) → ¬ (Cycle (tables_of shown) d)

-- the text was decided
abbrev pub IsDecided : CheckStatus → Type 0
IsDecided Yes = ⊤
IsDecided No = ⊤
IsDecided (BadLine n) = ⊤
IsDecided Usage = ⊥
IsDecided ReadFault = ⊥
IsDecided WriteFault = ⊥
IsDecided NoMemory = ⊥
