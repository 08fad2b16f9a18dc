-- The lines that put a node at a place: `place ADDR X Y` for the first time, and `move ADDR X Y`
-- later. `link` and `cut` are no commands of a run with places; any other line is as
-- in a schedule, except that a line about a place also makes a later `node` line late.
use Rattle.std.specs.Prelude.{ℕ, ◌==◌, Bool, true, false, ◌||◌, if◌then◌else◌, List, [], ◌∷◌, ◌++◌, Option, Some, None, Result, Ok, Err, length, codes}
use Rattle.std.specs.Str.{bytes_eq}
use Rattle.std.specs.Fmt.{decimal}
use Rattle.mesh_base.specs.Parts.{parts}
use Rattle.mesh_base.specs.Meshes.{Nodes}
use Rattle.mesh_base.specs.Numbers.{number_up_to}
use Rattle.mesh_grammar.specs.declared.fault.LineFault.{LineFault}
use Rattle.mesh_grammar.specs.declared.fault.LineFault.TheVariants.{Word, Count, BadNumber, Early}
use Rattle.mesh_grammar.specs.Words.{SpannedAddr, with_argument, span_at, next_at, address_at}
use Rattle.mesh_text.specs.Lines.{name_of}
use Rattle.mesh_text.specs.Schedule.{as_node}
use Rattle.mesh_grid.specs.declared.place.TheConstants.{GREATEST_PLACE}
use Rattle.mesh_grid.specs.declared.place.Place.{Place}
use Rattle.mesh_grid.specs.declared.line.Placing.{Placing}

-- the word that begins at this byte, as a coordinate
abbrev pub coordinate_at : {B : Type 0} → ℕ → List ℕ → (ℕ → Result B LineFault) → Result B LineFault
coordinate_at at word next =
    with_argument (number_up_to GREATEST_PLACE word) (BadNumber (span_at at word)) next

-- the node of this address, which has to be in the mesh, comes to this place
abbrev pub placing_in : Nodes → Bool → SpannedAddr → Place → Result (Option Placing) LineFault
placing_in mesh first a place =
    if length mesh == 0 then Err Early else
    as_node mesh a (λ x. Ok (Some (record { first = first; node = x; place = place })))

-- an address and two coordinates; the first of these words begins at this byte
abbrev pub placing_at : Nodes → Bool → ℕ → List (List ℕ) → Result (Option Placing) LineFault
placing_at mesh first at (a ∷ x ∷ y ∷ []) =
    address_at at a (λ node.
    coordinate_at (next_at at a) x (λ east.
    coordinate_at (next_at (next_at at a) x) y (λ north.
    placing_in mesh first node (record { x = east; y = north }))))
placing_at mesh first at others = Err Count

abbrev pub placing_by : Nodes → List (List ℕ) → Result (Option Placing) LineFault
placing_by mesh [] = Ok None
placing_by mesh (w ∷ ws) =
    if bytes_eq w (codes "place") then placing_at mesh true (next_at 0 w) ws else
    if bytes_eq w (codes "move") then placing_at mesh false (next_at 0 w) ws else
    if bytes_eq w (codes "link") || bytes_eq w (codes "cut") then Err (Word (span_at 0 w)) else
    Ok None

-- what a line says of a node's place, or its first fault; None if the line is as in a schedule
unfoldable pub placing_of : Nodes → List ℕ → Result (Option Placing) LineFault
placing_of mesh line = placing_by mesh (parts 32 line)

-- ---- how such a line is written

abbrev pub command_of : Bool → List ℕ
command_of first = if first then codes "place" else codes "move"

-- the command, the node's address, and its place
abbrev pub place_words : Nodes → Placing → List ℕ
place_words mesh new =
    command_of new.first ++ 32 ∷ name_of mesh new.node
    ++ 32 ∷ decimal new.place.x ++ 32 ∷ decimal new.place.y
