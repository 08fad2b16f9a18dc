-- The definitions' line for the code's, and what is known of one that is allowed or printed.
use Rattle.std.specs.Prelude.{◌≡◌, ◌^◌, Bool, Result, Ok, Err, nat_lt, if◌then◌else◌}
use Rattle.mesh_base.specs.Meshes.{Nodes}
use Rattle.mesh_meaning.specs.Events.{event_of}
use Rattle.mesh_grammar.specs.declared.fault.LineFault.{LineFault}
use Rattle.mesh_grammar.specs.declared.fault.LineFault.TheVariants.{Count}
use Rattle.mesh_text.specs.Schedule.{AcceptedLine, Nothing, NewNode, Does, Chooses, ShowsNode, ShowsRoute, ShowsFlight, after_nodes}
use Rattle.mesh_text.specs.Ranges.{IsInRange, IsInTime}
use Rattle.mesh_script.specs.declared.line.Line.{Line}
use Rattle.mesh_script.specs.declared.line.Line.TheVariants as line

abbrev pub accepted_of : Line → AcceptedLine
accepted_of line.Blank = Nothing
accepted_of (line.Node a first) = NewNode a.0 first
accepted_of (line.Step e) = Does (event_of e)
accepted_of (line.Auto count) = Chooses count
accepted_of (line.Show node) = ShowsNode node
accepted_of (line.Route node dest) = ShowsRoute node dest
accepted_of line.Flight = ShowsFlight

abbrev pub seen_line : Result Line LineFault → Result AcceptedLine LineFault
seen_line (Ok l) = Ok (accepted_of l)
seen_line (Err f) = Err f

-- a line of the code has a count of 32 bits: a greater one is a fault
abbrev pub short_count : Result AcceptedLine LineFault → Result AcceptedLine LineFault
short_count (Ok (Chooses count)) = if nat_lt count (2 ^ 32) then Ok (Chooses count) else Err Count
short_count others = others

-- the code's answer on whether the mesh has a node agrees with `after_nodes`
abbrev pub HasNodes : Nodes → Result (Unit {0}) LineFault → Type 0
HasNodes mesh (Ok u) = (line : Result AcceptedLine LineFault) → after_nodes mesh line ≡ line
HasNodes mesh (Err f) = (line : Result AcceptedLine LineFault) → after_nodes mesh line ≡ Err f

-- a line for a mesh: a new node isn't in the mesh yet, and has room; the nodes that other lines
-- name are in the mesh
abbrev pub IsPrintable : Nodes → Line → Type 0
IsPrintable mesh l = IsInRange mesh (accepted_of l)

-- what is known of a line that is allowed: besides, a new node comes before the run has started
abbrev pub IsAllowed : Nodes → Bool → Line → Type 0
IsAllowed mesh started l = IsInRange mesh (accepted_of l) × IsInTime started (accepted_of l)
