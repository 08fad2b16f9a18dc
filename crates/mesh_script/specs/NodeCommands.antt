-- The commands of a router's script.
use Rattle.std.specs.Prelude.{ℕ, List, [], ◌∷◌, Option, Result, codes}
use Rattle.mesh_grammar.specs.declared.fault.LineFault.{LineFault}
use Rattle.mesh_grammar.specs.declared.form.Form.{Form}
use Rattle.mesh_grammar.specs.declared.form.Form.TheVariants.{Bare, Address, Number, Numbered, AddressNumber, AddressText}
use Rattle.mesh_grammar.specs.Words.{SpannedAddr}
use Rattle.mesh_grammar.specs.Scripts.{Row, Shape, shape_by}
use Rattle.mesh_script.specs.declared.node_command.NodeCommand.{NodeCommand}
use Rattle.mesh_script.specs.declared.node_command.NodeCommand.TheVariants.{Own, Peer, Up, Down, Data, Poll, Turn, Send, Ask, Show}
use Rattle.mesh_script.specs.declared.limits.TheConstants.{MOST_AT_ONCE, GREATEST_PORT}

abbrev pub row : List ℕ → NodeCommand → Form → Row NodeCommand
row word command form = record { command = command; word = word; form = form }

abbrev pub router_script : List (Row NodeCommand)
router_script =
    row (codes "self") Own Numbered
    ∷ row (codes "peer") Peer (AddressNumber GREATEST_PORT)
    ∷ row (codes "up") Up Address
    ∷ row (codes "down") Down Address
    ∷ row (codes "data") Data AddressText
    ∷ row (codes "poll") Poll (Number MOST_AT_ONCE)
    ∷ row (codes "turn") Turn (Number MOST_AT_ONCE)
    ∷ row (codes "send") Send Address
    ∷ row (codes "ask") Ask Address
    ∷ row (codes "show") Show Bare
    ∷ []

-- what a line of a router's script says by itself
abbrev pub shape_of : List ℕ → Result (Option (Shape NodeCommand SpannedAddr)) LineFault
shape_of line = shape_by router_script line
