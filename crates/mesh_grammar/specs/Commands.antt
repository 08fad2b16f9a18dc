-- Part of what the headline says.
-- The commands of a schedule. A script with other commands has a table like this one.
use Rattle.std.specs.Prelude.{ℕ, List, [], ◌∷◌, Option, Result, codes}
use Rattle.mesh_base.specs.declared.limits.TheConstants.{MOST_EVENTS}
use Rattle.mesh_grammar.specs.declared.command.Command.{Command}
use Rattle.mesh_grammar.specs.declared.command.Command.TheVariants.{Node, Link, Cut, Data, Turn, Send, Ask, Deliver, Lose, Copy, Auto, Show, Route, Flight}
use Rattle.mesh_grammar.specs.declared.fault.LineFault.{LineFault}
use Rattle.mesh_grammar.specs.declared.form.Form.{Form}
use Rattle.mesh_grammar.specs.declared.form.Form.TheVariants.{Bare, Address, Addresses, Number, Numbered, Text}
use Rattle.mesh_grammar.specs.Words.{SpannedAddr}
use Rattle.mesh_grammar.specs.Scripts.{Row, Shape, shape_by}

-- the greatest id of a copy, which has 64 bits
abbrev pub greatest_id : ℕ
greatest_id = 18446744073709551615

abbrev row : List ℕ → Command → Form → Row Command
row word command form = record { command = command; word = word; form = form }

abbrev pub schedule : List (Row Command)
schedule =
    row (codes "node") Node Numbered
    ∷ row (codes "link") Link Addresses
    ∷ row (codes "cut") Cut Addresses
    ∷ row (codes "data") Data Text
    ∷ row (codes "turn") Turn Address
    ∷ row (codes "send") Send Addresses
    ∷ row (codes "ask") Ask Addresses
    ∷ row (codes "deliver") Deliver (Number greatest_id)
    ∷ row (codes "lose") Lose (Number greatest_id)
    ∷ row (codes "copy") Copy (Number greatest_id)
    ∷ row (codes "auto") Auto (Number MOST_EVENTS)
    ∷ row (codes "show") Show Address
    ∷ row (codes "route") Route Addresses
    ∷ row (codes "flight") Flight Bare
    ∷ []

-- what a line of a schedule says by itself
abbrev pub shape_of : List ℕ → Result (Option (Shape Command SpannedAddr)) LineFault
shape_of line = shape_by schedule line
