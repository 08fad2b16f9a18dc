-- The definitions' line for the code's line, and what is known of a line that is allowed.
use Rattle.std.specs.Prelude.{◌≡◌, ◌≤◌, ℕ, Bool, List, length, Option, Some, None, Result, Ok, Err, ⊤}
use Rattle.std.specs.Fmt.{decimal}
use Rattle.mesh_grammar.specs.declared.fault.LineFault.{LineFault}
use Rattle.mesh_grammar.specs.declared.form.Form.{Form}
use Rattle.mesh_grammar.specs.declared.form.Form.TheVariants as form
use Rattle.mesh_grammar.specs.Words as words
use Rattle.mesh_grammar.specs.Forms.{Arguments, AddressAndNumber, AreOfForm}
use Rattle.mesh_script.specs.Arguments.{all_spanned_of}
use Rattle.mesh_script.specs.declared.node_command.NodeCommand.{NodeCommand}
use Rattle.mesh_script.specs.declared.node_command.NodeCommand.TheVariants as command
use Rattle.mesh_script.specs.declared.limits.TheConstants.{MOST_AT_ONCE, GREATEST_PORT}
use Rattle.mesh_script.specs.declared.shape.Shape.{Shape}
use Rattle.mesh_script.specs.declared.node_line.NodeLine.{NodeLine}
use Rattle.mesh_script.specs.declared.node_line.NodeLine.TheVariants as line
use Rattle.mesh_script.specs.NodeLines.{AcceptedLine, Nothing, Own, Peer, Up, Down, Give, Polls, Turns, Sends, Asks, Shows, after_self, IsInRange, IsInTime}
use Rattle.mesh_script.specs.Peers.{PeersSeen}

-- ---- a line by itself

-- the form of each command's arguments, as in the table
abbrev pub form_of : NodeCommand → Form
form_of command.Own = form.Numbered
form_of command.Peer = form.AddressNumber GREATEST_PORT
form_of command.Up = form.Address
form_of command.Down = form.Address
form_of command.Data = form.AddressText
form_of command.Poll = form.Number MOST_AT_ONCE
form_of command.Turn = form.Number MOST_AT_ONCE
form_of command.Send = form.Address
form_of command.Ask = form.Address
form_of command.Show = form.Bare

-- a number after an address fits in a line of this length
abbrev pub EndsIn : ℕ → Arguments words.SpannedAddr → Type 0
EndsIn size (AddressAndNumber a n) = length (decimal n) ≤ size
EndsIn size others = ⊤

-- what a line of this length says has arguments in its command's form, and a number after an
-- address fits in the line
abbrev pub IsSaidIn : ℕ → Option (Shape NodeCommand) → Type 0
IsSaidIn size None = ⊤
IsSaidIn size (Some s) =
    AreOfForm (form_of s.command) (all_spanned_of s.arguments)
    × EndsIn size (all_spanned_of s.arguments)

-- ---- a line at its point of the script

abbrev pub accepted_of : NodeLine → AcceptedLine
accepted_of line.Blank = Nothing
accepted_of (line.Own a first) = Own a.0 first
accepted_of (line.Peer a port) = Peer a.0 port
accepted_of (line.Up node) = Up node
accepted_of (line.Down node) = Down node
accepted_of (line.Give dest body) = Give dest body.now
accepted_of (line.Poll count) = Polls count
accepted_of (line.Turn count) = Turns count
accepted_of (line.Send dest) = Sends dest
accepted_of (line.Ask dest) = Asks dest
accepted_of line.Show = Shows

abbrev pub seen_line : Result NodeLine LineFault → Result AcceptedLine LineFault
seen_line (Ok l) = Ok (accepted_of l)
seen_line (Err f) = Err f

-- Ok if the node itself was named, and else the fault of a line that comes before that
abbrev pub HasSelf : Option ℕ → Result (Unit {0}) LineFault → Type 0
HasSelf me (Ok u) = (line : Result AcceptedLine LineFault) → after_self me line ≡ line
HasSelf me (Err f) = (line : Result AcceptedLine LineFault) → after_self me line ≡ Err f

-- a line for these peers: what joins the mesh isn't in it yet, and there is room for it; what the
-- other lines name is in the mesh
abbrev pub IsPrintable : PeersSeen → NodeLine → Type 0
IsPrintable p l = IsInRange p (accepted_of l)

-- what is known of a line that is allowed: it is printable, and a `self` or `peer` line comes
-- before the run has started
abbrev pub IsAllowed : PeersSeen → Bool → NodeLine → Type 0
IsAllowed p started l = IsInRange p (accepted_of l) × IsInTime started (accepted_of l)
