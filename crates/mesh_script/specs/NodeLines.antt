-- What a line of a router's script comes to, and how it is written back.
use Rattle.std.specs.Prelude.{◌≡◌, ◌≢◌, ◌<◌, ◌≤◌, ◌^◌, ℕ, ◌-◌, ◌==◌, Bool, true, false, List, [], Option, Some, None, Result, Ok, Err, length, codes, if◌then◌else◌, is_some, ⊤}
use Rattle.std.specs.Fmt.{decimal}
use Rattle.mesh_base.specs.declared.limits.TheConstants.{MOST_NODES}
use Rattle.mesh_base.specs.Meshes.{Nodes, index_of, addr_at}
use Rattle.mesh_grammar.specs.declared.fault.LineFault.{LineFault}
use Rattle.mesh_grammar.specs.declared.fault.LineFault.TheVariants.{Count, Late, Early, TwiceNode, TooManyNodes, Same}
use Rattle.mesh_grammar.specs.declared.fault.Span.{Span}
use Rattle.mesh_grammar.specs.Words.{SpannedAddr}
use Rattle.mesh_grammar.specs.Forms.{Arguments, NoArgument, OneAddress, OneNumber, NumberedAddress, AddressAndNumber, AddressAndText, greatest_first, IsText}
use Rattle.mesh_grammar.specs.Scripts.{Shape}
use Rattle.mesh_grammar.specs.Written.{command_text}
use Rattle.mesh_text.specs.Schedule.{with_nodes, result_and_then}
use Rattle.mesh_script.specs.declared.node_command.NodeCommand.{NodeCommand}
use Rattle.mesh_script.specs.declared.node_command.NodeCommand.TheVariants as command
use Rattle.mesh_script.specs.declared.limits.TheConstants.{MOST_AT_ONCE, GREATEST_PORT}
use Rattle.mesh_script.specs.NodeCommands.{shape_of}
use Rattle.mesh_script.specs.Peers.{PeersSeen, at_port}

-- ---- whether a line is allowed

-- a line that is allowed at its point of the script, with each node by its index
pub data AcceptedLine : Type 0 where
  -- a blank line
  Nothing : AcceptedLine
  -- the node itself, and a peer
  Own : (address first : ℕ) → AcceptedLine
  Peer : (address port : ℕ) → AcceptedLine
  -- a peer comes into range, or leaves it
  Up : (node : ℕ) → AcceptedLine
  Down : (node : ℕ) → AcceptedLine
  -- a datum is given to the node
  Give : (dest : ℕ) (body : List ℕ) → AcceptedLine
  -- up to this many datagrams are received; up to this many turns are done
  Polls : (count : ℕ) → AcceptedLine
  Turns : (count : ℕ) → AcceptedLine
  -- a datum that waits is sent; a route is asked for
  Sends : (dest : ℕ) → AcceptedLine
  Asks : (dest : ℕ) → AcceptedLine
  -- the node's state is shown
  Shows : AcceptedLine

-- what a line comes to, or its fault if the node itself isn't named yet
abbrev pub after_self : Option ℕ → Result AcceptedLine LineFault → Result AcceptedLine LineFault
after_self None r = Err Early
after_self (Some me) r = r

-- a line about node x, which mustn't be the node itself
abbrev pub of_other : Option ℕ → ℕ → AcceptedLine → Result AcceptedLine LineFault
of_other None x line = Ok line
of_other (Some me) x line = if x == me then Err Same else Ok line

-- the line of a command with these arguments, with each node by its index. There is none for
-- arguments in another command's form
abbrev pub made_line : Option ℕ → NodeCommand → Arguments ℕ → Result AcceptedLine LineFault
made_line me command.Up (OneAddress x) = of_other me x (Up x)
made_line me command.Down (OneAddress x) = of_other me x (Down x)
made_line me command.Data (AddressAndText x body) = Ok (Give x body)
made_line me command.Poll (OneNumber count) = Ok (Polls count)
made_line me command.Turn (OneNumber count) = Ok (Turns count)
made_line me command.Send (OneAddress x) = Ok (Sends x)
made_line me command.Ask (OneAddress x) = Ok (Asks x)
made_line me command.Show NoArgument = Ok Shows
made_line me others arguments = Err Count

-- one more node, if there is room for it
abbrev pub in_room : Nodes → AcceptedLine → Result AcceptedLine LineFault
in_room mesh line = if length mesh == MOST_NODES then Err TooManyNodes else Ok line

-- a line that names the node itself: once only, and before the run has started
abbrev pub new_self : PeersSeen → Bool → SpannedAddr → ℕ → Result AcceptedLine LineFault
new_self p started a first =
    if started then Err Late else
    if is_some p.me then Err (TwiceNode a.span) else
    if is_some (index_of p.mesh a.address) then Err (TwiceNode a.span) else
    in_room p.mesh (Own a.address first)

-- which bytes of a line of this length are the number that ends it
abbrev pub last_span : ℕ → ℕ → Span
last_span size n = record { from = size - length (decimal n); to = size }

-- a line of this length that names a peer, with an address and a port that no other node has:
-- before the run has started only. The port ends the line
abbrev pub new_peer : PeersSeen → Bool → ℕ → SpannedAddr → ℕ → Result AcceptedLine LineFault
new_peer p started size a port =
    if started then Err Late else
    if is_some (index_of p.mesh a.address) then Err (TwiceNode a.span) else
    if is_some (at_port p port) then Err (TwiceNode (last_span size port)) else
    in_room p.mesh (Peer a.address port)

-- what a command and its arguments come to with these peers: one more node, or a line about the
-- nodes so far. A run has started once a line was neither blank nor a `self` or `peer` line
abbrev pub accepted_line : PeersSeen → Bool → ℕ → NodeCommand → Arguments SpannedAddr
    → Result AcceptedLine LineFault
accepted_line p started size command (NumberedAddress a first) = new_self p started a first
accepted_line p started size command (AddressAndNumber a port) = new_peer p started size a port
accepted_line p started size command others =
    after_self p.me (result_and_then (made_line p.me command) (with_nodes p.mesh others))

abbrev pub accepted_shape : PeersSeen → Bool → ℕ → Option (Shape NodeCommand SpannedAddr)
    → Result AcceptedLine LineFault
accepted_shape p started size None = Ok Nothing
accepted_shape p started size (Some s) = accepted_line p started size s.command s.arguments

-- what a line comes to: the faults that it has by itself come before those that it has because of
-- the lines above it
unfoldable pub line_of : PeersSeen → Bool → List ℕ → Result AcceptedLine LineFault
line_of p started line =
    result_and_then (accepted_shape p started (length line)) (shape_of line)

-- ---- how a line is written back

-- the words of an allowed line. A blank line has none
unfoldable pub words_of : Nodes → AcceptedLine → List ℕ
words_of mesh Nothing = []
words_of mesh (Own address first) = command_text (codes "self") (NumberedAddress address first)
words_of mesh (Peer address port) = command_text (codes "peer") (AddressAndNumber address port)
words_of mesh (Up x) = command_text (codes "up") (OneAddress (addr_at mesh x))
words_of mesh (Down x) = command_text (codes "down") (OneAddress (addr_at mesh x))
words_of mesh (Give x body) = command_text (codes "data") (AddressAndText (addr_at mesh x) body)
words_of mesh (Polls count) = command_text (codes "poll") (OneNumber count)
words_of mesh (Turns count) = command_text (codes "turn") (OneNumber count)
words_of mesh (Sends x) = command_text (codes "send") (OneAddress (addr_at mesh x))
words_of mesh (Asks x) = command_text (codes "ask") (OneAddress (addr_at mesh x))
words_of mesh Shows = command_text (codes "show") NoArgument

-- ---- the lines whose text is read back as the same line

-- an address that isn't in the mesh yet, for which there is room
pub record IsNew (mesh : Nodes) (address : ℕ) : Type 0 where
  pub fits : address < 2 ^ 32
  pub absent : index_of mesh address ≡ None
  pub few : length mesh < MOST_NODES

-- a node of the mesh, and the node itself is named
abbrev pub IsNamed : PeersSeen → ℕ → Type 0
IsNamed p x = (is_some p.me ≡ true) × (x < length p.mesh)

-- an allowed line of these peers
abbrev pub IsInRange : PeersSeen → AcceptedLine → Type 0
IsInRange p Nothing = ⊤
IsInRange p (Own address first) =
    IsNew p.mesh address × (p.me ≡ None) × (1 ≤ first) × (first ≤ greatest_first)
IsInRange p (Peer address port) =
    IsNew p.mesh address × (at_port p port ≡ None) × (1 ≤ port) × (port ≤ GREATEST_PORT)
IsInRange p (Up x) = IsNamed p x × (p.me ≢ Some x)
IsInRange p (Down x) = IsNamed p x × (p.me ≢ Some x)
IsInRange p (Give x body) = IsNamed p x × IsText body
IsInRange p (Polls count) = (is_some p.me ≡ true) × (1 ≤ count) × (count ≤ MOST_AT_ONCE)
IsInRange p (Turns count) = (is_some p.me ≡ true) × (1 ≤ count) × (count ≤ MOST_AT_ONCE)
IsInRange p (Sends x) = IsNamed p x
IsInRange p (Asks x) = IsNamed p x
IsInRange p Shows = is_some p.me ≡ true

-- one more node comes only before a run has started
abbrev pub IsInTime : Bool → AcceptedLine → Type 0
IsInTime started (Own address first) = started ≡ false
IsInTime started (Peer address port) = started ≡ false
IsInTime started others = ⊤
