-- Part of what the headline says.
-- The states of a run, whether a line is allowed in a state, and the state after an event.
use Rattle.std.specs.Prelude.{ℕ, ◌+◌, ◌==◌, Bool, List, [], ◌∷◌, Option, None, Some, Result, Ok, Err, length, if◌then◌else◌, is_some}
use Rattle.std.specs.Option.{unwrap_or}
use Rattle.mesh_base.specs.Meshes.{Nodes, index_of}
use Rattle.mesh_base.specs.declared.events.Variant.{Variant}
use Rattle.mesh_model.specs.Worlds as worlds
use Rattle.mesh_model.specs.Worlds.{World, Event, Give, Turn, Send, Ask, Link, Cut, Deliver, Lose, Double, Outcome, Idle, Next, step, after, start, first_numbers}
use Rattle.mesh_model.specs.Accounts.{any, given_data, doubled_at, delivered_data, dropped_data}
use Rattle.mesh_base.specs.declared.limits.TheConstants.{MOST_NODES}
use Rattle.mesh_grammar.specs.declared.command.Command.{Command}
use Rattle.mesh_grammar.specs.declared.command.Command.TheVariants as command
use Rattle.mesh_grammar.specs.declared.fault.LineFault.{LineFault}
use Rattle.mesh_grammar.specs.declared.fault.LineFault.TheVariants.{Count, Late, Early, TwiceNode, TooManyNodes, Unknown, Same}
use Rattle.mesh_grammar.specs.Words.{SpannedAddr, with_argument}
use Rattle.mesh_grammar.specs.Forms.{Arguments, NoArgument, OneAddress, TwoAddresses, OneNumber, NumberedAddress, AddressesAndText, AddressAndNumber, AddressAndText}
use Rattle.mesh_grammar.specs.Scripts.{Shape}
use Rattle.mesh_grammar.specs.Commands.{shape_of}

-- what was counted: events, those that were idle, data given, delivered and dropped, and data
-- packets that were doubled
pub record Sums : Type 0 where
  pub events : ℕ
  pub idle : ℕ
  pub given : ℕ
  pub delivered : ℕ
  pub lost : ℕ
  pub copied : ℕ

-- a state of a run: its variant of the protocol and its mesh, its world once a line has made one,
-- what was counted, how many lines were read, and how many events the world has gone through
pub record RunState : Type 0 where
  pub variant : Variant
  pub mesh : Nodes
  pub world : Option World
  pub sums : Sums
  pub lines : ℕ
  pub steps : ℕ

abbrev pub no_sums : Sums
no_sums = record { events = 0; idle = 0; given = 0; delivered = 0; lost = 0; copied = 0 }

-- the state before the first line
abbrev pub opening : Variant → RunState
opening variant = record {
  variant = variant;
  mesh = [];
  world = None;
  sums = no_sums;
  lines = 0;
  steps = 0;
}

-- ---- whether a line is allowed

-- a line that is allowed in a state
pub data AcceptedLine : Type 0 where
  -- a blank line
  Nothing : AcceptedLine
  -- one more node
  NewNode : (address first : ℕ) → AcceptedLine
  -- one event
  Does : Event → AcceptedLine
  -- up to this many events, each chosen by what is enabled at that time
  Chooses : (count : ℕ) → AcceptedLine
  -- a node's state is shown; where its valid routes to a destination lead; the copies in flight
  ShowsNode : (node : ℕ) → AcceptedLine
  ShowsRoute : (node dest : ℕ) → AcceptedLine
  ShowsFlight : AcceptedLine

-- a line that is neither blank nor a `node` line is refused while there is no node
abbrev pub after_nodes : Nodes → Result AcceptedLine LineFault → Result AcceptedLine LineFault
after_nodes [] r = Err Early
after_nodes (p ∷ ps) r = r

-- an address as a node of the mesh
abbrev pub as_node : {B : Type 0} → Nodes → SpannedAddr → (ℕ → Result B LineFault)
    → Result B LineFault
as_node mesh a next = with_argument (index_of mesh a.address) (Unknown a.span) next

-- arguments with its node's index for each address. The fault is the leftmost one that no node has
abbrev pub with_nodes : Nodes → Arguments SpannedAddr → Result (Arguments ℕ) LineFault
with_nodes mesh NoArgument = Ok NoArgument
with_nodes mesh (OneAddress a) = as_node mesh a (λ x. Ok (OneAddress x))
with_nodes mesh (TwoAddresses a b) =
    as_node mesh a (λ x. as_node mesh b (λ y. Ok (TwoAddresses x y)))
with_nodes mesh (OneNumber n) = Ok (OneNumber n)
with_nodes mesh (NumberedAddress a first) = as_node mesh a (λ x. Ok (NumberedAddress x first))
with_nodes mesh (AddressesAndText a b text) =
    as_node mesh a (λ x. as_node mesh b (λ y. Ok (AddressesAndText x y text)))
with_nodes mesh (AddressAndNumber a n) = as_node mesh a (λ x. Ok (AddressAndNumber x n))
with_nodes mesh (AddressAndText a text) = as_node mesh a (λ x. Ok (AddressAndText x text))

-- an event of two nodes, which must not be the same
abbrev pub of_pair : ℕ → ℕ → Event → Result AcceptedLine LineFault
of_pair a b e = if a == b then Err Same else Ok (Does e)

-- the line of a command and its arguments, which give each node by its index. Arguments of another
-- form than the command's are a fault
abbrev pub made_line : Command → Arguments ℕ → Result AcceptedLine LineFault
made_line command.Link (TwoAddresses a b) = of_pair a b (Link a b)
made_line command.Cut (TwoAddresses a b) = of_pair a b (Cut a b)
made_line command.Data (AddressesAndText x d body) = Ok (Does (Give x d body))
made_line command.Turn (OneAddress x) = Ok (Does (Turn x))
made_line command.Send (TwoAddresses x d) = Ok (Does (Send x d))
made_line command.Ask (TwoAddresses x d) = Ok (Does (Ask x d))
made_line command.Deliver (OneNumber id) = Ok (Does (Deliver id))
made_line command.Lose (OneNumber id) = Ok (Does (Lose id))
made_line command.Copy (OneNumber id) = Ok (Does (Double id))
made_line command.Auto (OneNumber count) = Ok (Chooses count)
made_line command.Show (OneAddress x) = Ok (ShowsNode x)
made_line command.Route (TwoAddresses x d) = Ok (ShowsRoute x d)
made_line command.Flight NoArgument = Ok ShowsFlight
made_line others arguments = Err Count

-- a new node, which must not be in the mesh yet, before the run has started
abbrev pub new_node : Nodes → Bool → SpannedAddr → ℕ → Result AcceptedLine LineFault
new_node mesh started a first =
    if started then Err Late else
    if is_some (index_of mesh a.address) then Err (TwiceNode a.span) else
    if length mesh == MOST_NODES then Err TooManyNodes else
    Ok (NewNode a.address first)

abbrev pub result_and_then : {A B E : Type 0} → (A → Result B E) → Result A E → Result B E
result_and_then next (Ok x) = next x
result_and_then next (Err e) = Err e

-- a command and its arguments in this mesh: one more node, or a line about the nodes of the mesh. A
-- run has started once a line was neither blank nor a `node` line
abbrev pub accepted_line : Nodes → Bool → Command → Arguments SpannedAddr
    → Result AcceptedLine LineFault
accepted_line mesh started command (NumberedAddress a first) = new_node mesh started a first
accepted_line mesh started command others =
    after_nodes mesh (result_and_then (made_line command) (with_nodes mesh others))

abbrev pub accepted_shape : Nodes → Bool → Option (Shape Command SpannedAddr)
    → Result AcceptedLine LineFault
accepted_shape mesh started None = Ok Nothing
accepted_shape mesh started (Some s) = accepted_line mesh started s.command s.arguments

-- what a line says, or its first fault: those of its words, then those that it has in this mesh
unfoldable pub line_of : Nodes → Bool → List ℕ → Result AcceptedLine LineFault
line_of mesh started line = result_and_then (accepted_shape mesh started) (shape_of line)

-- ---- the state after lines and events

-- the world of a state. The first line that is allowed, and is neither blank nor a `node` line,
-- makes it
abbrev pub world_of : RunState → World
world_of m = unwrap_or m.world (start m.variant (first_numbers m.mesh))

-- the same state, with its world made
abbrev pub with_world : RunState → RunState
with_world m = record m { world = Some (world_of m) }

abbrev pub idle_by : Outcome → ℕ
idle_by Idle = 1
idle_by (worlds.Full x f) = 0
idle_by (Next w world_effect) = 0

-- what was counted, with one more event and its outcome
abbrev pub sums_after : Sums → Event → Outcome → Sums
sums_after s e o = record {
  events = s.events + 1;
  idle = s.idle + idle_by o;
  given = s.given + given_data any e o;
  delivered = s.delivered + delivered_data any e o;
  lost = s.lost + dropped_data any e o;
  copied = s.copied + doubled_at o;
}

-- the outcome of an event in a state
abbrev pub outcome_at : RunState → Event → Outcome
outcome_at m e = step (world_of m) e

-- the state after an event that isn't refused. An idle event is a step too
unfoldable pub next_state : RunState → Event → RunState
next_state m e = record m {
  world = Some (after (world_of m) (outcome_at m e));
  sums = sums_after m.sums e (outcome_at m e);
  steps = m.steps + 1;
}

-- one more line was read
abbrev pub with_line_read : RunState → RunState
with_line_read m = record m { lines = m.lines + 1 }
