-- Part of what the headline says.
-- A line of the steps, by the words that are drawn for it. A node is given by its index.
use Rattle.std.specs.Prelude.{ℕ, ◌+◌, ◌*◌, ◌%◌, ◌==◌, if◌then◌else◌, List, [], ◌∷◌, ◌++◌, get_or, codes}
use Rattle.std.specs.Fmt.{decimal}
use Rattle.std.specs.Result.{result_unwrap_or}
use Rattle.rand_pcg.specs.Lcg.{Lcg}
use Rattle.mesh_grammar.specs.declared.command.Command.{Command}
use Rattle.mesh_grammar.specs.declared.command.Command.TheVariants as command
use Rattle.mesh_grammar.specs.Forms.{Arguments, OneAddress, TwoAddresses, OneNumber, AddressesAndText}
use Rattle.mesh_text.specs.Schedule as lines
use Rattle.mesh_text.specs.Schedule.{AcceptedLine, Nothing}
use Rattle.mesh_make.specs.declared.sizes.TheConstants.{EVENTS_BETWEEN}
use Rattle.mesh_make.specs.Words.{word, after}

-- what is drawn for the arguments of a command
pub data Draws : Type 0 where
  -- a node
  OneNode : Draws
  -- a node and another one
  TwoNodes : Draws
  -- a node and another one. The datum's text is made from the line's number
  Datum : Draws
  -- the id of a copy
  Copy : Draws
  -- nothing: the count is EVENTS_BETWEEN
  Events : Draws

-- what a line does: a command, and what is drawn for its arguments
abbrev pub Action : Type 0
Action = Command × Draws

-- what a line does, by the remainder by 16 of the word that is drawn for it
abbrev pub actions : List Action
actions =
    (command.Link, TwoNodes)
    ∷ (command.Link, TwoNodes)
    ∷ (command.Cut, TwoNodes)
    ∷ (command.Data, Datum)
    ∷ (command.Data, Datum)
    ∷ (command.Data, Datum)
    ∷ (command.Lose, Copy)
    ∷ (command.Deliver, Copy)
    ∷ (command.Turn, OneNode)
    ∷ (command.Turn, OneNode)
    ∷ (command.Route, TwoNodes)
    ∷ (command.Ask, TwoNodes)
    ∷ (command.Auto, Events)
    ∷ (command.Auto, Events)
    ∷ (command.Auto, Events)
    ∷ (command.Auto, Events)
    ∷ []

-- what a line does, by its first word. The table has an action for each remainder by 16
unfoldable pub action_of : ℕ → Action
action_of w = get_or actions (w % 16) (command.Auto, Events)

-- the node that a word chooses
abbrev pub node_by : ℕ → ℕ → ℕ
node_by nodes w = w % nodes

-- the node that a word chooses besides node a: the node after a, if it would be a itself
unfoldable pub other_by : ℕ → ℕ → ℕ → ℕ
other_by nodes a w = if node_by nodes w == a then (a + 1) % nodes else node_by nodes w

-- the id of the copy that a word chooses at line s: from 1 to 4 * s
unfoldable pub copy_by : ℕ → ℕ → ℕ
copy_by s w = 1 + w % (4 * s)

-- the text of the datum that line s gives: an m and then s
abbrev pub datum_text : ℕ → List ℕ
datum_text s = codes "m" ++ decimal s

-- what is drawn, and the generator after the words that it took
pub record Draw (A : Type 0) : Type 0 where
  pub value : A
  pub rng : Lcg

-- arguments with two nodes, the first by the next word and the second by the word after it
abbrev pub two_nodes : (ℕ → ℕ → Arguments ℕ) → ℕ → Lcg → Draw (Arguments ℕ)
two_nodes arguments nodes rng =
    let a = node_by nodes (word rng) in
    record { value = arguments a (other_by nodes a (word (after rng))); rng = after (after rng) }

-- the arguments of line s
abbrev pub arguments_by : Draws → ℕ → ℕ → Lcg → Draw (Arguments ℕ)
arguments_by OneNode nodes s rng = record {
  value = OneAddress (node_by nodes (word rng));
  rng = after rng;
}
arguments_by TwoNodes nodes s rng = two_nodes TwoAddresses nodes rng
arguments_by Datum nodes s rng = two_nodes (λ a b. AddressesAndText a b (datum_text s)) nodes rng
arguments_by Copy nodes s rng = record { value = OneNumber (copy_by s (word rng)); rng = after rng }
arguments_by Events nodes s rng = record { value = OneNumber EVENTS_BETWEEN; rng = rng }

-- the line of a command and drawn arguments. There is one: the arguments are of the command's form,
-- and two nodes differ
abbrev pub line_of : Command → Arguments ℕ → AcceptedLine
line_of command arguments = result_unwrap_or (lines.made_line command arguments) Nothing

-- line s, once what it does is known
abbrev pub action_line : Action → ℕ → ℕ → Lcg → Draw AcceptedLine
action_line action nodes s rng =
    let drawn = arguments_by action.1 nodes s rng in record {
      value = line_of action.0 drawn.value;
      rng = drawn.rng;
    }

-- line s of the steps: its first word chooses what it does
unfoldable pub step_line : ℕ → ℕ → Lcg → Draw AcceptedLine
step_line nodes s rng = action_line (action_of (word rng)) nodes s (after rng)
