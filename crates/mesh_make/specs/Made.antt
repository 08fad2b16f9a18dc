-- Part of what the headline says.
-- The schedule that a seed makes: its lines and their text.
use Rattle.std.specs.Prelude.{ℕ, zero, suc, ◌+◌, ◌-◌, List, [], ◌∷◌, ◌++◌}
use Rattle.std.specs.List.{flat_map}
use Rattle.rand_pcg.specs.Lcg.{Lcg}
use Rattle.mesh_base.specs.Meshes.{Nodes, with_node}
use Rattle.mesh_grammar.specs.Written as written
use Rattle.mesh_model.specs.Worlds.{Link}
use Rattle.mesh_text.specs.Schedule.{AcceptedLine, NewNode, Does, Chooses}
use Rattle.mesh_text.specs.Lines.{words_of}
use Rattle.mesh_make.specs.declared.sizes.TheConstants.{FIRST_ADDRESS, EVENTS_AT_END}
use Rattle.mesh_make.specs.Words.{of_seed}
use Rattle.mesh_make.specs.Drawn.{step_line}

-- the address of node i
abbrev pub node_address : ℕ → ℕ
node_address i = FIRST_ADDRESS + i

-- the mesh of this many nodes, from node 0 on
unfoldable pub mesh_of : ℕ → Nodes
mesh_of zero = []
mesh_of (suc count) = with_node (mesh_of count) (node_address count) 1

-- the line of node i, whose first sequence number is 1
abbrev pub node_line : ℕ → AcceptedLine
node_line i = NewNode (node_address i) 1

-- the line of the link between node i and the next
abbrev pub link_line : ℕ → AcceptedLine
link_line i = Does (Link i (i + 1))

-- the last line, in which all may come to rest
abbrev pub last_line : AcceptedLine
last_line = Chooses EVENTS_AT_END

-- the lines of this many nodes, from node i on
unfoldable pub node_lines : ℕ → ℕ → List AcceptedLine
node_lines i zero = []
node_lines i (suc count) = node_line i ∷ node_lines (i + 1) count

-- the lines of this many links of the chain, from the link of node i on
unfoldable pub chain : ℕ → ℕ → List AcceptedLine
chain i zero = []
chain i (suc count) = link_line i ∷ chain (i + 1) count

-- this many lines of the steps, from line s on
unfoldable pub step_lines : ℕ → ℕ → ℕ → Lcg → List AcceptedLine
step_lines nodes s zero rng = []
step_lines nodes s (suc count) rng =
    let drawn = step_line nodes s rng in drawn.value ∷ step_lines nodes (s + 1) count drawn.rng

-- the steps from line s on, and the last line
abbrev pub from_step : ℕ → ℕ → ℕ → Lcg → List AcceptedLine
from_step nodes s count rng = step_lines nodes s count rng ++ last_line ∷ []

-- the lines: the nodes, the chain that links them, the steps, and a last line
unfoldable pub lines_of : ℕ → ℕ → ℕ → List AcceptedLine
lines_of seed nodes steps =
    node_lines 0 nodes ++ (chain 0 (nodes - 1) ++ from_step nodes 1 steps (of_seed seed))

-- the text of lines, each with its LF
abbrev pub text_in : Nodes → List AcceptedLine → List ℕ
text_in mesh lines = flat_map (λ l. written.line (words_of mesh l)) lines

-- the text of the schedule
unfoldable pub made_schedule : ℕ → ℕ → ℕ → List ℕ
made_schedule seed nodes steps = text_in (mesh_of nodes) (lines_of seed nodes steps)
