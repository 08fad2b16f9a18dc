-- The stages of a schedule, and what is still to come from each.
use Rattle.std.specs.Prelude.{ℕ, ◌+◌, ◌-◌, ◌<◌, ◌≤◌, if◌then◌else◌, nat_lt, List, [], ◌∷◌, ◌++◌, Bool, true, false, ⊤}
use Rattle.rand_pcg.specs.Lcg.{Lcg}
use Rattle.mesh_base.specs.declared.limits.TheConstants.{MOST_NODES}
use Rattle.mesh_base.specs.Meshes.{Nodes, with_node}
use Rattle.mesh_text.specs.Schedule.{AcceptedLine, Nothing, NewNode}
use Rattle.mesh_make.specs.declared.maker.Stage.{Stage}
use Rattle.mesh_make.specs.declared.maker.Stage.TheVariants.{Node, Link, Step, Last, End}
use Rattle.mesh_make.specs.declared.sizes.TheConstants.{MOST_STEPS}
use Rattle.mesh_make.specs.Drawn.{Draw, step_line}
use Rattle.mesh_make.specs.Made.{node_line, link_line, last_line, node_lines, chain, from_step}

-- a stage of a schedule of this many nodes and steps
abbrev pub IsStage : ℕ → ℕ → Stage → Type 0
IsStage nodes steps (Node i) = i < nodes
IsStage nodes steps (Link i) = i + 1 < nodes
IsStage nodes steps (Step s) = (1 ≤ s) × (s ≤ steps)
IsStage nodes steps Last = ⊤
IsStage nodes steps End = ⊤

-- the sizes that a schedule may have
pub record IsSize (nodes steps : ℕ) : Type 0 where
  pub two : 2 ≤ nodes
  pub nodes_most : nodes ≤ MOST_NODES
  pub one : 1 ≤ steps
  pub steps_most : steps ≤ MOST_STEPS

-- no line is left
abbrev pub is_end : Stage → Bool
is_end End = true
is_end other = false

-- the next line is a `node` line
abbrev pub is_node : Stage → Bool
is_node (Node i) = true
is_node other = false

-- how many nodes the mesh has before the line of a stage
abbrev pub nodes_at : ℕ → Stage → ℕ
nodes_at nodes (Node i) = i
nodes_at nodes other = nodes

-- the mesh after a line: with one more node, or the same mesh
abbrev pub mesh_after : Nodes → AcceptedLine → Nodes
mesh_after mesh (NewNode address first) = with_node mesh address first
mesh_after mesh other = mesh

-- the line at a stage, and the generator after it
unfoldable pub line_at : ℕ → Stage → Lcg → Draw AcceptedLine
line_at nodes (Node i) rng = record { value = node_line i; rng = rng }
line_at nodes (Link i) rng = record { value = link_line i; rng = rng }
line_at nodes (Step s) rng = step_line nodes s rng
line_at nodes Last rng = record { value = last_line; rng = rng }
line_at nodes End rng = record { value = Nothing; rng = rng }

-- the stage of the next line
unfoldable pub stage_after : ℕ → ℕ → Stage → Stage
stage_after nodes steps (Node i) = if nat_lt (i + 1) nodes then Node (i + 1) else Link 0
stage_after nodes steps (Link i) = if nat_lt (i + 2) nodes then Link (i + 1) else Step 1
stage_after nodes steps (Step s) = if nat_lt s steps then Step (s + 1) else Last
stage_after nodes steps Last = End
stage_after nodes steps End = End

abbrev pub from_link : ℕ → ℕ → ℕ → Lcg → List AcceptedLine
from_link nodes steps i rng = chain i (nodes - (i + 1)) ++ from_step nodes 1 steps rng

-- the lines from a stage on
unfoldable pub lines_from : ℕ → ℕ → Stage → Lcg → List AcceptedLine
lines_from nodes steps (Node i) rng = node_lines i (nodes - i) ++ from_link nodes steps 0 rng
lines_from nodes steps (Link i) rng = from_link nodes steps i rng
lines_from nodes steps (Step s) rng = from_step nodes s (steps + 1 - s) rng
lines_from nodes steps Last rng = last_line ∷ []
lines_from nodes steps End rng = []
