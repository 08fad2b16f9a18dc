-- How far a schedule is made, and how far a run of it has come.
use Rattle.std.specs.Prelude.{◌≡◌, ℕ, Bool, true, List, ◌++◌, drop, None}
use Rattle.mesh_text.specs.Schedule.{RunState}
use Rattle.mesh_make.specs.declared.maker.Maker.{Maker}
use Rattle.mesh_make.specs.Made.{mesh_of, text_in}
use Rattle.mesh_make.specs.Stages.{IsStage, IsSize, is_end, is_node, nodes_at, lines_from}

-- the text of the lines that aren't made yet
abbrev pub still_to_come : Maker → List ℕ
still_to_come maker =
    text_in (mesh_of maker.size.nodes)
    (lines_from maker.size.nodes maker.size.steps maker.stage maker.rng)

-- all lines are made
abbrev pub is_done : Maker → Bool
is_done maker = is_end maker.stage

-- the schedule has a size that is allowed; the stage is one of such a schedule; and the mesh has
-- the nodes so far
pub record IsMaking (maker : Maker) : Type 0 where
  pub size : IsSize maker.size.nodes maker.size.steps
  pub stage : IsStage maker.size.nodes maker.size.steps maker.stage
  pub mesh : maker.mesh ≡ mesh_of (nodes_at maker.size.nodes maker.stage)

-- a run has come as far as the schedule is made: it has the nodes that are made, and no world while
-- nodes are to come
pub record HasCome (maker : Maker) (m : RunState) : Type 0 where
  pub mesh : m.mesh ≡ maker.mesh
  pub waits : is_node maker.stage ≡ true → m.world ≡ None

-- the rest of some lines, of which this many bytes are read, and then the lines that aren't made
-- yet
abbrev pub unread_text : Maker → List ℕ → ℕ → List ℕ
unread_text maker lines read = drop read lines ++ still_to_come maker
