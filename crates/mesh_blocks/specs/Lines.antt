-- What one event comes to, and what is kept for it.
use Rattle.std.specs.Prelude.{ℕ, ◌≡◌, List, ◌++◌, IfSome, ⊤}
use Rattle.mesh_model.specs.Worlds.{Event}
use Rattle.mesh_text.specs.Schedule.{RunState, outcome_at}
use Rattle.mesh_text.specs.Text.{LineOutcome, On}
use Rattle.mesh_run.specs.Runs.{line_outcome_at}
use Rattle.mesh_blocks.specs.declared.below.Below.{Below}
use Rattle.mesh_blocks.specs.declared.below.Below.TheVariants.{Blocks, Changes}
use Rattle.mesh_blocks.specs.Blocks.{changed_by, shown_node}
use Rattle.mesh_blocks.specs.Changes.{changed_from}
use Rattle.mesh_blocks.specs.Forms.{below_text}

-- what an event comes to, with a text below it if it was done
abbrev pub with_below : List ℕ → LineOutcome → LineOutcome
with_below text (On lines n) = On (lines ++ text) n
with_below text others = others

-- what an event comes to, with what is written below it, and with no line counted
abbrev pub watched_event : Below → RunState → Event → LineOutcome
watched_event below m e = with_below (below_text below m e) (line_outcome_at m e)

-- what is written of a node that an event has changed, if its block had this text before
abbrev pub shown_by : Below → (before : List ℕ) → RunState → ℕ → List ℕ
shown_by Blocks before n x = shown_node n x
shown_by Changes before n x = changed_from before n x

-- this text is the block of the node that an event changes, if it changes one, in the state in
-- which the event comes
abbrev pub IsBlockBefore : RunState → Event → List ℕ → Type 0
IsBlockBefore m e text = IfSome (changed_by e (outcome_at m e)) (λ x. text ≡ shown_node m x)

-- a block is kept if the changes are to be written
abbrev pub IsKeptFor : Below → RunState → Event → List ℕ → Type 0
IsKeptFor Blocks m e text = ⊤
IsKeptFor Changes m e text = IsBlockBefore m e text
