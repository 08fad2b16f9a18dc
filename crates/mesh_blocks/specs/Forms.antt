-- The forms of a watched run: what each writes below an event.
use Rattle.std.specs.Prelude.{ℕ, List}
use Rattle.mesh_model.specs.Worlds.{Event}
use Rattle.mesh_text.specs.Schedule.{RunState}
use Rattle.mesh_blocks.specs.declared.below.Below.{Below}
use Rattle.mesh_blocks.specs.declared.below.Below.TheVariants.{Blocks, Changes}
use Rattle.mesh_blocks.specs.Blocks.{block_below}
use Rattle.mesh_blocks.specs.Changes.{changes_below}

-- what is written below an event that comes in state m: the block of the node that the event has
-- changed, or the changes of that block; nothing if it has changed none
abbrev pub below_text : Below → RunState → Event → List ℕ
below_text Blocks m e = block_below m e
below_text Changes m e = changes_below m e
