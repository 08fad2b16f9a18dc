-- Why no run goes on from bytes that are refused.
use Rattle.std.specs.Prelude.{◌≡◌, ◌≢◌, ℕ, List, Some, length, ⊤}
use Rattle.std.specs.List.{AllByRecursion}
use Rattle.mesh_base.specs.Meshes.{Nodes}
use Rattle.mesh_base.specs.declared.events.Flying.{Flying}
use Rattle.mesh_base.specs.declared.events.Variant.{Variant}
use Rattle.aodv_node.specs.Seen.{NodeSeen}
use Rattle.aodv_node.specs.Restored.{HasItemsAt}
use Rattle.mesh_world.specs.Restored.{AreWritten, IsFirstPart}
use Rattle.mesh_world.specs.declared.restored.Part.{Part}
use Rattle.mesh_world.specs.declared.restored.Part.TheVariants as parts
use Rattle.mesh_text.specs.Text.{text_of_input}
use Rattle.mesh_checkpoint.specs.Checkpoint.{World, Body}
use Rattle.mesh_checkpoint.specs.Counts.{IsBalanced}
use Rattle.mesh_checkpoint.specs.Points.{IsState}
use Rattle.mesh_checkpoint.specs.State as state
use Rattle.mesh_checkpoint.specs.State.{IsCheckpoint}
use Rattle.mesh_checkpoint.specs.declared.validating.ValidateError.TheVariants as validate
use Rattle.mesh_load.specs.declared.error.StateError.{StateError}
use Rattle.mesh_load.specs.declared.error.StateError.TheVariants as errors
use Rattle.mesh_load.specs.Nodes.{AreListed, IsLeastUnsound}

-- no item names its own node as sender, no copy is from a node to itself, and each packet is
-- written for a message of the mesh
pub record AreInPlace (mesh : Nodes) (nodes : List NodeSeen) (copies : List Flying)
    : Type 0 where
  pub items : AllByRecursion HasItemsAt nodes
  pub between : AllByRecursion (λ c. c.from ≢ c.to) copies
  pub written : AreWritten mesh nodes copies

-- the first part of a world that isn't as in a run: the least node whose state isn't in order; an
-- item or a copy; a request; a reply; the valid entry of the least node for the least destination
abbrev pub IsUnsoundWorld : Nodes → Variant → World → Part → Type 0
IsUnsoundWorld mesh variant w (parts.Node x) = IsLeastUnsound variant (length mesh) w.nodes x
IsUnsoundWorld mesh variant w parts.Item =
    (nodes : List NodeSeen) × AreListed variant (length mesh) w.nodes nodes
    × ¬ (AreInPlace mesh nodes w.copies)
IsUnsoundWorld mesh variant w part =
    (nodes : List NodeSeen) × AreListed variant (length mesh) w.nodes nodes
    × AreInPlace mesh nodes w.copies × IsFirstPart mesh nodes w.copies part

-- the bytes are a checkpoint with balanced sums, of a world with that part
pub record IsUnsound (b : List ℕ) (part : Part) : Type 0 where
  pub body : Body
  pub world : World
  pub checkpoint : IsCheckpoint b body
  pub balanced : IsBalanced body
  pub world_is : body.world ≡ Some world
  pub unsound : IsUnsoundWorld body.mesh (body.head).variant world part

-- the first refusal that applies. Memory may run out at any time
abbrev pub IsRefused : List ℕ → StateError → Type 0
IsRefused b errors.NotState = state.IsRefused b validate.NotState
IsRefused b errors.Length = state.IsRefused b validate.Length
IsRefused b errors.Spelling = state.IsRefused b validate.Spelling
IsRefused b errors.Sums = state.IsRefused b validate.Sums
IsRefused b (errors.Unsound part) = IsUnsound b part
IsRefused b errors.NoMemory = ⊤

-- no refusal but lack of memory applies to a checkpoint of a state of a run
abbrev pub RunIsUnrefused : Type 0
RunIsUnrefused =
    (variant : Variant) (input b : List ℕ) (why : StateError)
    → IsState b (text_of_input variant input).after → IsRefused b why
    → why ≡ errors.NoMemory
