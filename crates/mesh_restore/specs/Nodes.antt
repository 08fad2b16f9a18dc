-- A node that was read from a checkpoint.
use Rattle.std.specs.Prelude.{◌≡◌, ℕ, List, Option, Some, Result}
use Rattle.std.specs.FinMap as maps
use Rattle.mesh_base.specs.declared.events.Variant.{Variant}
use Rattle.aodv_model.specs.declared.entry.Entry.{Entry}
use Rattle.aodv_model.specs.Soundness.{AreBelow}
use Rattle.aodv_model.specs.Tables.{Table}
use Rattle.aodv_node.specs.declared.answers.Unfit.{Unfit}
use Rattle.aodv_node.specs.Seen.{NodeSeen}
use Rattle.aodv_node.specs.Restored.{IsRestored}
use Rattle.mesh_checkpoint.specs.Checkpoint.{Node}
use Rattle.mesh_checkpoint.specs.Seen.{listed_node}

-- node `me` of a mesh of this many nodes, of this variant
pub record IsNodeAt (variant : Variant) (me size : ℕ) (n : NodeSeen) : Type 0 where
  pub named : (n.core).ip ≡ me
  pub variant_is : (n.core).variant ≡ variant
  pub size_is : n.size ≡ size

-- the precursors of each entry are below a number
abbrev pub ArePrecursorsBelow : ℕ → Table → Type 0
ArePrecursorsBelow size rt = (d : ℕ) (e : Entry) → maps.get rt d ≡ Some e → AreBelow size e.pre

-- the parts of a node were read, and these bytes are left; the answer is the node with these parts,
-- or which of them isn't in order
pub record IsNodeRead (variant : Variant) (me size : ℕ) (read : Option (Node × List ℕ))
    (answer : Result NodeSeen Unfit) (rest : List ℕ) : Type 0 where
  pub parts : NodeSeen
  pub mine : IsNodeAt variant me size parts
  pub below : ArePrecursorsBelow size (parts.core).rt
  pub read_is : read ≡ Some (listed_node parts, rest)
  pub answer_is : IsRestored parts answer
