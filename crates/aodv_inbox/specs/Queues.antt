-- The queue of a node.
use Rattle.std.specs.Prelude.{ℕ, List}
use Rattle.mesh_base.specs.declared.events.Item.{Item}
use Rattle.mesh_base.specs.declared.events.Item.TheVariants.{New, Heard}
use Rattle.aodv_model.specs.Soundness.{IsDatum}

-- what is seen: the items that wait, from the front to the back, and how many more there is room
-- for
pub record Queue : Type 0 where
  pub items : List Item
  pub room : ℕ

-- an item that may wait: a datum has 1 to 512 bytes, and a packet any bytes
abbrev pub IsItem : Item → Type 0
IsItem (New dest body) = IsDatum body
IsItem (Heard from bytes) = Unit {0}
