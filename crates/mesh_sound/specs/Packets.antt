-- What holds of each packet in the inboxes of nodes and in flight.
use Rattle.std.specs.Prelude.{ℕ, List, ⊤}
use Rattle.std.specs.List.{AllByRecursion}
use Rattle.mesh_base.specs.declared.events.Item.{Item}
use Rattle.mesh_base.specs.declared.events.Item.TheVariants.{New, Heard}
use Rattle.mesh_base.specs.declared.events.Flying.{Flying}
use Rattle.aodv_node.specs.Seen.{NodeSeen}

-- P holds of the item's sender and packet. A datum that is given to a node isn't a packet
abbrev pub InItem : (ℕ → List ℕ → Type 0) → Item → Type 0
InItem P (New dest body) = ⊤
InItem P (Heard from bytes) = P from bytes

-- P holds of the sender and the bytes of each packet
pub record InEachPacket (P : ℕ → List ℕ → Type 0) (nodes : List NodeSeen) (flying : List Flying)
    : Type 0 where
  pub waits : AllByRecursion (λ n. AllByRecursion (InItem P) n.items) nodes
  pub flies : AllByRecursion (λ f. P f.from f.bytes) flying
