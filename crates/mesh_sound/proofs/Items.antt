-- Packets in inboxes and in flight, one after another.
use Rattle.std.proofs.Common.{◌≡◌, ℕ, ◌+◌, ◌<◌, List, [], ◌∷◌, sym, subst, arith}
use Rattle.std.specs.List.{AllByRecursion}
use Rattle.mesh_base.specs.declared.events.Flying.{Flying}
use Rattle.mesh_base.specs.declared.events.Item.{Item}
use Rattle.mesh_base.specs.declared.events.Item.TheVariants.{New, Heard}
use Rattle.aodv_node.specs.Seen.{IsItemAt}
use Rattle.mesh_radio.specs.Copies.{from_id}
use Rattle.mesh_radio.proofs.Finds.{from_zero, all-from}
use Rattle.mesh_sound.specs.Packets.{InItem}
use Rattle.mesh_sound.proofs.Indices.{IsEnough}

-- whom a node heard is in the mesh
pub item_near : (size me n : ℕ) (i : Item) → size ≡ n → IsItemAt size me i → InItem (λ from _. from < n) i
item_near size me n (New dest body) is at = tt
item_near size me n (Heard from bytes) is at = let near = at.0 in omega arith

-- ---- copies, by rising id

pub copies_begin : (P : Flying → Type 0) (fs : List Flying) → IsEnough P fs (from_id fs 0)
copies_begin P fs all = subst (AllByRecursion P) (from_zero fs) all

pub copy_at : (P : Flying → Type 0) (fs : List Flying) (start : ℕ) (f : Flying) → AllByRecursion P fs → from_id fs start ≡ f ∷ from_id fs (f.id + 1) → P f
copy_at P fs start f all is = (subst (AllByRecursion P) is (all-from P fs start all)).0

pub copies_go_on : (P : Flying → Type 0) (fs : List Flying) (start : ℕ) (f : Flying) → from_id fs start ≡ f ∷ from_id fs (f.id + 1) → P f → IsEnough P fs (from_id fs start) → IsEnough P fs (from_id fs (f.id + 1))
copies_go_on P fs start f is holds enough rest = enough (subst (AllByRecursion P) (sym is) (holds, rest))

pub copies_end : (P : Flying → Type 0) (fs : List Flying) (start : ℕ) → from_id fs start ≡ [] → IsEnough P fs (from_id fs start) → AllByRecursion P fs
copies_end P fs start none enough = enough (subst (AllByRecursion P) (sym none) tt)
