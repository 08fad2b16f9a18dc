-- Rooms, one after another.
use Rattle.std.proofs.Common.{◌≤◌, ℕ, List, [], ◌∷◌, ◌++◌}
use Rattle.mesh_base.specs.declared.limits.TheConstants.{LONGEST_PACKET}
use Rattle.mesh_link.specs.Memory.{AreRooms}

pub all_push : (rooms : List ℕ) (room : ℕ) → AreRooms rooms → LONGEST_PACKET ≤ room → AreRooms (rooms ++ room ∷ [])
all_push [] room all le = (le, tt)
all_push (r ∷ rs) room all le = (all.0, all_push rs room all.1 le)
