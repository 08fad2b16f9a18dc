-- The packets that lines give: none is longer than a mesh may send.
use Rattle.std.specs.Prelude.{ℕ, ◌≤◌, List, length, Some, ⊤}
use Rattle.mesh_base.specs.declared.limits.TheConstants.{LONGEST_PACKET}
use Rattle.mesh_lines.specs.declared.below.Below.{Below}
use Rattle.mesh_lines.specs.declared.below.Below.TheVariants.{Casts}

abbrev pub IsShort : List ℕ → Type 0
IsShort packet = length packet ≤ LONGEST_PACKET

abbrev pub IsShortBelow : Below → Type 0
IsShortBelow (Casts node (Some packet)) = IsShort packet
IsShortBelow others = ⊤
