-- Where the bytes of an owned list are, and memory for such a list.
use Rattle.std.specs.Prelude.{◌≡◌, ◌≤◌, ℕ, List, [], Option, Some, None, vec_capacity}
use Rattle.std.specs.Global.{Vec}
use Rattle.mesh_base.specs.InlineBytes.{inline_bytes}
use Rattle.mesh_base.specs.declared.bytes.Kept.{Kept}
use Rattle.mesh_base.specs.declared.bytes.Kept.TheVariants.{Short, Long, Counted}

-- the bytes, in the list itself or in memory of their own, which may have other owners
abbrev pub bytes_of : Kept → List ℕ
bytes_of (Short few) = inline_bytes few
bytes_of (Long many) = many.items
bytes_of (Counted owned) = (owned.value).items

-- room for this many bytes: up to 32 need no memory
abbrev pub IsRoomFor : ℕ → Option (Vec ℕ) → Type 0
IsRoomFor most None = most ≤ 32
IsRoomFor most (Some v) = (v.items ≡ []) × (most ≤ vec_capacity v)
