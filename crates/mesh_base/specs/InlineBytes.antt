-- A few bytes: the first of an array.
use Rattle.std.specs.Prelude.{ℕ, List, take}
use Rattle.mesh_base.specs.declared.few.InlineBytes.{InlineBytes}

abbrev pub inline_bytes : {room : ℕ} → InlineBytes room → List ℕ
inline_bytes few = take few.width few.bytes
