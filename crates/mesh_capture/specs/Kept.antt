-- What holds while a text is read: no packet is longer than a mesh may send, and there are few
-- enough lines for the times of their events. Public contracts cite only the number of lines.
use Rattle.std.specs.Prelude.{ℕ, ◌^◌, List, [], ◌∷◌, ⊤}
use Rattle.mesh_lines.specs.Packets.{IsShort}
use Rattle.mesh_capture.specs.declared.copies.FlyingCopy.{FlyingCopy}

-- the most lines that are read
abbrev pub most_lines : ℕ
most_lines = 2 ^ 40

abbrev pub IsShortCopy : FlyingCopy → Type 0
IsShortCopy c = IsShort c.packet

abbrev pub AreShort : List (ℕ × FlyingCopy) → Type 0
AreShort [] = ⊤
AreShort (copy ∷ flying) = IsShortCopy copy.1 × AreShort flying
