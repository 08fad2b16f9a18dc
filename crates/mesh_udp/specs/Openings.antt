-- What the program has done at a port.
use Rattle.std.specs.Prelude.{◌≡◌, ◌⊎◌, ℕ, Option, Some, None, ⊤}
use Rattle.mesh_router.specs.declared.status.NodeStatus.{NodeStatus}
use Rattle.mesh_router.specs.declared.status.NodeStatus.TheVariants.{Done, Usage, BadLine, Full, ReadFault, WriteFault, NoMemory, LinkFault}

-- the link is open at the port, or opening it failed
abbrev pub IsOpened : ℕ → Option ℕ → NodeStatus → Type 0
IsOpened port now status = (now ≡ Some port) ⊎ ((now ≡ None) × (status ≡ LinkFault))

-- the script has its verdict
abbrev pub IsDecided : NodeStatus → Type 0
IsDecided Done = ⊤
IsDecided (BadLine n) = ⊤
IsDecided (Full n) = ⊤
IsDecided Usage = ⊥
IsDecided ReadFault = ⊥
IsDecided WriteFault = ⊥
IsDecided NoMemory = ⊥
IsDecided LinkFault = ⊥
