use Rattle.std.proofs.Common.{◌≡◌, length}
use Rattle.mesh_link.specs.Memory.{AreRooms}
use Rattle.mesh_link.proofs.mem.rooms_for.Given as goal

abbrev pub invariant-loop : goal.invariant-loop
invariant-loop l = record { count : length l.rooms.items ≡ l.counter; each : AreRooms l.rooms.items }
