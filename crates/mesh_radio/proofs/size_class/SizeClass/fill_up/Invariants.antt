use Rattle.std.proofs.Common.{◌≡◌, ◌≤◌}
use Rattle.mesh_radio.proofs.size_class.SizeClass.fill_up.Given as goal

abbrev pub invariant-loop : goal.invariant-loop
invariant-loop l = (l.self.most ≡ l.initial.self.most) × (l.initial.self.room ≤ l.self.room) × (l.counter ≤ l.self.room)
