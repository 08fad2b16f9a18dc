use Rattle.std.proofs.Common.{◌≡◌, ◌+◌}
use Rattle.mesh_tables.specs.Kept.{shown_in}
use Rattle.mesh_tables.specs.Printed.{edges_in}
use Rattle.mesh_tables.proofs.search.count_all.Given as goal

abbrev pub invariant-loop-x : goal.invariant-loop-x
invariant-loop-x l = l.edges + edges_in (shown_in l.x-iterator) ≡ edges_in (shown_in (l.closed).entries)
