use Rattle.std.proofs.Common.{◌≡◌, None}
use Rattle.mesh_tables.specs.Kept.{shown_in}
use Rattle.mesh_tables.specs.Printed.{tables_of}
use Rattle.mesh_tables.specs.Search.{search}
use Rattle.mesh_tables.proofs.search.least_in.Given as goal

abbrev pub invariant-loop-x : goal.invariant-loop-x
invariant-loop-x l =
    let shown = shown_in (l.closed).entries in
    search (tables_of shown) (shown_in l.x-iterator) l.best ≡ search (tables_of shown) shown None
