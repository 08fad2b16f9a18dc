use Rattle.std.proofs.Common.{◌≡◌}
use Rattle.mesh_tables.specs.Kept.{shown_in}
use Rattle.mesh_tables.specs.Printed.{tables_of}
use Rattle.mesh_tables.specs.Search.{search_rows}
use Rattle.mesh_tables.proofs.search.search_rows.Given as goal

abbrev pub invariant-loop-d : goal.invariant-loop-d
invariant-loop-d l =
    let tables = tables_of (shown_in (l.closed).entries) in
    search_rows tables l.x l.d-iterator l.best ≡ search_rows tables l.x (l.rows).entries l.fn.best
