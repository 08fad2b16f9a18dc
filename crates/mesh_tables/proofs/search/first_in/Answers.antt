use Rattle.mesh_tables.specs.Printed.{tables_of}
use Rattle.mesh_tables.specs.Kept.{shown_in}
use Rattle.mesh_tables.proofs.Leasts.{search_is, acyclic_of}
use Rattle.mesh_tables.proofs.search.first_in.Goals as goal

pub returns-clause-first : goal.returns-clause-first
returns-clause-first c = rw c.least_in.ensures (search_is (shown_in c.args.closed.now.entries))

pub returns-clause-acyclic : goal.returns-clause-acyclic
returns-clause-acyclic c =
    let shown = shown_in c.args.closed.now.entries in rw c.least_in.ensures (acyclic_of (tables_of shown) _ (search_is shown))
