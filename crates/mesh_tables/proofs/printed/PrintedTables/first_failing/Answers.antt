use Rattle.std.proofs.Common.{subst, ℕ}
use Rattle.std.specs.Prelude.{IfNone}
use Rattle.mesh_tables.specs.Tables.{Cycle, IsFirstFault}
use Rattle.mesh_tables.specs.Printed.{Reading, tables_of}
use Rattle.mesh_tables.proofs.printed.PrintedTables.first_failing.Goals as goal

pub returns-clause-first : goal.returns-clause-first
returns-clause-first c = subst (λ (r : Reading). IsFirstFault (tables_of r.closed) c.first_in.result) c.self.view_is c.first_in.ensures.first

pub returns-clause-acyclic : goal.returns-clause-acyclic
returns-clause-acyclic c =
    subst (λ (r : Reading). IfNone c.first_in.result ((d : ℕ) → ¬ (Cycle (tables_of r.closed) d))) c.self.view_is c.first_in.ensures.acyclic
