use Rattle.std.proofs.Common.{◌≡◌, [], length}
use Rattle.std.specs.List.{AllByRecursion}
use Rattle.mesh_trail.proofs.lists.empty_rows.Given as goal

abbrev pub invariant-loop : goal.invariant-loop
invariant-loop l = record { len : length l.rows.items ≡ l.counter; empty : AllByRecursion (λ l. l ≡ []) l.rows.items }
