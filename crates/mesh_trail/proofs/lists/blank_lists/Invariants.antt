use Rattle.std.proofs.Common.{◌≡◌, length}
use Rattle.std.specs.List.{AllByRecursion}
use Rattle.mesh_trail.specs.Lists.{IsBlank}
use Rattle.mesh_trail.proofs.lists.blank_lists.Given as goal

abbrev pub invariant-loop : goal.invariant-loop
invariant-loop l = record { len : length l.lists.items ≡ l.counter; blank : AllByRecursion (IsBlank l.nodes) l.lists.items }
