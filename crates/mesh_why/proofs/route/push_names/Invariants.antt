use Rattle.std.proofs.Common.{◌≡◌, ◌≤◌, ◌+◌, ◌*◌, ◌++◌, length, take}
use Rattle.mesh_why.specs.Routes.{names_after}
use Rattle.mesh_why.proofs.route.push_names.Given as goal

abbrev pub invariant-loop-node : goal.invariant-loop-node
invariant-loop-node l = record {
  text : l.out.items ≡ l.initial.out.items ++ names_after l.mesh (take l.node-index l.walk);
  length : length l.out.items ≤ length l.initial.out.items + 16 * l.node-index;
}
