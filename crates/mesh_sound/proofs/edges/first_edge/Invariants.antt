use Rattle.std.proofs.Common.{ℕ, ◌<◌}
use Rattle.mesh_sound.specs.Edges.{IsBackedAt}
use Rattle.mesh_sound.proofs.edges.first_edge.Given as goal

abbrev pub invariant-loop-x : goal.invariant-loop-x
invariant-loop-x l = (y q : ℕ) → y < l.x → IsBackedAt l.nodes y q
