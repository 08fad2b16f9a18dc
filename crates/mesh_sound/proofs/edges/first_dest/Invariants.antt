use Rattle.std.proofs.Common.{ℕ, ◌<◌}
use Rattle.mesh_sound.specs.Edges.{IsBackedAt}
use Rattle.mesh_sound.proofs.edges.first_dest.Given as goal

abbrev pub invariant-loop-d : goal.invariant-loop-d
invariant-loop-d l = (q : ℕ) → q < l.d → IsBackedAt l.nodes l.x q
