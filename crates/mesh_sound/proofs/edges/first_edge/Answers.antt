use Rattle.std.proofs.Common.{◌≤◌, length, inl, inr, arith}
use Rattle.std.proofs.lemmas.Bool.{cases_lt}
use Rattle.mesh_sound.proofs.Backed.{nobody}
use Rattle.mesh_sound.proofs.edges.first_edge.Goals as goal

pub returns-clause-none : goal.returns-clause-none
returns-clause-none c = λ x d. elim (cases_lt x c.loop-x.x) [
  | inl lt ↦ c.loop-x.invariant x d lt
  | inr le ↦ let out : length c.args.nodes.now ≤ x = (let end = c.loop-x-test.false in omega arith) in nobody c.args.nodes.now x d out
]
