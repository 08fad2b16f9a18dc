use Rattle.std.proofs.Common.{◌≤◌, length, refl, inl, inr, arith}
use Rattle.std.proofs.lemmas.Bool.{cases_lt}
use Rattle.std.proofs.lemmas.Option.{slice_get_read}
use Rattle.mesh_sound.proofs.Backed.{beyond}
use Rattle.mesh_sound.proofs.edges.first_dest.Goals as goal

pub returns-clause-none : goal.returns-clause-none
returns-clause-none c = λ d. elim (cases_lt d c.loop-d.d) [
  | inl lt ↦ c.loop-d.invariant d lt
  | inr le ↦
      let here = slice_get_read c.args.nodes.now _ c.args.x c.index-nodes-x.result refl c.requires.node c.index-nodes-x.is in
      let out : length c.args.nodes.now ≤ d = (let end = c.loop-d-test.false in omega arith) in
      beyond c.args.nodes.now c.args.x d c.index-nodes-x.result c.requires.sizes here c.sn-number.ensures.sound out
]
