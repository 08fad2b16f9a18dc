use Rattle.std.proofs.Common.{sym, subst, ◌∙◌, ℕ, arith}
use Rattle.mesh_model.specs.Invariants.{AtLeast}
use Rattle.mesh_sound.specs.Claims.{table}
use Rattle.mesh_sound.proofs.honest.is_honest_request.Goals as goal

pub has_at_least-requires-clause-node : goal.has_at_least-requires-clause-node
has_at_least-requires-clause-node c = let count = c.requires.nodes.count in let lt = c.requires.from in omega arith

pub has_at_least-requires-clause-dest : goal.has_at_least-requires-clause-dest
has_at_least-requires-clause-dest c = let count = c.requires.nodes.count in let lt = c.index_in-oip.ensures.within in omega arith

pub returns-else-from-oip : goal.returns-else-from-oip
returns-else-from-oip c =
    let m = c.args.m.now in
    let is = c.index_in-oip.ensures.value in
    let P : ℕ → Type 0 = λ i. AtLeast (table c.args.nodes.now c.args.from) i m.osn m.hops in (
      λ t. (c.requires.says.2, λ _. subst P is (c.has_at_least.ensures.0 t)),
      λ honest. c.has_at_least.ensures.1 (subst P (sym is) (honest.1 (λ same. c.if-from-oip.false (same ∙ sym is)))),
    )
