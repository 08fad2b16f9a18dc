use Rattle.std.proofs.Common.{◌≡◌, ℕ, suc, Ok, drop, get_or, sym, ap, subst, ◌∙◌, add-one, drop-cons}
use Rattle.mesh_base.specs.Meshes.{Nodes, with_node}
use Rattle.aodv_router.specs.Meshes.{joined, all_joined, AreNumbered}
use Rattle.aodv_router.proofs.Numbers.{all_joined_step, numbered_more, own_number}
use Rattle.aodv_router.proofs.mesh.mesh_of.Goals as goal

pub loop-a-preserved : goal.loop-a-preserved
loop-a-preserved c =
    let me = c.args.me in
    let first = c.args.first in
    let mesh = c.loop-a.mesh in
    let new = c.join.new.mesh in
    let a = get_or c.args.addrs.now c.loop-a.a-index 0 in
    let joins = subst (λ (n : ℕ). joined mesh a n ≡ Ok new) c.number_for.ensures.value c.in-Ok.ensures.value in (
      ap (λ (n : ℕ). all_joined me first new (drop n c.args.addrs.now)) (add-one c.loop-a.a-index)
          ∙ sym (all_joined_step me first mesh new a (drop (suc c.loop-a.a-index) c.args.addrs.now) joins)
          ∙ ap (all_joined me first mesh) (sym (drop-cons c.args.addrs.now c.loop-a.a-index 0 c.loop-a-test.true)) ∙ c.loop-a.invariant.0,
      subst (λ (m : Nodes). AreNumbered me first m) (sym (c.in-Ok.ensures.grown ∙ ap (with_node mesh a) c.number_for.ensures.value)) (numbered_more me first mesh a c.loop-a.invariant.1),
    )

pub returns-in-Some-clause-number : goal.returns-in-Some-clause-number
returns-in-Some-clause-number c = λ i e. own_number c.args.me c.args.first i c.loop-a.mesh c.loop-a.invariant.1 e
