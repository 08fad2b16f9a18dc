use Rattle.std.proofs.Common.{arith, ap, sym, ◌∙◌, length}
use Rattle.mesh_base.specs.Meshes.{index_of, addr_at}
use Rattle.mesh_base.proofs.MeshLaws.{index_along, index_of-there, index_of-found, index_of-absent}
use Rattle.mesh_base.proofs.mesh.Mesh.index_of.Goals as goal

pub returns-then-index-nodes-clause-value : goal.returns-then-index-nodes-clause-value
returns-then-index-nodes-clause-value c =
    let same = c.as_slice-nodes.ensures.value in
    let at = c.count_below-index.ensures in
    let index = index_along _ _ c.args.a.0 c.count_below-index.result same at.within at.below at.above in
    sym (index_of-absent _ c.args.a.0 _ c.self.invariant index (λ lt. absurd (omega (arith, c.if-index-nodes.true, ap length same))))
    ∙ ap (λ m. index_of m c.args.a.0) c.self.view_is

pub returns-then-nodes-index-clause-value : goal.returns-then-nodes-index-clause-value
returns-then-nodes-index-clause-value c =
    let same = c.as_slice-nodes.ensures.value in
    let at = c.count_below-index.ensures in
    let index = index_along _ _ c.args.a.0 c.count_below-index.result same at.within at.below at.above in
    let here = ap (λ m. addr_at m c.count_below-index.result) same in
    sym (index_of-found _ c.args.a.0 _ index (omega (arith, at.within, c.if-index-nodes.false, ap length same)) (sym here ∙ c.if-nodes-index.true))
    ∙ ap (λ m. index_of m c.args.a.0) c.self.view_is

pub returns-else-nodes-index-clause-value : goal.returns-else-nodes-index-clause-value
returns-else-nodes-index-clause-value c =
    let same = c.as_slice-nodes.ensures.value in
    let at = c.count_below-index.ensures in
    let index = index_along _ _ c.args.a.0 c.count_below-index.result same at.within at.below at.above in
    let here = ap (λ m. addr_at m c.count_below-index.result) same in
    sym (index_of-absent _ c.args.a.0 _ c.self.invariant index (λ lt e. c.if-nodes-index.false (here ∙ e)))
    ∙ ap (λ m. index_of m c.args.a.0) c.self.view_is

pub returns-in-Some-clause-value : goal.returns-in-Some-clause-value
returns-in-Some-clause-value c =
    sym (index_of-there _ _ c.args.a.0 c.in-Some.index c.as_slice-nodes.ensures.value c.self.invariant c.in-Some.ensures.0 c.in-Some.ensures.1)
    ∙ ap (λ m. index_of m c.args.a.0) c.self.view_is
