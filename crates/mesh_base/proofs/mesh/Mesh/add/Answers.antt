use Rattle.std.proofs.Common.{rules, ◌≡◌, ◌<◌, None, arith, ap, sym, subst, ◌∙◌, length}
use Rattle.std.proofs.lemmas.Bool.Decides.{nat_tests}
use Rattle.mesh_base.specs.Meshes.{IsMesh, index_of, with_node}
use Rattle.mesh_base.proofs.MeshLaws.{index_along, insert_is_mesh, absent_is, with_node-is}
use Rattle.mesh_base.proofs.mesh.Mesh.add.Goals as goal

pub invariant_of-self : goal.invariant_of-self
invariant_of-self c =
    let at = c.count_below-index.ensures in
    let index = index_along _ _ c.args.a.0 c.count_below-index.result c.as_slice.ensures.value at.within at.below at.above in
    let none : index_of c.self.inside.nodes.items c.args.a.0 ≡ None = ap (λ m. index_of m c.args.a.0) c.self.view_is ∙ search rules in
    let few : length c.self.inside.nodes.items < 200 = grind (arith, nat_tests, c.if-is_full.ensures.value, c.self.invariant.few) in
    subst IsMesh (sym c.insert.ensures.items) (insert_is_mesh _ c.args.a.0 c.args.first _ c.self.invariant index (absent_is _ _ _ index none) few c.requires (search rules) (search rules))

pub returns-clause-added : goal.returns-clause-added
returns-clause-added c =
    let at = c.count_below-index.ensures in
    let index = index_along _ _ c.args.a.0 c.count_below-index.result c.as_slice.ensures.value at.within at.below at.above in
    let none : index_of c.self.inside.nodes.items c.args.a.0 ≡ None = ap (λ m. index_of m c.args.a.0) c.self.view_is ∙ search rules in
    c.insert.ensures.items
    ∙ sym (with_node-is _ c.args.a.0 c.args.first _ index (absent_is _ _ _ index none))
    ∙ ap (λ m. with_node m c.args.a.0 c.args.first) c.self.view_is
