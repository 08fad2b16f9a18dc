use Rattle.std.proofs.Common.{◌≡◌, ◌≤◌, ◌+◌, ℕ, length, arith, subst, sym, ◌∙◌, ap}
use Rattle.std.specs.FinMap as maps
use Rattle.std.specs.FinSet as sets
use Rattle.aodv_model.specs.Cores.{Store, bodies_in, in_qD}
use Rattle.aodv_model.specs.Soundness.{IsStoreInMesh}
use Rattle.mesh_world.specs.Counted.{waiting_for, waiting_at}
use Rattle.mesh_world.proofs.Counts.{IsCounting, counted_next, counted_fits, counted_all}
use Rattle.mesh_world.proofs.totals.count_waiting.Goals as goal

pub overflow_add-count : goal.overflow_add-count
overflow_add-count c =
    let store = c.waiting-waiting.ensures.store in
    let dests : (d : ℕ) → sets.contains c.dests-dests.result d ≡ in_qD c.args.node.now.core.store d = λ d. c.dests-dests.ensures.value d ∙ ap (λ (s : Store). in_qD s d) store in
    let sound : IsStoreInMesh c.args.node.now.size c.args.node.now.core.store =
    subst (IsStoreInMesh c.args.node.now.size) store (subst (λ k. IsStoreInMesh k c.waiting-waiting.result.now.store) c.waiting-waiting.ensures.nodes c.dests-dests.ensures.in_mesh) in
    let here : c.count.result ≡ waiting_for c.args.node.now c.in-Some.dest = c.count.ensures ∙ ap (λ (s : Store). length (bodies_in (maps.get s c.in-Some.dest))) store in
    let fits : c.loop-dest.count + waiting_for c.args.node.now c.in-Some.dest ≤ waiting_at c.args.node.now =
    counted_fits c.args.node.now c.dests-dests.result dests sound c.loop-dest.start c.loop-dest.count c.in-Some.dest c.loop-dest.invariant c.in-Some.ensures.least in
    let few = c.requires in
    omega arith

pub loop-dest-preserved : goal.loop-dest-preserved
loop-dest-preserved c =
    let store = c.waiting-waiting.ensures.store in
    let dests : (d : ℕ) → sets.contains c.dests-dests.result d ≡ in_qD c.args.node.now.core.store d = λ d. c.dests-dests.ensures.value d ∙ ap (λ (s : Store). in_qD s d) store in
    let sound : IsStoreInMesh c.args.node.now.size c.args.node.now.core.store =
    subst (IsStoreInMesh c.args.node.now.size) store (subst (λ k. IsStoreInMesh k c.waiting-waiting.result.now.store) c.waiting-waiting.ensures.nodes c.dests-dests.ensures.in_mesh) in
    let here : c.count.result ≡ waiting_for c.args.node.now c.in-Some.dest = c.count.ensures ∙ ap (λ (s : Store). length (bodies_in (maps.get s c.in-Some.dest))) store in
    subst (λ k. IsCounting c.args.node.now (c.in-Some.dest + 1) (c.loop-dest.count + k)) (sym here)
    (counted_next c.args.node.now c.dests-dests.result dests sound c.loop-dest.start c.loop-dest.count c.in-Some.dest c.loop-dest.invariant c.in-Some.ensures.least)

pub returns : goal.returns
returns c =
    let store = c.waiting-waiting.ensures.store in
    let dests : (d : ℕ) → sets.contains c.dests-dests.result d ≡ in_qD c.args.node.now.core.store d = λ d. c.dests-dests.ensures.value d ∙ ap (λ (s : Store). in_qD s d) store in
    let sound : IsStoreInMesh c.args.node.now.size c.args.node.now.core.store =
    subst (IsStoreInMesh c.args.node.now.size) store (subst (λ k. IsStoreInMesh k c.waiting-waiting.result.now.store) c.waiting-waiting.ensures.nodes c.dests-dests.ensures.in_mesh) in
    counted_all c.args.node.now c.dests-dests.result dests sound c.loop-dest.start c.loop-dest.count c.loop-dest.invariant c.in_default.ensures.least
