use Rattle.std.proofs.Common.{List, ap, subst, ◌∙◌}
use Rattle.aodv_node.specs.Seen.{NodeSeen}
use Rattle.mesh_model.specs.Accounts as accounts
use Rattle.mesh_world.specs.Seen.{WorldSeen}
use Rattle.mesh_model.specs.Accounts.{any}
use Rattle.mesh_world.specs.Counted.{IsCountOf}
use Rattle.mesh_world.proofs.Views.{counted}
use Rattle.mesh_world.proofs.world.World.totals.Goals as goal

pub count_data-requires : goal.count_data-requires
count_data-requires c =
    let p = c.self.inside.parts in
    record { few = (p.mesh, rw c.deref.ensures.value (counted p.mesh p.nodes.items p.radio p.ready p.steps c.self.invariant)) }

pub returns-clause-waiting : goal.returns-clause-waiting
returns-clause-waiting c =
    let p = c.self.inside.parts in
    subst (λ (ns : List NodeSeen). IsCountOf ns p.radio (accounts.waiting any) c.count_data.result.waiting) c.deref.ensures.value c.count_data.ensures.waiting p.mesh
    (counted p.mesh p.nodes.items p.radio p.ready p.steps c.self.invariant)
    ∙ ap (λ (w : WorldSeen). accounts.waiting any w.world) c.self.view_is

pub returns-clause-queued : goal.returns-clause-queued
returns-clause-queued c =
    let p = c.self.inside.parts in
    subst (λ (ns : List NodeSeen). IsCountOf ns p.radio (accounts.queued_data any) c.count_data.result.queued) c.deref.ensures.value c.count_data.ensures.queued p.mesh
    (counted p.mesh p.nodes.items p.radio p.ready p.steps c.self.invariant)
    ∙ ap (λ (w : WorldSeen). accounts.queued_data any w.world) c.self.view_is

pub returns-clause-flying : goal.returns-clause-flying
returns-clause-flying c =
    let p = c.self.inside.parts in
    subst (λ (ns : List NodeSeen). IsCountOf ns p.radio (accounts.in_flight any) c.count_data.result.flying) c.deref.ensures.value c.count_data.ensures.flying p.mesh
    (counted p.mesh p.nodes.items p.radio p.ready p.steps c.self.invariant)
    ∙ ap (λ (w : WorldSeen). accounts.in_flight any w.world) c.self.view_is
