use Rattle.std.proofs.Common.{◌≡◌, ℕ, ◌<◌, List, ap, subst, length, ◌∙◌}
use Rattle.std.specs.Prelude.{IfSome}
use Rattle.aodv_node.specs.Seen.{NodeSeen}
use Rattle.mesh_model.specs.Choices as choices
use Rattle.mesh_world.specs.Seen.{WorldSeen}
use Rattle.mesh_world.specs.Noted.{InEachWorld}
use Rattle.mesh_world.proofs.Views.{ready_in, count_seen}
use Rattle.mesh_world.proofs.world.World.first_ask.Goals as goal

pub first_ask-requires : goal.first_ask-requires
first_ask-requires c =
    let p = c.self.inside.parts in
    record { ready = (p.mesh, rw c.deref.ensures.value (ready_in p.mesh p.nodes.items p.radio p.ready p.steps c.self.invariant)) }

pub returns-clause-first : goal.returns-clause-first
returns-clause-first c =
    let p = c.self.inside.parts in
    subst (λ (ns : List NodeSeen). InEachWorld ns p.ready (λ w. c.first_ask.result ≡ choices.first_ask w)) c.deref.ensures.value c.first_ask.ensures.first p.mesh p.radio
    (ready_in p.mesh p.nodes.items p.radio p.ready p.steps c.self.invariant) ∙ ap (λ (w : WorldSeen). choices.first_ask w.world) c.self.view_is

pub returns-clause-within : goal.returns-clause-within
returns-clause-within c =
    let p = c.self.inside.parts in
    subst (λ (n : ℕ). IfSome c.first_ask.result (λ q. (q.0 < n) × (q.1 < n))) (ap length c.deref.ensures.value ∙ count_seen p.mesh p.nodes.items p.radio p.ready p.steps c.args.self.now c.self.view_is c.self.invariant)
    c.first_ask.ensures.within
