use Rattle.std.proofs.Common.{ℕ, ◌<◌, ap, subst, ◌∙◌}
use Rattle.std.specs.Prelude.{IfSome}
use Rattle.mesh_model.specs.Choices as choices
use Rattle.mesh_world.specs.Seen.{WorldSeen}
use Rattle.mesh_world.proofs.Views.{ready_in, count_seen}
use Rattle.mesh_world.proofs.world.World.first_turn.Goals as goal

pub returns-clause-first : goal.returns-clause-first
returns-clause-first c =
    let p = c.self.inside.parts in
    c.first_turn.ensures.first p.nodes.items p.mesh p.radio (ready_in p.mesh p.nodes.items p.radio p.ready p.steps c.self.invariant) ∙ ap (λ (w : WorldSeen). choices.first_turn w.world) c.self.view_is

pub returns-clause-within : goal.returns-clause-within
returns-clause-within c =
    let p = c.self.inside.parts in
    subst (λ (n : ℕ). IfSome c.first_turn.result (λ x. x < n)) (count_seen p.mesh p.nodes.items p.radio p.ready p.steps c.args.self.now c.self.view_is c.self.invariant)
    (c.first_turn.ensures.within p.nodes.items p.mesh p.radio (ready_in p.mesh p.nodes.items p.radio p.ready p.steps c.self.invariant))
