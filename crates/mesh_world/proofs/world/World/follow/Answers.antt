use Rattle.std.proofs.Common.{ℕ, ap, subst, length, ◌∙◌}
use Rattle.mesh_world.specs.Ends.{IsEndIn}
use Rattle.mesh_world.proofs.Views.{of_world, below_count, count_seen}
use Rattle.mesh_world.proofs.world.World.follow.Goals as goal

pub follow-requires-clause-nodes : goal.follow-requires-clause-nodes
follow-requires-clause-nodes c =
    let p = c.self.inside.parts in
    rw c.deref.ensures.value (of_world p.mesh p.nodes.items p.radio p.ready p.steps c.self.invariant)

pub follow-requires-clause-from : goal.follow-requires-clause-from
follow-requires-clause-from c =
    let p = c.self.inside.parts in
    rw c.deref.ensures.value (below_count p.mesh p.nodes.items p.radio p.ready p.steps c.args.from c.args.self.now c.self.view_is c.self.invariant c.requires.from)

pub follow-requires-clause-to : goal.follow-requires-clause-to
follow-requires-clause-to c =
    let p = c.self.inside.parts in
    rw c.deref.ensures.value (below_count p.mesh p.nodes.items p.radio p.ready p.steps c.args.to c.args.self.now c.self.view_is c.self.invariant c.requires.to)

pub returns-clause-within : goal.returns-clause-within
returns-clause-within c =
    let p = c.self.inside.parts in
    subst (λ (n : ℕ). IsEndIn n c.follow.result) (ap length c.deref.ensures.value ∙ count_seen p.mesh p.nodes.items p.radio p.ready p.steps c.args.self.now c.self.view_is c.self.invariant) c.follow.ensures.within
