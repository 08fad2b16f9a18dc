use Rattle.std.proofs.Common.{refl, length}
use Rattle.mesh_world.proofs.Moves.{within}
use Rattle.mesh_world.proofs.Views.{below_count, node_seen, size_seen, written_seen}
use Rattle.mesh_world.proofs.world.World.node.Goals as goal

pub index-requires : goal.index-requires
index-requires c =
    let p = c.self.inside.parts in
    within p.nodes c.args.i (length p.nodes.items) refl (below_count p.mesh p.nodes.items p.radio p.ready p.steps c.args.i c.args.self.now c.self.view_is c.self.invariant c.requires)

pub returns-clause-node : goal.returns-clause-node
returns-clause-node c =
    let p = c.self.inside.parts in
    node_seen p.mesh p.nodes.items p.radio p.ready p.steps c.args.i c.args.self.now c.index.result.now c.self.view_is c.self.invariant c.requires c.index.ensures

pub returns-clause-written : goal.returns-clause-written
returns-clause-written c =
    let p = c.self.inside.parts in
    written_seen p.mesh p.nodes.items p.radio p.ready p.steps c.args.i c.args.self.now c.index.result.now c.self.view_is c.self.invariant c.requires c.index.ensures

pub returns-clause-size : goal.returns-clause-size
returns-clause-size c =
    let p = c.self.inside.parts in
    size_seen p.mesh p.nodes.items p.radio p.ready p.steps c.args.i c.args.self.now c.index.result.now c.self.view_is c.self.invariant c.requires c.index.ensures
