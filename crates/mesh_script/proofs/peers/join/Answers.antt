use Rattle.std.proofs.Common.{◌≡◌, ◌<◌, Some, arith, sym, ◌∙◌, length, rules}
use Rattle.std.proofs.lemmas.Option.{same_Some}
use Rattle.mesh_base.specs.declared.limits.TheConstants.{MOST_NODES}
use Rattle.mesh_script.specs.Peers.{index_for}
use Rattle.mesh_script.proofs.Indices.{index_within, found_there}
use Rattle.mesh_script.proofs.peers.join.Goals as goal

pub unreachable-requires : goal.unreachable-requires
unreachable-requires c =
    let there = found_there c.args.mesh.now c.add.new.self c.args.a.0 c.args.first c.in-Ok.ensures.added c.len-nodes.ensures.is_mesh in
    let is : c.index_of.result ≡ Some (index_for c.args.mesh.now c.args.a.0) = c.index_of.ensures.value ∙ there in
    search rules

pub insert-requires : goal.insert-requires
insert-requires c =
    let there = found_there c.args.mesh.now c.add.new.self c.args.a.0 c.args.first c.in-Ok.ensures.added c.len-nodes.ensures.is_mesh in
    let at = same_Some c.in-Some.index (index_for c.args.mesh.now c.args.a.0) (sym c.in-Some.is ∙ c.index_of.ensures.value ∙ there) in
    let le = index_within c.args.mesh.now c.args.a.0 in
    let room : length c.args.ports.now.items < MOST_NODES = omega (arith, c.requires.each, c.requires.room) in
    (omega arith, (omega (arith, at, le, c.requires.each), room))

pub returns-clause-index : goal.returns-clause-index
returns-clause-index c =
    let there = found_there c.args.mesh.now c.add.new.self c.args.a.0 c.args.first c.in-Ok.ensures.added c.len-nodes.ensures.is_mesh in
    same_Some c.in-Some.index (index_for c.args.mesh.now c.args.a.0) (sym c.in-Some.is ∙ c.index_of.ensures.value ∙ there)

pub returns-clause-within : goal.returns-clause-within
returns-clause-within c =
    let there = found_there c.args.mesh.now c.add.new.self c.args.a.0 c.args.first c.in-Ok.ensures.added c.len-nodes.ensures.is_mesh in
    let at = same_Some c.in-Some.index (index_for c.args.mesh.now c.args.a.0) (sym c.in-Some.is ∙ c.index_of.ensures.value ∙ there) in
    omega (arith, at, index_within c.args.mesh.now c.args.a.0)
