use Rattle.std.proofs.Common.{◌≤◌, ◌<◌, length, arith}
use Rattle.aodv_node.specs.Seen.{IsSoundNode}
use Rattle.mesh_world.proofs.ReadySets.{ready_up_to_none, ready_up_to_more, ready_up_to_all, each_more, each_of_all}
use Rattle.mesh_world.proofs.restored.ready_for.Goals as goal

pub loop-x-init : goal.loop-x-init
loop-x-init c = record { ready = ready_up_to_none c.args.mesh.now c.args.nodes.now c.new-ready.result c.new-ready.ensures; sound = tt }

pub loop-x-preserved : goal.loop-x-preserved
loop-x-preserved c =
    let nodes = c.args.nodes.now in
    let l : c.loop-x.x < length nodes = (let count = c.len-count.ensures.value in let size = c.requires in let test = c.loop-x-test.true in omega arith) in
    record {
      ready = ready_up_to_more c.args.mesh.now nodes c.loop-x.x c.index-nodes-x.result c.loop-x.ready c.note.new.self c.len-count.result c.index-nodes-x.is l c.len-count.ensures.value c.note.ensures c.loop-x.invariant.ready;
      sound = each_more IsSoundNode nodes c.loop-x.x c.index-nodes-x.result c.index-nodes-x.is l c.sn-number.ensures.sound c.loop-x.invariant.sound;
    }

pub returns : goal.returns
returns c =
    let end : length c.args.nodes.now ≤ c.loop-x.x = (let count = c.len-count.ensures.value in let size = c.requires in let last = c.loop-x-test.false in omega arith) in
    record {
      ready = ready_up_to_all c.args.mesh.now c.args.nodes.now c.loop-x.x c.loop-x.ready end c.loop-x.invariant.ready;
      sound = each_of_all IsSoundNode c.args.nodes.now c.loop-x.x end c.loop-x.invariant.sound;
    }

pub note-requires : goal.note-requires
note-requires c = let few = c.len-count.ensures.is_mesh.few in let count = c.len-count.ensures.value in let test = c.loop-x-test.true in omega arith
