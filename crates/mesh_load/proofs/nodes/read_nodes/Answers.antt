use Rattle.std.proofs.Common.{arith, length, ◌≡◌, ◌∷◌, ◌++◌, [], List, ◌∙◌, ap}
use Rattle.std.proofs.lemmas.Result.{err_from_is_err_and}
use Rattle.aodv_node.specs.Seen.{NodeSeen}
use Rattle.mesh_world.specs.Lists.{NodeList}
use Rattle.mesh_load.proofs.NodeLists.{restored_ok, restored_core, restored_item, one_kept, one_misplaced, nodes_refused, least_unsound}
use Rattle.mesh_load.proofs.nodes.read_nodes.Goals as goal
use Rattle.mesh_load.proofs.nodes.read_nodes.Goals.{in-Ok+in_ok-make_room-in-Ok, in-Err+in-Item}

pub returns-in_err-read : goal.returns-in_err-read
returns-in_err-read c =
    let p = err_from_is_err_and c.from_residual.result c.from_residual.ensures.1 in
    rw (p.1, p.2) (nodes_refused c.args.variant (length c.args.mesh.now) c.loop-me.me c.args.bytes.now (c.loop-me.nodes).nodes c.loop-me.in_place c.loop-me.rest.now c.in_err-read.field-0.0 (omega arith) c.in_err-read.ensures c.loop-me.invariant)

pub returns-in-Core : goal.returns-in-Core
returns-in-Core c =
    let r = c.in_ok-read.ensures in
    least_unsound c.args.variant (length c.args.mesh.now) c.loop-me.me c.args.bytes.now (c.loop-me.nodes).nodes c.loop-me.in_place c.loop-me.rest.now r.parts c.in_ok-read.behind.now (omega arith) r.read_is r.mine r.below
    (restored_core r.parts c.in_ok-read.read c.in-Err.why c.in-Err.is c.in-Core.is r.answer_is) c.loop-me.invariant

pub loop-me-preserved : goal.loop-me-preserved
loop-me-preserved c =
    let r = c.in_ok-read.ensures in
    elim c.match-read.branch [
      | in-Ok+in_ok-make_room-in-Ok w ↦
          let k = restored_ok r.parts c.in_ok-read.read w.in-Ok.node w.in-Ok.is r.answer_is in
          let pushed : (c.match-read.nodes).nodes ≡ (c.loop-me.nodes).nodes ++ r.parts ∷ [] =
          ap (λ (ns : NodeList). ns.nodes) w.nodes-is ∙ w.push.ensures.nodes ∙ ap (λ (ns : List NodeSeen). ns ++ w.in-Ok.node ∷ []) w.make_room.ensures.nodes ∙ ap (λ (n : NodeSeen). (c.loop-me.nodes).nodes ++ n ∷ []) k.0 in
          rw w.in_place-is (one_kept c.args.variant (length c.args.mesh.now) c.loop-me.me c.args.bytes.now (c.loop-me.nodes).nodes (c.match-read.nodes).nodes c.loop-me.in_place c.loop-me.rest.now r.parts c.in_ok-read.behind.now (omega arith) r.read_is r.mine k.1 k.2 pushed c.loop-me.invariant)
      | in-Err+in-Item w ↦
          let k = restored_item r.parts c.in_ok-read.read w.in-Err.why w.in-Err.is w.in-Item.is r.answer_is in
          rw (w.nodes-is, w.in_place-is) (one_misplaced c.args.variant (length c.args.mesh.now) c.loop-me.me c.args.bytes.now (c.loop-me.nodes).nodes c.loop-me.in_place c.loop-me.rest.now r.parts c.in_ok-read.behind.now (omega arith) r.read_is r.mine k.0 k.1 c.loop-me.invariant)
    ]
