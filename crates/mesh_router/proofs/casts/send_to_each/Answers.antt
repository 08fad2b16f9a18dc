use Rattle.std.proofs.Common.{◌<◌, length, refl, ap, ◌∙◌, arith}
use Rattle.mesh_base.specs.Meshes.{Nodes}
use Rattle.mesh_base.proofs.Ranks.{members_few, members-one}
use Rattle.mesh_router.proofs.Logging.{says-fault}
use Rattle.mesh_router.proofs.Peers.{none_sent, next_sent, next_failed, all_sent, all_counted}
use Rattle.mesh_router.proofs.casts.send_to_each.Goals as goal

pub loop-x-init : goal.loop-x-init
loop-x-init g c = record {
  adds = none_sent c.args.peers.now c.args.packet.now.items c.args.to.now (g.O.Sink.held c.args.out.now, g.L.Link.sent c.args.link.now);
  count = let few = members_few 0 c.args.to.now in omega arith;
  within = omega arith;
  sink = refl;
  links = refl;
  port = refl;
  arrived = refl;
}

pub returns-in_err-send_to-clause-says : goal.returns-in_err-send_to-clause-says
returns-in_err-send_to-clause-says g c =
    let is = c.in-Some.ensures.least in
    let peer = c.requires.peers c.in-Some.x is.1 in
    says-fault _ _ _ c.from_residual.result c.from_residual.ensures.0
    (next_failed c.args.peers.now c.args.packet.now.items c.args.to.now (length c.args.peers.now.mesh) c.in-Some.x c.loop-x.start _ (g.O.Sink.held c.loop-x.out, g.L.Link.sent c.loop-x.link) _ peer.0 is.0 is.1 is.2
    c.loop-x.invariant.adds c.in_err-send_to.ensures.says)

pub overflow_add-count : goal.overflow_add-count
overflow_add-count g c =
    let few = members_few c.loop-x.start c.args.to.now in
    let at = c.loop-x.invariant in
    let same = ap (λ (m : Nodes). length m) c.mesh.ensures.mesh in
    omega (arith, at.count, at.within, (c.len-nodes.ensures.is_mesh).few)

pub loop-x-preserved : goal.loop-x-preserved
loop-x-preserved g c =
    let is = c.in-Some.ensures.least in
    let at = c.loop-x.invariant in
    let peer = c.requires.peers c.in-Some.x is.1 in
    let below : c.in-Some.x < length c.args.peers.now.mesh = peer.0 in
    let count = members-one c.in-Some.x c.loop-x.start c.args.to.now is.0 is.1 is.2 in
    let later = c.in_ok-send_to.ensures.causes in
    record {
      adds = next_sent c.args.peers.now c.args.packet.now.items c.args.to.now c.in-Some.x c.loop-x.start _ (g.O.Sink.held c.loop-x.out, g.L.Link.sent c.loop-x.link) _ is.0 is.1 is.2 at.adds c.in_ok-send_to.ensures.says;
      count = omega (arith, at.count, count);
      within = omega arith;
      sink = later.no_write (λ is. cc) ∙ at.sink;
      links = later.no_send (λ is. cc) ∙ at.links;
      port = c.in_ok-send_to.ensures.port ∙ at.port;
      arrived = c.in_ok-send_to.ensures.arrived ∙ at.arrived;
    }

pub returns-clause-says : goal.returns-clause-says
returns-clause-says g c =
    all_sent c.args.peers.now c.args.packet.now.items c.args.to.now (length c.args.peers.now.mesh) c.loop-x.start _ _ c.loop-x.invariant.within c.in_default.ensures.least c.loop-x.invariant.adds

pub returns-clause-count : goal.returns-clause-count
returns-clause-count g c =
    all_counted c.args.to.now (length c.args.peers.now.mesh) c.loop-x.start c.loop-x.count c.loop-x.invariant.within c.in_default.ensures.least c.loop-x.invariant.count

pub returns-clause-few : goal.returns-clause-few
returns-clause-few g c =
    let few = members_few c.loop-x.start c.args.to.now in
    let at = c.loop-x.invariant in
    let same = ap (λ (m : Nodes). length m) c.mesh.ensures.mesh in
    omega (arith, at.count, at.within, (c.len-nodes.ensures.is_mesh).few)
