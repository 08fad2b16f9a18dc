use Rattle.std.proofs.Common.{sym, subst, ◌∙◌, ap}
use Rattle.mesh_script.specs.Peers.{PeersSeen, ArePeers, with_peer}
use Rattle.mesh_script.proofs.Indices.{with_peer_is, peer_joins}
use Rattle.mesh_script.proofs.peers.Peers.add_peer.Goals as goal

pub invariant_of-self : goal.invariant_of-self
invariant_of-self c =
    let old : PeersSeen = record { mesh = c.self.inside.mesh; me = c.self.inside.me; ports = c.self.inside.ports.items } in
    let is = with_peer_is old c.args.a.0 c.args.port c.join-index.result c.join-index.new.mesh c.shifted-me.result c.join-index.new.ports.items
    c.join-index.ensures.index c.join-index.ensures.mesh c.shifted-me.ensures c.join-index.ensures.ports in
    subst ArePeers (sym is) (peer_joins old c.args.a.0 c.args.port c.requires.port c.self.invariant)

pub returns : goal.returns
returns c =
    let old : PeersSeen = record { mesh = c.self.inside.mesh; me = c.self.inside.me; ports = c.self.inside.ports.items } in
    with_peer_is old c.args.a.0 c.args.port c.join-index.result c.join-index.new.mesh c.shifted-me.result c.join-index.new.ports.items
    c.join-index.ensures.index c.join-index.ensures.mesh c.shifted-me.ensures c.join-index.ensures.ports
    ∙ ap (λ p. with_peer p c.args.a.0 c.args.port) c.self.view_is
