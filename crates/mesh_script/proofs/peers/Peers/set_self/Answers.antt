use Rattle.std.proofs.Common.{◌≡◌, sym, subst, ◌∙◌, ap, None}
use Rattle.mesh_script.specs.Peers.{PeersSeen, ArePeers, with_self}
use Rattle.mesh_script.proofs.Indices.{with_self_is, self_joins}
use Rattle.mesh_script.proofs.peers.Peers.set_self.Goals as goal

pub invariant_of-self : goal.invariant_of-self
invariant_of-self c =
    let old : PeersSeen = record { mesh = c.self.inside.mesh; me = c.self.inside.me; ports = c.self.inside.ports.items } in
    let none : c.self.inside.me ≡ None = ap (λ p. p.me) c.self.view_is ∙ c.requires.none in
    let is = with_self_is old c.args.a.0 c.args.first c.join-index.result c.join-index.new.mesh c.join-index.new.ports.items
    c.join-index.ensures.index c.join-index.ensures.mesh c.join-index.ensures.ports in
    subst ArePeers (sym is) (self_joins old c.args.a.0 c.args.first none c.self.invariant)

pub returns : goal.returns
returns c =
    let old : PeersSeen = record { mesh = c.self.inside.mesh; me = c.self.inside.me; ports = c.self.inside.ports.items } in
    with_self_is old c.args.a.0 c.args.first c.join-index.result c.join-index.new.mesh c.join-index.new.ports.items
    c.join-index.ensures.index c.join-index.ensures.mesh c.join-index.ensures.ports
    ∙ ap (λ p. with_self p c.args.a.0 c.args.first) c.self.view_is
