use Rattle.std.proofs.Common.{None, Ok, ◌+◌, refl, ap, ◌∙◌, sym, subst}
use Rattle.mesh_io.proofs.Writing.{AppendsPrefix-none}
use Rattle.aodv_model.specs.Cores.{Core}
use Rattle.mesh_router.specs.Routers.{Router}
use Rattle.mesh_router.specs.Runs.{IsTaken}
use Rattle.mesh_router.proofs.Polling.{taken_done, taken_fault, peer_other, me_within}
use Rattle.mesh_router.proofs.router.Router.take.Goals as goal

pub returns-in_err-make_room-in-Some-clause-taken : goal.returns-in_err-make_room-in-Some-clause-taken
returns-in_err-make_room-in-Some-clause-taken g c =
    taken_fault c.args.self.now _ c.args.port c.args.bytes.now _ _ c.from_residual-in_err-make_room-in-Some.result c.from_residual-in_err-make_room-in-Some.ensures.0 (AppendsPrefix-none _ _)

pub hear-requires-clause-other : goal.hear-requires-clause-other
hear-requires-clause-other g c =
    let p = c.self.inside.peers in
    let within = c.self.invariant in
    λ same. peer_other p c.self.inside.node.core.ip c.args.port c.in-Some.from c.mesh-mesh.ensures.sound within.me (me_within p _ c.mesh-mesh.ensures.sound within.me) (sym c.at_port.ensures.value ∙ c.in-Some.is) (same ∙ ap (λ (k : Core). k.ip) c.make_room.ensures.core)

pub returns-in_ok-put_strange_port-in-None-clause-taken : goal.returns-in_ok-put_strange_port-in-None-clause-taken
returns-in_ok-put_strange_port-in-None-clause-taken g c =
    let P : Router → Type 0 = λ v. IsTaken v c.args.port c.args.bytes.now (g.O.Sink.held c.args.out.now) (g.O.Sink.held c.put_strange_port.new.out)
    (record { peers = c.self.inside.peers; core = c.self.inside.node.core; queue = c.self.inside.node.items; range = c.self.inside.range; heard = c.self.inside.heard; sent = c.self.inside.sent; dropped = c.self.inside.dropped + 1 }) (Ok tt) in
    subst P c.self.view_is (taken_done _ _ c.args.port c.args.bytes.now _ _ None (Ok tt) (sym c.in-None.is ∙ c.at_port.ensures.value) refl c.in_ok-put_strange_port-in-None.ensures.text refl)
