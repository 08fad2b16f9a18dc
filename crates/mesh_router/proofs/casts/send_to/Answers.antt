use Rattle.std.proofs.Common.{◌∷◌, [], ℕ, List, refl, ◌∙◌, sym, subst, rules}
use Rattle.mesh_link.specs.Datagrams.{Datagram, datagram}
use Rattle.mesh_router.specs.Casts.{port_at, to_line}
use Rattle.mesh_router.specs.Logs.{Sent, text_log}
use Rattle.mesh_router.specs.Outputs.{SendsAll}
use Rattle.mesh_router.specs.Joins.{adds-join}
use Rattle.mesh_router.proofs.Logging.{says-fault, prefix-more, prefix-text, prefix-unsent, adds-text, adds-datagram}
use Rattle.mesh_router.proofs.Peers.{port_is}
use Rattle.mesh_router.proofs.casts.send_to.Goals as goal

pub put_to-requires-clause-port : goal.put_to-requires-clause-port
put_to-requires-clause-port g c =
    port_is c.args.peers.now c.args.x c.in-Some.port (sym c.port.ensures.value ∙ c.in-Some.is)

pub returns-in_err-put_to-clause-says : goal.returns-in_err-put_to-clause-says
returns-in_err-put_to-clause-says g c =
    let p = c.args.peers.now in
    says-fault _ _ _ _ (search rules)
    (prefix-more _ _ (text_log (to_line p c.args.x)) (Sent (datagram (port_at p c.args.x) c.args.packet.now.items) ∷ [])
    (prefix-text _ _ _ _ (to_line p c.args.x) refl c.in_err-put_to.ensures.text))

pub returns-in_err-send-clause-says : goal.returns-in_err-send-clause-says
returns-in_err-send-clause-says g c =
    let p = c.args.peers.now in
    says-fault _ _ _ _ (search rules)
    (prefix-unsent _ _ _ _ (to_line p c.args.x) (Sent (datagram (port_at p c.args.x) c.args.packet.now.items) ∷ []) c.in_err-send.ensures.sent.1 c.in_ok-put_to.ensures.text)

pub returns-clause-says : goal.returns-clause-says
returns-clause-says g c =
    let p = c.args.peers.now in
    let line = to_line p c.args.x in
    let port = port_is p c.args.x c.in-Some.port (sym c.port.ensures.value ∙ c.in-Some.is) in
    let d : Datagram = datagram (port_at p c.args.x) c.args.packet.now.items in
    adds-join _ (g.O.Sink.held c.put_to.new.out, g.L.Link.sent c.args.link.now) _ (text_log line) (Sent d ∷ [])
    (adds-text _ _ _ _ line refl c.in_ok-put_to.ensures.text)
    (adds-datagram _ _ _ d
    (subst (λ (k : ℕ). SendsAll (g.L.Link.sent c.args.link.now) (g.L.Link.sent c.send.new.self) (datagram k c.args.packet.now.items ∷ [])) (sym port)
    (subst (λ (l : List ℕ). SendsAll (g.L.Link.sent c.args.link.now) (g.L.Link.sent c.send.new.self) (datagram c.in-Some.port l ∷ [])) c.as_slice.ensures.value c.in_ok-send.ensures.sent.0)))
