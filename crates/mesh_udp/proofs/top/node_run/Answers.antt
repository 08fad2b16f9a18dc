use Rattle.mesh_udp.proofs.Unopened.{unopened}
use Rattle.mesh_udp.proofs.top.node_run.Goals as goal

pub returns-in-Err-clause-text_datagrams_and_verdict :
    goal.returns-in-Err-clause-text_datagrams_and_verdict
returns-in-Err-clause-text_datagrams_and_verdict g c =
    unopened _ (g.I.Source.left c.args.input.now) (g.L.Link.arrived c.args.link.now) (g.O.Sink.held c.args.out.now) (g.L.Link.sent c.args.link.now) _ c.open.ensures.sent
