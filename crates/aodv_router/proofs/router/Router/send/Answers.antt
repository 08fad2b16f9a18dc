use Rattle.std.proofs.Common.{IfOk, subst}
use Rattle.aodv_router.specs.Stations.{Station}
use Rattle.aodv_router.specs.Outcomes.{NamesTheMesh}
use Rattle.aodv_router.proofs.Named.{send_names}
use Rattle.aodv_router.proofs.router.Router.send.Goals as goal

pub returns-clause-names : goal.returns-clause-names
returns-clause-names c =
    subst (λ (s : Station). IfOk c.tell_send.result (λ o. NamesTheMesh s.nodes o)) c.self.view_is
    (send_names c.self.inside.mesh c.indices_of-range.result c.self.inside.node c.in-Some.d c.send-answer.result c.send-answer.new.self.core c.send-answer.new.out.items c.tell_send.result
    c.len-nodes.ensures.is_mesh c.self.invariant.0 c.sn-number.ensures.sound c.send-answer.ensures.does c.tell_send.ensures)
