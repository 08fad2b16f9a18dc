use Rattle.std.proofs.Common.{IfOk, subst}
use Rattle.aodv_router.specs.Stations.{Station}
use Rattle.aodv_router.specs.Outcomes.{NamesTheMesh}
use Rattle.aodv_router.proofs.Named.{ask_names}
use Rattle.aodv_router.proofs.router.Router.ask.Goals as goal

pub returns-clause-names : goal.returns-clause-names
returns-clause-names c =
    subst (λ (s : Station). IfOk c.tell_ask.result (λ o. NamesTheMesh s.nodes o)) c.self.view_is
    (ask_names c.self.inside.mesh c.self.inside.node c.in-Some.d c.ask-answer.result c.ask-answer.new.self.core c.ask-answer.new.out.items c.tell_ask.result
    c.len-nodes.ensures.is_mesh c.ask-answer.ensures.does c.tell_ask.ensures)
