use Rattle.std.proofs.Common.{IfOk, refl, subst}
use Rattle.mesh_base.specs.Members.{NodeIds}
use Rattle.aodv_node.specs.Turned.{IsTurn}
use Rattle.aodv_router.specs.Stations.{Station}
use Rattle.aodv_router.specs.Outcomes.{NamesTheMesh}
use Rattle.aodv_router.specs.Steps.{IsTurnOf}
use Rattle.aodv_router.proofs.Named.{turn_short, turn_names}
use Rattle.aodv_router.proofs.router.Router.turn.Goals as goal

pub returns-clause-turn : goal.returns-clause-turn
returns-clause-turn c =
    let mesh = c.self.inside.mesh in
    let new : Station = record { nodes = mesh; node = c.turn-answer.new.self } in
    subst (λ (s : Station). IsTurnOf s c.args.near.now c.tell_turn.result new) c.self.view_is (record {
      answer = c.turn-answer.result;
      packet = c.turn-answer.new.out.items;
      turn = subst (λ (r : NodeIds). IsTurn mesh r c.self.inside.node c.turn-answer.result c.turn-answer.new.self c.turn-answer.new.out.items) c.indices_of-range.ensures c.turn-answer.ensures.turn;
      tells = c.tell_turn.ensures;
      nodes = refl;
    })

pub returns-clause-names : goal.returns-clause-names
returns-clause-names c =
    subst (λ (s : Station). IfOk c.tell_turn.result (λ o. NamesTheMesh s.nodes o)) c.self.view_is
    (turn_names c.self.inside.mesh c.indices_of-range.result c.self.inside.node c.turn-answer.result c.turn-answer.new.self c.turn-answer.new.out.items c.tell_turn.result
    c.len-nodes.ensures.is_mesh c.self.invariant.0 c.sn-number.ensures.sound c.turn-answer.ensures.turn c.tell_turn.ensures)

pub tell_turn-requires : goal.tell_turn-requires
tell_turn-requires c =
    turn_short c.self.inside.mesh c.indices_of-range.result c.self.inside.node c.turn-answer.result c.turn-answer.new.self c.turn-answer.new.out.items c.sn-number.ensures.sound c.turn-answer.ensures.turn
