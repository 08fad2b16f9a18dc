use Rattle.mesh_world.proofs.Acts.{taken_act_result, full_act_result, no_refusal, no_stranger}
use Rattle.mesh_world.proofs.act.TurnActs.of.Goals as goal

pub returns-in-Ok : goal.returns-in-Ok
returns-in-Ok c = taken_act_result _ _ _ _ _ _ (rw c.in-Ok.field-0-is at c.in-Ok.ensures.turn)

pub returns-in-Err-Full : goal.returns-in-Err-Full
returns-in-Err-Full c = full_act_result _ _ _ _ _ (rw c.in-Err-Full.field-0-is at c.in-Err-Full.ensures.turn)

pub unreachable-requires : goal.unreachable-requires
unreachable-requires c =
    no_refusal c.args.mesh.now c.args.node.now c.turn.new.self c.in-Err-Refused.field-0-0 c.in-Err-Refused.field-0-1 c.requires.readable (rw c.in-Err-Refused.field-0-is at c.in-Err-Refused.ensures.turn)

pub unreachable-requires-in-Err-Stranger : goal.unreachable-requires-in-Err-Stranger
unreachable-requires-in-Err-Stranger c =
    no_stranger c.args.mesh.now c.args.node.now c.turn.new.self c.in-Err-Stranger.field-0-0 c.in-Err-Stranger.field-0-1 c.requires.readable (rw c.in-Err-Stranger.field-0-is at c.in-Err-Stranger.ensures.turn)
