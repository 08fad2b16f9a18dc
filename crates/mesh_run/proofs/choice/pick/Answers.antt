use Rattle.mesh_run.proofs.Choices.{picks_turn, picks_copy, picks_send, picks_ask, picks_none}
use Rattle.mesh_run.proofs.choice.pick.Goals as goal

pub returns-in-Some-clause-value : goal.returns-in-Some-clause-value
returns-in-Some-clause-value c = picks_turn _ c.in-Some.node c.in-Some.ensures.first

pub returns-in-Some-first_copy_of-clause-value : goal.returns-in-Some-first_copy_of-clause-value
returns-in-Some-first_copy_of-clause-value c = picks_copy _ c.in-Some-first_copy_of.id c.in_default.ensures.first c.in-Some-first_copy_of.ensures.value

pub returns-in-Some-first_send-clause-value : goal.returns-in-Some-first_send-clause-value
returns-in-Some-first_send-clause-value c =
    picks_send _ c.in-Some-first_send.node c.in-Some-first_send.dest c.in_default.ensures.first c.in_default-first_copy_of.ensures.value c.in-Some-first_send.ensures.first

pub returns-in_err-node-clause-value : goal.returns-in_err-node-clause-value
returns-in_err-node-clause-value c =
    rw c.from_residual.ensures (picks_none _ c.in_default.ensures.first c.in_default-first_copy_of.ensures.value c.in_default-first_send.ensures.first c.in_err-node.ensures.first)

pub returns-clause-value : goal.returns-clause-value
returns-clause-value c =
    picks_ask _ c.in_ok-node.node c.in_ok-node.dest c.in_default.ensures.first c.in_default-first_copy_of.ensures.value c.in_default-first_send.ensures.first c.in_ok-node.ensures.first
