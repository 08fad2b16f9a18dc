use Rattle.mesh_channel.proofs.Casting.{taken_nodes, taken_has_numbers, sent_nodes, sent_has_numbers, on_taken, on_sent}
use Rattle.mesh_channel.proofs.event.after_chosen.Goals as goal

pub after_cast-requires-clause-nodes : goal.after_cast-requires-clause-nodes
after_cast-requires-clause-nodes c = taken_nodes c.args.done.now c.in-Taken.took c.in-Taken.effect c.in-Taken.air c.in-Taken.is c.requires.answer

pub after_cast-requires-clause-numbers : goal.after_cast-requires-clause-numbers
after_cast-requires-clause-numbers c = taken_has_numbers c.args.done.now c.in-Taken.took c.in-Taken.effect c.in-Taken.air c.in-Taken.is c.requires.answer

pub after_cast-requires-in-Sent-clause-nodes : goal.after_cast-requires-in-Sent-clause-nodes
after_cast-requires-in-Sent-clause-nodes c = sent_nodes c.args.done.now c.in-Sent.effect c.in-Sent.air c.in-Sent.is c.requires.answer

pub after_cast-requires-in-Sent-clause-numbers : goal.after_cast-requires-in-Sent-clause-numbers
after_cast-requires-in-Sent-clause-numbers c = sent_has_numbers c.args.done.now c.in-Sent.effect c.in-Sent.air c.in-Sent.is c.requires.answer

pub returns-in-Taken-clause-decided : goal.returns-in-Taken-clause-decided
returns-in-Taken-clause-decided c = on_taken c.after_cast.result c.args.rates.now c.args.done.now c.in-Taken.took c.in-Taken.effect c.in-Taken.air c.after_cast.new.channel c.args.channel.now c.in-Taken.is c.after_cast.ensures.decided

pub returns-in-Sent-clause-decided : goal.returns-in-Sent-clause-decided
returns-in-Sent-clause-decided c = on_sent c.after_cast-in-Sent.result c.args.rates.now c.args.done.now c.in-Sent.effect c.in-Sent.air c.after_cast-in-Sent.new.channel c.args.channel.now c.in-Sent.is c.after_cast-in-Sent.ensures.decided
