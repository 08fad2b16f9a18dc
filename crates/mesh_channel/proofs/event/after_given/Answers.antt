use Rattle.mesh_channel.proofs.Casting.{doubled_number, on_other}
use Rattle.mesh_channel.proofs.event.after_given.Goals as goal

pub delay_double-requires-clause-number : goal.delay_double-requires-clause-number
delay_double-requires-clause-number c = doubled_number c.args.done.now c.in-Doubled.id c.in-Doubled.to c.in-Doubled.parcel c.in-Doubled.is c.requires.answer

pub returns-in_default : goal.returns-in_default
returns-in_default c = record {
  decided = on_other c.after_chosen.result c.args.rates.now c.args.done.now c.after_chosen.new.channel c.args.channel.now (λ id to parcel. c.in_default.not-Doubled id to parcel) c.after_chosen.ensures.decided;
  tick = c.after_chosen.ensures.tick;
  few = c.after_chosen.ensures.few;
}
