use Rattle.mesh_world.proofs.Accounts.{accounted_at}
use Rattle.mesh_world.proofs.CountsOfEvents.{counted_at, never_short, steps_at}
use Rattle.mesh_world.proofs.world.WorldSteps.step_counted.Goals as goal

pub invariant_of-self : goal.invariant_of-self
invariant_of-self c = (c.give.ensures.done c.args.out.now.items).done.kept

pub returns-in-Give-clause-sound : goal.returns-in-Give-clause-sound
returns-in-Give-clause-sound c = (c.give.ensures.done c.args.out.now.items).done.kept.sound

pub returns-in-Give-clause-counted : goal.returns-in-Give-clause-counted
returns-in-Give-clause-counted c = counted_at _ _ _ _ _ _ _ _ _ c.in-Give.is c.self.view_is (c.give.ensures.done c.args.out.now.items)

pub returns-in-Give-clause-left : goal.returns-in-Give-clause-left
returns-in-Give-clause-left c = steps_at _ _ _ _ _ _ _ _ _ c.in-Give.is c.self.view_is (c.give.ensures.done c.args.out.now.items)

pub returns-in-Give-clause-account : goal.returns-in-Give-clause-account
returns-in-Give-clause-account c = accounted_at _ _ _ _ _ _ _ _ _ c.in-Give.is c.self.view_is c.self.invariant c.requires.event (c.give.ensures.done c.args.out.now.items)

pub invariant_of-self-in-Turn : goal.invariant_of-self-in-Turn
invariant_of-self-in-Turn c = (c.act.ensures.done).done.kept

pub returns-in-Turn-clause-sound : goal.returns-in-Turn-clause-sound
returns-in-Turn-clause-sound c = (c.act.ensures.done).done.kept.sound

pub returns-in-Turn-clause-counted : goal.returns-in-Turn-clause-counted
returns-in-Turn-clause-counted c = counted_at _ _ _ _ _ _ _ _ _ c.in-Turn.is c.self.view_is (c.act.ensures.done)

pub returns-in-Turn-clause-left : goal.returns-in-Turn-clause-left
returns-in-Turn-clause-left c = steps_at _ _ _ _ _ _ _ _ _ c.in-Turn.is c.self.view_is (c.act.ensures.done)

pub returns-in-Turn-clause-account : goal.returns-in-Turn-clause-account
returns-in-Turn-clause-account c = accounted_at _ _ _ _ _ _ _ _ _ c.in-Turn.is c.self.view_is c.self.invariant c.requires.event (c.act.ensures.done)

pub invariant_of-self-in-Send : goal.invariant_of-self-in-Send
invariant_of-self-in-Send c = (c.act-in-Send.ensures.done).done.kept

pub returns-in-Send-clause-sound : goal.returns-in-Send-clause-sound
returns-in-Send-clause-sound c = (c.act-in-Send.ensures.done).done.kept.sound

pub returns-in-Send-clause-counted : goal.returns-in-Send-clause-counted
returns-in-Send-clause-counted c = counted_at _ _ _ _ _ _ _ _ _ c.in-Send.is c.self.view_is (c.act-in-Send.ensures.done)

pub returns-in-Send-clause-left : goal.returns-in-Send-clause-left
returns-in-Send-clause-left c = steps_at _ _ _ _ _ _ _ _ _ c.in-Send.is c.self.view_is (c.act-in-Send.ensures.done)

pub returns-in-Send-clause-account : goal.returns-in-Send-clause-account
returns-in-Send-clause-account c = accounted_at _ _ _ _ _ _ _ _ _ c.in-Send.is c.self.view_is c.self.invariant c.requires.event (c.act-in-Send.ensures.done)

pub invariant_of-self-in-Ask : goal.invariant_of-self-in-Ask
invariant_of-self-in-Ask c = (c.act-in-Ask.ensures.done).done.kept

pub returns-in-Ask-clause-sound : goal.returns-in-Ask-clause-sound
returns-in-Ask-clause-sound c = (c.act-in-Ask.ensures.done).done.kept.sound

pub returns-in-Ask-clause-counted : goal.returns-in-Ask-clause-counted
returns-in-Ask-clause-counted c = counted_at _ _ _ _ _ _ _ _ _ c.in-Ask.is c.self.view_is (c.act-in-Ask.ensures.done)

pub returns-in-Ask-clause-left : goal.returns-in-Ask-clause-left
returns-in-Ask-clause-left c = steps_at _ _ _ _ _ _ _ _ _ c.in-Ask.is c.self.view_is (c.act-in-Ask.ensures.done)

pub returns-in-Ask-clause-account : goal.returns-in-Ask-clause-account
returns-in-Ask-clause-account c = accounted_at _ _ _ _ _ _ _ _ _ c.in-Ask.is c.self.view_is c.self.invariant c.requires.event (c.act-in-Ask.ensures.done)

pub invariant_of-self-in-Link : goal.invariant_of-self-in-Link
invariant_of-self-in-Link c = (c.link.ensures.done c.args.out.now.items).done.kept

pub returns-in-Link-clause-sound : goal.returns-in-Link-clause-sound
returns-in-Link-clause-sound c = (c.link.ensures.done c.args.out.now.items).done.kept.sound

pub returns-in-Link-clause-counted : goal.returns-in-Link-clause-counted
returns-in-Link-clause-counted c = counted_at _ _ _ _ _ _ _ _ _ c.in-Link.is c.self.view_is (c.link.ensures.done c.args.out.now.items)

pub returns-in-Link-clause-left : goal.returns-in-Link-clause-left
returns-in-Link-clause-left c = steps_at _ _ _ _ _ _ _ _ _ c.in-Link.is c.self.view_is (c.link.ensures.done c.args.out.now.items)

pub returns-in-Link-clause-account : goal.returns-in-Link-clause-account
returns-in-Link-clause-account c = accounted_at _ _ _ _ _ _ _ _ _ c.in-Link.is c.self.view_is c.self.invariant c.requires.event (c.link.ensures.done c.args.out.now.items)

pub invariant_of-self-in-Cut : goal.invariant_of-self-in-Cut
invariant_of-self-in-Cut c = (c.cut.ensures.done c.args.out.now.items).done.kept

pub returns-in-Cut-clause-sound : goal.returns-in-Cut-clause-sound
returns-in-Cut-clause-sound c = (c.cut.ensures.done c.args.out.now.items).done.kept.sound

pub returns-in-Cut-clause-counted : goal.returns-in-Cut-clause-counted
returns-in-Cut-clause-counted c = counted_at _ _ _ _ _ _ _ _ _ c.in-Cut.is c.self.view_is (c.cut.ensures.done c.args.out.now.items)

pub returns-in-Cut-clause-left : goal.returns-in-Cut-clause-left
returns-in-Cut-clause-left c = steps_at _ _ _ _ _ _ _ _ _ c.in-Cut.is c.self.view_is (c.cut.ensures.done c.args.out.now.items)

pub returns-in-Cut-clause-account : goal.returns-in-Cut-clause-account
returns-in-Cut-clause-account c = accounted_at _ _ _ _ _ _ _ _ _ c.in-Cut.is c.self.view_is c.self.invariant c.requires.event (c.cut.ensures.done c.args.out.now.items)

pub invariant_of-self-in-Deliver : goal.invariant_of-self-in-Deliver
invariant_of-self-in-Deliver c = (c.deliver_copy.ensures.done c.args.out.now.items).done.kept

pub returns-in-Deliver-clause-sound : goal.returns-in-Deliver-clause-sound
returns-in-Deliver-clause-sound c = (c.deliver_copy.ensures.done c.args.out.now.items).done.kept.sound

pub returns-in-Deliver-clause-counted : goal.returns-in-Deliver-clause-counted
returns-in-Deliver-clause-counted c = counted_at _ _ _ _ _ _ _ _ _ c.in-Deliver.is c.self.view_is (c.deliver_copy.ensures.done c.args.out.now.items)

pub returns-in-Deliver-clause-left : goal.returns-in-Deliver-clause-left
returns-in-Deliver-clause-left c = steps_at _ _ _ _ _ _ _ _ _ c.in-Deliver.is c.self.view_is (c.deliver_copy.ensures.done c.args.out.now.items)

pub returns-in-Deliver-clause-account : goal.returns-in-Deliver-clause-account
returns-in-Deliver-clause-account c = accounted_at _ _ _ _ _ _ _ _ _ c.in-Deliver.is c.self.view_is c.self.invariant c.requires.event (c.deliver_copy.ensures.done c.args.out.now.items)

pub invariant_of-self-in-Lose : goal.invariant_of-self-in-Lose
invariant_of-self-in-Lose c = (c.lose_copy.ensures.done c.args.out.now.items).done.kept

pub returns-in-Lose-clause-sound : goal.returns-in-Lose-clause-sound
returns-in-Lose-clause-sound c = (c.lose_copy.ensures.done c.args.out.now.items).done.kept.sound

pub returns-in-Lose-clause-counted : goal.returns-in-Lose-clause-counted
returns-in-Lose-clause-counted c = counted_at _ _ _ _ _ _ _ _ _ c.in-Lose.is c.self.view_is (c.lose_copy.ensures.done c.args.out.now.items)

pub returns-in-Lose-clause-left : goal.returns-in-Lose-clause-left
returns-in-Lose-clause-left c = steps_at _ _ _ _ _ _ _ _ _ c.in-Lose.is c.self.view_is (c.lose_copy.ensures.done c.args.out.now.items)

pub returns-in-Lose-clause-account : goal.returns-in-Lose-clause-account
returns-in-Lose-clause-account c = accounted_at _ _ _ _ _ _ _ _ _ c.in-Lose.is c.self.view_is c.self.invariant c.requires.event (c.lose_copy.ensures.done c.args.out.now.items)

pub invariant_of-self-in-Double : goal.invariant_of-self-in-Double
invariant_of-self-in-Double c = (c.double_copy.ensures.done c.args.out.now.items).done.kept

pub returns-in-Double-clause-sound : goal.returns-in-Double-clause-sound
returns-in-Double-clause-sound c = (c.double_copy.ensures.done c.args.out.now.items).done.kept.sound

pub returns-in-Double-clause-counted : goal.returns-in-Double-clause-counted
returns-in-Double-clause-counted c = counted_at _ _ _ _ _ _ _ _ _ c.in-Double.is c.self.view_is (c.double_copy.ensures.done c.args.out.now.items)

pub returns-in-Double-clause-left : goal.returns-in-Double-clause-left
returns-in-Double-clause-left c = steps_at _ _ _ _ _ _ _ _ _ c.in-Double.is c.self.view_is (c.double_copy.ensures.done c.args.out.now.items)

pub returns-in-Double-clause-account : goal.returns-in-Double-clause-account
returns-in-Double-clause-account c = accounted_at _ _ _ _ _ _ _ _ _ c.in-Double.is c.self.view_is c.self.invariant c.requires.event (c.double_copy.ensures.done c.args.out.now.items)

pub returns-in-Link-clause-memory : goal.returns-in-Link-clause-memory
returns-in-Link-clause-memory c = λ short. absurd (never_short c.link.result c.link.ensures.ok short)

pub returns-in-Cut-clause-memory : goal.returns-in-Cut-clause-memory
returns-in-Cut-clause-memory c = λ short. absurd (never_short c.cut.result c.cut.ensures.ok short)
