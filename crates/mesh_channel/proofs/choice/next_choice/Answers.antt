use Rattle.std.proofs.Common.{◌≡◌, ◌∙◌, sym, ap}
use Rattle.std.specs.Prelude.{option_map}
use Rattle.mesh_meaning.specs.Events.{event_of}
use Rattle.mesh_channel.specs.RunStates.{choice_of}
use Rattle.mesh_channel.proofs.Picking.{choice_found, choice_behind}
use Rattle.mesh_channel.proofs.choice.next_choice.Goals as goal

pub returns-in-Some-clause-value : goal.returns-in-Some-clause-value
returns-in-Some-clause-value c =
    sym (choice_found c.args.until.now c.args.did c.args.world.now.world c.args.channel.now c.in_tick.new.channel (event_of c.in-Some.event)
    (sym (ap (λ o. choice_of (option_map event_of o) c.in_tick.new.channel) c.in-Some.is) ∙ c.in_tick.ensures.value))

pub returns-in-None-clause-value : goal.returns-in-None-clause-value
returns-in-None-clause-value c =
    c.next_tick.ensures.value ∙ sym (choice_behind c.args.until.now c.args.did c.args.world.now.world c.args.channel.now c.in_tick.new.channel
    (sym (ap (λ o. choice_of (option_map event_of o) c.in_tick.new.channel) c.in-None.is) ∙ c.in_tick.ensures.value))
