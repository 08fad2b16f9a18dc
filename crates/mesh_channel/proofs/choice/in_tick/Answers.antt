use Rattle.std.proofs.Common.{◌≡◌, ◌∙◌, Some, None, sym, ap}
use Rattle.std.specs.Prelude.{option_map, slice_get}
use Rattle.mesh_meaning.specs.Events.{event_of}
use Rattle.mesh_fates.specs.Channels.{Channel}
use Rattle.mesh_channel.specs.Choices.{Chosen, looked_at, due_or}
use Rattle.mesh_model.specs.Worlds.{Turn}
use Rattle.mesh_channel.proofs.Picking.{same_left, tick_left, tick_turn, tick_due}
use Rattle.mesh_channel.proofs.choice.in_tick.Goals as goal

pub returns-in-Some-clause-value : goal.returns-in-Some-clause-value
returns-in-Some-clause-value c =
    let e = event_of c.in-Some.event in
    let first : Some e ≡ slice_get c.args.channel.now.left 0 = sym (ap (option_map event_of) c.in-Some.is) ∙ c.next_left.ensures.next in
    sym (tick_left c.args.world.now.world c.args.channel.now e first ∙ ap (Chosen e) (sym c.next_left.ensures.left))

pub returns-in-Some-first_turn-clause-value : goal.returns-in-Some-first_turn-clause-value
returns-in-Some-first_turn-clause-value c =
    let none : None ≡ slice_get c.args.channel.now.left 0 = sym (ap (option_map event_of) c.in_default.is) ∙ c.next_left.ensures.next in
    let x = c.in-Some-first_turn.node in
    sym (tick_turn c.args.world.now.world c.args.channel.now x none (sym c.in-Some-first_turn.is ∙ c.first_turn.ensures.first) ∙ ap (Chosen (Turn x)) (sym (same_left c.args.channel.now c.next_left.new.self none c.next_left.ensures.left)))

pub returns-clause-value : goal.returns-clause-value
returns-clause-value c =
    let w = c.args.world.now.world in
    let none : None ≡ slice_get c.args.channel.now.left 0 = sym (ap (option_map event_of) c.in_default.is) ∙ c.next_left.ensures.next in
    let same = same_left c.args.channel.now c.next_left.new.self none c.next_left.ensures.left in
    let looked = c.look.ensures ∙ ap (looked_at w) same in
    c.due_or.ensures.value ∙ ap (λ (k : Channel). due_or w k k.plan) looked ∙ sym (tick_due w c.args.channel.now none (sym c.in_default-first_turn.is ∙ c.first_turn.ensures.first))
