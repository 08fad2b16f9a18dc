use Rattle.std.proofs.Common.{◌≡◌, ◌∙◌, true, false, Some, is_some, refl, sym, ap, subst, arith}
use Rattle.std.specs.Prelude.{◌<◌, length, slice_get, drop}
use Rattle.mesh_model.specs.Worlds.{find_copy}
use Rattle.mesh_fates.specs.Channels.{Channel}
use Rattle.mesh_channel.proofs.Picking.{found_in, none_in_flight, first_in_flight, shorter, looked_now, looked_on, looked_left}
use Rattle.mesh_channel.proofs.choice.look.Goals as goal

pub returns-then-is_some : goal.returns-then-is_some
returns-then-is_some c =
    let w = c.args.world.now.world in
    let first : Some c.in-Some.due ≡ slice_get c.dues.channel.plan 0 = sym c.in-Some.is ∙ c.first_due.ensures.first in
    let found = found_in c.args.world.now.mesh c.radio-radio.result.now.flying w.flying c.in-Some.due.id c.receiver.result c.radio-radio.ensures.flying c.receiver.ensures in
    let there : is_some (find_copy w.flying c.in-Some.due.id) ≡ true = found ∙ sym c.is_some.ensures ∙ c.if-is_some.true in
    looked_now c.args.channel.now c.dues.channel w c.dues.invariant.same c.dues.invariant.left (first_in_flight w.flying c.dues.channel.plan c.in-Some.due first there)

pub dues-preserved : goal.dues-preserved
dues-preserved c =
    let w = c.args.world.now.world in
    let first : Some c.in-Some.due ≡ slice_get c.dues.channel.plan 0 = sym c.in-Some.is ∙ c.first_due.ensures.first in
    let found = found_in c.args.world.now.mesh c.radio-radio.result.now.flying w.flying c.in-Some.due.id c.receiver.result c.radio-radio.ensures.flying c.receiver.ensures in
    let gone : is_some (find_copy w.flying c.in-Some.due.id) ≡ false = found ∙ sym c.is_some.ensures ∙ c.if-is_some.false in
    record {
      same = looked_on c.args.channel.now c.dues.channel c.take_due.new.self c.dues.invariant.same c.take_due.ensures;
      left = looked_left c.args.channel.now c.dues.channel c.take_due.new.self w c.in-Some.due c.dues.invariant.left c.take_due.ensures first gone;
    }

pub dues-smaller : goal.dues-smaller
dues-smaller c =
    let first : Some c.in-Some.due ≡ slice_get c.dues.channel.plan 0 = sym c.in-Some.is ∙ c.first_due.ensures.first in
    subst (λ (x : Channel). length x.plan < length c.dues.channel.plan) (sym c.take_due.ensures) (shorter c.dues.channel.plan c.in-Some.due first)

pub returns : goal.returns
returns c =
    let w = c.args.world.now.world in
    looked_now c.args.channel.now c.dues.channel w c.dues.invariant.same c.dues.invariant.left (none_in_flight w.flying c.dues.channel.plan (sym c.in_default.is ∙ c.first_due.ensures.first))
