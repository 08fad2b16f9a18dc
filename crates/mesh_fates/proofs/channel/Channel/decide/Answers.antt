use Rattle.std.proofs.Common.{◌≡◌, ◌+◌, ◌-◌, suc, ap, sym, refl, ◌∙◌, arith}
use Rattle.mesh_fates.specs.Fates.{draw}
use Rattle.mesh_fates.specs.Channels.{Channel, decided}
use Rattle.mesh_fates.proofs.Deciding.{decided_next, decided_all, behind_few, few_left}
use Rattle.mesh_fates.proofs.channel.Channel.decide.Goals as goal

pub loop-id-preserved : goal.loop-id-preserved
loop-id-preserved c =
    let end = c.args.first + c.args.count in
    let some : c.args.first + c.args.count - c.loop-id.id ≡ suc (c.args.first + c.args.count - (c.loop-id.id + 1)) = omega (arith, c.loop-id-test.true) in
    let behind = behind_few c.loop-id.new (draw c.args.rates.now c.args.unicast (c.loop-id.self).rng).fate.double in
    record {
      done = decided_next c.args.rates.now c.args.unicast (end - c.loop-id.id) (end - (c.loop-id.id + 1)) c.loop-id.id c.loop-id.new c.in_ok-new.new c.loop-id.self c.decide_one.new.self some c.in_ok-new.ensures.decided c.in_ok-new.ensures.next ∙ c.loop-id.invariant.done;
      tick = ap (λ (w : Channel). w.tick) c.in_ok-new.ensures.decided ∙ c.loop-id.invariant.tick;
      last = refl;
      new = omega (arith, c.in_ok-new.ensures.next, behind.0, c.loop-id.invariant.new);
      fits = omega (arith, c.in_ok-new.ensures.next, behind.1, c.loop-id.invariant.fits);
    }

pub returns : goal.returns
returns c =
    let end = c.args.first + c.args.count in
    let none : c.args.first + c.args.count - c.loop-id.id ≡ 0 = omega (arith, c.loop-id-test.false) in
    let is : c.loop-id.self ≡ decided c.args.rates.now c.args.unicast c.args.count c.args.first end c.args.self.now = sym (decided_all c.args.rates.now c.args.unicast (end - c.loop-id.id) c.loop-id.id c.loop-id.new c.loop-id.self none) ∙ c.loop-id.invariant.done in
    record {
      decided = is;
      few = rw is (few_left c.args.rates.now c.args.unicast c.args.count c.args.first end c.args.self.now);
    }
