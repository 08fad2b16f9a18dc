use Rattle.mesh_radio.specs.Copies.{IsBetween, IsPacketLong}
use Rattle.mesh_radio.proofs.Finds.{all-left}
use Rattle.mesh_radio.proofs.radio.Radio.take.Goals as goal

pub invariant_of-self : goal.invariant_of-self
invariant_of-self c =
    let take = c.take in
    record {
      few = c.self.invariant.few;
      same = c.self.invariant.same;
      linked = c.self.invariant.linked;
      between = all-left (IsBetween c.self.inside.links.size) c.self.inside.copies take.new.self c.args.id take.ensures.gone c.self.invariant.between;
      long = all-left IsPacketLong c.self.inside.copies take.new.self c.args.id take.ensures.gone c.self.invariant.long;
    }
