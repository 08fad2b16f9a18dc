use Rattle.mesh_radio.proofs.Links.{radio_parted}
use Rattle.mesh_radio.proofs.radio.Radio.cut.Goals as goal

pub invariant_of-self : goal.invariant_of-self
invariant_of-self c = radio_parted c.self.inside.links c.self.inside.ever c.part.new.self c.self.inside.copies c.args.a c.args.b c.part.ensures c.self.invariant
