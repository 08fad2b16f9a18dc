use Rattle.std.proofs.Common.{ap, arith}
use Rattle.mesh_radio.specs.Radios.{RadioState}
use Rattle.mesh_radio.proofs.Links.{radio_linked}
use Rattle.mesh_radio.proofs.radio.Radio.link.Goals as goal

pub invariant_of-self : goal.invariant_of-self
invariant_of-self c =
    let size = ap (λ (r : RadioState). r.size) c.self.view_is in
    radio_linked c.self.inside.links c.self.inside.ever c.join.new.self c.join-2.new.self c.self.inside.copies c.args.a c.args.b c.join.ensures c.join-2.ensures
    (omega (arith, c.requires.first)) (omega (arith, c.requires.second)) c.requires.differ c.self.invariant
