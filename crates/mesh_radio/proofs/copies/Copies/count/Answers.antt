use Rattle.std.proofs.Common.{subst}
use Rattle.mesh_radio.specs.Copies.{AreNumbered}
use Rattle.mesh_radio.specs.Kept.{Flights}
use Rattle.mesh_radio.proofs.Entries.{copies-numbered}
use Rattle.mesh_radio.proofs.copies.Copies.count.Goals as goal

pub returns-clause-numbered : goal.returns-clause-numbered
returns-clause-numbered c =
    let inside = c.self.inside in
    subst (λ (v : Flights). AreNumbered 1 v.flying v.next_copy) c.self.view_is (copies-numbered 1 inside.next inside.casts.entries (c.self.invariant.0).casts.rising)
