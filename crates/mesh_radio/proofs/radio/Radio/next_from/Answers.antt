use Rattle.std.proofs.Common.{subst, ◌≤◌, ◌<◌, ◌^◌}
use Rattle.std.specs.Prelude.{IfSome}
use Rattle.mesh_base.specs.Views.{flying_seen}
use Rattle.mesh_radio.specs.Copies.{IsBetween}
use Rattle.mesh_radio.specs.Radios.{RadioState}
use Rattle.mesh_radio.proofs.Finds.{next_all}
use Rattle.mesh_radio.proofs.radio.Radio.next_from.Goals as goal

pub returns-clause-within : goal.returns-clause-within
returns-clause-within c =
    let size = c.self.inside.links.size in
    subst (λ (r : RadioState). IfSome c.next_from.result (λ f. (c.args.id ≤ f.id) × (f.id < r.next_copy) × (r.next_copy < 2 ^ 64) × IsBetween r.size (flying_seen f))) c.self.view_is
    (next_all (IsBetween size) c.self.inside.copies.flying c.args.id c.self.inside.copies.next_copy c.next_from.result c.self.invariant.between c.next_from.ensures.some c.next_from.ensures.below)
