use Rattle.std.specs.Option.{option_map}
use Rattle.mesh_report.specs.Sums.{sums_of}
use Rattle.mesh_run.proofs.Sound.{safe_at, variant_at}
use Rattle.mesh_run.proofs.state.State.world.Goals as goal

pub returns-clause-safe : goal.returns-clause-safe
returns-clause-safe g c =
    safe_at c.args.self.now c.self.inside.variant c.self.inside.mesh (option_map g.S.Steps.seen c.self.inside.world) (sums_of c.self.inside.sums) c.self.inside.lines c.self.view_is c.self.invariant

pub returns-clause-variant : goal.returns-clause-variant
returns-clause-variant g c =
    variant_at c.args.self.now c.self.inside.variant c.self.inside.mesh (option_map g.S.Steps.seen c.self.inside.world) (sums_of c.self.inside.sums) c.self.inside.lines c.self.view_is c.self.invariant
