use Rattle.std.specs.Option.{option_map}
use Rattle.mesh_report.specs.Sums.{sums_of}
use Rattle.mesh_run.proofs.Sound.{sized_at}
use Rattle.mesh_run.proofs.state.State.started.Goals as goal

pub returns-clause-sized : goal.returns-clause-sized
returns-clause-sized g c =
    sized_at c.args.self.now c.self.inside.variant c.self.inside.mesh (option_map g.S.Steps.seen c.self.inside.world) (sums_of c.self.inside.sums) c.self.inside.lines c.self.view_is c.self.invariant
