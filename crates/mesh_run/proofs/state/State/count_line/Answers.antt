use Rattle.std.proofs.Common.{◌+◌}
use Rattle.std.specs.Option.{option_map}
use Rattle.mesh_report.specs.Sums.{sums_of}
use Rattle.mesh_run.proofs.Sound.{sound_counted}
use Rattle.mesh_run.proofs.state.State.count_line.Goals as goal

pub invariant_of-self : goal.invariant_of-self
invariant_of-self g c = sound_counted c.self.inside.variant c.self.inside.mesh (option_map g.S.Steps.seen c.self.inside.world) (sums_of c.self.inside.sums) c.self.inside.lines (c.self.inside.lines + 1) c.self.invariant
