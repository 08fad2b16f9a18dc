use Rattle.std.proofs.Common.{rules}
use Rattle.mesh_report.specs.Sums.{sums_of}
use Rattle.mesh_run.proofs.Sound.{sound_empty}
use Rattle.mesh_run.proofs.state.State.with.Goals as goal

pub invariant_of-result : goal.invariant_of-result
invariant_of-result g c = sound_empty c.args.variant c.new.result (sums_of c.new-2.result) c.new.ensures (search rules)
