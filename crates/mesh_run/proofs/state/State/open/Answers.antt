use Rattle.std.proofs.Common.{rules, ◌∙◌, ap}
use Rattle.std.specs.Option.{option_map}
use Rattle.mesh_text.specs.Schedule.{RunState}
use Rattle.mesh_report.specs.Sums.{sums_of}
use Rattle.mesh_run.proofs.Sound.{sound_started}
use Rattle.mesh_run.proofs.state.State.open.Goals as goal

pub invariant_of-self : goal.invariant_of-self
invariant_of-self g c =
    sound_started c.self.inside.variant c.self.inside.mesh (option_map g.S.Steps.seen c.self.inside.world) (sums_of c.self.inside.sums) c.self.inside.lines (g.S.Steps.seen c.in_ok-world.world)
    (search rules) (ap (λ (m : RunState). m.world) c.self.view_is ∙ c.requires.before) (search rules) c.self.invariant
