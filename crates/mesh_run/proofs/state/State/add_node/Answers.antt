use Rattle.std.proofs.Common.{rules, ◌∙◌, ap, sym, subst}
use Rattle.std.specs.Option.{option_map}
use Rattle.mesh_text.specs.Schedule.{RunState}
use Rattle.mesh_text.specs.Ranges.{IsNewNode}
use Rattle.mesh_report.specs.Sums.{sums_of}
use Rattle.mesh_run.proofs.Sound.{sound_grown}
use Rattle.mesh_run.proofs.state.State.add_node.Goals as goal

pub invariant_of-self : goal.invariant_of-self
invariant_of-self g c =
    sound_grown c.self.inside.variant c.self.inside.mesh c.add.new.self (option_map g.S.Steps.seen c.self.inside.world) (sums_of c.self.inside.sums) c.self.inside.lines c.args.a.0 c.args.first
    (ap (λ (m : RunState). m.world) c.self.view_is ∙ c.requires.before) (search rules) (subst (λ (m : RunState). IsNewNode m.mesh c.args.a.0 c.args.first) (sym c.self.view_is) c.requires.new) c.self.invariant
