use Rattle.std.proofs.Common.{Option, refl, ap, ◌∙◌}
use Rattle.std.specs.Option.{option_map}
use Rattle.mesh_world.specs.Seen.{WorldSeen}
use Rattle.mesh_run.proofs.Sound.{totals_none}
use Rattle.mesh_run.proofs.parts.totals_of.Goals as goal

pub returns-in-None-clause-are : goal.returns-in-None-clause-are
returns-in-None-clause-are c = λ m is.
    totals_none m (record { waiting = 0; queued = 0; flying = 0 }) (is ∙ ap (λ (o : Option WorldSeen). option_map (λ (w : WorldSeen). w.world) o) c.in-None.is) refl refl refl
