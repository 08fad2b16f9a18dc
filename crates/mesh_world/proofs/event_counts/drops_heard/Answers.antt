use Rattle.std.proofs.Common.{ap, ◌∙◌}
use Rattle.std.specs.Prelude.{if◌then◌else◌}
use Rattle.mesh_base.specs.declared.events.Took.TheVariants as takes
use Rattle.mesh_model.specs.Accounts.{any, in_dropped}
use Rattle.mesh_meaning.specs.Answers.{took_in}
use Rattle.mesh_world.proofs.event_counts.drops_heard.Goals as goal

pub returns-then-effect : goal.returns-then-effect
returns-then-effect c = λ from bytes air mesh x w packet e all.
    ap (λ b. if b then in_dropped any (took_in mesh (takes.Heard from c.args.kind bytes)) else 0) c.if-effect.true ∙ c.has_datum.ensures.dropped mesh from bytes all.0
