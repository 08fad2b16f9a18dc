use Rattle.std.proofs.Common.{◌∙◌, ap, subst}
use Rattle.mesh_base.specs.declared.events.Done.{Done}
use Rattle.mesh_meaning.specs.Answers.{outcome_in, IsDoneInMesh}
use Rattle.mesh_world.proofs.Gains.{delivers_taken}
use Rattle.mesh_world.proofs.event_counts.delivers.Goals as goal

pub returns-then-effect : goal.returns-then-effect
returns-then-effect c = λ mesh x old new packet e all is.
    let P : Done → Type 0 = λ d. IsDoneInMesh mesh d packet in
    let within = subst P c.in-Taken.is all in
    delivers_taken old new e _ _ _ c.is_own_or_data.result (is ∙ ap (λ d. outcome_in mesh x new d packet) c.in-Taken.is) c.if-effect.true
    (λ y. c.is_own_or_data.ensures mesh y within.0)
