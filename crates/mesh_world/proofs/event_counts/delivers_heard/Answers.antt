use Rattle.mesh_world.proofs.Gains.{delivers_taken}
use Rattle.mesh_world.proofs.event_counts.delivers_heard.Goals as goal

pub returns-then-effect : goal.returns-then-effect
returns-then-effect c = λ from bytes air mesh x old new packet e all is.
    delivers_taken old new e _ _ _ c.has_datum.result is c.if-effect.true (λ y. c.has_datum.ensures.taken mesh y from bytes all.0)
