use Rattle.std.proofs.Common.{◌∷◌, [], ◌++◌, ap, ◌∙◌}
use Rattle.mesh_sound.proofs.Indices.{taken}
use Rattle.mesh_sound.proofs.written.write_error.Goals as goal

pub loop-k-preserved : goal.loop-k-preserved
loop-k-preserved c = c.push.ensures.items ∙ ap (λ ps. ps ++ c.pair.result ∷ []) c.loop-k.invariant ∙ taken c.args.m.now c.loop-k.k c.pair.result c.pair.ensures
