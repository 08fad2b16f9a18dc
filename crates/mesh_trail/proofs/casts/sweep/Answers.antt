use Rattle.std.proofs.Common.{rules}
use Rattle.std.proofs.lemmas.Fn.{filter_same}
use Rattle.mesh_trail.specs.Casts.{flies_in}
use Rattle.mesh_trail.proofs.casts.sweep.Goals as goal

pub returns : goal.returns
returns c = filter_same _ (flies_in c.args.radio.now.flying) _ (λ x b f call. search rules) _ _ c.retain.ensures.filtered
