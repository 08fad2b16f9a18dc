use Rattle.std.proofs.Common.{◌∙◌, arith}
use Rattle.mesh_base.proofs.StemLaws.{dotted_after_the_stem}
use Rattle.mesh_base.proofs.octets.Stem.dotted.Goals as goal

pub returns : goal.returns
returns c =
    let stem = c.args.self.now.stem in
    c.front_of.ensures ∙ dotted_after_the_stem c.args.a.0 _ c.args.self.now.high _ _ (omega (arith, c.join-end.array_long, c.join-end.ensures.length, stem.short))
    c.if-a-self.false stem.text c.join-end.ensures.text
