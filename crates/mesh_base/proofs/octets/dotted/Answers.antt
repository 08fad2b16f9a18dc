use Rattle.std.proofs.Common.{◌∙◌, arith}
use Rattle.mesh_base.proofs.StemLaws.{dotted_before_the_last}
use Rattle.mesh_base.proofs.octets.dotted.Goals as goal

pub returns : goal.returns
returns c =
    c.front_of.ensures ∙ dotted_before_the_last c.args.a.0 _ _ _ _ _ (omega (arith, c.join-end.array_long, c.join-end.ensures.length, c.join-z.ensures.length, c.join-y.ensures.length, c.join-x.ensures.length))
    c.join-x.ensures.text c.join-y.ensures.text c.join-z.ensures.text c.join-end.ensures.text
