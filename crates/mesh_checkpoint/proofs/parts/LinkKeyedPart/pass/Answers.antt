use Rattle.std.proofs.Common.{refl, sym, arith}
use Rattle.mesh_checkpoint.specs.Views.{link_of}
use Rattle.mesh_checkpoint.proofs.parts.LinkKeyedPart.pass.Goals as goal

pub returns : goal.returns
returns c = record {
  passed = record {
    value = link_of c.in_ok-link.link;
    read = c.in_ok-link.ensures.value;
    count = refl;
    few = omega (arith, c.in_ok-link.ensures.shorter);
  };
  same = sym c.key.ensures.key;
  small = c.key.ensures.small;
}
