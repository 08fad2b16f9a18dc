use Rattle.std.proofs.Common.{rules, refl, arith}
use Rattle.mesh_checkpoint.proofs.parts.IndexKeyedPart.pass.Goals as goal

pub returns : goal.returns
returns c = record {
  passed = record {
    value = c.in_ok-index.index;
    read = search rules;
    count = refl;
    few = omega (arith, c.in_ok-index.ensures.shorter);
  };
  same = omega (arith, c.from.ensures);
  small = grind (arith, c.from.ensures, c.in_ok-index.ensures.below);
}
