use Rattle.std.proofs.Common.{refl, sym, arith}
use Rattle.mesh_checkpoint.proofs.parts.RequestKeyedPart.pass.Goals as goal

pub returns : goal.returns
returns c = record {
  passed = record {
    value = (c.in_ok-request.request.origin, c.in_ok-request.request.id);
    read = c.in_ok-request.ensures.value;
    count = refl;
    few = omega (arith, c.in_ok-request.ensures.shorter);
  };
  same = sym c.key.ensures.key;
  small = c.key.ensures.small;
}
