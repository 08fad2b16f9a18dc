use Rattle.std.proofs.Common.{refl, sym, arith}
use Rattle.mesh_checkpoint.specs.Views.{copy_of}
use Rattle.mesh_checkpoint.proofs.parts.InFlightKeyedPart.pass.Goals as goal

pub returns : goal.returns
returns c = record {
  passed = record {
    value = copy_of c.in_ok-copy.copy;
    read = c.in_ok-copy.ensures.value;
    count = sym c.data_of.ensures.value;
    few = omega (arith, c.in_ok-copy.ensures.shorter, c.data_of.ensures.few);
  };
  same = refl;
  small = omega (arith, c.in_ok-copy.ensures.old);
}
