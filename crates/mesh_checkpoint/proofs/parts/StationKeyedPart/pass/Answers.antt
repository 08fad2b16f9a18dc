use Rattle.std.proofs.Common.{refl, arith}
use Rattle.mesh_checkpoint.proofs.parts.StationKeyedPart.pass.Goals as goal

pub returns : goal.returns
returns c = record {
  passed = record {
    value = (c.in_ok-station.station.address, c.in_ok-station.station.first);
    read = c.in_ok-station.ensures.value;
    count = refl;
    few = omega (arith, c.in_ok-station.ensures.shorter);
  };
  same = omega (arith, c.from.ensures);
  small = omega (arith, c.from.ensures, c.in_ok-station.ensures.small);
}
