use Rattle.std.proofs.Common.{◌≡◌, ◌≤◌, ◌-◌}
use Rattle.mesh_base.specs.Members.{members_below}
use Rattle.mesh_radio.specs.Kept.{with_flights}
use Rattle.mesh_radio.proofs.copies.Copies.launch_each.Given as goal

abbrev pub invariant-receivers : goal.invariant-receivers
invariant-receivers l = record {
  launched : l.self ≡ with_flights l.initial.self l.from l.bytes (members_below l.start l.to);
  within : l.start ≤ 256;
}

abbrev pub decreases-receivers : goal.decreases-receivers
decreases-receivers l = 256 - l.start
