use Rattle.std.proofs.Common.{◌≡◌, take}
use Rattle.aodv_wire.specs.RouteError.{addresses, repeated_address}
use Rattle.aodv_wire.proofs.Repeats.{AllBelow, repeated_rest}
use Rattle.aodv_wire.proofs.route_error.RerrView.repeated_address.Given as goal

abbrev pub invariant-loop-k : goal.invariant-loop-k
invariant-loop-k l = record {
  below : AllBelow (take l.k (addresses l.self)) l.above;
  so_far : repeated_rest (addresses l.self) l.k ≡ repeated_address l.self;
}
