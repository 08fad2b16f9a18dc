use Rattle.std.proofs.Common.{◌≡◌, eqb, take}
use Rattle.std.specs.List.{list_any}
use Rattle.aodv_wire.specs.RouteError.{addresses}
use Rattle.aodv_wire.proofs.Repeats.{any_rest}
use Rattle.aodv_wire.proofs.route_error.RerrView.has_before.Given as goal

abbrev pub invariant-loop-j : goal.invariant-loop-j
invariant-loop-j l = any_rest (addresses l.self) l.k l.a.0 l.j ≡ list_any (λ s. eqb s.0 l.a.0) (take l.k (addresses l.self))
