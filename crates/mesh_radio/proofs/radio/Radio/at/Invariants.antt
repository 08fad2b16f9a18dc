use Rattle.std.proofs.Common.{◌≡◌, ◌≤◌, ◌-◌, drop}
use Rattle.mesh_radio.specs.Copies.{from_id}
use Rattle.mesh_radio.proofs.radio.Radio.at.Given as goal

abbrev pub invariant-ranks : goal.invariant-ranks
invariant-ranks l = record {
  here : l.rank ≤ l.k;
  ahead : from_id (l.self).flying l.id ≡ drop l.rank (l.self).flying;
}

abbrev pub decreases-ranks : goal.decreases-ranks
decreases-ranks l = l.k - l.rank
