use Rattle.std.proofs.Common.{◌≡◌, ◌≤◌, length}
use Rattle.aodv_asked.specs.Requests.{ids_below}
use Rattle.mesh_save.proofs.radio_part.count_links_of.Given as goal

abbrev pub invariant-loop-b : goal.invariant-loop-b
invariant-loop-b l = (l.count ≡ length (ids_below l.b l.radio.ever l.a)) × (l.count ≤ l.b)
