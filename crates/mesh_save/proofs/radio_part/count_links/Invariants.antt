use Rattle.std.proofs.Common.{◌≡◌, ◌≤◌, ◌*◌, length}
use Rattle.mesh_save.proofs.Rows.{rows_before}
use Rattle.mesh_save.proofs.radio_part.count_links.Given as goal

abbrev pub invariant-loop-a : goal.invariant-loop-a
invariant-loop-a l = (l.count ≡ length (rows_before l.radio.ever l.a)) × (l.count ≤ l.a * 200)
