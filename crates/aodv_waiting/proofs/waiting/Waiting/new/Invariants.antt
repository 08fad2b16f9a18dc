use Rattle.std.proofs.Common.{◌≡◌, length, map}
use Rattle.aodv_waiting.specs.Rows.{bodies_in_row}
use Rattle.aodv_waiting.proofs.StoreLaws.{AreEmpty}
use Rattle.aodv_waiting.proofs.waiting.Waiting.new.Given as goal

abbrev pub invariant-loop : goal.invariant-loop
invariant-loop l = record { len : length l.rows.items ≡ l.counter; empty : AreEmpty (map bodies_in_row l.rows.items) }
