use Rattle.std.proofs.Common.{◌≡◌, length}
use Rattle.aodv_table.specs.Indexed.{AreEmpty}
use Rattle.aodv_table.proofs.row_list.RowList.new.Given as goal

abbrev pub invariant-loop : goal.invariant-loop
invariant-loop l = record {
  each : length l.rows.items ≡ l.counter;
  each_has : length l.precursors.items ≡ l.counter;
  none : AreEmpty l.rows.items;
}
