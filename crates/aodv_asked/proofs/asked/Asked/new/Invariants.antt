use Rattle.std.proofs.Common.{◌≡◌, ◌<◌, true, length}
use Rattle.std.specs.List.{All}
use Rattle.std.specs.FinSet as sets
use Rattle.aodv_asked.specs.Intervals.{RoomyIds}
use Rattle.aodv_asked.proofs.RowLaws.{AreEmpty}
use Rattle.aodv_asked.proofs.asked.Asked.new.Given as goal

abbrev pub invariant-loop-o : goal.invariant-loop-o
invariant-loop-o l = record {
  len : length l.rows.items ≡ l.o;
  empty : AreEmpty l.rows.items;
  rooms : All (λ (r : RoomyIds). r.room ≡ 1) l.rows.items;
  roomy : (q : _) → sets.contains l.roomy q ≡ true → q < l.o;
}
