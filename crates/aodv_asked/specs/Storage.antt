-- How the intervals of a list are kept.
use Rattle.std.specs.Prelude.{◌-◌, [], ◌∷◌}
use Rattle.std.specs.Vec.{vec_len, vec_capacity}
use Rattle.aodv_asked.specs.declared.intervals.Storage.{Storage}
use Rattle.aodv_asked.specs.declared.intervals.Storage.TheVariants.{Empty, One, Few, Many}
use Rattle.aodv_asked.specs.Spots.{RoomyIntervals}

-- what is seen of a list that is kept so
abbrev pub stored : Storage → RoomyIntervals
stored Empty = record { items = []; room = 1; lengths = [] }
stored (One v) = record { items = v ∷ []; room = 0; lengths = [] }
stored (Few b) = record {
  items = b.value.items;
  room = vec_capacity b.value - vec_len b.value;
  lengths = [];
}
stored (Many b) = b.value
