-- What waits at the front of a queue, and what its node learns of it.
use Rattle.std.specs.Prelude.{ℕ, ◌+◌, ◌<◌, ◌==◌, Bool, false, ◌&&◌, Option, Some, None, List, [], ◌∷◌, ⊤}
use Rattle.std.specs.FinMap as maps
use Rattle.aodv_model.specs.declared.entry.Entry.{Entry}
use Rattle.aodv_model.specs.Quality.{is_val}
use Rattle.aodv_model.specs.Tables.{Table}
use Rattle.aodv_model.specs.Cores.{Item, New, Heard}
use Rattle.mesh_model.specs.Worlds.{Node}
use Rattle.mesh_trail.specs.declared.said.Said.{Said}
use Rattle.mesh_trail.specs.declared.said.Said.TheVariants as says
use Rattle.mesh_trail.specs.declared.heard.Front as front
use Rattle.mesh_trail.specs.declared.heard.Front.TheVariants as fronts
use Rattle.mesh_trail.specs.declared.heard.Lesson.{Lesson}
use Rattle.mesh_trail.specs.Said.{said_of, IsSaidIn}

abbrev pub front_in : List Item → front.Front
front_in [] = fronts.Empty
front_in (New b d ∷ items) = fronts.New
front_in (Heard y m ∷ items) = fronts.Heard y (said_of m)

abbrev pub front_of : Option Node → front.Front
front_of None = fronts.Empty
front_of (Some n) = front_in n.queue

-- what waits names only nodes of a mesh of this size
abbrev pub IsFrontIn : ℕ → front.Front → Type 0
IsFrontIn size fronts.Empty = ⊤
IsFrontIn size fronts.New = ⊤
IsFrontIn size (fronts.Heard from said) = (from < size) × IsSaidIn size said

-- there is an entry, and it leads to the neighbour y itself
abbrev pub leads_to : ℕ → Option Entry → Bool
leads_to y None = false
leads_to y (Some e) = (e.hops == 1) && (e.next == y)

-- there is an entry; it is valid, and leads to the neighbour y itself
abbrev pub is_known : ℕ → Option Entry → Bool
is_known y None = false
is_known y (Some e) = is_val e.flag && ((e.hops == 1) && (e.next == y))

-- what waits is from a neighbour to which the table has a valid route of one hop
abbrev pub knows : Table → front.Front → Bool
knows rt fronts.Empty = false
knows rt fronts.New = false
knows rt (fronts.Heard y s) = is_known y (maps.get rt y)

-- there is an entry; it has this number, one hop more than h, and next hop y
abbrev pub announces : ℕ → ℕ → ℕ → Option Entry → Bool
announces y n h None = false
announces y n h (Some e) = (e.dsn == n) && ((e.hops == h + 1) && (e.next == y))

-- what a node, whose table is now `rt`, has learnt from what the neighbour y said
abbrev pub lesson_of : Table → ℕ → Said → Lesson
lesson_of rt y says.Parcel = record { from = y; near = false; dest = y; announced = false }
lesson_of rt y says.Error =
    record { from = y; near = leads_to y (maps.get rt y); dest = y; announced = false }
lesson_of rt y (says.Request origin n h dest) =
    record {
      from = y;
      near = leads_to y (maps.get rt y);
      dest = origin;
      announced = announces y n h
          (maps.get rt origin);
    }
lesson_of rt y (says.Reply dest n h) =
    record {
      from = y;
      near = leads_to y (maps.get rt y);
      dest = dest;
      announced = announces y n h
          (maps.get rt dest);
    }
