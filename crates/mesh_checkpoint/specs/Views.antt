-- What a part that was read means, and what follows its head.
use Rattle.std.specs.Prelude.{ℕ, ⊤, List, Option, Some}
use Rattle.aodv_model.specs.Soundness.{IsDatum}
use Rattle.mesh_base.specs.declared.events.Flying.{Flying}
use Rattle.mesh_base.specs.declared.events.FlyingView.{FlyingView}
use Rattle.mesh_base.specs.declared.events.Item.{Item}
use Rattle.mesh_base.specs.declared.events.Item.TheVariants as item
use Rattle.mesh_checkpoint.specs.declared.reading.ItemView.{ItemView}
use Rattle.mesh_checkpoint.specs.declared.reading.ItemView.TheVariants.{New, Heard}
use Rattle.mesh_checkpoint.specs.declared.reading.Link as read_link
use Rattle.mesh_checkpoint.specs.declared.reading.RouteHead.{RouteHead}
use Rattle.mesh_checkpoint.specs.declared.reading.WaitsHead.{WaitsHead}
use Rattle.mesh_checkpoint.specs.Formats.{◌>>=◌, get_times, get_rising}
use Rattle.mesh_checkpoint.specs.Checkpoint.{Route, Waits, Link, index, datum}

abbrev pub link_of : read_link.Link → Link
link_of l = record { a = l.a; b = l.b; stands = l.stands }

abbrev pub copy_of : FlyingView → Flying
copy_of c = record { id = c.id; from = c.from; to = c.to; bytes = c.bytes.now }

abbrev pub item_of : ItemView → Item
item_of (New dest body) = item.New dest body.now
item_of (Heard from bytes) = item.Heard from bytes.now

-- what a node is given has 1 to 512 bytes
abbrev pub HasDatum : ItemView → Type 0
HasDatum (New dest body) = IsDatum body.now
HasDatum (Heard from bytes) = ⊤

-- the route with this head, whose precursors are at the start of the bytes, and the bytes after it
abbrev pub route_behind : ℕ → RouteHead → List ℕ → Option (Route × List ℕ)
route_behind nodes h bytes =
    get_rising (λ i. i) (index nodes).get h.precursors 0 bytes >>= λ x. Some (
      record {
        dest = h.dest;
        number = h.number;
        known = h.known;
        valid = h.valid;
        hops = h.hops;
        next = h.next;
        precursors = x.0;
      },
      x.1,
    )

-- what waits with this head, whose data are at the start of the bytes, and the bytes after it
abbrev pub waits_behind : WaitsHead → List ℕ → Option (Waits × List ℕ)
waits_behind h bytes =
    get_times datum.get h.data bytes >>= λ x. Some (
      record {
        dest = h.dest;
        needs_request = h.needs_request;
        bodies = x.0;
      },
      x.1,
    )
