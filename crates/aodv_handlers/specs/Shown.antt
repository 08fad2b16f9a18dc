-- The model's state for a core, and what handlers require of a core and preserve.
use Rattle.std.specs.Prelude.{◌≡◌, ◌<◌, ℕ, length}
use Rattle.aodv_model.specs.Tables.{Table}
use Rattle.aodv_model.specs.Cores.{Core, RouteRequest, RouteReply, Message, Pkt}
use Rattle.aodv_model.specs.Soundness.{IsSoundCore}
use Rattle.aodv_meaning.specs.Meaning.{status_of}
use Rattle.aodv_handlers.specs.declared.cores.Core as code
use Rattle.aodv_handlers.specs.declared.messages.Request.{Request}
use Rattle.aodv_handlers.specs.declared.messages.Reply.{Reply}
use Rattle.aodv_handlers.specs.declared.messages.Datum.{Datum}

-- the model's core for a core of the code. `entries` gives the table's entries
abbrev pub core_of : {T : Type 0} → (T → Table) → code.Core T → Core
core_of entries c = record {
  ip = c.me;
  variant = c.variant;
  sn = c.sn;
  rt = entries c.table;
  seen = (c.asked).pairs;
  store = (c.waiting).store;
}

-- the core is that of a node of a mesh of this size: its parts are made for that size, and the
-- model's core for it is sound
pub record IsInOrder {T : Type 0} (nodes : T → ℕ) (entries : T
    → Table) (size : ℕ) (c : code.Core T) : Type 0 where
  pub table : nodes c.table ≡ size
  pub asked : length (c.asked).rooms ≡ size
  pub waiting : length (c.waiting).rooms ≡ size
  pub mine : c.me < size
  pub sound : IsSoundCore size (core_of entries c)

-- the model's request, reply and parcel
abbrev pub request_of : Request → RouteRequest
request_of m = record {
  hops = m.hops;
  id = m.id;
  dip = m.dip;
  dsn = m.dsn;
  dsk = status_of m.known;
  oip = m.oip;
  osn = m.osn;
}

abbrev pub reply_of : Reply → RouteReply
reply_of m = record { hops = m.hops; dip = m.dip; dsn = m.dsn; oip = m.oip }

abbrev pub parcel_of : Datum → Message
parcel_of m = Pkt m.body.now m.dip m.oip
