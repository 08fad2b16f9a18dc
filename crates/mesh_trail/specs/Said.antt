-- What a message says of routes.
use Rattle.std.specs.Prelude.{ℕ, ◌<◌, ⊤}
use Rattle.aodv_model.specs.Cores.{Message, Pkt, Rreq, Rrep, Rerr}
use Rattle.mesh_trail.specs.declared.said.Said as said
use Rattle.mesh_trail.specs.declared.said.Said.TheVariants as says

abbrev pub said_of : Message → said.Said
said_of (Pkt b d o) = says.Parcel
said_of (Rreq m) = says.Request m.oip m.osn m.hops m.dip
said_of (Rrep m) = says.Reply m.dip m.dsn m.hops
said_of (Rerr dests) = says.Error

-- what is said names only nodes of a mesh of this size
abbrev pub IsSaidIn : ℕ → said.Said → Type 0
IsSaidIn size says.Parcel = ⊤
IsSaidIn size says.Error = ⊤
IsSaidIn size (says.Request origin number hops dest) = (origin < size) × (dest < size)
IsSaidIn size (says.Reply dest number hops) = dest < size
