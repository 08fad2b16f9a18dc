-- The program's effects and kinds for the model's, and the model's items for the program's. In the
-- program a message is in its packet.
use Rattle.mesh_base.specs.Meshes.{Nodes}
use Rattle.mesh_base.specs.declared.events.Effect as effects
use Rattle.mesh_base.specs.declared.events.Cast as cast
use Rattle.mesh_base.specs.declared.events.Cast.TheVariants as casts
use Rattle.mesh_base.specs.declared.events.Kind.{Kind}
use Rattle.mesh_base.specs.declared.events.Kind.TheVariants as kinds
use Rattle.mesh_base.specs.declared.events.Item as items
use Rattle.mesh_base.specs.declared.events.Item.TheVariants as item
use Rattle.aodv_model.specs.Cores.{Message, Pkt, Rreq, Rrep, Rerr, Item, New, Heard}
use Rattle.aodv_model.specs.Handlers.{Cast, Nothing, One, Many, All, Effect}
use Rattle.aodv_meaning.specs.Meaning.{meaning}

-- a cast without its message, which is in the packet
abbrev pub cast_of : Cast → cast.Cast
cast_of Nothing = casts.Nothing
cast_of (One y m) = casts.One y
cast_of (Many s m) = casts.Many s
cast_of (All m) = casts.All

abbrev pub effect_of : Effect → effects.Effect
effect_of e = record {
  deliver = e.deliver;
  lost = e.lost;
  broken = e.broken;
  cast = cast_of e.cast;
}

abbrev pub kind_of : Message → Kind
kind_of (Pkt b d o) = kinds.Data
kind_of (Rreq m) = kinds.Rreq
kind_of (Rrep m) = kinds.Rrep
kind_of (Rerr dests) = kinds.Rerr

-- an item of a queue: a packet is what its bytes mean in the mesh
abbrev pub item_in : Nodes → items.Item → Item
item_in mesh (item.New dest body) = New body dest
item_in mesh (item.Heard from bytes) = Heard from (meaning mesh bytes)
