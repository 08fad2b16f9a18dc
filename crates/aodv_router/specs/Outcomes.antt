-- What a node has done, in addresses.
use Rattle.std.specs.Prelude.{◌≡◌, ℕ, Option, Some, None, IsSome, IfSome, List, [], ◌∷◌, ⊤}
use Rattle.std.specs.List.{AllByRecursion}
use Rattle.std.specs.Option.{option_map}
use Rattle.mesh_base.specs.Meshes.{Nodes, addr_at, index_of}
use Rattle.mesh_base.specs.declared.events.Cast as casts
use Rattle.mesh_base.specs.declared.events.Cast.TheVariants as cast
use Rattle.mesh_base.specs.declared.events.Effect as effects
use Rattle.mesh_base.specs.declared.events.Took as taken
use Rattle.mesh_base.specs.declared.events.Took.TheVariants as takes
use Rattle.aodv_model.specs.Soundness.{IsDatum}
use Rattle.aodv_wire.specs.declared.error.WireError.{WireError}
use Rattle.aodv_wire.specs.declared.message.Message as wire
use Rattle.aodv_wire.specs.declared.message.Message.TheVariants as messages
use Rattle.aodv_wire.specs.Encodes.{refusal, message_in_fields}
use Rattle.aodv_node.specs.declared.answers.TurnDone as done
use Rattle.aodv_router.specs.declared.outcome.Outcome.{Outcome}
use Rattle.aodv_router.specs.declared.outcome.Casting.{Casting}
use Rattle.aodv_router.specs.declared.outcome.Casting.TheVariants as castings
use Rattle.aodv_router.specs.declared.outcome.Taken.{Taken}
use Rattle.aodv_router.specs.declared.outcome.Taken.TheVariants as told
use Rattle.aodv_router.specs.Stations.{addrs_of}

-- ---- what was taken

abbrev pub taken_in : Nodes → taken.Took → Taken
taken_in nodes (takes.Own body) = told.Own
taken_in nodes (takes.Stored dest) = told.Stored (addr_at nodes dest)
taken_in nodes (takes.Heard from kind bytes) = told.Heard (addr_at nodes from) kind

-- the datum of a message; a route request, a reply and an error have none
abbrev pub datum_of : wire.Message → List ℕ
datum_of (messages.Rreq m) = []
datum_of (messages.Rrep m) = []
datum_of (messages.Rerr pairs) = []
datum_of (messages.Parcel p) = p.body

-- the datum of the message in a packet's fields, or no bytes if the packet is refused
abbrev pub datum_unless : Option WireError → wire.Message → List ℕ
datum_unless None m = datum_of m
datum_unless (Some why) m = []

-- the datum that a packet carries
abbrev pub datum_in : List ℕ → List ℕ
datum_in bytes = datum_unless (refusal bytes) (message_in_fields bytes)

-- the datum that was taken and doesn't wait now
abbrev pub body_of : taken.Took → List ℕ
body_of (takes.Own body) = body
body_of (takes.Stored dest) = []
body_of (takes.Heard from kind bytes) = datum_in bytes

-- a datum for the router itself has 1 to 512 bytes
abbrev pub IsTakenDatum : taken.Took → Type 0
IsTakenDatum (takes.Own body) = IsDatum body
IsTakenDatum (takes.Stored dest) = ⊤
IsTakenDatum (takes.Heard from kind bytes) = ⊤

-- ---- what was done

abbrev pub casting_of : casts.Cast → Casting
casting_of cast.Nothing = castings.Nothing
casting_of (cast.One y) = castings.One
casting_of (cast.Many set) = castings.Many
casting_of cast.All = castings.All

-- the addresses that a cast names
abbrev pub named_by : Nodes → casts.Cast → List ℕ
named_by nodes cast.Nothing = []
named_by nodes (cast.One y) = addr_at nodes y ∷ []
named_by nodes (cast.Many set) = addrs_of nodes set
named_by nodes cast.All = []

-- the outcome reports the effect and the packet that is cast
pub record TellsEffect (nodes : Nodes) (e : effects.Effect) (bytes : List ℕ) (o : Outcome)
    : Type 0 where
  pub delivered : o.delivered ≡ e.deliver
  pub lost : o.lost ≡ e.lost
  pub broken : o.broken ≡ option_map (λ y. addr_at nodes y) e.broken
  pub cast : o.cast ≡ casting_of e.cast
  pub to : (o.to).items ≡ named_by nodes e.cast
  pub packet : (o.packet).items ≡ bytes

-- the outcome reports a turn
pub record TellsTurn (nodes : Nodes) (d : done.TurnDone) (bytes : List ℕ) (o : Outcome)
    : Type 0 where
  pub took : o.took ≡ taken_in nodes d.took
  pub body : (o.body).items ≡ body_of d.took
  pub effect : TellsEffect nodes d.effect bytes o

-- the outcome reports what a node did of its own accord: nothing was taken
pub record TellsAct (nodes : Nodes) (e : effects.Effect) (bytes : List ℕ) (o : Outcome)
    : Type 0 where
  pub took : o.took ≡ told.Nothing
  pub body : (o.body).items ≡ []
  pub effect : TellsEffect nodes e bytes o

-- ---- whom it names

-- the mesh has the address
abbrev pub IsIn : Nodes → ℕ → Type 0
IsIn nodes a = IsSome (index_of nodes a)

-- the mesh has the addresses of what was taken
abbrev pub IsTakenIn : Nodes → Taken → Type 0
IsTakenIn nodes told.Nothing = ⊤
IsTakenIn nodes told.Own = ⊤
IsTakenIn nodes (told.Stored dest) = IsIn nodes dest
IsTakenIn nodes (told.Heard from kind) = IsIn nodes from

-- each address that the outcome names is one of the mesh
pub record NamesTheMesh (nodes : Nodes) (o : Outcome) : Type 0 where
  pub took : IsTakenIn nodes o.took
  pub broken : IfSome o.broken (λ a. IsIn nodes a)
  pub to : AllByRecursion (λ a. IsIn nodes a) (o.to).items
