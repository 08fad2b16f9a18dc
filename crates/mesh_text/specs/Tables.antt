-- Part of what the headline says.
-- The text of a world's state: a node, the end of a route, and the copies in flight.
use Rattle.std.specs.Prelude.{ℕ, Bool, if◌then◌else◌, List, [], ◌∷◌, ◌++◌, length, codes, Option, Some, None}
use Rattle.std.specs.List.{flat_map}
use Rattle.std.specs.Fmt.{decimal}
use Rattle.std.specs.FinMap as maps
use Rattle.mesh_base.specs.Meshes.{Nodes}
use Rattle.aodv_model.specs.declared.entry.Entry.{Entry}
use Rattle.aodv_model.specs.declared.entry.Known.{Known}
use Rattle.aodv_model.specs.declared.entry.Known.TheVariants.{Kno, Unk}
use Rattle.aodv_model.specs.declared.entry.Flag.{Flag}
use Rattle.aodv_model.specs.declared.entry.Flag.TheVariants.{Val, Inv}
use Rattle.aodv_model.specs.Pairs.{pairs_in}
use Rattle.aodv_model.specs.Tables.{Table}
use Rattle.aodv_model.specs.Cores.{Body, SeenRequests, Store, Core}
use Rattle.mesh_model.specs.Worlds.{Node, Copy}
use Rattle.mesh_model.specs.Routes.{End, Arrived, Stuck}
use Rattle.mesh_meaning.specs.Packets.{packet_of}
use Rattle.mesh_grammar.specs.Written.{line, label_number}
use Rattle.mesh_text.specs.Lines.{name_of, hex}
use Rattle.mesh_text.specs.Effects.{set_text}

-- ---- a node

-- a label and a number
unfoldable pub number_line : List ℕ → ℕ → List ℕ
number_line label n = line (32 ∷ 32 ∷ label ++ 32 ∷ decimal n)

-- a request of this originator and id
unfoldable pub asked_line : Nodes → ℕ → ℕ → List ℕ
asked_line mesh o id = line (codes "  asked " ++ name_of mesh o ++ 32 ∷ decimal id)

-- the requests that were seen, in ascending order of originator and then of id
unfoldable pub asked_text : Nodes → SeenRequests → List ℕ
asked_text mesh seen = flat_map (λ p. asked_line mesh p.0 p.1) (pairs_in seen)

abbrev pub known_text : Known → List ℕ
known_text Kno = codes " kno "
known_text Unk = codes " unk "

abbrev pub flag_text : Flag → List ℕ
flag_text Val = codes "val "
flag_text Inv = codes "inv "

-- destination, number, status, flag, hops, next hop, precursors
unfoldable pub entry_text : Nodes → ℕ → Entry → List ℕ
entry_text mesh d e =
    line (codes "  entry " ++ name_of mesh d ++ 32 ∷ decimal e.dsn ++ known_text e.dsk
    ++ flag_text e.flag ++ decimal e.hops
    ++ 32 ∷ name_of mesh e.next ++ 32 ∷ set_text mesh e.pre)

-- the entries of a table, in ascending order of destination
unfoldable pub routes_text : Nodes → Table → List ℕ
routes_text mesh rt = flat_map (λ e. entry_text mesh e.0 e.1) (maps.entries rt)

abbrev pub req_text : Bool → List ℕ
req_text needs = if needs then codes " req " else codes " noreq "

-- how many data wait for d, and whether a request is still to be made
unfoldable pub waits_line : Nodes → ℕ → Bool → ℕ → List ℕ
waits_line mesh d needs count =
    line (codes "  waits " ++ name_of mesh d ++ req_text needs ++ decimal count)

-- the line of the data that wait for d, if there are any
abbrev pub waits_text : Nodes → ℕ → Bool → List Body → List ℕ
waits_text mesh d needs [] = []
waits_text mesh d needs (b ∷ bs) = waits_line mesh d needs (length (b ∷ bs))

-- what waits in a store, in ascending order of destination
unfoldable pub store_text : Nodes → Store → List ℕ
store_text mesh store =
    flat_map (λ e. waits_text mesh e.0 (e.1).needs_request (e.1).bodies) (maps.entries store)

-- a node: its own number; the requests that it has seen, its entries and its waiting data, each in
-- ascending order of address; and how many items its queue has
unfoldable pub node_text : Nodes → Core → ℕ → List ℕ
node_text mesh core queue =
    number_line (codes "sn") core.sn
    ++ asked_text mesh core.seen
    ++ routes_text mesh core.rt
    ++ store_text mesh core.store
    ++ number_line (codes "inbox") queue

abbrev pub node_text_in : Nodes → Option Node → List ℕ
node_text_in mesh None = []
node_text_in mesh (Some n) = node_text mesh n.core (length n.queue)

-- ---- a route

unfoldable pub stuck_line : Nodes → ℕ → ℕ → List ℕ
stuck_line mesh at hops = line (codes "  stuck " ++ name_of mesh at ++ 32 ∷ decimal hops)

abbrev pub end_text : Nodes → End → List ℕ
end_text mesh (Arrived hops) = number_line (codes "arrived") hops
end_text mesh (Stuck at hops) = stuck_line mesh at hops

-- ---- the radio

-- a copy in flight
unfoldable pub flying_text : Nodes → Copy → List ℕ
flying_text mesh c =
    line (label_number (codes "  copy ") c.id ++ 32 ∷ name_of mesh c.from ++ 32 ∷ name_of mesh c.to
    ++ 32 ∷ hex (packet_of mesh c.message))

abbrev pub flight_text : Nodes → List Copy → List ℕ
flight_text mesh [] = []
flight_text mesh (c ∷ cs) = flying_text mesh c ++ flight_text mesh cs
