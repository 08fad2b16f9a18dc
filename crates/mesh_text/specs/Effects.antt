-- Part of what the headline says.
-- The text of what an event did. Its effects are the lines below the event, each after two spaces.
use Rattle.std.specs.Prelude.{ℕ, ◌==◌, ◌&&◌, not, nat_le, List, [], ◌∷◌, ◌++◌, length, codes, if◌then◌else◌, Option, Some, None}
use Rattle.std.specs.List.{flat_map}
use Rattle.mesh_base.specs.Members.{NodeIds}
use Rattle.mesh_base.specs.Meshes.{Nodes}
use Rattle.aodv_model.specs.Cores.{Body, Message, Pkt, Rreq, Rrep, Rerr}
use Rattle.aodv_model.specs.Handlers.{Cast, Nothing, One, Many, All, Effect, Took, Own, Stored, FromNeighbour}
use Rattle.mesh_model.specs.Worlds as worlds
use Rattle.mesh_model.specs.Worlds.{Copy, Event, WorldEffect, Changed, Taken, Sent, CopyHeard, CopyLost, CopyDoubled, Outcome, Idle, Next, members_below}
use Rattle.mesh_meaning.specs.Events.{node_of}
use Rattle.mesh_meaning.specs.Packets.{packet_of}
use Rattle.mesh_grammar.specs.Written.{line, label_number}
use Rattle.mesh_text.specs.Lines.{name_of, hex, hex_byte, event_words}

-- ---- data

-- a byte of a datum: from the space to the tilde it is written as itself, except for the backslash;
-- any other byte is \x and its two hexadecimal digits
abbrev pub shown_byte : ℕ → List ℕ
shown_byte b =
    if nat_le 32 b && nat_le b 126 && not (b == 92) then b ∷ [] else codes "\\x" ++ hex_byte b

-- a datum of one node for another, after what became of it
abbrev pub datum_text : List ℕ → Nodes → ℕ → ℕ → Body → List ℕ
datum_text label mesh origin dest body =
    line (label ++ name_of mesh origin ++ 32 ∷ name_of mesh dest
    ++ 32 ∷ flat_map shown_byte body)

-- the datum of a message: only a data packet has one
abbrev pub datum_in : List ℕ → Nodes → Message → List ℕ
datum_in label mesh (Pkt body d o) = datum_text label mesh o d body
datum_in label mesh (Rreq m) = []
datum_in label mesh (Rrep m) = []
datum_in label mesh (Rerr dests) = []

-- ---- what a turn took

abbrev pub kind_text : Message → List ℕ
kind_text (Pkt body d o) = codes "data "
kind_text (Rreq m) = codes "rreq "
kind_text (Rrep m) = codes "rrep "
kind_text (Rerr dests) = codes "rerr "

-- what node x took
abbrev pub took_text : Nodes → ℕ → Took → List ℕ
took_text mesh x (Own body) = line (codes "  took new " ++ name_of mesh x)
took_text mesh x (Stored dest) = line (codes "  took new " ++ name_of mesh dest)
took_text mesh x (FromNeighbour from m) = line (codes "  took " ++ kind_text m ++ name_of mesh from)

-- node x has delivered what it took
abbrev pub delivery_text : Nodes → ℕ → Took → List ℕ
delivery_text mesh x (Own body) = datum_text (codes "  delivered ") mesh x x body
delivery_text mesh x (Stored dest) = []
delivery_text mesh x (FromNeighbour from m) = datum_in (codes "  delivered ") mesh m

-- the node has dropped what it took
abbrev pub drop_text : Nodes → Took → List ℕ
drop_text mesh (Own body) = []
drop_text mesh (Stored dest) = []
drop_text mesh (FromNeighbour from m) = datum_in (codes "  dropped ") mesh m

-- ---- what was cast

-- the rest of a list of nodes, each after a comma
abbrev pub more_names : Nodes → List ℕ → List ℕ
more_names mesh [] = []
more_names mesh (x ∷ xs) = 44 ∷ name_of mesh x ++ more_names mesh xs

-- nodes, joined by commas; a hyphen if there is none
abbrev pub names : Nodes → List ℕ → List ℕ
names mesh [] = codes "-"
names mesh (x ∷ xs) = name_of mesh x ++ more_names mesh xs

-- the members of a set, in ascending order of address
abbrev pub set_text : Nodes → NodeIds → List ℕ
set_text mesh s = names mesh (members_below (length mesh) s)

abbrev pub broken_text : Nodes → Option ℕ → List ℕ
broken_text mesh None = []
broken_text mesh (Some y) = line (codes "  broken " ++ name_of mesh y)

abbrev pub cast_text : Nodes → Cast → List ℕ
cast_text mesh Nothing = []
cast_text mesh (One y m) =
    line (codes "  sent one " ++ name_of mesh y ++ 32 ∷ hex (packet_of mesh m))
cast_text mesh (Many s m) =
    line (codes "  sent many " ++ set_text mesh s ++ 32 ∷ hex (packet_of mesh m))
cast_text mesh (All m) = line (codes "  sent all " ++ hex (packet_of mesh m))

-- the copies of a cast, each with its id and receiver
abbrev pub copies_text : Nodes → List Copy → List ℕ
copies_text mesh [] = []
copies_text mesh (c ∷ cs) =
    line (label_number (codes "  copy ") c.id ++ 32 ∷ name_of mesh c.to) ++ copies_text mesh cs

-- a failed unicast, what was cast, and its copies
abbrev pub sent_text : Nodes → Effect → List Copy → List ℕ
sent_text mesh e copies =
    broken_text mesh e.broken ++ cast_text mesh e.cast ++ copies_text mesh copies

-- ---- events

-- the fate of a datum that node x took: delivered, dropped, or neither
abbrev pub datum_fate : Nodes → ℕ → Took → Effect → List ℕ
datum_fate mesh x took e =
    (if e.deliver then delivery_text mesh x took else [])
    ++ (if e.lost then drop_text mesh took else [])

unfoldable pub world_effect_text : Nodes → ℕ → WorldEffect → List ℕ
world_effect_text mesh x Changed = []
world_effect_text mesh x (Taken took e copies) =
    took_text mesh x took ++ datum_fate mesh x took e ++ sent_text mesh e copies
world_effect_text mesh x (Sent e copies) = sent_text mesh e copies
world_effect_text mesh x (CopyHeard from to) =
    line (codes "  heard " ++ name_of mesh from ++ 32 ∷ name_of mesh to)
world_effect_text mesh x (CopyLost c) =
    line (codes "  lost " ++ name_of mesh c.from ++ 32 ∷ name_of mesh c.to)
    ++ datum_in (codes "  dropped ") mesh c.message
world_effect_text mesh x (CopyDoubled id to parcel) =
    line (label_number (codes "  copy ") id ++ 32 ∷ name_of mesh to)

-- the outcome of an event at node x. A refused event isn't written
abbrev pub outcome_text : Nodes → ℕ → Outcome → List ℕ
outcome_text mesh x Idle = line (codes "  idle")
outcome_text mesh x (worlds.Full node field) = []
outcome_text mesh x (Next w world_effect) = world_effect_text mesh x world_effect

-- an event, and its outcome below it
unfoldable pub outcome_lines : Nodes → Event → Outcome → List ℕ
outcome_lines mesh e o = line (event_words mesh e) ++ outcome_text mesh (node_of e) o
