-- What an event and a node's step did, by the bytes of the packets themselves: these are written as
-- they are, whether or not they are what is written of a message of the mesh.
use Rattle.std.specs.Prelude.{ℕ, ◌+◌, List, [], ◌∷◌, ◌++◌, length, codes, if◌then◌else◌, Option, Some, None}
use Rattle.std.specs.List.{flat_map}
use Rattle.std.specs.Borrow.{Bor}
use Rattle.mesh_base.specs.Addresses.{dotted_decimal}
use Rattle.mesh_base.specs.Meshes.{Nodes}
use Rattle.mesh_base.specs.declared.events.Air.{Air}
use Rattle.mesh_base.specs.declared.events.Cast as casts
use Rattle.mesh_base.specs.declared.events.Cast.TheVariants as cast
use Rattle.mesh_base.specs.declared.events.Effect.{Effect}
use Rattle.mesh_base.specs.declared.events.Flying.{Flying}
use Rattle.mesh_base.specs.declared.events.Kind.{Kind}
use Rattle.mesh_base.specs.declared.events.Kind.TheVariants as kinds
use Rattle.mesh_base.specs.declared.events.Took as taken
use Rattle.mesh_base.specs.declared.events.Took.TheVariants as takes
use Rattle.mesh_base.specs.declared.events.Done as dones
use Rattle.mesh_base.specs.declared.events.Done.TheVariants as done
use Rattle.aodv_wire.specs.declared.error.WireError.{WireError}
use Rattle.aodv_wire.specs.declared.message.Message.{Message}
use Rattle.aodv_wire.specs.declared.message.Message.TheVariants as messages
use Rattle.aodv_wire.specs.Encodes.{refusal, message_in_fields}
use Rattle.mesh_model.specs.Worlds.{members_below}
use Rattle.mesh_grammar.specs.Written.{line, label_number}
use Rattle.mesh_text.specs.Lines.{name_of, hex}
use Rattle.mesh_text.specs.Effects.{shown_byte, set_text, broken_text, datum_text}

-- a copy in flight
abbrev pub flying_line : Nodes → Flying → List ℕ
flying_line mesh f =
    line (label_number (codes "  copy ") f.id ++ 32 ∷ name_of mesh f.from ++ 32 ∷ name_of mesh f.to
    ++ 32 ∷ hex f.bytes)

-- ---- data

-- the datum of a message, between the addresses in it: only a data packet has one
abbrev pub datum_of : List ℕ → Message → List ℕ
datum_of label (messages.Rreq m) = []
datum_of label (messages.Rrep m) = []
datum_of label (messages.Rerr pairs) = []
datum_of label (messages.Parcel p) =
    line (label ++ dotted_decimal (p.oip).0 ++ 32 ∷ dotted_decimal (p.dip).0
    ++ 32 ∷ flat_map shown_byte p.body)

abbrev pub unless_refused : Option WireError → List ℕ → List ℕ
unless_refused None text = text
unless_refused (Some why) text = []

-- the datum of a packet. One that can't be read has none
abbrev pub datum_line : List ℕ → List ℕ → List ℕ
datum_line label bytes = unless_refused (refusal bytes) (datum_of label (message_in_fields bytes))

-- ---- what a turn took

abbrev pub kind_word : Kind → List ℕ
kind_word kinds.Data = codes "data "
kind_word kinds.Rreq = codes "rreq "
kind_word kinds.Rrep = codes "rrep "
kind_word kinds.Rerr = codes "rerr "

-- what node x took
abbrev pub took_line : Nodes → ℕ → taken.Took → List ℕ
took_line mesh x (takes.Own body) = line (codes "  took new " ++ name_of mesh x)
took_line mesh x (takes.Stored dest) = line (codes "  took new " ++ name_of mesh dest)
took_line mesh x (takes.Heard from kind bytes) =
    line (codes "  took " ++ kind_word kind ++ name_of mesh from)

-- node x has delivered what it took
abbrev pub delivery_line : Nodes → ℕ → taken.Took → List ℕ
delivery_line mesh x (takes.Own body) = datum_text (codes "  delivered ") mesh x x body
delivery_line mesh x (takes.Stored dest) = []
delivery_line mesh x (takes.Heard from kind bytes) = datum_line (codes "  delivered ") bytes

-- the node has dropped what it took
abbrev pub drop_line : taken.Took → List ℕ
drop_line (takes.Own body) = []
drop_line (takes.Stored dest) = []
drop_line (takes.Heard from kind bytes) = datum_line (codes "  dropped ") bytes

-- the fate of a datum that node x took: delivered, dropped, or neither
abbrev pub fate_lines : Nodes → ℕ → taken.Took → Effect → List ℕ
fate_lines mesh x took e =
    (if e.deliver then delivery_line mesh x took else []) ++ (if e.lost then drop_line took else [])

-- what node x took, and what became of it
abbrev pub turn_lines : Nodes → ℕ → taken.Took → Effect → List ℕ
turn_lines mesh x took e = took_line mesh x took ++ fate_lines mesh x took e

-- the same, if its step was a turn
abbrev pub taken_lines : Nodes → ℕ → Option (Bor taken.Took) → Effect → List ℕ
taken_lines mesh x None e = []
taken_lines mesh x (Some took) e = turn_lines mesh x took.now e

-- ---- what was cast

abbrev pub cast_line : Nodes → casts.Cast → List ℕ → List ℕ
cast_line mesh cast.Nothing packet = []
cast_line mesh (cast.One y) packet =
    line (codes "  sent one " ++ name_of mesh y ++ 32 ∷ hex packet)
cast_line mesh (cast.Many s) packet =
    line (codes "  sent many " ++ set_text mesh s ++ 32 ∷ hex packet)
cast_line mesh cast.All packet = line (codes "  sent all " ++ hex packet)

-- a copy, by its id and its receiver
abbrev pub copy_line : Nodes → ℕ → ℕ → List ℕ
copy_line mesh id to = line (label_number (codes "  copy ") id ++ 32 ∷ name_of mesh to)

-- copies for these receivers, whose ids count from the first
abbrev pub copy_lines : Nodes → ℕ → List ℕ → List ℕ
copy_lines mesh id [] = []
copy_lines mesh id (to ∷ tos) = copy_line mesh id to ++ copy_lines mesh (id + 1) tos

-- the copies of a cast, if there was one
abbrev pub air_lines : Nodes → casts.Cast → Air → List ℕ
air_lines mesh cast.Nothing air = []
air_lines mesh (cast.One y) air = copy_lines mesh air.first (members_below (length mesh) air.to)
air_lines mesh (cast.Many s) air = copy_lines mesh air.first (members_below (length mesh) air.to)
air_lines mesh cast.All air = copy_lines mesh air.first (members_below (length mesh) air.to)

-- a failed unicast, what was cast, and its copies
abbrev pub sent_lines : Nodes → Effect → Air → List ℕ → List ℕ
sent_lines mesh e air packet =
    broken_text mesh e.broken ++ cast_line mesh e.cast packet ++ air_lines mesh e.cast air

-- ---- steps and events

-- what node x took and what became of it, and then a failed unicast and what was cast
abbrev pub step_lines : Nodes → ℕ → Option (Bor taken.Took) → Effect → List ℕ → List ℕ
step_lines mesh x took e packet =
    taken_lines mesh x took e ++ (broken_text mesh e.broken ++ cast_line mesh e.cast packet)

-- what an event at node x did
abbrev pub done_lines : Nodes → ℕ → dones.Done → List ℕ → List ℕ
done_lines mesh x done.Idle packet = line (codes "  idle")
done_lines mesh x done.Changed packet = []
done_lines mesh x (done.Taken took e air) packet =
    turn_lines mesh x took e ++ sent_lines mesh e air packet
done_lines mesh x (done.Sent e air) packet = sent_lines mesh e air packet
done_lines mesh x (done.Heard from to) packet =
    line (codes "  heard " ++ name_of mesh from ++ 32 ∷ name_of mesh to)
done_lines mesh x (done.Lost f) packet =
    line (codes "  lost " ++ name_of mesh f.from ++ 32 ∷ name_of mesh f.to)
    ++ datum_line (codes "  dropped ") f.bytes
done_lines mesh x (done.Doubled id to parcel) packet = copy_line mesh id to
