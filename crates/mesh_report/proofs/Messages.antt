-- What an event and a node's step did, by the bytes of their packets, is what the definitions say
-- of what these mean: of a packet that was cast, where it is what is written of a message; and of
-- one that was taken or lost, where it can be read and names only nodes of the mesh.
use Rattle.std.proofs.Common.{◌≡◌, ◌+◌, ℕ, List, [], ◌∷◌, ◌++◌, Option, Some, None, refl, sym, ap, ◌∙◌, is_some, cond, length}
use Rattle.std.specs.Prelude.{codes, IfSome}
use Rattle.std.specs.Borrow.{Bor}
use Rattle.mesh_base.specs.declared.addr.Addr.{Addr}
use Rattle.mesh_base.specs.declared.events.Air.{Air}
use Rattle.mesh_base.specs.declared.events.Cast as casts
use Rattle.mesh_base.specs.declared.events.Cast.TheVariants as cast
use Rattle.mesh_base.specs.declared.events.Flying.{Flying}
use Rattle.mesh_base.specs.declared.events.Took as taken
use Rattle.mesh_base.specs.declared.events.Took.TheVariants as takes
use Rattle.mesh_base.specs.declared.events.Done as dones
use Rattle.mesh_base.specs.declared.events.Done.TheVariants as done
use Rattle.mesh_base.specs.declared.events.Effect as effects
use Rattle.mesh_base.specs.Meshes.{Nodes, IsMesh, addr_at, index_of}
use Rattle.aodv_wire.specs.declared.error.WireError.{WireError}
use Rattle.aodv_wire.specs.declared.message.Message as wire
use Rattle.aodv_wire.specs.declared.message.Message.TheVariants as messages
use Rattle.aodv_wire.specs.Encodes.{message_in_fields}
use Rattle.aodv_model.specs.Cores.{Message, Pkt, Rreq, Rrep, Rerr}
use Rattle.aodv_meaning.specs.Effects.{kind_of}
use Rattle.aodv_meaning.specs.Meaning.{index, meaning, in_mesh, unless_in, stranger}
use Rattle.aodv_meaning.proofs.Means.{index_there, sent_means}
use Rattle.mesh_model.specs.Worlds.{World, Event, copies_to, members_below}
use Rattle.mesh_meaning.specs.Events.{node_of}
use Rattle.mesh_meaning.specs.Packets.{IsWritten, IsWrittenCopy, packet_of, copy_in}
use Rattle.mesh_meaning.specs.Answers.{cast_in, effect_in, took_in, copies_in, outcome_in, IsCastWritten, IsEffectInMesh, IsTookInMesh, IsDoneInMesh, IsPacketInMesh}
use Rattle.mesh_grammar.specs.Written.{line, label_number}
use Rattle.mesh_text.specs.Lines.{name_of, hex, event_words}
use Rattle.mesh_text.specs.Effects.{datum_in, kind_text, took_text, delivery_text, drop_text, datum_fate, set_text, broken_text, cast_text, copies_text, sent_text, outcome_text, outcome_lines, world_effect_text}
use Rattle.mesh_text.specs.Tables.{flying_text}
use Rattle.mesh_report.specs.Messages.{IsLegible, IsTookLegible, IsDoneLegible, taken_text, effect_text}
use Rattle.mesh_report.specs.Nodes.{IsTookOfMesh, IsCastOfMesh, IsEffectOfMesh, IsDoneOfMesh}
use Rattle.mesh_report.specs.Packets.{flying_line, datum_of, unless_refused, datum_line, kind_word, took_line, delivery_line, drop_line, fate_lines, turn_lines, taken_lines, cast_line, copy_lines, air_lines, sent_lines, step_lines, done_lines}

-- ---- packets

-- the packet of what written bytes mean is those bytes
pub packet_back : (mesh : Nodes) (b : List ℕ) → IsWritten mesh b → packet_of mesh (meaning mesh b) ≡ b
unfolding packet_of
packet_back mesh b w = sym w.written

-- a copy in flight
pub flying_is : (mesh : Nodes) (f : Flying) → IsWrittenCopy mesh f → flying_line mesh f ≡ flying_text mesh (copy_in mesh f)
unfolding flying_text
flying_is mesh f w =
    ap (λ (b : List ℕ). line (label_number (codes "  copy ") f.id ++ 32 ∷ name_of mesh f.from ++ 32 ∷ name_of mesh f.to ++ 32 ∷ hex b)) (sym (packet_back mesh f.bytes w))

-- an address that is no stranger is its node's
there : (mesh : Nodes) (a : Addr) (rest : Option Addr) → unless_in mesh a rest ≡ None → (addr_at mesh (index mesh a) ≡ a.0) × (rest ≡ None)
there mesh a rest e = by_index (index_of mesh a.0) refl e
  where
    by_index : (o : Option ℕ) → index_of mesh a.0 ≡ o → cond (is_some o) rest (Some a) ≡ None → (addr_at mesh (index mesh a) ≡ a.0) × (rest ≡ None)
    by_index None is e = absurd (let P : ⊥ = cc in P)
    by_index (Some i) is e =
        let at = index_there mesh a.0 i is in
        (ap (addr_at mesh) at.1 ∙ at.2, e)

message_datum : (label : List ℕ) (mesh : Nodes) (m : wire.Message) → stranger mesh m ≡ None → datum_of label m ≡ datum_in label mesh (in_mesh mesh m)
message_datum label mesh (messages.Rreq m) known = refl
message_datum label mesh (messages.Rrep m) known = refl
message_datum label mesh (messages.Rerr pairs) known = refl
message_datum label mesh (messages.Parcel p) known =
    let dest = there mesh p.dip (unless_in mesh p.oip None) known in
    let origin = there mesh p.oip None dest.1 in
    rw (origin.0, dest.0) refl

-- the datum of a packet
datum_is : (label : List ℕ) (mesh : Nodes) (b : List ℕ) → IsLegible mesh b → datum_line label b ≡ datum_in label mesh (meaning mesh b)
unfolding meaning
datum_is label mesh b is =
    ap (λ (o : Option WireError). unless_refused o (datum_of label (message_in_fields b))) is.allowed ∙ message_datum label mesh (message_in_fields b) is.known

-- ---- what a turn took

kind_is : (m : Message) → kind_word (kind_of m) ≡ kind_text m
kind_is (Pkt b d o) = refl
kind_is (Rreq m) = refl
kind_is (Rrep m) = refl
kind_is (Rerr dests) = refl

took_is : (mesh : Nodes) (x : ℕ) (took : taken.Took) → IsTookLegible mesh took → took_line mesh x took ≡ took_text mesh x (took_in mesh took)
took_is mesh x (takes.Own body) is = refl
took_is mesh x (takes.Stored dest) is = refl
took_is mesh x (takes.Heard from kind bytes) is =
    ap (λ (w : List ℕ). line (codes "  took " ++ w ++ name_of mesh from)) (ap kind_word is.1 ∙ kind_is (meaning mesh bytes))

delivery_is : (mesh : Nodes) (x : ℕ) (took : taken.Took) → IsTookLegible mesh took → delivery_line mesh x took ≡ delivery_text mesh x (took_in mesh took)
delivery_is mesh x (takes.Own body) is = refl
delivery_is mesh x (takes.Stored dest) is = refl
delivery_is mesh x (takes.Heard from kind bytes) is = datum_is (codes "  delivered ") mesh bytes is.2

drop_is : (mesh : Nodes) (took : taken.Took) → IsTookLegible mesh took → drop_line took ≡ drop_text mesh (took_in mesh took)
drop_is mesh (takes.Own body) is = refl
drop_is mesh (takes.Stored dest) is = refl
drop_is mesh (takes.Heard from kind bytes) is = datum_is (codes "  dropped ") mesh bytes is.2

-- what a turn took, and what became of it
turn_is : (mesh : Nodes) (x : ℕ) (took : taken.Took) (e : effects.Effect) (packet : List ℕ) → IsTookLegible mesh took
    → turn_lines mesh x took e ≡ took_text mesh x (took_in mesh took) ++ datum_fate mesh x (took_in mesh took) (effect_in mesh e packet)
turn_is mesh x took e packet is =
    ap (λ (l : List ℕ). l ++ fate_lines mesh x took e) (took_is mesh x took is)
    ∙ ap (λ (l : List ℕ). took_text mesh x (took_in mesh took) ++ (cond e.deliver l [] ++ cond e.lost (drop_line took) [])) (delivery_is mesh x took is)
    ∙ ap (λ (l : List ℕ). took_text mesh x (took_in mesh took) ++ (cond e.deliver (delivery_text mesh x (took_in mesh took)) [] ++ cond e.lost l [])) (drop_is mesh took is)

taken_is : (mesh : Nodes) (x : ℕ) (took : Option (Bor taken.Took)) (e : effects.Effect) → IfSome took (λ t. IsTookLegible mesh t.now) → taken_lines mesh x took e ≡ taken_text mesh x took e
taken_is mesh x None e is = refl
taken_is mesh x (Some took) e is = turn_is mesh x took.now e [] is

-- ---- what was cast

cast_is : (mesh : Nodes) (k : casts.Cast) (packet : List ℕ) → IsCastWritten mesh k packet → cast_line mesh k packet ≡ cast_text mesh (cast_in mesh k packet)
cast_is mesh cast.Nothing packet w = refl
cast_is mesh (cast.One y) packet w =
    ap (λ (b : List ℕ). line (codes "  sent one " ++ name_of mesh y ++ 32 ∷ hex b)) (sym (packet_back mesh packet w.1.written))
cast_is mesh (cast.Many s) packet w =
    ap (λ (b : List ℕ). line (codes "  sent many " ++ set_text mesh s ++ 32 ∷ hex b)) (sym (packet_back mesh packet w.1.written))
cast_is mesh cast.All packet w = ap (λ (b : List ℕ). line (codes "  sent all " ++ hex b)) (sym (packet_back mesh packet w.written))

copies_are : (mesh : Nodes) (tos : List ℕ) (id from : ℕ) (m : Message) → copy_lines mesh id tos ≡ copies_text mesh (copies_to tos id from m)
copies_are mesh [] id from m = refl
copies_are mesh (to ∷ tos) id from m =
    ap (λ (l : List ℕ). line (label_number (codes "  copy ") id ++ 32 ∷ name_of mesh to) ++ l) (copies_are mesh tos (id + 1) from m)

air_is : (mesh : Nodes) (x : ℕ) (k : casts.Cast) (air : Air) (packet : List ℕ) → air_lines mesh k air ≡ copies_text mesh (copies_in mesh x k air packet)
unfolding copies_in
air_is mesh x cast.Nothing air packet = refl
air_is mesh x (cast.One y) air packet = copies_are mesh (members_below (length mesh) air.to) air.first x (meaning mesh packet)
air_is mesh x (cast.Many s) air packet = copies_are mesh (members_below (length mesh) air.to) air.first x (meaning mesh packet)
air_is mesh x cast.All air packet = copies_are mesh (members_below (length mesh) air.to) air.first x (meaning mesh packet)

sent_is : (mesh : Nodes) (x : ℕ) (e : effects.Effect) (air : Air) (packet : List ℕ) → IsEffectInMesh mesh e air packet
    → sent_lines mesh e air packet ≡ sent_text mesh (effect_in mesh e packet) (copies_in mesh x e.cast air packet)
sent_is mesh x e air packet is =
    ap (λ (l : List ℕ). broken_text mesh e.broken ++ l ++ air_lines mesh e.cast air) (cast_is mesh e.cast packet is.cast)
    ∙ ap (λ (l : List ℕ). broken_text mesh e.broken ++ cast_text mesh (cast_in mesh e.cast packet) ++ l) (air_is mesh x e.cast air packet)

-- ---- steps and events

-- what a node's step did
pub step_is : (mesh : Nodes) (x : ℕ) (took : Option (Bor taken.Took)) (e : effects.Effect) (packet : List ℕ) → IfSome took (λ t. IsTookLegible mesh t.now) → IsCastWritten mesh e.cast packet
    → step_lines mesh x took e packet ≡ effect_text mesh x took e packet
step_is mesh x took e packet is w =
    ap (λ (l : List ℕ). l ++ (broken_text mesh e.broken ++ cast_line mesh e.cast packet)) (taken_is mesh x took e is)
    ∙ ap (λ (l : List ℕ). taken_text mesh x took e ++ (broken_text mesh e.broken ++ l)) (cast_is mesh e.cast packet w)

-- what an event did
pub done_is : (mesh : Nodes) (x : ℕ) (w : World) (d : dones.Done) (packet : List ℕ) → IsDoneLegible mesh d packet → done_lines mesh x d packet ≡ outcome_text mesh x (outcome_in mesh x w d packet)
unfolding world_effect_text
done_is mesh x w done.Idle packet is = refl
done_is mesh x w done.Changed packet is = refl
done_is mesh x w (done.Taken took e air) packet is =
    ap (λ (l : List ℕ). l ++ sent_lines mesh e air packet) (turn_is mesh x took e packet is.0)
    ∙ ap (λ (l : List ℕ). (took_text mesh x (took_in mesh took) ++ datum_fate mesh x (took_in mesh took) (effect_in mesh e packet)) ++ l) (sent_is mesh x e air packet is.1)
done_is mesh x w (done.Sent e air) packet is = sent_is mesh x e air packet is
done_is mesh x w (done.Heard from to) packet is = refl
done_is mesh x w (done.Lost f) packet is =
    ap (λ (l : List ℕ). line (codes "  lost " ++ name_of mesh f.from ++ 32 ∷ name_of mesh f.to) ++ l) (datum_is (codes "  dropped ") mesh f.bytes is.2)
done_is mesh x w (done.Doubled id to parcel) packet is = refl

-- an event, and what it did
pub event_is : (mesh : Nodes) (e : Event) (w : World) (d : dones.Done) (packet : List ℕ) → IsDoneLegible mesh d packet
    → outcome_lines mesh e (outcome_in mesh (node_of e) w d packet) ≡ line (event_words mesh e) ++ done_lines mesh (node_of e) d packet
unfolding outcome_lines
event_is mesh e w d packet is = ap (λ (l : List ℕ). line (event_words mesh e) ++ l) (sym (done_is mesh (node_of e) w d packet is))

-- ---- what is legible

-- what was written of a message can be read
packet_is_legible : (mesh : Nodes) (bytes : List ℕ) → IsMesh mesh → IsPacketInMesh mesh bytes → IsLegible mesh bytes
packet_is_legible mesh bytes is h =
    let means = sent_means mesh bytes (meaning mesh bytes) is h.in_mesh h.written in
    record { allowed = h.written.encodes.allowed; known = means.1 }

written_is_legible : (mesh : Nodes) (took : taken.Took) → IsMesh mesh → IsTookInMesh mesh took → IsTookLegible mesh took
written_is_legible mesh (takes.Own body) is h = h
written_is_legible mesh (takes.Stored dest) is h = h
written_is_legible mesh (takes.Heard from kind bytes) is h = (h.0, h.1, packet_is_legible mesh bytes is h.2)

pub done_is_legible : (mesh : Nodes) (d : dones.Done) (packet : List ℕ) → IsMesh mesh → IsDoneInMesh mesh d packet → IsDoneLegible mesh d packet
done_is_legible mesh done.Idle packet is h = tt
done_is_legible mesh done.Changed packet is h = tt
done_is_legible mesh (done.Taken took effect air) packet is h = (written_is_legible mesh took is h.0, h.1)
done_is_legible mesh (done.Sent effect air) packet is h = h
done_is_legible mesh (done.Heard from to) packet is h = h
done_is_legible mesh (done.Lost flying) packet is h = (h.0, h.1, packet_is_legible mesh flying.bytes is h.2)
done_is_legible mesh (done.Doubled id to parcel) packet is h = h

-- what a legible answer names is in the mesh
pub took_of_mesh : (mesh : Nodes) (took : taken.Took) → IsTookLegible mesh took → IsTookOfMesh mesh took
took_of_mesh mesh (takes.Own body) is = tt
took_of_mesh mesh (takes.Stored dest) is = is
took_of_mesh mesh (takes.Heard from kind bytes) is = is.0

pub cast_of_mesh : (mesh : Nodes) (k : casts.Cast) (packet : List ℕ) → IsCastWritten mesh k packet → IsCastOfMesh mesh k
cast_of_mesh mesh cast.Nothing packet w = tt
cast_of_mesh mesh (cast.One y) packet w = w.0
cast_of_mesh mesh (cast.Many s) packet w = w.0
cast_of_mesh mesh cast.All packet w = tt

effect_of_mesh : (mesh : Nodes) (e : effects.Effect) (air : Air) (packet : List ℕ) → IsEffectInMesh mesh e air packet → IsEffectOfMesh mesh e air
effect_of_mesh mesh e air packet is = record { broken = is.broken; cast = cast_of_mesh mesh e.cast packet is.cast; receivers = is.receivers; few = is.few }

pub done_of_mesh : (mesh : Nodes) (d : dones.Done) (packet : List ℕ) → IsDoneLegible mesh d packet → IsDoneOfMesh mesh d
done_of_mesh mesh done.Idle packet is = tt
done_of_mesh mesh done.Changed packet is = tt
done_of_mesh mesh (done.Taken took e air) packet is = (took_of_mesh mesh took is.0, effect_of_mesh mesh e air packet is.1)
done_of_mesh mesh (done.Sent e air) packet is = effect_of_mesh mesh e air packet is
done_of_mesh mesh (done.Heard from to) packet is = is
done_of_mesh mesh (done.Lost f) packet is = (is.0, is.1)
done_of_mesh mesh (done.Doubled id to parcel) packet is = is
