-- The lines of an event, those that show a node, and those that show what has changed of it are whole lines.
use Rattle.std.proofs.Common.{inl, inr, ℕ, Bool, true, false, List, [], ◌∷◌, ◌++◌, codes, Option, Some, None, length, drop, append-nil, append_assoc, refl, sym, ap, subst, ◌∙◌}
use Rattle.std.specs.List.{flat_map}
use Rattle.std.specs.Prelude.{if◌then◌else◌}
use Rattle.std.specs.Fmt.{decimal}
use Rattle.std.specs.FinMap as maps
use Rattle.mesh_base.specs.Meshes.{Nodes}
use Rattle.aodv_model.specs.declared.entry.Entry.{Entry}
use Rattle.aodv_model.specs.Pairs.{pairs_in}
use Rattle.aodv_model.specs.Tables.{Table}
use Rattle.aodv_model.specs.Cores.{Body, Message, Pkt, Rreq, Rrep, Rerr, SeenRequests, Store, Waiting, Core}
use Rattle.aodv_model.specs.Handlers.{Cast, Nothing, One, Many, All, Effect, Took, Own, Stored, FromNeighbour}
use Rattle.mesh_model.specs.Worlds as worlds
use Rattle.mesh_model.specs.Worlds.{Node, Copy, Event, WorldEffect, Changed, Taken, Sent, CopyHeard, CopyLost, CopyDoubled, Outcome, Idle, Next}
use Rattle.mesh_model.specs.Routes.{End, Arrived, Stuck}
use Rattle.mesh_meaning.specs.Events.{node_of}
use Rattle.mesh_meaning.specs.Packets.{packet_of}
use Rattle.mesh_shell.specs.Outputs.{EndsWithLf}
use Rattle.mesh_grammar.specs.Written.{line, label_number}
use Rattle.mesh_text.specs.Lines.{name_of, hex, event_words}
use Rattle.mesh_text.specs.Effects.{shown_byte, datum_text, datum_in, kind_text, took_text, delivery_text, drop_text, set_text, broken_text, cast_text, copies_text, sent_text, datum_fate, world_effect_text, outcome_text, outcome_lines}
use Rattle.mesh_text.specs.Tables.{number_line, asked_line, asked_text, known_text, flag_text, entry_text, routes_text, req_text, waits_line, waits_text, store_text, node_text, node_text_in, stuck_line, end_text, flying_text, flight_text}
use Rattle.mesh_blocks.specs.Changes.{Change, Went, Came, change_text, changes_text}

-- ---- texts

pub whole_none : EndsWithLf []
whole_none = inl refl

pub whole_line : (t : List ℕ) → EndsWithLf (line t)
whole_line t = inr (t, refl)

pub whole_append : (s t : List ℕ) → EndsWithLf s → EndsWithLf t → EndsWithLf (s ++ t)
whole_append s t first (inl none) = subst EndsWithLf (sym (ap (λ l. s ++ l) none ∙ append-nil s)) first
whole_append s t first (inr last) = inr (s ++ last.0, ap (λ l. s ++ l) last.1 ∙ sym (append_assoc s last.0 (10 ∷ [])))

whole_if : (b : Bool) (t : List ℕ) → EndsWithLf t → EndsWithLf (if b then t else [])
whole_if true t is = is
whole_if false t is = whole_none

whole_each : {X : Type 0} (f : X → List ℕ) (xs : List X) → ((x : X) → EndsWithLf (f x)) → EndsWithLf (flat_map f xs)
whole_each f [] each = whole_none
whole_each f (x ∷ xs) each = whole_append (f x) (flat_map f xs) (each x) (whole_each f xs each)

-- ---- a node

number_whole : (label : List ℕ) (n : ℕ) → EndsWithLf (number_line label n)
unfolding number_line
number_whole label n = whole_line (32 ∷ 32 ∷ label ++ 32 ∷ decimal n)

asked_whole : (mesh : Nodes) (o id : ℕ) → EndsWithLf (asked_line mesh o id)
unfolding asked_line
asked_whole mesh o id = whole_line (codes "  asked " ++ name_of mesh o ++ 32 ∷ decimal id)

seen_whole : (mesh : Nodes) (seen : SeenRequests) → EndsWithLf (asked_text mesh seen)
unfolding asked_text
seen_whole mesh seen = whole_each (λ (p : ℕ × ℕ). asked_line mesh p.0 p.1) (pairs_in seen) (λ p. asked_whole mesh p.0 p.1)

entry_whole : (mesh : Nodes) (d : ℕ) (e : Entry) → EndsWithLf (entry_text mesh d e)
unfolding entry_text
entry_whole mesh d e =
    whole_line (codes "  entry " ++ name_of mesh d ++ 32 ∷ decimal e.dsn ++ known_text e.dsk ++ flag_text e.flag ++ decimal e.hops ++ 32 ∷ name_of mesh e.next ++ 32 ∷ set_text mesh e.pre)

routes_whole : (mesh : Nodes) (rt : Table) → EndsWithLf (routes_text mesh rt)
unfolding routes_text
routes_whole mesh rt = whole_each (λ (e : ℕ × Entry). entry_text mesh e.0 e.1) (maps.entries rt) (λ e. entry_whole mesh e.0 e.1)

waits_line_whole : (mesh : Nodes) (d : ℕ) (needs : Bool) (count : ℕ) → EndsWithLf (waits_line mesh d needs count)
unfolding waits_line
waits_line_whole mesh d needs count = whole_line (codes "  waits " ++ name_of mesh d ++ req_text needs ++ decimal count)

waits_whole : (mesh : Nodes) (d : ℕ) (needs : Bool) (bs : List Body) → EndsWithLf (waits_text mesh d needs bs)
waits_whole mesh d needs [] = whole_none
waits_whole mesh d needs (b ∷ bs) = waits_line_whole mesh d needs (length (b ∷ bs))

store_whole : (mesh : Nodes) (store : Store) → EndsWithLf (store_text mesh store)
unfolding store_text
store_whole mesh store =
    whole_each (λ (e : ℕ × Waiting). waits_text mesh e.0 (e.1).needs_request (e.1).bodies) (maps.entries store) (λ e. waits_whole mesh e.0 (e.1).needs_request (e.1).bodies)

node_whole : (mesh : Nodes) (core : Core) (queue : ℕ) → EndsWithLf (node_text mesh core queue)
unfolding node_text
node_whole mesh core queue =
    let a : List ℕ = number_line (codes "sn") core.sn in
    let b : List ℕ = asked_text mesh core.seen in
    let c : List ℕ = routes_text mesh core.rt in
    let e : List ℕ = store_text mesh core.store in
    whole_append (a ++ b ++ c ++ e) (number_line (codes "inbox") queue)
    (whole_append (a ++ b ++ c) e
    (whole_append (a ++ b) c
    (whole_append a b (number_whole (codes "sn") core.sn) (seen_whole mesh core.seen))
    (routes_whole mesh core.rt))
    (store_whole mesh core.store))
    (number_whole (codes "inbox") queue)

pub node_in_whole : (mesh : Nodes) (o : Option Node) → EndsWithLf (node_text_in mesh o)
node_in_whole mesh None = whole_none
node_in_whole mesh (Some n) = node_whole mesh n.core (length n.queue)

-- ---- what has changed of it

change_whole : (c : Change) → EndsWithLf (change_text c)
change_whole (Went l) = whole_line (codes "  - " ++ drop 2 l)
change_whole (Came l) = whole_line (codes "  + " ++ drop 2 l)

pub changes_whole : (cs : List Change) → EndsWithLf (changes_text cs)
changes_whole cs = whole_each change_text cs change_whole

-- ---- a route, and the radio

stuck_whole : (mesh : Nodes) (at hops : ℕ) → EndsWithLf (stuck_line mesh at hops)
unfolding stuck_line
stuck_whole mesh at hops = whole_line (codes "  stuck " ++ name_of mesh at ++ 32 ∷ decimal hops)

pub end_whole : (mesh : Nodes) (e : End) → EndsWithLf (end_text mesh e)
end_whole mesh (Arrived hops) = number_whole (codes "arrived") hops
end_whole mesh (Stuck at hops) = stuck_whole mesh at hops

flying_whole : (mesh : Nodes) (c : Copy) → EndsWithLf (flying_text mesh c)
unfolding flying_text
flying_whole mesh c = whole_line (label_number (codes "  copy ") c.id ++ 32 ∷ name_of mesh c.from ++ 32 ∷ name_of mesh c.to ++ 32 ∷ hex (packet_of mesh c.message))

pub flight_whole : (mesh : Nodes) (cs : List Copy) → EndsWithLf (flight_text mesh cs)
flight_whole mesh [] = whole_none
flight_whole mesh (c ∷ cs) = whole_append (flying_text mesh c) (flight_text mesh cs) (flying_whole mesh c) (flight_whole mesh cs)

-- ---- what an event did

datum_whole : (label : List ℕ) (mesh : Nodes) (o d : ℕ) (body : Body) → EndsWithLf (datum_text label mesh o d body)
datum_whole label mesh o d body = whole_line (label ++ name_of mesh o ++ 32 ∷ name_of mesh d ++ 32 ∷ flat_map shown_byte body)

message_whole : (label : List ℕ) (mesh : Nodes) (m : Message) → EndsWithLf (datum_in label mesh m)
message_whole label mesh (Pkt body d o) = datum_whole label mesh o d body
message_whole label mesh (Rreq m) = whole_none
message_whole label mesh (Rrep m) = whole_none
message_whole label mesh (Rerr dests) = whole_none

took_whole : (mesh : Nodes) (x : ℕ) (took : Took) → EndsWithLf (took_text mesh x took)
took_whole mesh x (Own body) = whole_line (codes "  took new " ++ name_of mesh x)
took_whole mesh x (Stored dest) = whole_line (codes "  took new " ++ name_of mesh dest)
took_whole mesh x (FromNeighbour from m) = whole_line (codes "  took " ++ kind_text m ++ name_of mesh from)

delivery_whole : (mesh : Nodes) (x : ℕ) (took : Took) → EndsWithLf (delivery_text mesh x took)
delivery_whole mesh x (Own body) = datum_whole (codes "  delivered ") mesh x x body
delivery_whole mesh x (Stored dest) = whole_none
delivery_whole mesh x (FromNeighbour from m) = message_whole (codes "  delivered ") mesh m

drop_whole : (mesh : Nodes) (took : Took) → EndsWithLf (drop_text mesh took)
drop_whole mesh (Own body) = whole_none
drop_whole mesh (Stored dest) = whole_none
drop_whole mesh (FromNeighbour from m) = message_whole (codes "  dropped ") mesh m

fate_whole : (mesh : Nodes) (x : ℕ) (took : Took) (e : Effect) → EndsWithLf (datum_fate mesh x took e)
fate_whole mesh x took e =
    whole_append (if e.deliver then delivery_text mesh x took else []) (if e.lost then drop_text mesh took else [])
    (whole_if e.deliver (delivery_text mesh x took) (delivery_whole mesh x took)) (whole_if e.lost (drop_text mesh took) (drop_whole mesh took))

broken_whole : (mesh : Nodes) (o : Option ℕ) → EndsWithLf (broken_text mesh o)
broken_whole mesh None = whole_none
broken_whole mesh (Some y) = whole_line (codes "  broken " ++ name_of mesh y)

cast_whole : (mesh : Nodes) (c : Cast) → EndsWithLf (cast_text mesh c)
cast_whole mesh Nothing = whole_none
cast_whole mesh (One y m) = whole_line (codes "  sent one " ++ name_of mesh y ++ 32 ∷ hex (packet_of mesh m))
cast_whole mesh (Many s m) = whole_line (codes "  sent many " ++ set_text mesh s ++ 32 ∷ hex (packet_of mesh m))
cast_whole mesh (All m) = whole_line (codes "  sent all " ++ hex (packet_of mesh m))

copies_whole : (mesh : Nodes) (cs : List Copy) → EndsWithLf (copies_text mesh cs)
copies_whole mesh [] = whole_none
copies_whole mesh (c ∷ cs) =
    whole_append (line (label_number (codes "  copy ") c.id ++ 32 ∷ name_of mesh c.to)) (copies_text mesh cs)
    (whole_line (label_number (codes "  copy ") c.id ++ 32 ∷ name_of mesh c.to)) (copies_whole mesh cs)

sent_whole : (mesh : Nodes) (e : Effect) (cs : List Copy) → EndsWithLf (sent_text mesh e cs)
sent_whole mesh e cs =
    whole_append (broken_text mesh e.broken ++ cast_text mesh e.cast) (copies_text mesh cs)
    (whole_append (broken_text mesh e.broken) (cast_text mesh e.cast) (broken_whole mesh e.broken) (cast_whole mesh e.cast)) (copies_whole mesh cs)

world_effect_whole : (mesh : Nodes) (x : ℕ) (h : WorldEffect) → EndsWithLf (world_effect_text mesh x h)
unfolding world_effect_text
world_effect_whole mesh x Changed = whole_none
world_effect_whole mesh x (Taken took e cs) =
    whole_append (took_text mesh x took ++ datum_fate mesh x took e) (sent_text mesh e cs)
    (whole_append (took_text mesh x took) (datum_fate mesh x took e) (took_whole mesh x took) (fate_whole mesh x took e)) (sent_whole mesh e cs)
world_effect_whole mesh x (Sent e cs) = sent_whole mesh e cs
world_effect_whole mesh x (CopyHeard from to) = whole_line (codes "  heard " ++ name_of mesh from ++ 32 ∷ name_of mesh to)
world_effect_whole mesh x (CopyLost c) =
    whole_append (line (codes "  lost " ++ name_of mesh c.from ++ 32 ∷ name_of mesh c.to)) (datum_in (codes "  dropped ") mesh c.message)
    (whole_line (codes "  lost " ++ name_of mesh c.from ++ 32 ∷ name_of mesh c.to)) (message_whole (codes "  dropped ") mesh c.message)
world_effect_whole mesh x (CopyDoubled id to parcel) = whole_line (label_number (codes "  copy ") id ++ 32 ∷ name_of mesh to)

outcome_whole : (mesh : Nodes) (x : ℕ) (o : Outcome) → EndsWithLf (outcome_text mesh x o)
outcome_whole mesh x Idle = whole_line (codes "  idle")
outcome_whole mesh x (worlds.Full node field) = whole_none
outcome_whole mesh x (Next w world_effect) = world_effect_whole mesh x world_effect

-- an event, and what it did
pub event_whole : (mesh : Nodes) (e : Event) (o : Outcome) → EndsWithLf (outcome_lines mesh e o)
unfolding outcome_lines
event_whole mesh e o = whole_append (line (event_words mesh e)) (outcome_text mesh (node_of e) o) (whole_line (event_words mesh e)) (outcome_whole mesh (node_of e) o)
