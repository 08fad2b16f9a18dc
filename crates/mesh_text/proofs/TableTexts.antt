-- The tables that a line shows name no datum.
use Rattle.std.proofs.Common.{◌≡◌, ℕ, Bool, true, false, List, [], ◌∷◌, ◌++◌, codes, Option, Some, None, length, refl}
use Rattle.std.specs.List.{flat_map}
use Rattle.std.specs.Fmt.{decimal}
use Rattle.std.specs.FinMap as maps
use Rattle.mesh_base.specs.Meshes.{Nodes}
use Rattle.aodv_model.specs.declared.entry.Entry.{Entry}
use Rattle.aodv_model.specs.declared.entry.Known.{Known}
use Rattle.aodv_model.specs.declared.entry.Known.TheVariants.{Kno, Unk}
use Rattle.aodv_model.specs.declared.entry.Flag.{Flag}
use Rattle.aodv_model.specs.declared.entry.Flag.TheVariants.{Val, Inv}
use Rattle.aodv_model.specs.Pairs.{pairs_in}
use Rattle.aodv_model.specs.Tables.{Table}
use Rattle.aodv_model.specs.Cores.{Body, SeenRequests, Store, Waiting, Core}
use Rattle.mesh_model.specs.Worlds.{Node, Copy}
use Rattle.mesh_model.specs.Routes.{End, Arrived, Stuck}
use Rattle.mesh_meaning.specs.Packets.{packet_of}
use Rattle.mesh_grammar.specs.Written.{label_number}
use Rattle.mesh_text.specs.Lines.{name_of, hex}
use Rattle.mesh_text.specs.Effects.{set_text}
use Rattle.mesh_text.specs.Tables.{number_line, asked_line, asked_text, known_text, flag_text, entry_text, routes_text, req_text, waits_line, waits_text, store_text, node_text, node_text_in, stuck_line, end_text, flying_text, flight_text}
use Rattle.mesh_text.proofs.Clean.{is_clean, clean_append, decimal_clean, name_clean, name_then, hex_clean, set_clean}
use Rattle.mesh_text.proofs.Tellings.{Naming, Tells, tells_none, silent_append, silent_line}

each_silent : {k : Naming} {X : Type 0} (f : X → List ℕ) (xs : List X) → ((x : X) → Tells k 0 0 (f x)) → Tells k 0 0 (flat_map f xs)
each_silent f [] each = tells_none
each_silent f (x ∷ xs) each = silent_append (f x) (flat_map f xs) (each x) (each_silent f xs each)

-- ---- a node

asked_silent : {k : Naming} → (mesh : Nodes) (o id : ℕ) → Tells k 0 0 (asked_line mesh o id)
unfolding asked_line
asked_silent mesh o id = silent_line (codes "  asked " ++ name_of mesh o ++ 32 ∷ decimal id) (name_then mesh o (32 ∷ decimal id) (decimal_clean id)) refl refl

seen_silent : {k : Naming} → (mesh : Nodes) (seen : SeenRequests) → Tells k 0 0 (asked_text mesh seen)
unfolding asked_text
seen_silent mesh seen = each_silent (λ (p : ℕ × ℕ). asked_line mesh p.0 p.1) (pairs_in seen) (λ p. asked_silent mesh p.0 p.1)

known_clean : (k : Known) → is_clean (known_text k) ≡ true
known_clean Kno = refl
known_clean Unk = refl

flag_clean : (f : Flag) → is_clean (flag_text f) ≡ true
flag_clean Val = refl
flag_clean Inv = refl

entry_silent : {k : Naming} → (mesh : Nodes) (d : ℕ) (e : Entry) → Tells k 0 0 (entry_text mesh d e)
unfolding entry_text
entry_silent mesh d e =
    let a : List ℕ = name_of mesh d ++ 32 ∷ decimal e.dsn in
    let b : List ℕ = a ++ known_text e.dsk in
    let c : List ℕ = b ++ flag_text e.flag in
    let f : List ℕ = c ++ decimal e.hops in
    let g : List ℕ = f ++ 32 ∷ name_of mesh e.next in
    silent_line (codes "  entry " ++ name_of mesh d ++ 32 ∷ decimal e.dsn ++ known_text e.dsk ++ flag_text e.flag ++ decimal e.hops ++ 32 ∷ name_of mesh e.next ++ 32 ∷ set_text mesh e.pre)
    (clean_append g (32 ∷ set_text mesh e.pre)
    (clean_append f (32 ∷ name_of mesh e.next)
    (clean_append c (decimal e.hops)
    (clean_append b (flag_text e.flag)
    (clean_append a (known_text e.dsk) (name_then mesh d (32 ∷ decimal e.dsn) (decimal_clean e.dsn)) (known_clean e.dsk))
    (flag_clean e.flag))
    (decimal_clean e.hops))
    (name_clean mesh e.next))
    (set_clean mesh e.pre))
    refl refl

routes_silent : {k : Naming} → (mesh : Nodes) (rt : Table) → Tells k 0 0 (routes_text mesh rt)
unfolding routes_text
routes_silent mesh rt = each_silent (λ (e : ℕ × Entry). entry_text mesh e.0 e.1) (maps.entries rt) (λ e. entry_silent mesh e.0 e.1)

req_clean : (b : Bool) → is_clean (req_text b) ≡ true
req_clean true = refl
req_clean false = refl

waits_silent : {k : Naming} → (mesh : Nodes) (d : ℕ) (needs : Bool) (count : ℕ) → Tells k 0 0 (waits_line mesh d needs count)
unfolding waits_line
waits_silent mesh d needs count =
    silent_line (codes "  waits " ++ name_of mesh d ++ req_text needs ++ decimal count)
    (clean_append (name_of mesh d ++ req_text needs) (decimal count) (name_then mesh d (req_text needs) (req_clean needs)) (decimal_clean count)) refl refl

waits_text_silent : {k : Naming} → (mesh : Nodes) (d : ℕ) (needs : Bool) (bs : List Body) → Tells k 0 0 (waits_text mesh d needs bs)
waits_text_silent mesh d needs [] = tells_none
waits_text_silent mesh d needs (b ∷ bs) = waits_silent mesh d needs (length (b ∷ bs))

store_silent : {k : Naming} → (mesh : Nodes) (store : Store) → Tells k 0 0 (store_text mesh store)
unfolding store_text
store_silent mesh store =
    each_silent (λ (e : ℕ × Waiting). waits_text mesh e.0 (e.1).needs_request (e.1).bodies) (maps.entries store) (λ e. waits_text_silent mesh e.0 (e.1).needs_request (e.1).bodies)

-- a line of a short label and a number
sn_silent : {k : Naming} → (n : ℕ) → Tells k 0 0 (number_line (codes "sn") n)
unfolding number_line
sn_silent n = silent_line (32 ∷ 32 ∷ codes "sn" ++ 32 ∷ decimal n) (decimal_clean n) refl refl

inbox_silent : {k : Naming} → (n : ℕ) → Tells k 0 0 (number_line (codes "inbox") n)
unfolding number_line
inbox_silent n = silent_line (32 ∷ 32 ∷ codes "inbox" ++ 32 ∷ decimal n) (decimal_clean n) refl refl

arrived_silent : {k : Naming} → (n : ℕ) → Tells k 0 0 (number_line (codes "arrived") n)
unfolding number_line
arrived_silent n = silent_line (32 ∷ 32 ∷ codes "arrived" ++ 32 ∷ decimal n) (decimal_clean n) refl refl

node_silent : {k : Naming} → (mesh : Nodes) (core : Core) (queue : ℕ) → Tells k 0 0 (node_text mesh core queue)
unfolding node_text
node_silent mesh core queue =
    let a : List ℕ = number_line (codes "sn") core.sn in
    let b : List ℕ = asked_text mesh core.seen in
    let c : List ℕ = routes_text mesh core.rt in
    let e : List ℕ = store_text mesh core.store in
    let f : List ℕ = number_line (codes "inbox") queue in
    silent_append (a ++ b ++ c ++ e) f
    (silent_append (a ++ b ++ c) e
    (silent_append (a ++ b) c
    (silent_append a b (sn_silent core.sn) (seen_silent mesh core.seen))
    (routes_silent mesh core.rt))
    (store_silent mesh core.store))
    (inbox_silent queue)

pub node_in_silent : {k : Naming} → (mesh : Nodes) (o : Option Node) → Tells k 0 0 (node_text_in mesh o)
node_in_silent mesh None = tells_none
node_in_silent mesh (Some n) = node_silent mesh n.core (length n.queue)

-- ---- a route and the radio

pub end_silent : {k : Naming} → (mesh : Nodes) (end : End) → Tells k 0 0 (end_text mesh end)
unfolding stuck_line
end_silent mesh (Arrived hops) = arrived_silent hops
end_silent mesh (Stuck at hops) = silent_line (codes "  stuck " ++ name_of mesh at ++ 32 ∷ decimal hops) (name_then mesh at (32 ∷ decimal hops) (decimal_clean hops)) refl refl

flying_silent : {k : Naming} → (mesh : Nodes) (c : Copy) → Tells k 0 0 (flying_text mesh c)
unfolding flying_text
flying_silent mesh c =
    let a : List ℕ = decimal c.id ++ 32 ∷ name_of mesh c.from in
    let b : List ℕ = a ++ 32 ∷ name_of mesh c.to in
    silent_line (label_number (codes "  copy ") c.id ++ 32 ∷ name_of mesh c.from ++ 32 ∷ name_of mesh c.to ++ 32 ∷ hex (packet_of mesh c.message))
    (clean_append b (32 ∷ hex (packet_of mesh c.message))
    (clean_append a (32 ∷ name_of mesh c.to) (clean_append (decimal c.id) (32 ∷ name_of mesh c.from) (decimal_clean c.id) (name_clean mesh c.from)) (name_clean mesh c.to))
    (hex_clean (packet_of mesh c.message))) refl refl

pub flight_silent : {k : Naming} → (mesh : Nodes) (cs : List Copy) → Tells k 0 0 (flight_text mesh cs)
flight_silent mesh [] = tells_none
flight_silent mesh (c ∷ cs) = silent_append (flying_text mesh c) (flight_text mesh cs) (flying_silent mesh c) (flight_silent mesh cs)
