-- A copy that is doubled.
use Rattle.std.proofs.Common.{◌≡◌, ℕ, ◌<◌, ◌+◌, Bool, true, false, List, [], ◌∷◌, map, length, Some, None, Option, Ok, refl, ap, sym, ◌∙◌, subst, arith, ◌^◌}
use Rattle.std.specs.Prelude.{option_map}
use Rattle.std.specs.List.{AllByRecursion}
use Rattle.std.proofs.lemmas.Option.{same_Some}
use Rattle.std.proofs.lemmas.List.{map_push}
use Rattle.mesh_base.specs.Meshes.{Nodes}
use Rattle.mesh_base.specs.declared.events.Flying.{Flying}
use Rattle.mesh_base.specs.declared.events.Done.TheVariants as done
use Rattle.aodv_model.specs.Cores.{Message, Pkt, Rreq, Rrep, Rerr}
use Rattle.aodv_meaning.specs.Meaning.{meaning}
use Rattle.aodv_node.specs.Seen.{NodeSeen}
use Rattle.mesh_model.specs.Worlds as worlds
use Rattle.mesh_model.specs.Worlds.{World, Copy, Double, Next, CopyDoubled, at_copy, is_parcel, step}
use Rattle.mesh_model.specs.Accounts.{any, in_message}
use Rattle.mesh_model.proofs.Doublings.{doubling_few}
use Rattle.mesh_model.proofs.Lists.{each_append}
use Rattle.aodv_wire.specs.Encodes as packets
use Rattle.mesh_radio.specs.Copies as radios
use Rattle.mesh_radio.specs.Copies.{held_seen}
use Rattle.mesh_radio.specs.Radios.{RadioState, with_double}
use Rattle.mesh_radio.specs.declared.copies.Held.{Held}
use Rattle.mesh_meaning.specs.Packets.{IsWritten, IsWrittenCopy, copy_in}
use Rattle.mesh_world.specs.Counted.{one_if}
use Rattle.mesh_world.specs.Seen.{node_in}
use Rattle.mesh_world.specs.Kept.{Ready, IsKept, world_in}
use Rattle.mesh_world.proofs.Frames.{Ends, ends_done, ends_idle, began, beside, later, roomed}
use Rattle.mesh_world.proofs.Counts.{packet_counts}
use Rattle.mesh_world.proofs.Arrivals.{IsFound, InFlight, found_seen, none_seen, shown_found, shown_none, in_flight}

pub double_at : (w : World) (id : ℕ) (o : Option Copy) → worlds.find_copy w.flying id ≡ o → step w (Double id) ≡ at_copy o (λ c. Next (worlds.with_double w c) (CopyDoubled w.next_copy c.to (is_parcel c.message)))
unfolding step
double_at w id o e = ap (λ o. at_copy o (λ c. Next (worlds.with_double w c) (CopyDoubled w.next_copy c.to (is_parcel c.message)))) e

shown_double : (mesh : Nodes) (nodes : List NodeSeen) (old new : RadioState) (f : Flying) → new ≡ with_double old (Some f) → worlds.with_double (world_in mesh nodes old) (copy_in mesh f) ≡ world_in mesh nodes new
unfolding world_in
shown_double mesh nodes old new f is =
    let second : Flying = record f { id = old.next_copy } in
    (λ i. record { nodes = map (node_in mesh) nodes; links = old.links; ever = old.ever; flying = sym (map_push (copy_in mesh) old.flying second) i; next_copy = old.next_copy + 1 })
    ∙ ap (world_in mesh nodes) (sym is)

-- ---- a data packet

one-true : (b : Bool) → 1 ≡ one_if b → true ≡ b
one-true true e = refl
one-true false e = absurd (omega arith)

none-false : (b : Bool) → 0 ≡ one_if b → false ≡ b
none-false true e = absurd (omega arith)
none-false false e = refl

parcel_if : (m : Message) (b : Bool) → in_message any m ≡ one_if b → is_parcel m ≡ b
parcel_if (Pkt body d o) b e = one-true b e
parcel_if (Rreq m) b e = none-false b e
parcel_if (Rrep m) b e = none-false b e
parcel_if (Rerr dests) b e = none-false b e

parcel_is : (mesh : Nodes) (b : List ℕ) → IsWritten mesh b → is_parcel (meaning mesh b) ≡ packets.is_data b
parcel_is mesh b written = parcel_if (meaning mesh b) (packets.is_data b) (packet_counts mesh b written.encodes.allowed)

-- ---- the event

pub double_done : (mesh : Nodes) (nodes : List NodeSeen) (old radio radio' : RadioState) (ready : Ready) (steps id new to : ℕ) (parcel : Bool) (o : Option Held) (seen : Held) (t : Option (ℕ × ℕ)) (packet : List ℕ)
    → IsKept mesh nodes old ready steps → steps < 2 ^ 48 → IsFound o old id → o ≡ Some seen → parcel ≡ packets.is_data seen.bytes.now → radio ≡ record old { room = radio.room; most = radio.most }
    → t ≡ option_map (λ (f : Flying). (radio.next_copy, f.to)) (radios.find_copy radio.flying id) → t ≡ Some (new, to) → radio' ≡ with_double radio (radios.find_copy radio.flying id)
    → Ends (Double id) mesh nodes old steps (Ok (done.Doubled new to parcel)) nodes radio' ready (steps + 1) packet
unfolding world_in
double_done mesh nodes old radio radio' ready steps id new to parcel o seen t packet k few is some kind rooms told answer doubled =
    let f = held_seen seen in
    let w = world_in mesh nodes radio in
    let r = roomed mesh nodes old radio ready steps rooms k in
    let found : radios.find_copy radio.flying id ≡ Some f = ap (λ (s : RadioState). radios.find_copy s.flying id) rooms ∙ found_seen old id o seen is some in
    let flies : InFlight mesh f = in_flight mesh nodes radio ready steps id f r found in
    let second : radio' ≡ with_double radio (Some f) = doubled ∙ ap (with_double radio) found in
    let pair : (new, to) ≡ (radio.next_copy, f.to) = same_Some (new, to) (radio.next_copy, f.to) (sym answer ∙ told ∙ ap (option_map (λ (g : Flying). (radio.next_copy, g.to))) found) in
    let parcel_at : is_parcel (meaning mesh f.bytes) ≡ parcel = parcel_is mesh f.bytes flies.written ∙ sym kind in
    let world : worlds.with_double w (copy_in mesh f) ≡ world_in mesh nodes radio' = shown_double mesh nodes radio radio' f second in
    began (Double id) mesh nodes old radio steps (Ok (done.Doubled new to parcel)) nodes radio' ready (steps + 1) packet rooms
    (ends_done (Double id) mesh nodes radio ready steps (done.Doubled new to parcel) nodes radio' ready packet
    (Next (worlds.with_double w (copy_in mesh f)) (CopyDoubled radio.next_copy f.to (is_parcel (meaning mesh f.bytes))))
    r few tt (double_at w id (Some (copy_in mesh f)) (shown_found mesh nodes radio id f found)) (doubling_few w id) world
    (λ i. Next (world i) (CopyDoubled (sym pair i).0 (sym pair i).1 (parcel_at i)))
    (subst (λ (p : ℕ × ℕ). p.1 < length mesh) (sym pair) flies.to)
    (record {
      each = r.each;
      flying = subst (λ (s : RadioState). AllByRecursion (IsWrittenCopy mesh) s.flying) (sym second)
          (each_append (IsWrittenCopy mesh) radio.flying (record f { id = radio.next_copy } ∷ []) r.flying (flies.written, tt));
      size = ap (λ (s : RadioState). s.size) second ∙ r.size;
      numbers = (let numbers = r.numbers in let more = ap (λ (s : RadioState). s.next_copy) second in omega arith);
      sets = r.sets;
    }))

pub double_idle : (mesh : Nodes) (nodes : List NodeSeen) (radio : RadioState) (ready : Ready) (steps id : ℕ) (o : Option Held) (packet : List ℕ) → IsKept mesh nodes radio ready steps → steps < 2 ^ 48 → IsFound o radio id → o ≡ None
    → Ends (Double id) mesh nodes radio steps (Ok done.Idle) nodes radio ready (steps + 1) packet
double_idle mesh nodes radio ready steps id o packet k few is none =
    let e = none_seen radio id o is none in
    ends_idle (Double id) mesh nodes radio ready steps nodes radio packet k few (double_at (world_in mesh nodes radio) id None (shown_none mesh nodes radio id e)) refl (later mesh nodes radio ready steps (beside mesh nodes radio ready steps k))
