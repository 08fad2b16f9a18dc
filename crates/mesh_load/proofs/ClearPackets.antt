-- A message of the mesh whose numbers are within their fields is what its packet means, and its packet is as a node writes it.
use Rattle.std.proofs.Common.{◌≡◌, ℕ, suc, ◌<◌, ◌≤◌, List, [], ◌∷◌, length, map, get_or, Some, refl, sym, subst, ◌∙◌, arith}
use Rattle.std.specs.Prelude.{⊤}
use Rattle.std.specs.List.{AllByRecursion}
use Rattle.std.specs.FinMap as maps
use Rattle.mesh_base.specs.Meshes.{Nodes, IsMesh}
use Rattle.aodv_model.proofs.RisingLaws.{found_at}
use Rattle.aodv_model.specs.Tables.{Dests}
use Rattle.aodv_model.specs.Cores.{Message, Pkt, Rreq, Rrep, Rerr}
use Rattle.aodv_model.specs.Soundness.{IsMessageInMesh, AreDestsBelow}
use Rattle.aodv_model.specs.Fullness.{greatest, greatest_hops}
use Rattle.aodv_wire.specs.declared.message.Message.TheVariants as messages
use Rattle.aodv_wire.specs.DataPacket.{Datum}
use Rattle.aodv_wire.specs.Encodes.{Encodes}
use Rattle.aodv_wire.proofs.Writes.{rreq_written, rreq_encodes, rrep_written, rrep_encodes, data_written, data_encodes, rerr_written, rerr_encodes, PairFits}
use Rattle.aodv_meaning.specs.Sent.{IsSent, out_of, rreq_of, rrep_of, pair_by_address, pairs_of, addr}
use Rattle.aodv_meaning.proofs.Means.{sent_means}
use Rattle.aodv_meaning.proofs.Writings.{destinations}
use Rattle.mesh_meaning.specs.Packets.{packet_of}
use Rattle.mesh_load.specs.RunStates.{IsPlain}

-- each number of the message is one that its field can have, and a route error names a destination
abbrev pub AreWithinFields : Message → Type 0
AreWithinFields (Pkt b d o) = ⊤
AreWithinFields (Rreq m) = (m.hops ≤ greatest_hops) × (m.id ≤ greatest) × (m.dsn ≤ greatest) × (m.osn ≤ greatest)
AreWithinFields (Rrep m) = (m.hops ≤ greatest_hops) × (m.dsn ≤ greatest)
AreWithinFields (Rerr dests) = ((d n : ℕ) → maps.get dests d ≡ Some n → n ≤ greatest) × (1 ≤ maps.len dests)

-- ---- route errors

-- each entry is of a node of the mesh, with a number within its field
abbrev IsEntryWithin : Nodes → ℕ × ℕ → Type 0
IsEntryWithin mesh e = (e.0 < length mesh) × (e.1 ≤ greatest)

pairs_fit : (mesh : Nodes) (es : List (ℕ × ℕ)) → IsMesh mesh → ((k : ℕ) → k < length es → IsEntryWithin mesh (get_or es k (0, 0))) → AllByRecursion PairFits (map (pair_by_address mesh) es)
pairs_fit mesh [] is each = tt
pairs_fit mesh (e ∷ es) is each =
    let first : IsEntryWithin mesh e = each 0 (omega arith) in
    ((is.addresses e.0 first.0, omega (arith, first.1)), pairs_fit mesh es is (λ k lt. each (suc k) (omega arith)))

entry_within : (mesh : Nodes) (dests : Dests) → AreDestsBelow (length mesh) dests → ((d n : ℕ) → maps.get dests d ≡ Some n → n ≤ greatest) → (k : ℕ) → k < length (maps.entries dests) → IsEntryWithin mesh (get_or (maps.entries dests) k (0, 0))
entry_within mesh dests below within k lt =
    let p : ℕ × ℕ = get_or (maps.entries dests) k (0, 0) in
    let there : maps.get dests p.0 ≡ Some p.1 = maps.get-entries dests p.0 ∙ found_at (0, 0) (maps.entries dests) k (maps.entries_sorted dests) lt in
    (below p.0 p.1 there, within p.0 p.1 there)

-- ---- packets

encodes : (mesh : Nodes) (m : Message) → IsMesh mesh → IsMessageInMesh (length mesh) m → AreWithinFields m → Encodes (packet_of mesh m) (out_of mesh m)
unfolding packet_of
encodes mesh (Pkt b d o) is all within =
    let p : Datum = record { dip = addr mesh d; oip = addr mesh o; body = b } in
    subst (λ k. Encodes k (messages.Parcel p)) (sym (data_written p)) (data_encodes p (is.addresses d all.0) (is.addresses o all.1) all.2.0 all.2.1)
encodes mesh (Rreq m) is all within =
    let p = rreq_of mesh m in
    let hops : m.hops < 256 = omega (arith, within.0) in
    subst (λ k. Encodes k (messages.Rreq p)) (sym (rreq_written p hops))
    (rreq_encodes p hops (omega (arith, within.1)) (is.addresses m.dip all.0) (omega (arith, within.2)) (is.addresses m.oip all.1) (omega (arith, within.3)) all.2)
encodes mesh (Rrep m) is all within =
    let p = rrep_of mesh m in
    let hops : m.hops < 256 = omega (arith, within.0) in
    subst (λ k. Encodes k (messages.Rrep p)) (sym (rrep_written p hops))
    (rrep_encodes p hops (is.addresses m.dip all.0) (omega (arith, within.1)) (is.addresses m.oip all.1) all.2)
encodes mesh (Rerr dests) is all within =
    let ps = pairs_of mesh dests in
    let dests_are = destinations mesh dests is all within.1 in
    let few : length ps < 256 = omega (arith, dests_are.few) in
    subst (λ k. Encodes k (messages.Rerr ps)) (sym (rerr_written ps few)) (rerr_encodes ps dests_are (pairs_fit mesh (maps.entries dests) is (entry_within mesh dests all within.0)))

-- the packet of the message is sent of it, and means it
pub record IsClear (mesh : Nodes) (m : Message) : Type 0 where
  pub sent : IsSent mesh (packet_of mesh m) m
  pub plain : IsPlain mesh m

pub clear : (mesh : Nodes) (m : Message) → IsMesh mesh → IsMessageInMesh (length mesh) m → AreWithinFields m → IsClear mesh m
unfolding packet_of
clear mesh m is all within =
    let sent : IsSent mesh (packet_of mesh m) m = record { written = refl; encodes = encodes mesh m is all within } in
    record { sent = sent; plain = (sent_means mesh (packet_of mesh m) m is all sent).0 }
