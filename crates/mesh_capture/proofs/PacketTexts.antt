-- The packet of a message of the mesh is one that a text may hold.
use Rattle.std.proofs.Common.{◌≡◌, ℕ, zero, suc, ◌*◌, ◌<◌, ◌≤◌, Bool, true, false, cond, leb, not, ◌&&◌, List, [], ◌∷◌, length, length-append, refl, arith, inl, inr}
use Rattle.std.specs.FinMap as maps
use Rattle.std.specs.List.{flat_map}
use Rattle.byteorder.specs.Endian.{big_bytes}
use Rattle.std.proofs.lemmas.Bool.{cases_lt, and_parts, leb-true}
use Rattle.std.proofs.lemmas.List.{length-map}
use Rattle.aodv_meaning.specs.Sent.{addr, rreq_of, rrep_of, pair_by_address, pairs_of}
use Rattle.aodv_meaning.proofs.Writings.{destinations}
use Rattle.aodv_model.specs.Cores.{Body, Message, Pkt, Rreq, Rrep, Rerr}
use Rattle.aodv_model.specs.Soundness.{IsMessageInMesh}
use Rattle.aodv_model.specs.Tables.{Dests}
use Rattle.aodv_wire.specs.Layout.{FieldBits, line_of, lines_from, laid_out}
use Rattle.aodv_wire.specs.RouteError as rerr
use Rattle.aodv_wire.specs.RouteReply as rrep
use Rattle.aodv_wire.specs.RouteRequest as rreq
use Rattle.aodv_wire.specs.DataPacket as data_packet
use Rattle.aodv_wire.specs.Encodes.{encoding}
use Rattle.mesh_base.specs.declared.addr.Addr.{Addr}
use Rattle.mesh_base.specs.declared.limits.TheConstants.{MOST_NODES}
use Rattle.mesh_base.specs.Meshes.{Nodes, IsMesh}
use Rattle.mesh_grammar.specs.Words.{are_printable, is_text}
use Rattle.mesh_meaning.specs.Packets.{packet_of}
use Rattle.mesh_model.specs.Accounts.{Test, in_message}
use Rattle.mesh_model.proofs.Lists.{each_append}
use Rattle.mesh_capture.proofs.Hexes.{AreBytes, IsPacketText}

-- a datum that no schedule gives: other than a text
abbrev pub strange : Test
strange o d body = not (is_text body)

pub not_strange : (o d : ℕ) (body : Body) → in_message strange (Pkt body d o) ≡ 0 → is_text body ≡ true
not_strange o d body none = by_test (is_text body) none
  where
    by_test : (b : Bool) → ◌≡◌ {A = ℕ} (cond (not b) 1 0) 0 → b ≡ true
    by_test true none = refl
    by_test false none = absurd (let one : ◌≡◌ {A = ℕ} 1 0 = none in omega arith)

-- ---- bytes

line_bytes : (n : ℕ) → AreBytes (big_bytes 4 n)
line_bytes n = (omega arith, (omega arith, (omega arith, (omega arith, tt))))

lines_bytes : {F : Type 0} (table : F → FieldBits) (value : F → ℕ) (fs : List F) (line n : ℕ) → AreBytes (lines_from table value fs line n)
lines_bytes table value fs line zero = tt
lines_bytes table value fs line (suc n) =
    each_append (λ b. b < 256) (big_bytes 4 (line_of table value line fs)) (lines_from table value fs (suc line) n) (line_bytes (line_of table value line fs)) (lines_bytes table value fs (suc line) n)

text_bytes : (body : Body) → are_printable body ≡ true → AreBytes body
text_bytes [] all = tt
text_bytes (b ∷ bs) all =
    let both = and_parts (leb 32 b && leb b 126) (are_printable bs) all in
    let small = leb-true b 126 (and_parts (leb 32 b) (leb b 126) both.0).1 in
    (omega (arith, small), text_bytes bs both.1)

pairs_bytes : (ps : List (Addr × ℕ)) → AreBytes (flat_map rerr.pair_bytes ps)
pairs_bytes [] = tt
pairs_bytes (p ∷ ps) = each_append (λ b. b < 256) (rerr.pair_bytes p) (flat_map rerr.pair_bytes ps) (lines_bytes rerr.pair_table (rerr.pair_value p) rerr.pair_fields 0 2) (pairs_bytes ps)

pairs_long : (ps : List (Addr × ℕ)) → length (flat_map rerr.pair_bytes ps) ≡ 8 * length ps
pairs_long [] = omega arith
pairs_long (p ∷ ps) = omega (arith, pairs_long ps, length-append (rerr.pair_bytes p) (flat_map rerr.pair_bytes ps))

-- a route error has no more destinations than a mesh has nodes
few_pairs : (mesh : Nodes) (dests : Dests) → IsMesh mesh → IsMessageInMesh (length mesh) (Rerr dests) → length (pairs_of mesh dests) ≤ MOST_NODES
few_pairs mesh dests is in_mesh = elim (cases_lt 0 (maps.len dests)) [
  | inl some ↦ let all = destinations mesh dests is in_mesh some in all.few
  | inr none ↦ let same = length-map (maps.entries dests) (pair_by_address mesh) in let len = maps.len-entries dests in omega arith
]

pub packet_text : (mesh : Nodes) (m : Message) → IsMesh mesh → IsMessageInMesh (length mesh) m → in_message strange m ≡ 0 → IsPacketText (packet_of mesh m)
unfolding packet_of encoding
packet_text mesh (Pkt b d o) is in_mesh none =
    let text = and_parts _ (are_printable b) (not_strange o d b none) in
    let short = in_mesh.2.1 in
    let value : data_packet.Field → ℕ = data_packet.value (addr mesh d) (addr mesh o) in
    record {
      bytes_are = each_append (λ x. x < 256) (laid_out data_packet.table value data_packet.fields 3) b (lines_bytes data_packet.table value data_packet.fields 0 3) (text_bytes b text.1);
      some = omega arith;
      short = omega arith;
    }
packet_text mesh (Rreq m) is in_mesh none = record { bytes_are = lines_bytes rreq.table (rreq.value (rreq_of mesh m)) rreq.fields 0 6; some = omega arith; short = omega arith }
packet_text mesh (Rrep m) is in_mesh none = record { bytes_are = lines_bytes rrep.table (rrep.value (rrep_of mesh m)) rrep.fields 0 5; some = omega arith; short = omega arith }
packet_text mesh (Rerr dests) is in_mesh none =
    let ps : List (Addr × ℕ) = pairs_of mesh dests in
    let long = pairs_long ps in
    let few = few_pairs mesh dests is in_mesh in
    record {
      bytes_are = each_append (λ b. b < 256) (laid_out rerr.table (rerr.value (length ps)) rerr.fields 1) (flat_map rerr.pair_bytes ps) (lines_bytes rerr.table (rerr.value (length ps)) rerr.fields 0 1) (pairs_bytes ps);
      some = omega arith;
      short = omega arith;
    }
