-- What an event did, as it is written, leads from the flight before it to that after it.
use Rattle.std.proofs.Common.{◌≡◌, ℕ, ◌+◌, ◌≤◌, true, false, cond, ◌||◌, List, [], ◌∷◌, ◌++◌, codes, Option, Some, None, option_map, length, refl, sym, ap, subst, ◌∙◌, arith, append_assoc, append-nil}
use Rattle.std.specs.Prelude.{if◌then◌else◌}
use Rattle.aodv_model.specs.Cores.{Message, Pkt, Rreq, Rrep, Rerr}
use Rattle.aodv_model.specs.Handlers.{Cast, Nothing, One, Many, All, Effect, Took, Own, Stored, FromNeighbour}
use Rattle.aodv_model.specs.Soundness.{IsCastInMesh, IsAimed}
use Rattle.mesh_base.specs.Meshes.{Nodes, IsMesh, addr_at}
use Rattle.mesh_base.specs.Parts.{parts}
use Rattle.mesh_grammar.specs.Commands.{greatest_id}
use Rattle.mesh_grammar.specs.Written.{line, label_number}
use Rattle.mesh_meaning.specs.Packets.{packet_of}
use Rattle.mesh_model.specs.Accounts.{in_taken, in_dropped}
use Rattle.mesh_model.specs.InMesh.{AreNumbered}
use Rattle.mesh_model.specs.Worlds.{Copy, copies_to, copies_of}
use Rattle.mesh_text.specs.Effects.{delivery_text, drop_text, datum_fate, broken_text, cast_text, copies_text, sent_text, set_text, took_text}
use Rattle.mesh_text.specs.Lines.{name_of, hex}
use Rattle.mesh_text.proofs.Clean.{is_clean, name_clean, hex_clean, set_clean, clean_append}
use Rattle.mesh_lines.specs.declared.below.Below.{Below}
use Rattle.mesh_lines.specs.declared.below.Below.TheVariants as below
use Rattle.mesh_capture.specs.Copies as copies
use Rattle.mesh_capture.specs.Copies.{LineOutcome, no_frame, are_receivers}
use Rattle.mesh_capture.proofs.Casts.{IsFair}
use Rattle.mesh_capture.proofs.Effects.{stand, took_reads, delivered_reads, dropped_reads, broken_reads, cast_copy_reads}
use Rattle.mesh_capture.proofs.Groups.{group_read, group_lacks}
use Rattle.mesh_capture.proofs.Hexes.{IsPacketText, hex_lacks, packet_read}
use Rattle.mesh_capture.proofs.PacketTexts.{strange, not_strange, packet_text}
use Rattle.mesh_capture.proofs.Told.{Stand, Reads, reading_of, reads_none, reads_both, reads_if, reads_effect}
use Rattle.mesh_capture.proofs.Words.{word_lacks, words_apart, name_lacks, is_name}

-- the packet of a cast
abbrev pub packet_in : Nodes → Cast → Option (List ℕ)
packet_in mesh Nothing = None
packet_in mesh (One y m) = Some (packet_of mesh m)
packet_in mesh (Many s m) = Some (packet_of mesh m)
packet_in mesh (All m) = Some (packet_of mesh m)

-- the copies have numbers from `low` on and below this one
pub numbers_last : (low : ℕ) (cs : List Copy) (c : Copy) → AreNumbered low cs c.id → AreNumbered low (cs ++ c ∷ []) (c.id + 1)
numbers_last low [] c are = (are, omega arith)
numbers_last low (d ∷ ds) c are = (are.0, numbers_last (d.id + 1) ds c are.1)

-- what an effect has, so that it is read
pub record IsReadable (mesh : Nodes) (e : Effect) : Type 0 where
  pub in_mesh : IsCastInMesh (length mesh) e.cast
  pub aimed : IsAimed (length mesh) e.cast
  pub fair : IsFair strange e.cast

module _ (mesh : Nodes) (is : IsMesh mesh) where
  -- ---- the packet that is cast

  -- what a line `sent` tells
  abbrev told : List Copy → ℕ → ℕ → ℕ → List ℕ → LineOutcome
  told cs n node k packet = no_frame (record (reading_of mesh (stand cs n (below.Casts node None)) k) { below = below.Casts node (Some packet) })

  sent_to : (cs : List Copy) (n node : ℕ) (kind receivers bytes : List ℕ) (text : List ℕ) → is_clean text ≡ true → parts 32 text ≡ codes "sent" ∷ kind ∷ receivers ∷ hex bytes ∷ [] → are_receivers kind receivers ≡ true
      → IsPacketText bytes → Reads mesh (stand cs n (below.Casts node None)) (line (32 ∷ 32 ∷ text)) [] (stand cs n (below.Casts node (Some bytes)))
  sent_to cs n node kind receivers bytes text clean cut known packet =
      reads_effect mesh (stand cs n (below.Casts node None)) (stand cs n (below.Casts node (Some bytes))) text (codes "sent") (kind ∷ receivers ∷ hex bytes ∷ []) None clean cut
      (λ k. ap (λ b. option_map (told cs n node k) (cond b (copies.packet_of (hex bytes)) None)) known ∙ ap (option_map (told cs n node k)) (packet_read bytes packet))

  cast_read : (cs : List Copy) (n node : ℕ) (cast : Cast) → IsCastInMesh (length mesh) cast → IsAimed (length mesh) cast → IsFair strange cast
      → Reads mesh (stand cs n (below.Casts node None)) (cast_text mesh cast) [] (stand cs n (below.Casts node (packet_in mesh cast)))
  cast_read cs n node Nothing in_mesh aimed fair = reads_none mesh (stand cs n (below.Casts node None))
  cast_read cs n node (One y m) in_mesh aimed fair =
      let packet = packet_text mesh m is in_mesh fair in
      let bytes : List ℕ = packet_of mesh m in
      sent_to cs n node (codes "one") (name_of mesh y) bytes (codes "sent one " ++ name_of mesh y ++ 32 ∷ hex bytes) (clean_append (name_of mesh y) (32 ∷ hex bytes) (name_clean mesh y) (hex_clean bytes))
      (words_apart (codes "sent") (codes "one" ∷ name_of mesh y ∷ hex bytes ∷ [])
      (word_lacks 32 (codes "sent") refl, (word_lacks 32 (codes "one") refl, (name_lacks 32 mesh y (omega arith) is, (hex_lacks bytes packet.bytes_are, tt)))))
      (ap (λ b. b || false) (is_name mesh y is)) packet
  cast_read cs n node (Many s m) in_mesh aimed fair =
      let packet = packet_text mesh m is in_mesh fair.1 in
      let bytes : List ℕ = packet_of mesh m in
      sent_to cs n node (codes "many") (set_text mesh s) bytes (codes "sent many " ++ set_text mesh s ++ 32 ∷ hex bytes) (clean_append (set_text mesh s) (32 ∷ hex bytes) (set_clean mesh s) (hex_clean bytes))
      (words_apart (codes "sent") (codes "many" ∷ set_text mesh s ∷ hex bytes ∷ [])
      (word_lacks 32 (codes "sent") refl, (word_lacks 32 (codes "many") refl, (group_lacks mesh is s, (hex_lacks bytes packet.bytes_are, tt)))))
      (group_read mesh is s aimed fair.0) packet
  cast_read cs n node (All m) in_mesh aimed fair =
      let packet = packet_text mesh m is in_mesh fair in
      let bytes : List ℕ = packet_of mesh m in
      reads_effect mesh (stand cs n (below.Casts node None)) (stand cs n (below.Casts node (Some bytes))) (codes "sent all " ++ hex bytes) (codes "sent") (codes "all" ∷ hex bytes ∷ []) None (hex_clean bytes)
      (words_apart (codes "sent") (codes "all" ∷ hex bytes ∷ []) (word_lacks 32 (codes "sent") refl, (word_lacks 32 (codes "all") refl, (hex_lacks bytes packet.bytes_are, tt))))
      (λ k. ap (option_map (told cs n node k)) (packet_read bytes packet))

  -- ---- its copies

  copies_read : (cs : List Copy) (n low x : ℕ) (m : Message) (tos : List ℕ) (id : ℕ) → 1 ≤ id → AreNumbered low cs id → id + length (copies_to tos id x m) ≤ greatest_id + 1 →
      let b = below.Casts (addr_at mesh x) (Some (packet_of mesh m)) in
      Reads mesh (stand cs n b) (copies_text mesh (copies_to tos id x m)) [] (stand (cs ++ copies_to tos id x m) n b)
  copies_read cs n low x m [] id some are fits =
      let b : Below = below.Casts (addr_at mesh x) (Some (packet_of mesh m)) in
      subst (λ ds. Reads mesh (stand cs n b) [] [] (stand ds n b)) (sym (append-nil cs)) (reads_none mesh (stand cs n b))
  copies_read cs n low x m (to ∷ tos) id some are fits =
      let b : Below = below.Casts (addr_at mesh x) (Some (packet_of mesh m)) in
      let c : Copy = record { id = id; from = x; to = to; message = m } in
      let others : List Copy = copies_to tos (id + 1) x m in
      subst (λ ds. Reads mesh (stand cs n b) (copies_text mesh (c ∷ others)) [] (stand ds n b)) (append_assoc cs (c ∷ []) others)
      (reads_both mesh (stand cs n b) (stand (cs ++ c ∷ []) n b) (stand ((cs ++ c ∷ []) ++ others) n b) (line (label_number (codes "  copy ") id ++ 32 ∷ name_of mesh to)) (copies_text mesh others)
      (cast_copy_reads mesh is cs n low c some (omega arith) are)
      (copies_read (cs ++ c ∷ []) n low x m tos (id + 1) (omega arith) (numbers_last low cs c are) (omega arith)))

  copies_of_read : (cs : List Copy) (n low x : ℕ) (cast : Cast) (tos : List ℕ) (id : ℕ) → 1 ≤ id → AreNumbered low cs id → id + length (copies_of cast tos id x) ≤ greatest_id + 1 →
      let b = below.Casts (addr_at mesh x) (packet_in mesh cast) in
      Reads mesh (stand cs n b) (copies_text mesh (copies_of cast tos id x)) [] (stand (cs ++ copies_of cast tos id x) n b)
  copies_of_read cs n low x Nothing tos id some are fits =
      let b : Below = below.Casts (addr_at mesh x) None in
      subst (λ ds. Reads mesh (stand cs n b) [] [] (stand ds n b)) (sym (append-nil cs)) (reads_none mesh (stand cs n b))
  copies_of_read cs n low x (One y m) tos id some are fits = copies_read cs n low x m tos id some are fits
  copies_of_read cs n low x (Many s m) tos id some are fits = copies_read cs n low x m tos id some are fits
  copies_of_read cs n low x (All m) tos id some are fits = copies_read cs n low x m tos id some are fits

  pub sent_reads : (cs : List Copy) (n low x : ℕ) (e : Effect) (tos : List ℕ) (id : ℕ) → IsReadable mesh e → 1 ≤ id → AreNumbered low cs id → id + length (copies_of e.cast tos id x) ≤ greatest_id + 1
      → Reads mesh (stand cs n (below.Casts (addr_at mesh x) None)) (sent_text mesh e (copies_of e.cast tos id x)) [] (stand (cs ++ copies_of e.cast tos id x) n (below.Casts (addr_at mesh x) (packet_in mesh e.cast)))
  sent_reads cs n low x e tos id readable some are fits =
      let a : Stand = stand cs n (below.Casts (addr_at mesh x) None) in
      let b : Stand = stand cs n (below.Casts (addr_at mesh x) (packet_in mesh e.cast)) in
      reads_both mesh a b (stand (cs ++ copies_of e.cast tos id x) n b.below) (broken_text mesh e.broken ++ cast_text mesh e.cast) (copies_text mesh (copies_of e.cast tos id x))
      (reads_both mesh a a b (broken_text mesh e.broken) (cast_text mesh e.cast) (broken_reads mesh is cs n (addr_at mesh x) e.broken) (cast_read cs n (addr_at mesh x) e.cast readable.in_mesh readable.aimed readable.fair))
      (copies_of_read cs n low x e.cast tos id some are fits)

  -- ---- what became of a datum

  delivery_reads : (cs : List Copy) (n node x : ℕ) (took : Took) → in_taken strange x took ≡ 0
      → Reads mesh (stand cs n (below.Casts node None)) (delivery_text mesh x took) [] (stand cs n (below.Casts node None))
  delivery_reads cs n node x (Own body) none = delivered_reads mesh is cs n node None x x body (not_strange x x body none)
  delivery_reads cs n node x (Stored dest) none = reads_none mesh (stand cs n (below.Casts node None))
  delivery_reads cs n node x (FromNeighbour from (Pkt body d o)) none = delivered_reads mesh is cs n node None o d body (not_strange o d body none)
  delivery_reads cs n node x (FromNeighbour from (Rreq m)) none = reads_none mesh (stand cs n (below.Casts node None))
  delivery_reads cs n node x (FromNeighbour from (Rrep m)) none = reads_none mesh (stand cs n (below.Casts node None))
  delivery_reads cs n node x (FromNeighbour from (Rerr dests)) none = reads_none mesh (stand cs n (below.Casts node None))

  drop_reads : (cs : List Copy) (n node : ℕ) (took : Took) → in_dropped strange took ≡ 0
      → Reads mesh (stand cs n (below.Casts node None)) (drop_text mesh took) [] (stand cs n (below.Casts node None))
  drop_reads cs n node (Own body) none = reads_none mesh (stand cs n (below.Casts node None))
  drop_reads cs n node (Stored dest) none = reads_none mesh (stand cs n (below.Casts node None))
  drop_reads cs n node (FromNeighbour from (Pkt body d o)) none = dropped_reads mesh is cs n node None o d body (not_strange o d body none)
  drop_reads cs n node (FromNeighbour from (Rreq m)) none = reads_none mesh (stand cs n (below.Casts node None))
  drop_reads cs n node (FromNeighbour from (Rrep m)) none = reads_none mesh (stand cs n (below.Casts node None))
  drop_reads cs n node (FromNeighbour from (Rerr dests)) none = reads_none mesh (stand cs n (below.Casts node None))

  fate_reads : (cs : List Copy) (n node x : ℕ) (took : Took) (e : Effect) → (e.deliver ≡ true → in_taken strange x took ≡ 0) → (e.lost ≡ true → in_dropped strange took ≡ 0)
      → Reads mesh (stand cs n (below.Casts node None)) (datum_fate mesh x took e) [] (stand cs n (below.Casts node None))
  fate_reads cs n node x took e delivers drops =
      let a : Stand = stand cs n (below.Casts node None) in
      reads_both mesh a a a (if e.deliver then delivery_text mesh x took else []) (if e.lost then drop_text mesh took else []) (reads_if mesh a e.deliver (delivery_text mesh x took) (λ is. delivery_reads cs n node x took (delivers is)))
      (reads_if mesh a e.lost (drop_text mesh took) (λ is. drop_reads cs n node took (drops is)))

  -- ---- a turn

  pub turn_reads : (cs : List Copy) (n low x : ℕ) (took : Took) (e : Effect) (tos : List ℕ) (id : ℕ) → IsReadable mesh e → (e.deliver ≡ true → in_taken strange x took ≡ 0) → (e.lost ≡ true → in_dropped strange took ≡ 0)
      → 1 ≤ id → AreNumbered low cs id → id + length (copies_of e.cast tos id x) ≤ greatest_id + 1
      → Reads mesh (stand cs n (below.Casts (addr_at mesh x) None)) (took_text mesh x took ++ datum_fate mesh x took e ++ sent_text mesh e (copies_of e.cast tos id x)) []
      (stand (cs ++ copies_of e.cast tos id x) n (below.Casts (addr_at mesh x) (packet_in mesh e.cast)))
  turn_reads cs n low x took e tos id readable delivers drops some are fits =
      let a : Stand = stand cs n (below.Casts (addr_at mesh x) None) in
      let c : Stand = stand (cs ++ copies_of e.cast tos id x) n (below.Casts (addr_at mesh x) (packet_in mesh e.cast)) in
      reads_both mesh a a c (took_text mesh x took ++ datum_fate mesh x took e) (sent_text mesh e (copies_of e.cast tos id x))
      (reads_both mesh a a a (took_text mesh x took) (datum_fate mesh x took e) (took_reads mesh is cs n (addr_at mesh x) x took) (fate_reads cs n (addr_at mesh x) x took e delivers drops))
      (sent_reads cs n low x e tos id readable some are fits)
