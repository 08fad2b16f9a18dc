-- What `route` and `flight` show, and the last line of a run that has read its whole input.
use Rattle.std.proofs.Common.{◌≡◌, ℕ, ◌+◌, ◌≤◌, true, eqb, cond, ◌&&◌, List, [], ◌∷◌, ◌++◌, codes, Some, None, option_map, option_and_then, length, refl, sym, ap, ◌∙◌, subst, arith, append_assoc, eq-eqb}
use Rattle.std.specs.List.{AllByRecursion}
use Rattle.std.specs.Fmt.{decimal}
use Rattle.std.proofs.lemmas.Bool.{and_from, ne_eqb}
use Rattle.std.proofs.lemmas.Slice.Eq.{bytes_eq-Decides}
use Rattle.mesh_base.specs.Meshes.{Nodes, IsMesh, addr_at}
use Rattle.mesh_base.specs.Parts.{parts}
use Rattle.mesh_grammar.specs.Commands.{greatest_id}
use Rattle.mesh_grammar.proofs.Readings.{three_texts}
use Rattle.mesh_meaning.specs.Packets.{packet_of}
use Rattle.mesh_model.specs.Accounts.{total, in_copy}
use Rattle.mesh_model.specs.InMesh.{AreNumbered, IsCopyInMesh}
use Rattle.mesh_model.specs.Routes.{End, Arrived, Stuck}
use Rattle.mesh_model.specs.Worlds.{Copy, find_copy}
use Rattle.mesh_text.specs.Lines.{name_of, hex}
use Rattle.mesh_text.specs.Tables.{number_line, stuck_line, end_text, flying_text, flight_text}
use Rattle.mesh_text.proofs.Clean.{name_clean, decimal_clean, hex_clean, clean_append}
use Rattle.mesh_lines.specs.declared.below.Below.TheVariants as below
use Rattle.mesh_lines.specs.declared.form.Field.TheVariants.{Address}
use Rattle.mesh_lines.specs.Forms.{are}
use Rattle.mesh_lines.specs.Lines.{number, ends_of}
use Rattle.mesh_capture.specs.Copies as copies
use Rattle.mesh_capture.specs.Copies.{Reading, checked_if, copy_in, shown_as, shown_copy, is_same_copy, after_shown, with_shown}
use Rattle.mesh_capture.proofs.Effects.{stand}
use Rattle.mesh_capture.proofs.EventLines.{ends_read, one_is, two_are, number_fits}
use Rattle.mesh_capture.proofs.Flights.{copy_found, numbers_end}
use Rattle.mesh_capture.proofs.Hexes.{IsPacketText, hex_lacks, packet_read}
use Rattle.mesh_capture.proofs.PacketTexts.{strange, packet_text}
use Rattle.mesh_capture.proofs.Told.{Stand, Reads, reading_of, copy_told, flight_told, reads_none, reads_both, reads_effect}
use Rattle.mesh_capture.proofs.Words.{word_lacks, words_apart, name_lacks, number_lacks, is_name, number_read}

-- a copy is found by its number, which is between those before it and the next
find_there : (low next : ℕ) (pre : List Copy) (c : Copy) (cs : List Copy) → AreNumbered low (pre ++ c ∷ cs) next → (low ≤ c.id) × (c.id + 1 ≤ next) × (find_copy (pre ++ c ∷ cs) c.id ≡ Some c)
find_there low next [] c cs are = (are.0, numbers_end (c.id + 1) next cs are.1, ap (λ b. cond b (Some c) (find_copy cs c.id)) (eq-eqb c.id c.id refl))
find_there low next (d ∷ ds) c cs are =
    let rest = find_there (d.id + 1) next ds c cs are.1 in
    let low = are.0 in
    let after = rest.0 in
    (omega arith, rest.1, ap (λ b. cond b (Some d) (find_copy (ds ++ c ∷ cs) c.id)) (ne_eqb d.id c.id (λ e. omega arith)) ∙ rest.2)

abbrev pub hops_of : End → ℕ
hops_of (Arrived hops) = hops
hops_of (Stuck at hops) = hops

module _ (mesh : Nodes) (is : IsMesh mesh) where
  -- ---- a route

  arrived_reads : (cs : List Copy) (n hops : ℕ) → hops ≤ greatest_id → Reads mesh (stand cs n below.Route) (number_line (codes "arrived") hops) [] (stand cs n below.Route)
  unfolding number_line
  arrived_reads cs n hops few =
      let a : Stand = stand cs n below.Route in
      reads_effect mesh a a (codes "arrived " ++ decimal hops) (codes "arrived") (decimal hops ∷ []) None (decimal_clean hops)
      (words_apart (codes "arrived") (decimal hops ∷ []) (word_lacks 32 (codes "arrived") refl, (number_lacks 32 hops (omega arith) few, tt)))
      (λ k. ap (λ b. checked_if b (reading_of mesh a k)) (one_is number (decimal hops) (number_fits greatest_id hops few (omega arith))))

  stuck_reads : (cs : List Copy) (n at hops : ℕ) → hops ≤ greatest_id → Reads mesh (stand cs n below.Route) (stuck_line mesh at hops) [] (stand cs n below.Route)
  unfolding stuck_line
  stuck_reads cs n at hops few =
      let a : Stand = stand cs n below.Route in
      reads_effect mesh a a (codes "stuck " ++ name_of mesh at ++ 32 ∷ decimal hops) (codes "stuck") (name_of mesh at ∷ decimal hops ∷ []) None
      (clean_append (name_of mesh at) (32 ∷ decimal hops) (name_clean mesh at) (decimal_clean hops))
      (words_apart (codes "stuck") (name_of mesh at ∷ decimal hops ∷ []) (word_lacks 32 (codes "stuck") refl, (name_lacks 32 mesh at (omega arith) is, (number_lacks 32 hops (omega arith) few, tt))))
      (λ k. ap (λ b. checked_if b (reading_of mesh a k)) (two_are Address number (name_of mesh at) (decimal hops) (is_name mesh at is) (number_fits greatest_id hops few (omega arith))))

  pub end_reads : (cs : List Copy) (n : ℕ) (end : End) → hops_of end ≤ greatest_id → Reads mesh (stand cs n below.Route) (end_text mesh end) [] (stand cs n below.Route)
  end_reads cs n (Arrived hops) few = arrived_reads cs n hops few
  end_reads cs n (Stuck at hops) few = stuck_reads cs n at hops few

  -- ---- the radio

  shown_read : (c : Copy) → 1 ≤ c.id → c.id ≤ greatest_id → IsPacketText (packet_of mesh c.message)
      → shown_copy (decimal c.id ∷ name_of mesh c.from ∷ name_of mesh c.to ∷ hex (packet_of mesh c.message) ∷ []) ≡ Some (copy_told mesh c)
  shown_read c some le packet =
      let bytes : List ℕ = packet_of mesh c.message in
      let ends : ℕ × ℕ = (addr_at mesh c.from, addr_at mesh c.to) in
      ap (option_and_then (λ (n : ℕ). option_and_then (λ (e : ℕ × ℕ). option_map (shown_as n e) (copies.packet_of (hex bytes))) (ends_of (name_of mesh c.from ∷ name_of mesh c.to ∷ [])))) (number_read c.id some le)
      ∙ ap (option_and_then (λ (e : ℕ × ℕ). option_map (shown_as c.id e) (copies.packet_of (hex bytes)))) (ends_read mesh c.from c.to is)
      ∙ ap (option_map (shown_as c.id ends)) (packet_read bytes packet)

  same_copy : (c : Copy) → is_same_copy (copy_told mesh c).1 (copy_told mesh c).1 ≡ true
  same_copy c =
      let bytes : List ℕ = packet_of mesh c.message in
      let from : eqb (addr_at mesh c.from) (addr_at mesh c.from) ≡ true = eq-eqb (addr_at mesh c.from) (addr_at mesh c.from) refl in
      let to : eqb (addr_at mesh c.to) (addr_at mesh c.to) ≡ true = eq-eqb (addr_at mesh c.to) (addr_at mesh c.to) refl in
      and_from (eqb (addr_at mesh c.from) (addr_at mesh c.from) && eqb (addr_at mesh c.to) (addr_at mesh c.to)) _ (and_from (eqb (addr_at mesh c.from) (addr_at mesh c.from)) _ from to) ((bytes_eq-Decides bytes bytes).1 refl)

  flying_reads : (cs : List Copy) (n : ℕ) (c : Copy) → find_copy cs c.id ≡ Some c → 1 ≤ c.id → c.id ≤ greatest_id → IsPacketText (packet_of mesh c.message)
      → Reads mesh (stand cs n below.Flight) (flying_text mesh c) [] (stand cs n below.Flight)
  unfolding flying_text
  flying_reads cs n c found some le packet =
      let a : Stand = stand cs n below.Flight in
      let bytes : List ℕ = packet_of mesh c.message in
      let told : copy_in (flight_told mesh cs) c.id ≡ Some (copy_told mesh c).1 = copy_found mesh cs c.id ∙ ap (option_map (λ (d : Copy). (copy_told mesh d).1)) found in
      reads_effect mesh a a (codes "copy " ++ decimal c.id ++ 32 ∷ name_of mesh c.from ++ 32 ∷ name_of mesh c.to ++ 32 ∷ hex bytes) (codes "copy") (decimal c.id ∷ name_of mesh c.from ∷ name_of mesh c.to ∷ hex bytes ∷ []) None
      (clean_append (decimal c.id ++ 32 ∷ name_of mesh c.from ++ 32 ∷ name_of mesh c.to) (32 ∷ hex bytes)
      (clean_append (decimal c.id ++ 32 ∷ name_of mesh c.from) (32 ∷ name_of mesh c.to) (clean_append (decimal c.id) (32 ∷ name_of mesh c.from) (decimal_clean c.id) (name_clean mesh c.from)) (name_clean mesh c.to)) (hex_clean bytes))
      (ap (λ t. parts 32 (codes "copy " ++ t)) (sym (three_texts (decimal c.id) (name_of mesh c.from) (name_of mesh c.to) (hex bytes)))
      ∙ words_apart (codes "copy") (decimal c.id ∷ name_of mesh c.from ∷ name_of mesh c.to ∷ hex bytes ∷ [])
      (word_lacks 32 (codes "copy") refl, (number_lacks 32 c.id (omega arith) le, (name_lacks 32 mesh c.from (omega arith) is, (name_lacks 32 mesh c.to (omega arith) is, (hex_lacks bytes packet.bytes_are, tt))))))
      (λ k. ap (after_shown (reading_of mesh a k)) (shown_read c some le packet) ∙ ap (with_shown (reading_of mesh a k) c.id (copy_told mesh c).1) told ∙ ap (λ b. checked_if b (reading_of mesh a k)) (same_copy c))

  -- all copies in flight
  all_shown : (ws pre cs : List Copy) (n next : ℕ) → pre ++ cs ≡ ws → AreNumbered 1 ws next → next ≤ greatest_id + 1 → AllByRecursion (λ (c : Copy). IsPacketText (packet_of mesh c.message)) cs
      → Reads mesh (stand ws n below.Flight) (flight_text mesh cs) [] (stand ws n below.Flight)
  all_shown ws pre [] n next same are few packets = reads_none mesh (stand ws n below.Flight)
  all_shown ws pre (c ∷ cs) n next same are few packets =
      let a : Stand = stand ws n below.Flight in
      let there = find_there 1 next pre c cs (subst (λ l. AreNumbered 1 l next) (sym same) are) in
      let found : find_copy ws c.id ≡ Some c = ap (λ l. find_copy l c.id) (sym same) ∙ there.2 in
      reads_both mesh a a a (flying_text mesh c) (flight_text mesh cs) (flying_reads ws n c found there.0 (omega (arith, there.1, few)) packets.0)
      (all_shown ws (pre ++ c ∷ []) cs n next (append_assoc pre (c ∷ []) cs ∙ same) are few packets.1)

  packets_are : (cs : List Copy) → AllByRecursion (IsCopyInMesh (length mesh)) cs → total (in_copy strange) cs ≡ 0 → AllByRecursion (λ (c : Copy). IsPacketText (packet_of mesh c.message)) cs
  packets_are [] all none = tt
  packets_are (c ∷ cs) all none =
      let first : in_copy strange c ≡ 0 = omega arith in
      let rest : total (in_copy strange) cs ≡ 0 = omega arith in
      (packet_text mesh c.message is all.0.3 first, packets_are cs all.1 rest)

  pub flight_shown : (ws : List Copy) (n next : ℕ) → AreNumbered 1 ws next → next ≤ greatest_id + 1 → AllByRecursion (IsCopyInMesh (length mesh)) ws → total (in_copy strange) ws ≡ 0
      → Reads mesh (stand ws n below.Flight) (flight_text mesh ws) [] (stand ws n below.Flight)
  flight_shown ws n next are few all none = all_shown ws [] ws n next refl are few (packets_are ws all none)
