-- The effects below an event: each is read below it, and the copies that they tell of join the flight and leave it.
use Rattle.std.proofs.Common.{◌≡◌, ℕ, ◌≤◌, Bool, true, false, eqb, cond, not, List, [], ◌∷◌, ◌++◌, codes, Option, Some, None, option_map, option_and_then, refl, sym, ap, ◌∙◌, arith, eq-eqb}
use Rattle.std.specs.Prelude.{is_some}
use Rattle.std.specs.List.{flat_map, list_all, join_with_byte}
use Rattle.std.specs.Map.{remove_entry}
use Rattle.std.specs.Ordering.{nat_cmp}
use Rattle.std.specs.BTreeMap.{insert_entry, is_at}
use Rattle.std.specs.Fmt.{decimal}
use Rattle.std.proofs.lemmas.Bool.{and_from, and_parts}
use Rattle.aodv_model.specs.Cores.{Body, Pkt, Rreq, Rrep, Rerr}
use Rattle.aodv_model.specs.Handlers.{Took, Own, Stored, FromNeighbour}
use Rattle.mesh_base.specs.Meshes.{Nodes, IsMesh, addr_at}
use Rattle.mesh_base.specs.Parts.{parts}
use Rattle.mesh_base.proofs.WrittenForms.{Lacks, parts_at}
use Rattle.mesh_model.specs.InMesh.{AreNumbered}
use Rattle.mesh_model.specs.Worlds.{Copy, find_copy, without}
use Rattle.mesh_meaning.specs.Packets.{packet_of}
use Rattle.mesh_grammar.specs.Commands.{greatest_id}
use Rattle.mesh_grammar.specs.Words.{are_printable, is_text}
use Rattle.mesh_grammar.specs.Written.{line, label_number}
use Rattle.mesh_grammar.proofs.Readings.{is_text_if, three_texts}
use Rattle.mesh_text.specs.Effects.{shown_byte, datum_text, took_text, broken_text}
use Rattle.mesh_text.specs.Lines.{name_of}
use Rattle.mesh_text.proofs.Clean.{is_clean, name_clean, decimal_clean, shown_clean, clean_append}
use Rattle.mesh_lines.specs.declared.below.Below.{Below}
use Rattle.mesh_lines.specs.declared.below.Below.TheVariants as below
use Rattle.mesh_lines.specs.declared.form.Field.TheVariants.{Address}
use Rattle.mesh_lines.specs.Belows.{copy_words}
use Rattle.mesh_lines.specs.Forms.{is_body}
use Rattle.mesh_lines.specs.Lines.{is_taken_kind, address_in}
use Rattle.mesh_capture.specs.Copies.{Flying, Reading, no_frame, copy_in, checked_if, after_copy, with_copy, doubled_copy, after_end, end_outcome, effect_below}
use Rattle.mesh_capture.specs.Runs.{copy_frame}
use Rattle.mesh_capture.proofs.EventLines.{ends_read, one_is, text_read}
use Rattle.mesh_capture.proofs.Flights.{copy_found, absent, joined, left}
use Rattle.mesh_capture.proofs.Hexes.{body_read}
use Rattle.mesh_capture.proofs.Told.{Stand, Reads, reading_of, came, copy_told, flight_told, reads_none, reads_effect}
use Rattle.mesh_capture.proofs.Words.{word_lacks, words_apart, name_lacks, name_read, is_name, number_lacks, number_read}

-- these copies are in flight after so many events, of which the last has this below it
abbrev pub stand : List Copy → ℕ → Below → Stand
stand cs n b = record { flying = cs; events = n; below = b }

-- such as may have `idle` below them
abbrev pub MayBeIdle : Below → Type 0
MayBeIdle below.Link = Unit {0}
MayBeIdle (below.Casts node packet) = Unit {0}
MayBeIdle (below.Delivers id) = Unit {0}
MayBeIdle (below.Loses id) = Unit {0}
MayBeIdle (below.Doubles id) = Unit {0}
MayBeIdle below.Place = Unit {0}
MayBeIdle other = ⊥

idle_below : (r : Reading) (b : Below) → MayBeIdle b → effect_below r b (codes "idle") [] ≡ Some (no_frame r)
idle_below r below.Link may = refl
idle_below r (below.Casts node packet) may = refl
idle_below r (below.Delivers id) may = refl
idle_below r (below.Loses id) may = refl
idle_below r (below.Doubles id) may = refl
idle_below r below.Place may = refl
idle_below r below.Nothing may = absurd may
idle_below r below.Node may = absurd may
idle_below r below.Route may = absurd may
idle_below r below.Flight may = absurd may

pub idle_reads : (mesh : Nodes) (a : Stand) → MayBeIdle a.below → Reads mesh a (line (codes "  idle")) [] a
idle_reads mesh a may =
    reads_effect mesh a a (codes "idle") (codes "idle") [] None refl (words_apart (codes "idle") [] (word_lacks 32 (codes "idle") refl, tt)) (λ k. idle_below (reading_of mesh a k) a.below may)

module _ (mesh : Nodes) (is : IsMesh mesh) where
  -- ---- what a turn took

  took_line : (cs : List Copy) (n node : ℕ) (p : Option (List ℕ)) (kind : List ℕ) (x : ℕ) → is_taken_kind kind ≡ true → list_all (λ b. not (eqb b 32)) kind ≡ true → is_clean kind ≡ true
      → Reads mesh (stand cs n (below.Casts node p)) (line (32 ∷ 32 ∷ join_with_byte 32 (codes "took" ∷ kind ∷ name_of mesh x ∷ []))) [] (stand cs n (below.Casts node p))
  took_line cs n node p kind x known whole clean =
      let a : Stand = stand cs n (below.Casts node p) in
      reads_effect mesh a a (join_with_byte 32 (codes "took" ∷ kind ∷ name_of mesh x ∷ [])) (codes "took") (kind ∷ name_of mesh x ∷ []) None
      (clean_append kind (32 ∷ name_of mesh x) clean (name_clean mesh x))
      (words_apart (codes "took") (kind ∷ name_of mesh x ∷ []) (word_lacks 32 (codes "took") refl, (word_lacks 32 kind whole, (name_lacks 32 mesh x (omega arith) is, tt))))
      (λ k. ap (λ b. checked_if b (reading_of mesh a k)) (and_from (is_taken_kind kind) (is_some (address_in (name_of mesh x ∷ []))) known (is_name mesh x is)))

  pub took_reads : (cs : List Copy) (n node : ℕ) (x : ℕ) (took : Took) → Reads mesh (stand cs n (below.Casts node None)) (took_text mesh x took) [] (stand cs n (below.Casts node None))
  took_reads cs n node x (Own body) = took_line cs n node None (codes "new") x refl refl refl
  took_reads cs n node x (Stored dest) = took_line cs n node None (codes "new") dest refl refl refl
  took_reads cs n node x (FromNeighbour from (Pkt body d o)) = took_line cs n node None (codes "data") from refl refl refl
  took_reads cs n node x (FromNeighbour from (Rreq m)) = took_line cs n node None (codes "rreq") from refl refl refl
  took_reads cs n node x (FromNeighbour from (Rrep m)) = took_line cs n node None (codes "rrep") from refl refl refl
  took_reads cs n node x (FromNeighbour from (Rerr dests)) = took_line cs n node None (codes "rerr") from refl refl refl

  -- ---- data

  data_words : (word text : List ℕ) (o d : ℕ) → Lacks 32 word → parts 32 (word ++ 32 ∷ name_of mesh o ++ 32 ∷ name_of mesh d ++ 32 ∷ text) ≡ word ∷ name_of mesh o ∷ name_of mesh d ∷ parts 32 text
  data_words word text o d lacks =
      ap (parts 32) (sym (three_texts word (name_of mesh o) (name_of mesh d) text))
      ∙ parts_at 32 word (name_of mesh o ++ 32 ∷ (name_of mesh d ++ 32 ∷ text)) lacks
      ∙ ap (λ ps. word ∷ ps) (parts_at 32 (name_of mesh o) (name_of mesh d ++ 32 ∷ text) (name_lacks 32 mesh o (omega arith) is))
      ∙ ap (λ ps. word ∷ name_of mesh o ∷ ps) (parts_at 32 (name_of mesh d) text (name_lacks 32 mesh d (omega arith) is))

  data_clean : (o d : ℕ) (body : Body) → is_clean (name_of mesh o ++ 32 ∷ name_of mesh d ++ 32 ∷ flat_map shown_byte body) ≡ true
  data_clean o d body =
      clean_append (name_of mesh o ++ 32 ∷ name_of mesh d) (32 ∷ flat_map shown_byte body) (clean_append (name_of mesh o) (32 ∷ name_of mesh d) (name_clean mesh o) (name_clean mesh d)) (shown_clean body)

  text_shown : (body : Body) → is_text body ≡ true → is_body (flat_map shown_byte body) ≡ true
  text_shown body text = body_read body (and_parts _ (are_printable body) text).1 (is_text_if body text).0

  pub delivered_reads : (cs : List Copy) (n node : ℕ) (p : Option (List ℕ)) (o d : ℕ) (body : Body) → is_text body ≡ true
      → Reads mesh (stand cs n (below.Casts node p)) (datum_text (codes "  delivered ") mesh o d body) [] (stand cs n (below.Casts node p))
  delivered_reads cs n node p o d body text =
      let a : Stand = stand cs n (below.Casts node p) in
      let shown : List ℕ = flat_map shown_byte body in
      reads_effect mesh a a (codes "delivered " ++ name_of mesh o ++ 32 ∷ name_of mesh d ++ 32 ∷ shown) (codes "delivered") (name_of mesh o ∷ name_of mesh d ∷ parts 32 shown) None
      (data_clean o d body) (data_words (codes "delivered") shown o d (word_lacks 32 (codes "delivered") refl))
      (λ k. ap (λ b. checked_if b (reading_of mesh a k)) (text_read mesh o d shown is_body is (text_shown body text)))

  pub dropped_reads : (cs : List Copy) (n node : ℕ) (p : Option (List ℕ)) (o d : ℕ) (body : Body) → is_text body ≡ true
      → Reads mesh (stand cs n (below.Casts node p)) (datum_text (codes "  dropped ") mesh o d body) [] (stand cs n (below.Casts node p))
  dropped_reads cs n node p o d body text =
      let a : Stand = stand cs n (below.Casts node p) in
      let shown : List ℕ = flat_map shown_byte body in
      reads_effect mesh a a (codes "dropped " ++ name_of mesh o ++ 32 ∷ name_of mesh d ++ 32 ∷ shown) (codes "dropped") (name_of mesh o ∷ name_of mesh d ∷ parts 32 shown) None
      (data_clean o d body) (data_words (codes "dropped") shown o d (word_lacks 32 (codes "dropped") refl))
      (λ k. ap (λ b. checked_if b (reading_of mesh a k)) (text_read mesh o d shown is_body is (text_shown body text)))

  pub lost_datum : (cs : List Copy) (n id : ℕ) (o d : ℕ) (body : Body) → is_text body ≡ true
      → Reads mesh (stand cs n (below.Loses id)) (datum_text (codes "  dropped ") mesh o d body) [] (stand cs n (below.Loses id))
  lost_datum cs n id o d body text =
      let a : Stand = stand cs n (below.Loses id) in
      let shown : List ℕ = flat_map shown_byte body in
      reads_effect mesh a a (codes "dropped " ++ name_of mesh o ++ 32 ∷ name_of mesh d ++ 32 ∷ shown) (codes "dropped") (name_of mesh o ∷ name_of mesh d ∷ parts 32 shown) None
      (data_clean o d body) (data_words (codes "dropped") shown o d (word_lacks 32 (codes "dropped") refl))
      (λ k. ap (λ b. checked_if b (reading_of mesh a k)) (text_read mesh o d shown is_body is (text_shown body text)))

  -- ---- a failed unicast

  pub broken_reads : (cs : List Copy) (n node : ℕ) (broken : Option ℕ) → Reads mesh (stand cs n (below.Casts node None)) (broken_text mesh broken) [] (stand cs n (below.Casts node None))
  broken_reads cs n node None = reads_none mesh (stand cs n (below.Casts node None))
  broken_reads cs n node (Some y) =
      let a : Stand = stand cs n (below.Casts node None) in
      reads_effect mesh a a (codes "broken " ++ name_of mesh y) (codes "broken") (name_of mesh y ∷ []) None (name_clean mesh y)
      (words_apart (codes "broken") (name_of mesh y ∷ []) (word_lacks 32 (codes "broken") refl, (name_lacks 32 mesh y (omega arith) is, tt)))
      (λ k. ap (λ b. checked_if b (reading_of mesh a k)) (one_is Address (name_of mesh y) (is_name mesh y is)))

  -- ---- copies

  copy_read : (id to : ℕ) → 1 ≤ id → id ≤ greatest_id → copy_words (decimal id ∷ name_of mesh to ∷ []) ≡ Some (id, addr_at mesh to)
  copy_read id to some le =
      ap (option_and_then (λ (n : ℕ). option_map (λ (a : ℕ). (n, a)) (address_in (name_of mesh to ∷ [])))) (number_read id some le)
      ∙ ap (option_map (λ (a : ℕ). (id, a))) (name_read mesh to is)

  copy_line_words : (id to : ℕ) → id ≤ greatest_id → parts 32 (codes "copy " ++ decimal id ++ 32 ∷ name_of mesh to) ≡ codes "copy" ∷ decimal id ∷ name_of mesh to ∷ []
  copy_line_words id to le =
      words_apart (codes "copy") (decimal id ∷ name_of mesh to ∷ []) (word_lacks 32 (codes "copy") refl, (number_lacks 32 id (omega arith) le, (name_lacks 32 mesh to (omega arith) is, tt)))

  copy_clean : (id to : ℕ) → is_clean (decimal id ++ 32 ∷ name_of mesh to) ≡ true
  copy_clean id to = clean_append (decimal id) (32 ∷ name_of mesh to) (decimal_clean id) (name_clean mesh to)

  -- a copy that joins the flight
  joins : (a : Stand) (c : Copy) (low k : ℕ) → AreNumbered low a.flying c.id
      → with_copy (reading_of mesh a k) c.id (copy_told mesh c).1 ≡ came mesh (record a { flying = a.flying ++ c ∷ [] }) None k
  joins a c low k are =
      ap (λ b. cond b None (Some (no_frame (record (reading_of mesh a k) { flying = insert_entry nat_cmp (flight_told mesh a.flying) c.id (copy_told mesh c).1 })))) (absent mesh low c.id a.flying are)
      ∙ ap (λ (f : Flying). Some (no_frame (record (reading_of mesh a k) { flying = f }))) (joined mesh low a.flying c are)

  -- one of a cast
  pub cast_copy_reads : (cs : List Copy) (n low : ℕ) (c : Copy) → 1 ≤ c.id → c.id ≤ greatest_id → AreNumbered low cs c.id →
      let b = below.Casts (addr_at mesh c.from) (Some (packet_of mesh c.message)) in
      Reads mesh (stand cs n b) (line (label_number (codes "  copy ") c.id ++ 32 ∷ name_of mesh c.to)) [] (stand (cs ++ c ∷ []) n b)
  cast_copy_reads cs n low c some le are =
      let a : Stand = stand cs n (below.Casts (addr_at mesh c.from) (Some (packet_of mesh c.message))) in
      reads_effect mesh a (record a { flying = cs ++ c ∷ [] }) (codes "copy " ++ decimal c.id ++ 32 ∷ name_of mesh c.to) (codes "copy") (decimal c.id ∷ name_of mesh c.to ∷ []) None
      (copy_clean c.id c.to) (copy_line_words c.id c.to le)
      (λ k. ap (after_copy (reading_of mesh a k) a.below) (copy_read c.id c.to some le) ∙ joins a c low k are)

  -- another one of a copy
  pub double_reads : (cs : List Copy) (n low id next : ℕ) (c : Copy) → find_copy cs id ≡ Some c → 1 ≤ next → next ≤ greatest_id → AreNumbered low cs next
      → Reads mesh (stand cs n (below.Doubles id)) (line (label_number (codes "  copy ") next ++ 32 ∷ name_of mesh c.to)) []
      (stand (cs ++ record c { id = next } ∷ []) n (below.Doubles id))
  double_reads cs n low id next c found some le are =
      let a : Stand = stand cs n (below.Doubles id) in
      let told : copy_in (flight_told mesh cs) id ≡ Some (copy_told mesh c).1 = copy_found mesh cs id ∙ ap (option_map (λ (d : Copy). (copy_told mesh d).1)) found in
      let same : doubled_copy (Some (copy_told mesh c).1) (addr_at mesh c.to) ≡ Some (copy_told mesh c).1 =
      ap (λ b. cond b (Some (copy_told mesh c).1) None) (eq-eqb (addr_at mesh c.to) (addr_at mesh c.to) refl) in
      reads_effect mesh a (record a { flying = cs ++ record c { id = next } ∷ [] }) (codes "copy " ++ decimal next ++ 32 ∷ name_of mesh c.to) (codes "copy") (decimal next ∷ name_of mesh c.to ∷ []) None
      (copy_clean next c.to) (copy_line_words next c.to le)
      (λ k. ap (after_copy (reading_of mesh a k) a.below) (copy_read next c.to some le)
      ∙ ap (λ o. option_and_then (with_copy (reading_of mesh a k) next) (doubled_copy o (addr_at mesh c.to))) told
      ∙ ap (option_and_then (with_copy (reading_of mesh a k) next)) same
      ∙ joins a (record c { id = next }) low k are)

  -- ---- the ends of copies

  ends_clean : (x y : ℕ) → is_clean (name_of mesh x ++ 32 ∷ name_of mesh y) ≡ true
  ends_clean x y = clean_append (name_of mesh x) (32 ∷ name_of mesh y) (name_clean mesh x) (name_clean mesh y)

  -- the copy leaves the flight
  leaves : (cs : List Copy) (n low next id k : ℕ) (lost : Bool) (b : Below) (c : Copy) → find_copy cs id ≡ Some c → AreNumbered low cs next
      → after_end (reading_of mesh (stand cs n b) k) lost id (name_of mesh c.from ∷ name_of mesh c.to ∷ [])
      ≡ came mesh (stand (without cs id) n b) (Some (copy_frame mesh n lost c)) k
  leaves cs n low next id k lost b c found are =
      let r : Reading = reading_of mesh (stand cs n b) k in
      let ends : ℕ × ℕ = (addr_at mesh c.from, addr_at mesh c.to) in
      let told : copy_in (flight_told mesh cs) id ≡ Some (copy_told mesh c).1 = copy_found mesh cs id ∙ ap (option_map (λ (d : Copy). (copy_told mesh d).1)) found in
      let from : eqb (addr_at mesh c.from) (addr_at mesh c.from) ≡ true = eq-eqb (addr_at mesh c.from) (addr_at mesh c.from) refl in
      let to : eqb (addr_at mesh c.to) (addr_at mesh c.to) ≡ true = eq-eqb (addr_at mesh c.to) (addr_at mesh c.to) refl in
      ap (option_and_then (λ (e : ℕ × ℕ). end_outcome r lost id e (copy_in r.flying id))) (ends_read mesh c.from c.to is)
      ∙ ap (end_outcome r lost id ends) told
      ∙ ap (λ t. cond t (Some (record { now = record r { flying = remove_entry (is_at (nat_cmp id)) r.flying }; frame = Some (copy_frame mesh n lost c) })) None) (and_from (eqb (addr_at mesh c.from) (addr_at mesh c.from)) _ from to)
      ∙ ap (λ (f : Flying). Some (record { now = record r { flying = f }; frame = Some (copy_frame mesh n lost c) })) (left mesh low next id cs are)

  pub heard_reads : (cs : List Copy) (n low next id : ℕ) (c : Copy) → find_copy cs id ≡ Some c → AreNumbered low cs next
      → Reads mesh (stand cs n (below.Delivers id)) (line (codes "  heard " ++ name_of mesh c.from ++ 32 ∷ name_of mesh c.to)) (copy_frame mesh n false c ∷ [])
      (stand (without cs id) n (below.Delivers id))
  heard_reads cs n low next id c found are =
      reads_effect mesh (stand cs n (below.Delivers id)) (stand (without cs id) n (below.Delivers id)) (codes "heard " ++ name_of mesh c.from ++ 32 ∷ name_of mesh c.to) (codes "heard")
      (name_of mesh c.from ∷ name_of mesh c.to ∷ []) (Some (copy_frame mesh n false c)) (ends_clean c.from c.to)
      (words_apart (codes "heard") (name_of mesh c.from ∷ name_of mesh c.to ∷ []) (word_lacks 32 (codes "heard") refl, (name_lacks 32 mesh c.from (omega arith) is, (name_lacks 32 mesh c.to (omega arith) is, tt))))
      (λ k. leaves cs n low next id k false (below.Delivers id) c found are)

  pub lost_reads : (cs : List Copy) (n low next id : ℕ) (c : Copy) → find_copy cs id ≡ Some c → AreNumbered low cs next
      → Reads mesh (stand cs n (below.Loses id)) (line (codes "  lost " ++ name_of mesh c.from ++ 32 ∷ name_of mesh c.to)) (copy_frame mesh n true c ∷ [])
      (stand (without cs id) n (below.Loses id))
  lost_reads cs n low next id c found are =
      reads_effect mesh (stand cs n (below.Loses id)) (stand (without cs id) n (below.Loses id)) (codes "lost " ++ name_of mesh c.from ++ 32 ∷ name_of mesh c.to) (codes "lost")
      (name_of mesh c.from ∷ name_of mesh c.to ∷ []) (Some (copy_frame mesh n true c)) (ends_clean c.from c.to)
      (words_apart (codes "lost") (name_of mesh c.from ∷ name_of mesh c.to ∷ []) (word_lacks 32 (codes "lost") refl, (name_lacks 32 mesh c.from (omega arith) is, (name_lacks 32 mesh c.to (omega arith) is, tt))))
      (λ k. leaves cs n low next id k true (below.Loses id) c found are)
