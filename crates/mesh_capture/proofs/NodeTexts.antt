-- What `show` writes of a node is read below it, where each of its numbers is within its field.
use Rattle.std.proofs.Common.{◌≡◌, ℕ, ◌≤◌, inl, inr, Bool, true, false, ◌||◌, List, [], ◌∷◌, ◌++◌, codes, Some, None, length, refl, ap, ◌∙◌, arith, append_assoc}
use Rattle.std.specs.List.{AllByRecursion, flat_map, join_with_byte}
use Rattle.std.specs.Str.{bytes_eq}
use Rattle.std.specs.Fmt.{decimal}
use Rattle.std.specs.Ordering.{nat_cmp}
use Rattle.std.specs.Cmp.{nat_cmp_total}
use Rattle.std.specs.FinMap as maps
use Rattle.std.specs.FinSet as sets
use Rattle.std.proofs.lemmas.Bool.{and_from}
use Rattle.std.proofs.Math.Bool.{or-true}
use Rattle.aodv_model.specs.declared.entry.Entry.{Entry}
use Rattle.aodv_model.specs.declared.entry.Flag.{Flag}
use Rattle.aodv_model.specs.declared.entry.Flag.TheVariants.{Val, Inv}
use Rattle.aodv_model.specs.declared.entry.Known.{Known}
use Rattle.aodv_model.specs.declared.entry.Known.TheVariants.{Kno, Unk}
use Rattle.aodv_model.specs.Cores.{Body, Core, SeenRequests, Store, Waiting}
use Rattle.aodv_model.specs.Pairs.{pairs_in}
use Rattle.aodv_model.specs.Tables.{Table}
use Rattle.mesh_base.specs.Members.{NodeIds, members_below}
use Rattle.mesh_base.specs.Meshes.{Nodes, IsMesh}
use Rattle.mesh_base.specs.Parts.{parts}
use Rattle.mesh_base.proofs.WrittenForms.{Lacks}
use Rattle.mesh_base.proofs.Lemmas.Maps.{each_entry}
use Rattle.mesh_grammar.specs.Commands.{greatest_id}
use Rattle.mesh_grammar.specs.Forms.{greatest_first}
use Rattle.mesh_grammar.specs.Written.{line}
use Rattle.mesh_model.specs.Worlds.{Copy}
use Rattle.mesh_text.specs.Effects.{set_text, names}
use Rattle.mesh_text.specs.Lines.{name_of}
use Rattle.mesh_text.specs.Tables.{number_line, asked_line, asked_text, known_text, flag_text, entry_text, routes_text, waits_line, waits_text, store_text, node_text}
use Rattle.mesh_text.proofs.Clean.{is_clean, name_clean, decimal_clean, set_clean, clean_append}
use Rattle.mesh_lines.specs.declared.below.Below.TheVariants as below
use Rattle.mesh_lines.specs.declared.form.Field.TheVariants.{Address, UpTo, Positive, Known as KnownField, Flag as FlagField, Request, Precursors}
use Rattle.mesh_lines.specs.declared.quiet.TheConstants.{MOST_HOPS}
use Rattle.mesh_lines.specs.Forms.{are, fits}
use Rattle.mesh_lines.specs.Lines.{number}
use Rattle.mesh_capture.specs.Copies.{checked_if}
use Rattle.mesh_capture.proofs.Effects.{stand}
use Rattle.mesh_capture.proofs.EventLines.{one_is, two_are, number_fits, positive_fits}
use Rattle.mesh_capture.proofs.Groups.{members_up, either_read, group_lacks}
use Rattle.aodv_model.proofs.PairKeys.{each_pair}
use Rattle.mesh_capture.proofs.Told.{Stand, Reads, reading_of, reads_none, reads_both, reads_effect}
use Rattle.mesh_capture.proofs.Words.{word_lacks, words_apart, name_lacks, is_name, number_lacks}

-- the numbers of an entry are within their fields
pub record IsEntryShown (e : Entry) : Type 0 where
  pub dsn : e.dsn ≤ greatest_first
  pub some : 1 ≤ e.hops
  pub hops : e.hops ≤ MOST_HOPS

-- all numbers of a node are
pub record IsNodeShown (core : Core) (queue : ℕ) : Type 0 where
  pub some : 1 ≤ core.sn
  pub sn : core.sn ≤ greatest_first
  pub seen : (p : ℕ × ℕ) → sets.contains core.seen p ≡ true → p.1 ≤ greatest_first
  pub entries : (d : ℕ) (e : Entry) → maps.get core.rt d ≡ Some e → IsEntryShown e
  pub waits : (d : ℕ) (w : Waiting) → maps.get core.store d ≡ Some w → length w.bodies ≤ greatest_id
  pub inbox : queue ≤ greatest_id

seven_texts : (a b c d e f g : List ℕ) → a ++ b ++ c ++ d ++ e ++ f ++ g ≡ a ++ (b ++ (c ++ (d ++ (e ++ (f ++ g)))))
seven_texts a b c d e f g = simp append_assoc

-- the words of an entry, and those of waiting data, as they are joined
entry_texts : (a b k f h n s : List ℕ) → a ++ 32 ∷ b ++ (32 ∷ k ++ 32 ∷ []) ++ (f ++ 32 ∷ []) ++ h ++ 32 ∷ n ++ 32 ∷ s ≡ join_with_byte 32 (a ∷ b ∷ k ∷ f ∷ h ∷ n ∷ s ∷ [])
entry_texts a b k f h n s =
    let y : List ℕ = h ++ 32 ∷ (n ++ 32 ∷ s) in
    seven_texts a (32 ∷ b) (32 ∷ k ++ 32 ∷ []) (f ++ 32 ∷ []) h (32 ∷ n) (32 ∷ s)
    ∙ ap (λ t. a ++ 32 ∷ (b ++ 32 ∷ t)) (append_assoc k (32 ∷ []) ((f ++ 32 ∷ []) ++ y))
    ∙ ap (λ t. a ++ 32 ∷ (b ++ 32 ∷ (k ++ 32 ∷ t))) (append_assoc f (32 ∷ []) y)

waits_texts : (a r c : List ℕ) → a ++ (32 ∷ r ++ 32 ∷ []) ++ c ≡ join_with_byte 32 (a ∷ r ∷ c ∷ [])
waits_texts a r c = simp append_assoc

each_reads : {X : Type 0} (mesh : Nodes) (a : Stand) (f : X → List ℕ) (xs : List X) → AllByRecursion (λ x. Reads mesh a (f x) [] a) xs → Reads mesh a (flat_map f xs) [] a
each_reads mesh a f [] all = reads_none mesh a
each_reads mesh a f (x ∷ xs) all = reads_both mesh a a a (f x) (flat_map f xs) all.0 (each_reads mesh a f xs all.1)

module _ (mesh : Nodes) (is : IsMesh mesh) (cs : List Copy) (n : ℕ) where
  abbrev here : Stand
  here = stand cs n below.Node

  -- ---- its own number, and its queue

  sn_reads : (sn : ℕ) → 1 ≤ sn → sn ≤ greatest_first → Reads mesh here (number_line (codes "sn") sn) [] here
  unfolding number_line
  sn_reads sn some few =
      reads_effect mesh here here (codes "sn " ++ decimal sn) (codes "sn") (decimal sn ∷ []) None (decimal_clean sn)
      (words_apart (codes "sn") (decimal sn ∷ []) (word_lacks 32 (codes "sn") refl, (number_lacks 32 sn (omega arith) (omega arith), tt)))
      (λ k. ap (λ b. checked_if b (reading_of mesh here k)) (one_is (Positive greatest_first) (decimal sn) (positive_fits greatest_first sn some few (omega arith))))

  inbox_reads : (count : ℕ) → count ≤ greatest_id → Reads mesh here (number_line (codes "inbox") count) [] here
  unfolding number_line
  inbox_reads count few =
      reads_effect mesh here here (codes "inbox " ++ decimal count) (codes "inbox") (decimal count ∷ []) None (decimal_clean count)
      (words_apart (codes "inbox") (decimal count ∷ []) (word_lacks 32 (codes "inbox") refl, (number_lacks 32 count (omega arith) few, tt)))
      (λ k. ap (λ b. checked_if b (reading_of mesh here k)) (one_is number (decimal count) (number_fits greatest_id count few (omega arith))))

  -- ---- the requests that it has seen

  asked_reads : (o id : ℕ) → id ≤ greatest_first → Reads mesh here (asked_line mesh o id) [] here
  unfolding asked_line
  asked_reads o id few =
      reads_effect mesh here here (codes "asked " ++ name_of mesh o ++ 32 ∷ decimal id) (codes "asked") (name_of mesh o ∷ decimal id ∷ []) None
      (clean_append (name_of mesh o) (32 ∷ decimal id) (name_clean mesh o) (decimal_clean id))
      (words_apart (codes "asked") (name_of mesh o ∷ decimal id ∷ []) (word_lacks 32 (codes "asked") refl, (name_lacks 32 mesh o (omega arith) is, (number_lacks 32 id (omega arith) (omega arith), tt))))
      (λ k. ap (λ b. checked_if b (reading_of mesh here k)) (two_are Address (UpTo greatest_first) (name_of mesh o) (decimal id) (is_name mesh o is) (number_fits greatest_first id few (omega arith))))

  seen_reads : (seen : SeenRequests) → ((p : ℕ × ℕ) → sets.contains seen p ≡ true → p.1 ≤ greatest_first) → Reads mesh here (asked_text mesh seen) [] here
  unfolding asked_text
  seen_reads seen few =
      each_reads mesh here (λ (p : ℕ × ℕ). asked_line mesh p.0 p.1) (pairs_in seen) (each_pair seen (λ p. Reads mesh here (asked_line mesh p.0 p.1) [] here) (λ p there. asked_reads p.0 p.1 (few p there)))

  -- ---- its entries

  precursors_fit : (s : NodeIds) → fits Precursors (set_text mesh s) ≡ true
  precursors_fit s = elim (either_read mesh is (members_below (length mesh) s) (members_up (length mesh) s)) [
    | inl none ↦ ap (λ xs. fits Precursors (names mesh xs)) none
    | inr some ↦ ap (λ b. bytes_eq (set_text mesh s) (codes "-") || b) some ∙ or-true (bytes_eq (set_text mesh s) (codes "-"))
  ]

  module _ (d : ℕ) (e : Entry) (shown : IsEntryShown e) where
    entry_words : (known flag : List ℕ) → fits KnownField known ≡ true → fits FlagField flag ≡ true
        → are (Address ∷ UpTo greatest_first ∷ KnownField ∷ FlagField ∷ Positive MOST_HOPS ∷ Address ∷ Precursors ∷ []) (name_of mesh d ∷ decimal e.dsn ∷ known ∷ flag ∷ decimal e.hops ∷ name_of mesh e.next ∷ set_text mesh e.pre ∷ []) ≡ true
    entry_words known flag knows flags =
        and_from (fits Address (name_of mesh d)) _ (is_name mesh d is)
        (and_from (fits (UpTo greatest_first) (decimal e.dsn)) _ (number_fits greatest_first e.dsn shown.dsn (omega arith))
        (and_from (fits KnownField known) _ knows
        (and_from (fits FlagField flag) _ flags
        (and_from (fits (Positive MOST_HOPS) (decimal e.hops)) _ (positive_fits MOST_HOPS e.hops shown.some shown.hops (omega arith))
        (two_are Address Precursors (name_of mesh e.next) (set_text mesh e.pre) (is_name mesh e.next is) (precursors_fit e.pre))))))

    -- as it is written, with its words for the status and the flag
    abbrev entry_as : List ℕ → List ℕ → List ℕ
    entry_as known flag =
        name_of mesh d ++ 32 ∷ decimal e.dsn ++ (32 ∷ known ++ 32 ∷ []) ++ (flag ++ 32 ∷ []) ++ decimal e.hops ++ 32 ∷ name_of mesh e.next ++ 32 ∷ set_text mesh e.pre

    entry_line : (known flag : List ℕ) → fits KnownField known ≡ true → fits FlagField flag ≡ true → Lacks 32 known → Lacks 32 flag → is_clean known ≡ true → is_clean flag ≡ true
        → Reads mesh here (line (codes "  entry " ++ entry_as known flag)) [] here
    entry_line known flag knows flags known_word flag_word known_clean flag_clean =
        let dsn = shown.dsn in
        let hops = shown.hops in
        let a : List ℕ = name_of mesh d ++ 32 ∷ decimal e.dsn in
        let b : List ℕ = a ++ (32 ∷ known ++ 32 ∷ []) in
        let c : List ℕ = b ++ (flag ++ 32 ∷ []) in
        let f : List ℕ = c ++ decimal e.hops in
        let g : List ℕ = f ++ 32 ∷ name_of mesh e.next in
        reads_effect mesh here here (codes "entry " ++ entry_as known flag) (codes "entry")
        (name_of mesh d ∷ decimal e.dsn ∷ known ∷ flag ∷ decimal e.hops ∷ name_of mesh e.next ∷ set_text mesh e.pre ∷ []) None
        (clean_append g (32 ∷ set_text mesh e.pre)
        (clean_append f (32 ∷ name_of mesh e.next)
        (clean_append c (decimal e.hops)
        (clean_append b (flag ++ 32 ∷ [])
        (clean_append a (32 ∷ known ++ 32 ∷ []) (clean_append (name_of mesh d) (32 ∷ decimal e.dsn) (name_clean mesh d) (decimal_clean e.dsn)) (clean_append known (32 ∷ []) known_clean refl))
        (clean_append flag (32 ∷ []) flag_clean refl))
        (decimal_clean e.hops))
        (name_clean mesh e.next))
        (set_clean mesh e.pre))
        (ap (λ t. parts 32 (codes "entry " ++ t)) (entry_texts (name_of mesh d) (decimal e.dsn) known flag (decimal e.hops) (name_of mesh e.next) (set_text mesh e.pre))
        ∙ words_apart (codes "entry") (name_of mesh d ∷ decimal e.dsn ∷ known ∷ flag ∷ decimal e.hops ∷ name_of mesh e.next ∷ set_text mesh e.pre ∷ []) (
          word_lacks 32 (codes "entry") refl,
          (name_lacks 32 mesh d (omega arith) is, (number_lacks 32 e.dsn (omega arith) (omega arith), (known_word, (flag_word, (number_lacks 32 e.hops (omega arith) (omega arith), (name_lacks 32 mesh e.next (omega arith) is, (group_lacks mesh is e.pre, tt))))))),
        ))
        (λ k. ap (λ b. checked_if b (reading_of mesh here k)) (entry_words known flag knows flags))

    entry_by : (known : Known) (flag : Flag)
        → Reads mesh here (line (codes "  entry " ++ name_of mesh d ++ 32 ∷ decimal e.dsn ++ known_text known ++ flag_text flag ++ decimal e.hops ++ 32 ∷ name_of mesh e.next ++ 32 ∷ set_text mesh e.pre)) [] here
    entry_by Kno Val = entry_line (codes "kno") (codes "val") refl refl (word_lacks 32 (codes "kno") refl) (word_lacks 32 (codes "val") refl) refl refl
    entry_by Kno Inv = entry_line (codes "kno") (codes "inv") refl refl (word_lacks 32 (codes "kno") refl) (word_lacks 32 (codes "inv") refl) refl refl
    entry_by Unk Val = entry_line (codes "unk") (codes "val") refl refl (word_lacks 32 (codes "unk") refl) (word_lacks 32 (codes "val") refl) refl refl
    entry_by Unk Inv = entry_line (codes "unk") (codes "inv") refl refl (word_lacks 32 (codes "unk") refl) (word_lacks 32 (codes "inv") refl) refl refl

    entry_reads : Reads mesh here (entry_text mesh d e) [] here
    unfolding entry_text
    entry_reads = entry_by e.dsk e.flag

  routes_read : (rt : Table) → ((d : ℕ) (e : Entry) → maps.get rt d ≡ Some e → IsEntryShown e) → Reads mesh here (routes_text mesh rt) [] here
  unfolding routes_text
  routes_read rt shown =
      each_reads mesh here (λ (e : ℕ × Entry). entry_text mesh e.0 e.1) (maps.entries rt) (each_entry nat_cmp nat_cmp_total (λ d e. Reads mesh here (entry_text mesh d e) [] here) rt (λ d e there. entry_reads d e (shown d e there)))

  -- ---- its waiting data

  waits_line_read : (d count : ℕ) (req : List ℕ) → 1 ≤ count → count ≤ greatest_id → fits Request req ≡ true → Lacks 32 req → is_clean req ≡ true
      → Reads mesh here (line (codes "  waits " ++ name_of mesh d ++ (32 ∷ req ++ 32 ∷ []) ++ decimal count)) [] here
  waits_line_read d count req some few known word clean =
      reads_effect mesh here here (codes "waits " ++ name_of mesh d ++ (32 ∷ req ++ 32 ∷ []) ++ decimal count) (codes "waits") (name_of mesh d ∷ req ∷ decimal count ∷ []) None
      (clean_append (name_of mesh d ++ (32 ∷ req ++ 32 ∷ [])) (decimal count) (clean_append (name_of mesh d) (32 ∷ req ++ 32 ∷ []) (name_clean mesh d) (clean_append req (32 ∷ []) clean refl)) (decimal_clean count))
      (ap (λ t. parts 32 (codes "waits " ++ t)) (waits_texts (name_of mesh d) req (decimal count))
      ∙ words_apart (codes "waits") (name_of mesh d ∷ req ∷ decimal count ∷ []) (word_lacks 32 (codes "waits") refl, (name_lacks 32 mesh d (omega arith) is, (word, (number_lacks 32 count (omega arith) few, tt)))))
      (λ k. ap (λ b. checked_if b (reading_of mesh here k))
      (and_from (fits Address (name_of mesh d)) _ (is_name mesh d is)
      (two_are Request (Positive greatest_id) req (decimal count) known (positive_fits greatest_id count some few (omega arith)))))

  waits_reads : (d count : ℕ) (needs : Bool) → 1 ≤ count → count ≤ greatest_id → Reads mesh here (waits_line mesh d needs count) [] here
  unfolding waits_line
  waits_reads d count true some few = waits_line_read d count (codes "req") some few refl (word_lacks 32 (codes "req") refl) refl
  waits_reads d count false some few = waits_line_read d count (codes "noreq") some few refl (word_lacks 32 (codes "noreq") refl) refl

  waiting_reads : (d : ℕ) (needs : Bool) (bodies : List Body) → length bodies ≤ greatest_id → Reads mesh here (waits_text mesh d needs bodies) [] here
  waiting_reads d needs [] few = reads_none mesh here
  waiting_reads d needs (b ∷ bs) few = waits_reads d (length (b ∷ bs)) needs (omega arith) few

  store_reads : (store : Store) → ((d : ℕ) (w : Waiting) → maps.get store d ≡ Some w → length w.bodies ≤ greatest_id) → Reads mesh here (store_text mesh store) [] here
  unfolding store_text
  store_reads store few =
      each_reads mesh here (λ (e : ℕ × Waiting). waits_text mesh e.0 (e.1).needs_request (e.1).bodies) (maps.entries store)
      (each_entry nat_cmp nat_cmp_total (λ d (w : Waiting). Reads mesh here (waits_text mesh d w.needs_request w.bodies) [] here) store (λ d w there. waiting_reads d w.needs_request w.bodies (few d w there)))

  -- ---- all of it

  pub node_reads : (core : Core) (queue : ℕ) → IsNodeShown core queue → Reads mesh here (node_text mesh core queue) [] here
  unfolding node_text
  node_reads core queue shown =
      let sn : List ℕ = number_line (codes "sn") core.sn in
      let seen : List ℕ = asked_text mesh core.seen in
      let routes : List ℕ = routes_text mesh core.rt in
      let store : List ℕ = store_text mesh core.store in
      let inbox : List ℕ = number_line (codes "inbox") queue in
      reads_both mesh here here here (sn ++ seen ++ routes ++ store) inbox
      (reads_both mesh here here here (sn ++ seen ++ routes) store
      (reads_both mesh here here here (sn ++ seen) routes
      (reads_both mesh here here here sn seen (sn_reads core.sn shown.some shown.sn) (seen_reads core.seen shown.seen))
      (routes_read core.rt shown.entries))
      (store_reads core.store shown.waits))
      (inbox_reads queue shown.inbox)
