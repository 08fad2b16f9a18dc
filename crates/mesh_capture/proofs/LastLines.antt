-- The last line of a run that a line or a full counter has ended is read as one.
use Rattle.std.proofs.Common.{◌≡◌, ℕ, ◌/◌, ◌%◌, ◌^◌, ◌<◌, ◌≤◌, Bool, true, false, eqb, cond, ◌&&◌, ◌||◌, List, [], ◌∷◌, ◌++◌, codes, Some, None, option_map, get_or, refl, sym, ap, ◌∙◌, arith, append_assoc}
use Rattle.std.specs.Prelude.{is_some}
use Rattle.std.specs.List.{list_any}
use Rattle.std.specs.Fmt.{decimal, digits}
use Rattle.std.specs.Str.Parse.{digits_value}
use Rattle.std.proofs.lemmas.Bool.{and_from, ne_eqb, or_right, or_left}
use Rattle.std.proofs.lemmas.Fmt.{digits_decimal}
use Rattle.std.proofs.lemmas.List.{get_or_default}
use Rattle.std.proofs.lemmas.List.Elements.{All-append}
use Rattle.std.proofs.lemmas.List.Splits.{join_with_byte-slice_split}
use Rattle.std.proofs.lemmas.Str.Parse.{numerals_by_value, tells_by_index}
use Rattle.mesh_base.specs.declared.events.Full as full
use Rattle.mesh_base.specs.declared.events.Full.TheVariants as field
use Rattle.mesh_base.specs.Meshes.{Nodes, IsMesh, addr_at}
use Rattle.mesh_base.specs.Parts.{parts}
use Rattle.mesh_base.proofs.WrittenForms.{Lacks, one_lacks, parts_at, parts_none}
use Rattle.mesh_grammar.specs.declared.fault.BadWhy.{BadWhy}
use Rattle.mesh_grammar.specs.declared.fault.BadWhy.TheVariants.{Fault, TooLong, TooMuch}
use Rattle.mesh_grammar.specs.declared.fault.LineFault.{LineFault}
use Rattle.mesh_grammar.specs.declared.fault.LineFault.TheVariants.{Word, Count, BadAddress, BadNumber, BadText, Late, Early, TwiceNode, TooManyNodes, Unknown, Same}
use Rattle.mesh_grammar.specs.declared.fault.Span.{Span}
use Rattle.mesh_grammar.specs.Commands.{greatest_id}
use Rattle.mesh_grammar.specs.Faults.{at_bytes, fault_text, why_text, bad_line}
use Rattle.mesh_grammar.specs.Written.{command_text}
use Rattle.mesh_model.specs.Worlds.{Event, Turn, Send, Ask}
use Rattle.mesh_text.specs.Lines.{name_of, event_words, field_text, full_line}
use Rattle.mesh_text.proofs.Clean.{is_clean, decimal_clean, name_clean, clean_append}
use Rattle.mesh_lines.specs.declared.below.Below.TheVariants as below
use Rattle.mesh_lines.specs.declared.form.Field.TheVariants.{Line, Positive, To}
use Rattle.mesh_lines.specs.Forms.{are, fits}
use Rattle.mesh_lines.specs.Lines.{number, is_numbered, is_cast, is_counter, is_full, is_full_by, is_whole_fault, is_word_fault, is_node_fault, is_fault_at, is_why, is_refusal, is_refusal_by}
use Rattle.mesh_capture.proofs.EventLines.{ends_read, one_is, number_fits, positive_fits}
use Rattle.mesh_capture.proofs.OtherLines.{with_below, reads_other}
use Rattle.mesh_capture.proofs.Spans.{IsNear, HasNear}
use Rattle.mesh_capture.proofs.Told.{Stand, Reads}
use Rattle.mesh_capture.proofs.Words.{word_lacks, words_apart, name_lacks, name_read, number_lacks, address_fits}

-- ---- texts without a colon (byte 58)

number_no_colon : (n : ℕ) → n < 2 ^ 64 → Lacks 58 (decimal n)
number_no_colon n fits k d lt =
    let range : (48 ≤ get_or (decimal n) k 0) × (get_or (decimal n) k 0 ≤ 57) = digits_decimal {v = digits_value 10} (numerals_by_value _ tells_by_index) n fits k lt in
    let same : get_or (decimal n) k d ≡ get_or (decimal n) k 0 = get_or_default (decimal n) k d 0 lt in
    let top = range.1 in
    ne_eqb (get_or (decimal n) k d) 58 (λ e. omega arith)

append_no_colon : (s t : List ℕ) → Lacks 58 s → Lacks 58 t → Lacks 58 (s ++ t)
append_no_colon s t first rest = All-append (λ b. eqb b 58 ≡ false) s t first rest

name_no_colon : (mesh : Nodes) (x : ℕ) → IsMesh mesh → Lacks 58 (name_of mesh x)
name_no_colon mesh x is =
    let a : ℕ = addr_at mesh x in
    let fits = address_fits mesh x is in
    let w : Lacks 58 (decimal (a / 16777216)) = number_no_colon (a / 16777216) (omega arith) in
    let x : Lacks 58 (decimal (a / 65536 % 256)) = number_no_colon (a / 65536 % 256) (omega arith) in
    let y : Lacks 58 (decimal (a / 256 % 256)) = number_no_colon (a / 256 % 256) (omega arith) in
    let z : Lacks 58 (decimal (a % 256)) = number_no_colon (a % 256) (omega arith) in
    append_no_colon (decimal (a / 16777216) ++ 46 ∷ decimal (a / 65536 % 256) ++ 46 ∷ decimal (a / 256 % 256)) (46 ∷ decimal (a % 256))
    (append_no_colon (decimal (a / 16777216) ++ 46 ∷ decimal (a / 65536 % 256)) (46 ∷ decimal (a / 256 % 256))
    (append_no_colon (decimal (a / 16777216)) (46 ∷ decimal (a / 65536 % 256)) w (one_lacks 58 46 (decimal (a / 65536 % 256)) refl x))
    (one_lacks 58 46 (decimal (a / 256 % 256)) refl y))
    (one_lacks 58 46 (decimal (a % 256)) refl z)

-- ---- a full counter

-- an event that may cast
abbrev pub MayCast : Event → Type 0
MayCast (Turn x) = Unit {0}
MayCast (Send x d) = Unit {0}
MayCast (Ask x d) = Unit {0}
MayCast others = ⊥

place_is : (n : ℕ) → 1 ≤ n → n ≤ greatest_id → is_numbered (codes "line " ++ decimal n) ≡ true
place_is n some le =
    ap (are (Line ∷ Positive greatest_id ∷ [])) (words_apart (codes "line") (decimal n ∷ []) (word_lacks 32 (codes "line") refl, (number_lacks 32 n (omega arith) le, tt)))
    ∙ one_is (Positive greatest_id) (decimal n) (positive_fits greatest_id n some le (omega arith))

counter_is : (f : full.Full) → is_counter (32 ∷ field_text f) ≡ true
counter_is field.Hops = refl
counter_is field.Number = refl
counter_is field.Id = refl

counter_whole : (f : full.Full) → Lacks 58 (32 ∷ field_text f)
counter_whole field.Hops = word_lacks 58 (codes " hops") refl
counter_whole field.Number = word_lacks 58 (codes " number") refl
counter_whole field.Id = word_lacks 58 (codes " id") refl

counter_clean : (f : full.Full) → is_clean (field_text f) ≡ true
counter_clean field.Hops = refl
counter_clean field.Number = refl
counter_clean field.Id = refl

full_texts : (n e f : List ℕ) → (codes "line " ++ n) ++ 58 ∷ ((32 ∷ e) ++ 58 ∷ (32 ∷ f)) ≡ codes "line " ++ n ++ codes ": " ++ e ++ codes ": " ++ f
full_texts n e f = simp append_assoc

module _ (mesh : Nodes) (is : IsMesh mesh) where
  -- the event's words, behind a space
  event_is : (e : Event) → MayCast e → is_cast (parts 32 (32 ∷ event_words mesh e)) ≡ true
  unfolding event_words command_text
  event_is (Turn x) may =
      ap is_cast (words_apart [] (codes "turn" ∷ name_of mesh x ∷ []) (word_lacks 32 [] refl, (word_lacks 32 (codes "turn") refl, (name_lacks 32 mesh x (omega arith) is, tt))))
      ∙ ap is_some (name_read mesh x is)
  event_is (Send x d) may =
      ap is_cast (words_apart [] (codes "send" ∷ name_of mesh x ∷ name_of mesh d ∷ []) (word_lacks 32 [] refl, (word_lacks 32 (codes "send") refl, (name_lacks 32 mesh x (omega arith) is, (name_lacks 32 mesh d (omega arith) is, tt)))))
      ∙ ap (λ o. is_some (option_map (λ (ends : ℕ × ℕ). ends.0) o)) (ends_read mesh x d is)
  event_is (Ask x d) may =
      ap is_cast (words_apart [] (codes "ask" ∷ name_of mesh x ∷ name_of mesh d ∷ []) (word_lacks 32 [] refl, (word_lacks 32 (codes "ask") refl, (name_lacks 32 mesh x (omega arith) is, (name_lacks 32 mesh d (omega arith) is, tt)))))
      ∙ ap (λ o. is_some (option_map (λ (ends : ℕ × ℕ). ends.0) o)) (ends_read mesh x d is)
  event_is others may = absurd may

  event_whole : (e : Event) → MayCast e → Lacks 58 (32 ∷ event_words mesh e)
  unfolding event_words command_text
  event_whole (Turn x) may = append_no_colon (codes " turn ") (name_of mesh x) (word_lacks 58 (codes " turn ") refl) (name_no_colon mesh x is)
  event_whole (Send x d) may =
      append_no_colon (codes " send " ++ name_of mesh x) (32 ∷ name_of mesh d) (append_no_colon (codes " send ") (name_of mesh x) (word_lacks 58 (codes " send ") refl) (name_no_colon mesh x is))
      (one_lacks 58 32 (name_of mesh d) refl (name_no_colon mesh d is))
  event_whole (Ask x d) may =
      append_no_colon (codes " ask " ++ name_of mesh x) (32 ∷ name_of mesh d) (append_no_colon (codes " ask ") (name_of mesh x) (word_lacks 58 (codes " ask ") refl) (name_no_colon mesh x is))
      (one_lacks 58 32 (name_of mesh d) refl (name_no_colon mesh d is))
  event_whole others may = absurd may

  event_clean : (e : Event) → MayCast e → is_clean (event_words mesh e) ≡ true
  unfolding event_words command_text
  event_clean (Turn x) may = name_clean mesh x
  event_clean (Send x d) may = clean_append (name_of mesh x) (32 ∷ name_of mesh d) (name_clean mesh x) (name_clean mesh d)
  event_clean (Ask x d) may = clean_append (name_of mesh x) (32 ∷ name_of mesh d) (name_clean mesh x) (name_clean mesh d)
  event_clean others may = absurd may

  pub full_reads : (a : Stand) (n : ℕ) (e : Event) (f : full.Full) → MayCast e → 1 ≤ n → n ≤ greatest_id → Reads mesh a (full_line mesh n e f) [] (with_below a below.Nothing)
  unfolding full_line
  full_reads a n e f may some le =
      let rest : List ℕ = codes "line " ++ decimal n ++ codes ": " ++ event_words mesh e ++ codes ": " ++ field_text f in
      let label : Lacks 58 (codes "line " ++ decimal n) = append_no_colon (codes "line ") (decimal n) (word_lacks 58 (codes "line ") refl) (number_no_colon n (omega arith)) in
      let cut : parts 58 rest ≡ (codes "line " ++ decimal n) ∷ (32 ∷ event_words mesh e) ∷ (32 ∷ field_text f) ∷ [] =
      ap (parts 58) (sym (full_texts (decimal n) (event_words mesh e) (field_text f)))
      ∙ parts_at 58 (codes "line " ++ decimal n) ((32 ∷ event_words mesh e) ++ 58 ∷ (32 ∷ field_text f)) label
      ∙ ap (λ ps. (codes "line " ++ decimal n) ∷ ps) (parts_at 58 (32 ∷ event_words mesh e) (32 ∷ field_text f) (event_whole e may))
      ∙ ap (λ ps. (codes "line " ++ decimal n) ∷ (32 ∷ event_words mesh e) ∷ ps) (parts_none 58 (32 ∷ field_text f) (counter_whole f)) in
      let told : is_full (parts 32 rest) ≡ true =
      ap (λ t. is_full_by (parts 58 t)) (join_with_byte-slice_split 32 rest) ∙ ap is_full_by cut
      ∙ and_from (is_numbered (codes "line " ++ decimal n) && is_cast (parts 32 (32 ∷ event_words mesh e))) _
      (and_from (is_numbered (codes "line " ++ decimal n)) _ (place_is n some le) (event_is e may)) (counter_is f) in
      reads_other mesh a below.Nothing (codes "full line " ++ decimal n ++ codes ": " ++ event_words mesh e ++ codes ": " ++ field_text f) (codes "full") (parts 32 rest)
      (clean_append (decimal n ++ codes ": " ++ event_words mesh e ++ codes ": ") (field_text f)
      (clean_append (decimal n ++ codes ": " ++ event_words mesh e) (codes ": ") (clean_append (decimal n ++ codes ": ") (event_words mesh e) (clean_append (decimal n) (codes ": ") (decimal_clean n) refl) (event_clean e may)) refl) (counter_clean f))
      (λ r. refl) (parts_at 32 (codes "full") rest (word_lacks 32 (codes "full") refl)) refl
      (ap (λ b. cond b (Some below.Nothing) None) told)

-- ---- a line that is refused

first_any : (p : List ℕ → Bool) (w : List ℕ) (ws : List (List ℕ)) → p w ≡ true → list_any p (w ∷ ws) ≡ true
first_any p w ws is = or_left (p w) (list_any p ws) is

later_any : (p : List ℕ → Bool) (w : List ℕ) (ws : List (List ℕ)) → list_any p ws ≡ true → list_any p (w ∷ ws) ≡ true
later_any p w ws is = or_right (p w) (list_any p ws) is

-- the bytes that a fault is about
at_words : (n m : ℕ) → n ≤ greatest_id → m ≤ greatest_id → are (number ∷ To ∷ number ∷ []) (parts 32 (decimal n ++ (codes " to " ++ decimal m))) ≡ true
at_words n m n_le m_le =
    ap (are (number ∷ To ∷ number ∷ [])) (words_apart (decimal n) (codes "to" ∷ decimal m ∷ []) (number_lacks 32 n (omega arith) n_le, (word_lacks 32 (codes "to") refl, (number_lacks 32 m (omega arith) m_le, tt))))
    ∙ and_from (fits number (decimal n)) (are (number ∷ []) (decimal m ∷ [])) (number_fits greatest_id n n_le (omega arith)) (one_is number (decimal m) (number_fits greatest_id m m_le (omega arith)))

span_whole : (s : Span) → IsNear greatest_id s → Lacks 58 (at_bytes s)
span_whole s near =
    append_no_colon (codes " at bytes " ++ decimal s.from) (codes " to " ++ decimal s.to)
    (append_no_colon (codes " at bytes ") (decimal s.from) (word_lacks 58 (codes " at bytes ") refl) (number_no_colon s.from (omega (arith, near.0))))
    (append_no_colon (codes " to ") (decimal s.to) (word_lacks 58 (codes " to ") refl) (number_no_colon s.to (omega (arith, near.1))))

span_clean : (s : Span) → is_clean (at_bytes s) ≡ true
span_clean s = clean_append (decimal s.from) (codes " to " ++ decimal s.to) (decimal_clean s.from) (decimal_clean s.to)

-- a limit that was passed
nodes_told : is_whole_fault (codes " more than 200 nodes") ≡ true
unfolding digits
nodes_told = refl

line_told : is_whole_fault (codes " line longer than 600 bytes") ≡ true
unfolding digits
line_told = refl

input_told : is_whole_fault (codes " input longer than 16777216 bytes") ≡ true
unfolding digits
input_told = refl

-- what is written of a fault
record IsReason (text : List ℕ) : Type 0 where
  known : is_why (32 ∷ text) ≡ true
  whole : Lacks 58 (32 ∷ text)
  clean : is_clean text ≡ true

by_limit : (text : List ℕ) → is_whole_fault (32 ∷ text) ≡ true → Lacks 58 (32 ∷ text) → is_clean text ≡ true → IsReason text
by_limit text known whole clean =
    record { known = or_left (is_whole_fault (32 ∷ text) || is_word_fault (32 ∷ text)) (is_node_fault (32 ∷ text)) (or_left (is_whole_fault (32 ∷ text)) (is_word_fault (32 ∷ text)) known); whole = whole; clean = clean }

by_word : (text : List ℕ) → is_word_fault (32 ∷ text) ≡ true → Lacks 58 (32 ∷ text) → is_clean text ≡ true → IsReason text
by_word text known whole clean =
    record { known = or_left (is_whole_fault (32 ∷ text) || is_word_fault (32 ∷ text)) (is_node_fault (32 ∷ text)) (or_right (is_whole_fault (32 ∷ text)) (is_word_fault (32 ∷ text)) known); whole = whole; clean = clean }

by_node : (text : List ℕ) → is_node_fault (32 ∷ text) ≡ true → Lacks 58 (32 ∷ text) → is_clean text ≡ true → IsReason text
by_node text known whole clean = record { known = or_right (is_whole_fault (32 ∷ text) || is_word_fault (32 ∷ text)) (is_node_fault (32 ∷ text)) known; whole = whole; clean = clean }

-- a label, and the bytes that the fault is about
at_whole : (label : List ℕ) (s : Span) → Lacks 58 label → IsNear greatest_id s → Lacks 58 (label ++ at_bytes s)
at_whole label s lacks near = append_no_colon label (at_bytes s) lacks (span_whole s near)

fault_told : (f : LineFault) → HasNear greatest_id f → IsReason (fault_text f)
fault_told (Word s) near =
    by_word (codes "no command" ++ at_bytes s) (first_any (is_fault_at (32 ∷ codes "no command" ++ at_bytes s)) (codes " no command at bytes ") (codes " no address at bytes " ∷ codes " no number at bytes " ∷ codes " no text at bytes " ∷ []) (at_words s.from s.to near.0 near.1)) (at_whole (codes " no command") s (word_lacks 58 (codes " no command") refl) near) (span_clean s)
fault_told Count near = record { known = refl; whole = word_lacks 58 (codes " wrong number of words") refl; clean = refl }
fault_told (BadAddress s) near =
    by_word (codes "no address" ++ at_bytes s) (later_any (is_fault_at (32 ∷ codes "no address" ++ at_bytes s)) (codes " no command at bytes ") (codes " no address at bytes " ∷ codes " no number at bytes " ∷ codes " no text at bytes " ∷ []) (first_any (is_fault_at (32 ∷ codes "no address" ++ at_bytes s)) (codes " no address at bytes ") (codes " no number at bytes " ∷ codes " no text at bytes " ∷ []) (at_words s.from s.to near.0 near.1))) (at_whole (codes " no address") s (word_lacks 58 (codes " no address") refl) near) (span_clean s)
fault_told (BadNumber s) near =
    by_word (codes "no number" ++ at_bytes s) (later_any (is_fault_at (32 ∷ codes "no number" ++ at_bytes s)) (codes " no command at bytes ") (codes " no address at bytes " ∷ codes " no number at bytes " ∷ codes " no text at bytes " ∷ []) (later_any (is_fault_at (32 ∷ codes "no number" ++ at_bytes s)) (codes " no address at bytes ") (codes " no number at bytes " ∷ codes " no text at bytes " ∷ []) (first_any (is_fault_at (32 ∷ codes "no number" ++ at_bytes s)) (codes " no number at bytes ") (codes " no text at bytes " ∷ []) (at_words s.from s.to near.0 near.1)))) (at_whole (codes " no number") s (word_lacks 58 (codes " no number") refl) near) (span_clean s)
fault_told (BadText s) near =
    by_word (codes "no text" ++ at_bytes s) (later_any (is_fault_at (32 ∷ codes "no text" ++ at_bytes s)) (codes " no command at bytes ") (codes " no address at bytes " ∷ codes " no number at bytes " ∷ codes " no text at bytes " ∷ []) (later_any (is_fault_at (32 ∷ codes "no text" ++ at_bytes s)) (codes " no address at bytes ") (codes " no number at bytes " ∷ codes " no text at bytes " ∷ []) (later_any (is_fault_at (32 ∷ codes "no text" ++ at_bytes s)) (codes " no number at bytes ") (codes " no text at bytes " ∷ []) (first_any (is_fault_at (32 ∷ codes "no text" ++ at_bytes s)) (codes " no text at bytes ") ([]) (at_words s.from s.to near.0 near.1))))) (at_whole (codes " no text") s (word_lacks 58 (codes " no text") refl) near) (span_clean s)
fault_told Late near = record { known = refl; whole = word_lacks 58 (codes " node after the first event") refl; clean = refl }
fault_told Early near = record { known = refl; whole = word_lacks 58 (codes " no node yet") refl; clean = refl }
fault_told (TwiceNode s) near =
    by_node (codes "node named twice" ++ at_bytes s) (first_any (is_fault_at (32 ∷ codes "node named twice" ++ at_bytes s)) (codes " node named twice at bytes ") (codes " unknown node at bytes " ∷ []) (at_words s.from s.to near.0 near.1)) (at_whole (codes " node named twice") s (word_lacks 58 (codes " node named twice") refl) near) (span_clean s)
fault_told TooManyNodes near = by_limit (codes "more than 200 nodes") nodes_told (word_lacks 58 (codes " more than 200 nodes") refl) refl
fault_told (Unknown s) near =
    by_node (codes "unknown node" ++ at_bytes s) (later_any (is_fault_at (32 ∷ codes "unknown node" ++ at_bytes s)) (codes " node named twice at bytes ") (codes " unknown node at bytes " ∷ []) (first_any (is_fault_at (32 ∷ codes "unknown node" ++ at_bytes s)) (codes " unknown node at bytes ") ([]) (at_words s.from s.to near.0 near.1))) (at_whole (codes " unknown node") s (word_lacks 58 (codes " unknown node") refl) near) (span_clean s)
fault_told Same near = record { known = refl; whole = word_lacks 58 (codes " link to itself") refl; clean = refl }

-- why a line is refused
abbrev pub IsNearWhy : BadWhy → Type 0
IsNearWhy (Fault f) = HasNear greatest_id f
IsNearWhy others = Unit {0}

why_told : (why : BadWhy) → IsNearWhy why → IsReason (why_text why)
unfolding why_text
why_told (Fault f) near = fault_told f near
why_told TooLong near = by_limit (codes "line longer than 600 bytes") line_told (word_lacks 58 (codes " line longer than 600 bytes") refl) refl
why_told TooMuch near = by_limit (codes "input longer than 16777216 bytes") input_told (word_lacks 58 (codes " input longer than 16777216 bytes") refl) refl

bad_texts : (n w : List ℕ) → (codes "line " ++ n) ++ 58 ∷ (32 ∷ w) ≡ codes "line " ++ n ++ codes ": " ++ w
bad_texts n w = simp append_assoc

pub bad_reads : (mesh : Nodes) (a : Stand) (n : ℕ) (why : BadWhy) → IsNearWhy why → 1 ≤ n → n ≤ greatest_id → Reads mesh a (bad_line n why) [] (with_below a below.Nothing)
unfolding bad_line
bad_reads mesh a n why near some le =
    let is = why_told why near in
    let rest : List ℕ = codes "line " ++ decimal n ++ codes ": " ++ why_text why in
    let label : Lacks 58 (codes "line " ++ decimal n) = append_no_colon (codes "line ") (decimal n) (word_lacks 58 (codes "line ") refl) (number_no_colon n (omega arith)) in
    let cut : parts 58 rest ≡ (codes "line " ++ decimal n) ∷ (32 ∷ why_text why) ∷ [] =
    ap (parts 58) (sym (bad_texts (decimal n) (why_text why))) ∙ parts_at 58 (codes "line " ++ decimal n) (32 ∷ why_text why) label ∙ ap (λ ps. (codes "line " ++ decimal n) ∷ ps) (parts_none 58 (32 ∷ why_text why) is.whole) in
    let told : is_refusal (parts 32 rest) ≡ true =
    ap (λ t. is_refusal_by (parts 58 t)) (join_with_byte-slice_split 32 rest) ∙ ap is_refusal_by cut ∙ and_from (is_numbered (codes "line " ++ decimal n)) (is_why (32 ∷ why_text why)) (place_is n some le) is.known in
    reads_other mesh a below.Nothing (codes "bad line " ++ decimal n ++ codes ": " ++ why_text why) (codes "bad") (parts 32 rest)
    (clean_append (decimal n ++ codes ": ") (why_text why) (clean_append (decimal n) (codes ": ") (decimal_clean n) refl) is.clean)
    (λ r. refl) (parts_at 32 (codes "bad") rest (word_lacks 32 (codes "bad") refl)) refl
    (ap (λ b. cond b (Some below.Nothing) None) told)
