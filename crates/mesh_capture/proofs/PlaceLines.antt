-- The lines of a run with places that no other run has: a line about a place, the changes of links
-- below it, and its faults.
use Rattle.std.proofs.Common.{◌≡◌, ◌≢◌, ℕ, zero, suc, ◌+◌, ◌<◌, ◌≤◌, Bool, true, false, cond, eqb, ◌||◌, List, [], ◌∷◌, ◌++◌, codes, Option, Some, None, Result, Ok, Err, length, length-append, refl, sym, ap, ap₂, ◌∙◌, subst, arith, append_assoc}
use Rattle.std.specs.List.{AllByRecursion, join_with_byte}
use Rattle.std.specs.Str.{bytes_eq}
use Rattle.std.specs.Fmt.{decimal}
use Rattle.std.specs.FinSet as sets
use Rattle.std.proofs.lemmas.Bool.{and_from, eqb-false}
use Rattle.std.proofs.lemmas.List.Splits.{join_with_byte-slice_split}
use Rattle.std.proofs.lemmas.Slice.Eq.{bytes_eq-Decides}
use Rattle.aodv_meaning.proofs.Means.{index_there}
use Rattle.mesh_base.specs.Addresses.{address_of, dotted_decimal}
use Rattle.mesh_base.specs.Members.{NodeIds}
use Rattle.mesh_base.specs.Meshes.{Nodes, IsMesh, addr_at, index_of}
use Rattle.mesh_base.specs.Numbers.{number_up_to}
use Rattle.mesh_base.specs.Parts.{parts}
use Rattle.mesh_base.proofs.Readings.{number_up_to-le}
use Rattle.mesh_grammar.specs.declared.fault.LineFault.{LineFault}
use Rattle.mesh_grammar.specs.declared.fault.LineFault.TheVariants.{Word, BadAddress, BadNumber, Early, Unknown}
use Rattle.mesh_grammar.specs.Forms.{TwoAddresses}
use Rattle.mesh_grammar.specs.Words.{SpannedAddr, span_at, next_at}
use Rattle.mesh_grammar.specs.Written.{line, command_text}
use Rattle.mesh_grammar.proofs.Canonical.{number_is_written, address_is_written}
use Rattle.mesh_grammar.proofs.Readings.{with_argument_case, if_case, three_texts}
use Rattle.mesh_grammar.proofs.CommandLines.{words_in, HaveNumbers, words_written}
use Rattle.mesh_model.specs.InMesh.{IsEvent}
use Rattle.mesh_model.specs.Worlds.{Copy, Event, Give, Turn, Send, Ask, Link, Cut, Deliver, Lose, Double}
use Rattle.mesh_model.proofs.Lists.{each_append}
use Rattle.mesh_text.specs.Lines.{name_of, event_words}
use Rattle.mesh_text.specs.Ranges.{IsEventLine}
use Rattle.mesh_text.proofs.Clean.{is_clean, name_clean, decimal_clean, clean_append}
use Rattle.mesh_grid.specs.declared.place.TheConstants.{GREATEST_PLACE}
use Rattle.mesh_grid.specs.declared.place.Place.{Place}
use Rattle.mesh_grid.specs.declared.place.Places.{Places}
use Rattle.mesh_grid.specs.declared.line.Placing.{Placing}
use Rattle.mesh_grid.specs.Places.{is_within, place_of}
use Rattle.mesh_grid.specs.Lines.{coordinate_at, placing_in, placing_at, placing_by, placing_of, command_of, place_words}
use Rattle.mesh_grid.specs.Links.{change, change_with, change_at, changes_below}
use Rattle.mesh_grid.specs.Text.{change_line}
use Rattle.mesh_lines.specs.declared.below.Below.TheVariants as below
use Rattle.mesh_lines.specs.declared.form.Field.TheVariants.{Address, UpTo}
use Rattle.mesh_lines.specs.Forms.{are, fits}
use Rattle.mesh_capture.specs.Copies.{effect_below, after_link, event_outcome}
use Rattle.mesh_capture.proofs.Effects.{stand}
use Rattle.mesh_capture.proofs.EventLines.{names_are, number_fits, two_are}
use Rattle.mesh_capture.proofs.OtherLines.{with_below, reads_other}
use Rattle.mesh_capture.proofs.Spans.{IsNear, HasNear}
use Rattle.mesh_capture.proofs.Told.{Stand, Reads, reading_of, reads_effect}
use Rattle.mesh_capture.proofs.Words.{word_lacks, words_apart, name_lacks, is_name, number_lacks, address_fits}

-- ---- what a line about a place is read as

-- the words behind the command are those of a node of the mesh and its place on the grid
record HasWords (mesh : Nodes) (first : Bool) (words : List (List ℕ)) (new : Placing) : Type 0 where
  command : new.first ≡ first
  text : words ≡ name_of mesh new.node ∷ decimal new.place.x ∷ decimal new.place.y ∷ []
  within : new.node < length mesh
  east : new.place.x ≤ GREATEST_PLACE
  north : new.place.y ≤ GREATEST_PLACE

-- the line is as it is written, of a node of the mesh and its place on the grid
pub record IsPlaceLine (mesh : Nodes) (bytes : List ℕ) (new : Placing) : Type 0 where
  pub written : bytes ≡ place_words mesh new
  pub within : new.node < length mesh
  pub east : new.place.x ≤ GREATEST_PLACE
  pub north : new.place.y ≤ GREATEST_PLACE

module _ (most : ℕ) (mesh : Nodes) where
  -- such a line, or a fault about bytes of it
  abbrev pub PlacingTold : List ℕ → Result (Option Placing) LineFault → Type 0
  PlacingTold bytes (Ok (Some new)) = IsPlaceLine mesh bytes new
  PlacingTold bytes (Ok None) = Unit {0}
  PlacingTold bytes (Err f) = HasNear most f

  abbrev WordsTold : Bool → List (List ℕ) → Result (Option Placing) LineFault → Type 0
  WordsTold first words (Ok (Some new)) = HasWords mesh first words new
  WordsTold first words (Ok None) = Unit {0}
  WordsTold first words (Err f) = HasNear most f

  in_told : (first : Bool) (words : List (List ℕ)) (a : SpannedAddr) (place : Place) → IsNear most a.span → words ≡ dotted_decimal a.address ∷ decimal place.x ∷ decimal place.y ∷ [] → place.x ≤ GREATEST_PLACE → place.y ≤ GREATEST_PLACE
      → WordsTold first words (placing_in mesh first a place)
  in_told first words a place near is east north =
      if_case (WordsTold first words) (eqb (length mesh) 0) (Err Early) _ (λ _. tt) (λ _.
      with_argument_case (WordsTold first words) (index_of mesh a.address) (Unknown a.span) (λ x. Ok (Some (record { first = first; node = x; place = place }))) near
      (λ x at. record {
        command = refl;
        text = is ∙ ap (λ b. dotted_decimal b ∷ decimal place.x ∷ decimal place.y ∷ []) (sym (index_there mesh a.address x at).2);
        within = (index_there mesh a.address x at).0;
        east = east;
        north = north;
      }))

  coordinate_told : (first : Bool) (words : List (List ℕ)) (at : ℕ) (word : List ℕ) (next : ℕ → Result (Option Placing) LineFault) → at + length word ≤ most → ((n : ℕ) → n ≤ GREATEST_PLACE → decimal n ≡ word → WordsTold first words (next n))
      → WordsTold first words (coordinate_at at word next)
  coordinate_told first words at word next short rest =
      with_argument_case (WordsTold first words) (number_up_to GREATEST_PLACE word) (BadNumber (span_at at word)) next (omega arith, short)
      (λ n is. let le = number_up_to-le GREATEST_PLACE word n is in rest n le (number_is_written GREATEST_PLACE word n is (omega arith)))

  longer : (w v : List ℕ) (ws : List (List ℕ)) → length (join_with_byte 32 (w ∷ v ∷ ws)) ≡ length w + (length (join_with_byte 32 (v ∷ ws)) + 1)
  longer w v ws = let all = length-append w (32 ∷ join_with_byte 32 (v ∷ ws)) in omega arith

  at_told : (first : Bool) (at : ℕ) (words : List (List ℕ)) → at + length (join_with_byte 32 words) ≤ most → WordsTold first words (placing_at mesh first at words)
  at_told first at [] short = tt
  at_told first at (a ∷ []) short = tt
  at_told first at (a ∷ x ∷ []) short = tt
  at_told first at (a ∷ x ∷ y ∷ []) short =
      let one = longer a x (y ∷ []) in
      let two = longer x y [] in
      with_argument_case (WordsTold first (a ∷ x ∷ y ∷ [])) (address_of a) (BadAddress (span_at at a)) _ (omega arith, omega arith) (λ addr a_at.
      coordinate_told first (a ∷ x ∷ y ∷ []) (next_at at a) x _ (omega arith) (λ east e x_is.
      coordinate_told first (a ∷ x ∷ y ∷ []) (next_at (next_at at a) x) y _ (omega arith) (λ north n y_is.
      in_told first (a ∷ x ∷ y ∷ []) (record { address = addr; span = span_at at a }) (record { x = east; y = north }) (omega arith, omega arith)
      (ap (λ b. b ∷ x ∷ y ∷ []) (sym (address_is_written a addr a_at)) ∙ ap₂ (λ i j. dotted_decimal addr ∷ i ∷ j ∷ []) (sym x_is) (sym y_is)) e n)))
  at_told first at (a ∷ x ∷ y ∷ z ∷ ws) short = tt

  -- the words behind the command
  rest_told : (first : Bool) (w : List ℕ) (ws : List (List ℕ)) → length (join_with_byte 32 (w ∷ ws)) ≤ most → WordsTold first ws (placing_at mesh first (next_at 0 w) ws)
  rest_told first w [] short = tt
  rest_told first w (v ∷ vs) short = let long = longer w v vs in at_told first (next_at 0 w) (v ∷ vs) (omega arith)

  first_short : (w : List ℕ) (ws : List (List ℕ)) → length (join_with_byte 32 (w ∷ ws)) ≤ most → length w ≤ most
  first_short w [] short = short
  first_short w (v ∷ vs) short = let long = longer w v vs in omega arith

  -- the whole line
  with_command : (first : Bool) (w : List ℕ) (ws : List (List ℕ)) (r : Result (Option Placing) LineFault) → w ≡ command_of first → WordsTold first ws r → PlacingTold (join_with_byte 32 (w ∷ ws)) r
  with_command first w ws (Ok (Some new)) word has = record {
    written = ap₂ (λ v vs. join_with_byte 32 (v ∷ vs)) (word ∙ ap command_of (sym has.command)) has.text
        ∙ three_texts (command_of new.first) (name_of mesh new.node) (decimal new.place.x) (decimal new.place.y);
    within = has.within;
    east = has.east;
    north = has.north;
  }
  with_command first w ws (Ok None) word has = tt
  with_command first w ws (Err f) word has = has

  by_told : (words : List (List ℕ)) → length (join_with_byte 32 words) ≤ most → PlacingTold (join_with_byte 32 words) (placing_by mesh words)
  by_told [] short = tt
  by_told (w ∷ ws) short =
      let own = first_short w ws short in
      let line : List ℕ = join_with_byte 32 (w ∷ ws) in
      if_case (PlacingTold line) (bytes_eq w (codes "place")) _ _
      (λ same. with_command true w ws (placing_at mesh true (next_at 0 w) ws) ((bytes_eq-Decides w (codes "place")).0 same) (rest_told true w ws short)) (λ _.
      if_case (PlacingTold line) (bytes_eq w (codes "move")) _ _
      (λ same. with_command false w ws (placing_at mesh false (next_at 0 w) ws) ((bytes_eq-Decides w (codes "move")).0 same) (rest_told false w ws short)) (λ _.
      if_case (PlacingTold line) (bytes_eq w (codes "link") || bytes_eq w (codes "cut")) (Err (Word (span_at 0 w))) (Ok None) (λ _. (omega arith, omega arith)) (λ _. tt)))

  pub placing_told : (bytes : List ℕ) → length bytes ≤ most → PlacingTold bytes (placing_of mesh bytes)
  unfolding placing_of
  placing_told bytes short =
      let same = join_with_byte-slice_split 32 bytes in
      subst (λ t. PlacingTold t (placing_by mesh (parts 32 bytes))) same (by_told (parts 32 bytes) (subst (λ t. length t ≤ most) (sym same) short))

-- ---- the changes of links below it

module _ (mesh : Nodes) where
  -- a link comes to stand or falls
  abbrev pub IsChange : Event → Type 0
  IsChange (Link a b) = IsEvent (length mesh) (Link a b)
  IsChange (Cut a b) = IsEvent (length mesh) (Cut a b)
  IsChange others = ⊥

  -- it is an event of the mesh, as a line of a schedule may be
  pub change_range : (e : Event) → 1 ≤ length mesh → IsChange e → IsEventLine mesh e
  change_range (Link x y) some change = (some, change, tt)
  change_range (Cut x y) some change = (some, change, tt)
  change_range (Give x d b) some change = absurd change
  change_range (Turn x) some change = absurd change
  change_range (Send x d) some change = absurd change
  change_range (Ask x d) some change = absurd change
  change_range (Deliver id) some change = absurd change
  change_range (Lose id) some change = absurd change
  change_range (Double id) some change = absurd change

  -- those that follow a line

  abbrev pub AreChanges : List Event → Type 0
  AreChanges es = AllByRecursion IsChange es

  change_is : (in_reach stands : Bool) (x y : ℕ) → x < length mesh → y < length mesh → x ≢ y → AreChanges (change in_reach stands x y)
  change_is true true x y first second apart = tt
  change_is false false x y first second apart = tt
  change_is true false x y first second apart = ((omega arith, omega arith, λ same. apart (omega arith)), tt)
  change_is false true x y first second apart = ((omega arith, omega arith, λ same. apart (omega arith)), tt)

  with_are : (reach x : ℕ) (p : Place) (y : ℕ) (o : Option Place) (stands : Bool) → x < length mesh → y < length mesh → x ≢ y → AreChanges (change_with reach x p y o stands)
  with_are reach x p y None stands first second apart = tt
  with_are reach x p y (Some q) stands first second apart = change_is (is_within reach p q) stands x y first second apart

  at_are : (reach : ℕ) (places : Places) (near : NodeIds) (new : Placing) (y : ℕ) → new.node < length mesh → y < length mesh → AreChanges (change_at reach places near new y)
  at_are reach places near new y first second =
      if_case AreChanges (eqb y new.node) [] (change_with reach new.node new.place y (place_of places y) (sets.contains near y)) (λ _. tt)
      (λ apart. with_are reach new.node new.place y (place_of places y) (sets.contains near y) first second (λ same. eqb-false y new.node apart (sym same)))

  pub changes_are : (reach : ℕ) (places : Places) (near : NodeIds) (new : Placing) (n : ℕ) → new.node < length mesh → n ≤ length mesh → AreChanges (changes_below reach places near new n)
  changes_are reach places near new zero first le = tt
  changes_are reach places near new (suc n) first le =
      each_append IsChange (changes_below reach places near new n) (change_at reach places near new n)
      (changes_are reach places near new n first (omega arith)) (at_are reach places near new n first (omega arith))

-- ---- how it is read back

place_texts : (a x y : List ℕ) → a ++ 32 ∷ x ++ 32 ∷ y ≡ join_with_byte 32 (a ∷ x ∷ y ∷ [])
place_texts a x y = simp append_assoc

module _ (mesh : Nodes) (is : IsMesh mesh) where
  module _ (node x y : ℕ) (east : x ≤ GREATEST_PLACE) (north : y ≤ GREATEST_PLACE) where
    abbrev place : List ℕ
    place = name_of mesh node ++ 32 ∷ decimal x ++ 32 ∷ decimal y

    abbrev place_list : List (List ℕ)
    place_list = name_of mesh node ∷ decimal x ∷ decimal y ∷ []

    place_clean : is_clean place ≡ true
    place_clean = clean_append (name_of mesh node ++ 32 ∷ decimal x) (32 ∷ decimal y) (clean_append (name_of mesh node) (32 ∷ decimal x) (name_clean mesh node) (decimal_clean x)) (decimal_clean y)

    place_is : are (Address ∷ UpTo GREATEST_PLACE ∷ UpTo GREATEST_PLACE ∷ []) place_list ≡ true
    place_is =
        and_from (fits Address (name_of mesh node)) _ (is_name mesh node is)
        (two_are (UpTo GREATEST_PLACE) (UpTo GREATEST_PLACE) (decimal x) (decimal y) (number_fits GREATEST_PLACE x east (omega arith)) (number_fits GREATEST_PLACE y north (omega arith)))

    place_cut : parts 32 place ≡ place_list
    place_cut =
        ap (parts 32) (place_texts (name_of mesh node) (decimal x) (decimal y))
        ∙ words_apart (name_of mesh node) (decimal x ∷ decimal y ∷ []) (name_lacks 32 mesh node (omega arith) is, (number_lacks 32 x (omega arith) (omega arith), (number_lacks 32 y (omega arith) (omega arith), tt)))

    behind_place : parts 32 (codes "place " ++ place) ≡ codes "place" ∷ place_list
    behind_place =
        ap (λ t. parts 32 (codes "place " ++ t)) (place_texts (name_of mesh node) (decimal x) (decimal y))
        ∙ words_apart (codes "place") place_list (word_lacks 32 (codes "place") refl, (name_lacks 32 mesh node (omega arith) is, (number_lacks 32 x (omega arith) (omega arith), (number_lacks 32 y (omega arith) (omega arith), tt))))

    behind_move : parts 32 (codes "move " ++ place) ≡ codes "move" ∷ place_list
    behind_move =
        ap (λ t. parts 32 (codes "move " ++ t)) (place_texts (name_of mesh node) (decimal x) (decimal y))
        ∙ words_apart (codes "move") place_list (word_lacks 32 (codes "move") refl, (name_lacks 32 mesh node (omega arith) is, (number_lacks 32 x (omega arith) (omega arith), (number_lacks 32 y (omega arith) (omega arith), tt))))

    placed_reads : (a : Stand) (first : Bool) → Reads mesh a (line (command_of first ++ 32 ∷ name_of mesh node ++ 32 ∷ decimal x ++ 32 ∷ decimal y)) [] (with_below a below.Place)
    placed_reads a true =
        reads_other mesh a below.Place (codes "place " ++ place) (codes "place") place_list place_clean (λ r. refl) behind_place refl
        (ap (λ b. cond b (Some below.Place) None) place_is)
    placed_reads a false =
        reads_other mesh a below.Place (codes "move " ++ place) (codes "move") place_list place_clean (λ r. refl) behind_move refl
        (ap (λ b. cond b (Some below.Place) None) place_is)

  pub place_reads : (a : Stand) (new : Placing) → new.place.x ≤ GREATEST_PLACE → new.place.y ≤ GREATEST_PLACE → Reads mesh a (line (place_words mesh new)) [] (with_below a below.Place)
  place_reads a new east north = placed_reads new.node new.place.x new.place.y east north a new.first

  -- ---- a change below it

  change_by : (cs : List Copy) (n : ℕ) (word : List ℕ) (x y : ℕ) → is_clean (command_text word (TwoAddresses (addr_at mesh x) (addr_at mesh y))) ≡ true
      → parts 32 (command_text word (TwoAddresses (addr_at mesh x) (addr_at mesh y))) ≡ word ∷ name_of mesh x ∷ name_of mesh y ∷ []
      → ((k : ℕ) → effect_below (reading_of mesh (stand cs n below.Place) k) below.Place word (name_of mesh x ∷ name_of mesh y ∷ []) ≡ after_link (reading_of mesh (stand cs n below.Place) k) (name_of mesh x ∷ name_of mesh y ∷ []))
      → Reads mesh (stand cs n below.Place) (line (32 ∷ 32 ∷ command_text word (TwoAddresses (addr_at mesh x) (addr_at mesh y)))) [] (stand cs (n + 1) below.Place)
  change_by cs n word x y clean cut links =
      reads_effect mesh (stand cs n below.Place) (stand cs (n + 1) below.Place) (command_text word (TwoAddresses (addr_at mesh x) (addr_at mesh y))) word (name_of mesh x ∷ name_of mesh y ∷ []) None clean cut
      (λ k. links k ∙ ap (λ b. cond b (Some (event_outcome (reading_of mesh (stand cs n below.Place) k) below.Place)) None) (names_are mesh x y is))

  ends_clean : (x y : ℕ) → is_clean (name_of mesh x ++ 32 ∷ name_of mesh y) ≡ true
  ends_clean x y = clean_append (name_of mesh x) (32 ∷ name_of mesh y) (name_clean mesh x) (name_clean mesh y)

  pub change_reads : (cs : List Copy) (n : ℕ) (e : Event) → IsChange mesh e → Reads mesh (stand cs n below.Place) (change_line mesh e) [] (stand cs (n + 1) below.Place)
  unfolding event_words command_text words_in HaveNumbers
  change_reads cs n (Link x y) change =
      change_by cs n (codes "link") x y (ends_clean x y) (words_written (codes "link") (word_lacks 32 (codes "link") refl) (TwoAddresses (addr_at mesh x) (addr_at mesh y)) (address_fits mesh x is, address_fits mesh y is) tt) (λ k. refl)
  change_reads cs n (Cut x y) change =
      change_by cs n (codes "cut") x y (ends_clean x y) (words_written (codes "cut") (word_lacks 32 (codes "cut") refl) (TwoAddresses (addr_at mesh x) (addr_at mesh y)) (address_fits mesh x is, address_fits mesh y is) tt) (λ k. refl)
  change_reads cs n (Give x d b) change = absurd change
  change_reads cs n (Turn x) change = absurd change
  change_reads cs n (Send x d) change = absurd change
  change_reads cs n (Ask x d) change = absurd change
  change_reads cs n (Deliver id) change = absurd change
  change_reads cs n (Lose id) change = absurd change
  change_reads cs n (Double id) change = absurd change
