-- A line about a place is as it is written.
use Rattle.std.proofs.Common.{◌≡◌, ℕ, Bool, true, false, cond, ◌||◌, eqb, List, [], ◌∷◌, Option, Some, None, Result, Ok, Err, length, refl, sym, ap, ap₂, subst, ◌∙◌, codes, arith}
use Rattle.std.specs.List.{join_with_byte}
use Rattle.std.specs.Str.{bytes_eq}
use Rattle.std.specs.Fmt.{decimal}
use Rattle.std.proofs.lemmas.List.Splits.{join_with_byte-slice_split}
use Rattle.std.proofs.lemmas.Slice.Eq.{bytes_eq-Decides}
use Rattle.mesh_base.specs.Addresses.{address_of, dotted_decimal}
use Rattle.mesh_base.specs.Meshes.{Nodes, index_of}
use Rattle.mesh_base.specs.Numbers.{number_up_to}
use Rattle.mesh_base.specs.Parts.{parts}
use Rattle.mesh_base.proofs.Readings.{number_up_to-le}
use Rattle.aodv_meaning.proofs.Means.{index_there}
use Rattle.mesh_grammar.specs.declared.fault.LineFault.{LineFault}
use Rattle.mesh_grammar.specs.declared.fault.LineFault.TheVariants.{Word, BadAddress, BadNumber, Early, Unknown}
use Rattle.mesh_grammar.specs.Words.{SpannedAddr, span_at, next_at}
use Rattle.mesh_grammar.proofs.Readings.{with_argument_case, if_case, three_texts}
use Rattle.mesh_grammar.proofs.Canonical.{number_is_written, address_is_written}
use Rattle.mesh_text.specs.Lines.{name_of}
use Rattle.mesh_grid.specs.declared.place.TheConstants.{GREATEST_PLACE}
use Rattle.mesh_grid.specs.declared.place.Place.{Place}
use Rattle.mesh_grid.specs.declared.line.Placing.{Placing}
use Rattle.mesh_grid.specs.Lines.{coordinate_at, placing_in, placing_at, placing_by, placing_of, place_words}
use Rattle.mesh_grid.specs.Laws.{PlaceLineIsWrittenAsItStands}

-- the words after the command are those of the node and its place
record Wrote (mesh : Nodes) (first : Bool) (words : List (List ℕ)) (new : Placing) : Type 0 where
  command : new.first ≡ first
  text : words ≡ name_of mesh new.node ∷ decimal new.place.x ∷ decimal new.place.y ∷ []

WroteIn : Nodes → Bool → List (List ℕ) → Result (Option Placing) LineFault → Type 0
WroteIn mesh first words (Ok (Some new)) = Wrote mesh first words new
WroteIn mesh first words (Ok None) = Unit {0}
WroteIn mesh first words (Err f) = Unit {0}

wrote_node : (mesh : Nodes) (first : Bool) (words : List (List ℕ)) (a : SpannedAddr) (place : Place)
    → words ≡ dotted_decimal a.address ∷ decimal place.x ∷ decimal place.y ∷ [] → WroteIn mesh first words (placing_in mesh first a place)
unfolding WroteIn
wrote_node mesh first words a place is =
    if_case (WroteIn mesh first words) (eqb (length mesh) 0) (Err Early) _ (λ _. tt) (λ _.
    with_argument_case (WroteIn mesh first words) (index_of mesh a.address) (Unknown a.span) (λ x. Ok (Some (record { first = first; node = x; place = place }))) tt
    (λ x at. record {
      command = refl;
      text = is ∙ ap (λ b. dotted_decimal b ∷ decimal place.x ∷ decimal place.y ∷ []) (sym (index_there mesh a.address x at).2);
    }))

wrote_coordinate : (mesh : Nodes) (first : Bool) (words : List (List ℕ)) (at : ℕ) (word : List ℕ) (next : ℕ → Result (Option Placing) LineFault)
    → ((n : ℕ) → decimal n ≡ word → WroteIn mesh first words (next n)) → WroteIn mesh first words (coordinate_at at word next)
unfolding WroteIn
wrote_coordinate mesh first words at word next rest =
    with_argument_case (WroteIn mesh first words) (number_up_to GREATEST_PLACE word) (BadNumber (span_at at word)) next tt
    (λ n is. let most = number_up_to-le GREATEST_PLACE word n is in rest n (number_is_written GREATEST_PLACE word n is (omega arith)))

wrote_at : (mesh : Nodes) (first : Bool) (at : ℕ) (words : List (List ℕ)) → WroteIn mesh first words (placing_at mesh first at words)
unfolding WroteIn
wrote_at mesh first at [] = tt
wrote_at mesh first at (a ∷ []) = tt
wrote_at mesh first at (a ∷ x ∷ []) = tt
wrote_at mesh first at (a ∷ x ∷ y ∷ []) =
    with_argument_case (WroteIn mesh first (a ∷ x ∷ y ∷ [])) (address_of a) (BadAddress (span_at at a)) _ tt (λ addr a_at.
    wrote_coordinate mesh first (a ∷ x ∷ y ∷ []) (next_at at a) x _ (λ east x_is.
    wrote_coordinate mesh first (a ∷ x ∷ y ∷ []) (next_at (next_at at a) x) y _ (λ north y_is.
    wrote_node mesh first (a ∷ x ∷ y ∷ []) (record { address = addr; span = span_at at a }) (record { x = east; y = north })
    (ap (λ b. b ∷ x ∷ y ∷ []) (sym (address_is_written a addr a_at)) ∙ ap₂ (λ i j. dotted_decimal addr ∷ i ∷ j ∷ []) (sym x_is) (sym y_is)))))
wrote_at mesh first at (a ∷ x ∷ y ∷ z ∷ ws) = tt

-- the whole line
IsAsWritten : Nodes → List (List ℕ) → Result (Option Placing) LineFault → Type 0
IsAsWritten mesh words (Ok (Some new)) = join_with_byte 32 words ≡ place_words mesh new
IsAsWritten mesh words (Ok None) = Unit {0}
IsAsWritten mesh words (Err f) = Unit {0}

whole_line : (mesh : Nodes) (first : Bool) (w : List ℕ) (ws : List (List ℕ)) (r : Result (Option Placing) LineFault) → w ≡ cond first (codes "place") (codes "move")
    → WroteIn mesh first ws r → IsAsWritten mesh (w ∷ ws) r
unfolding WroteIn IsAsWritten
whole_line mesh first w ws (Ok (Some new)) word wrote =
    ap₂ (λ v vs. join_with_byte 32 (v ∷ vs)) (word ∙ ap (λ b. cond b (codes "place") (codes "move")) (sym wrote.command)) wrote.text
    ∙ three_texts (cond new.first (codes "place") (codes "move")) (name_of mesh new.node) (decimal new.place.x) (decimal new.place.y)
whole_line mesh first w ws (Ok None) word wrote = tt
whole_line mesh first w ws (Err f) word wrote = tt

written_by : (mesh : Nodes) (words : List (List ℕ)) → IsAsWritten mesh words (placing_by mesh words)
unfolding IsAsWritten
written_by mesh [] = tt
written_by mesh (w ∷ ws) =
    if_case (IsAsWritten mesh (w ∷ ws)) (bytes_eq w (codes "place")) _ _
    (λ same. whole_line mesh true w ws (placing_at mesh true (next_at 0 w) ws) ((bytes_eq-Decides w (codes "place")).0 same) (wrote_at mesh true (next_at 0 w) ws)) (λ _.
    if_case (IsAsWritten mesh (w ∷ ws)) (bytes_eq w (codes "move")) _ _
    (λ same. whole_line mesh false w ws (placing_at mesh false (next_at 0 w) ws) ((bytes_eq-Decides w (codes "move")).0 same) (wrote_at mesh false (next_at 0 w) ws)) (λ _.
    if_case (IsAsWritten mesh (w ∷ ws)) (bytes_eq w (codes "link") || bytes_eq w (codes "cut")) (Err (Word (span_at 0 w))) (Ok None) (λ _. tt) (λ _. tt)))

pub place_line_is_written_as_it_stands : PlaceLineIsWrittenAsItStands
unfolding placing_of IsAsWritten
place_line_is_written_as_it_stands mesh line new is =
    let there : IsAsWritten mesh (parts 32 line) (Ok (Some new)) = subst (IsAsWritten mesh (parts 32 line)) is (written_by mesh (parts 32 line)) in
    sym (join_with_byte-slice_split 32 line) ∙ there
