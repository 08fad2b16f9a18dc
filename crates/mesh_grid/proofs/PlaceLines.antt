-- What a line about a place is read as, and that no line of a run with places changes a link by itself.
use Rattle.std.proofs.Common.{◌≡◌, ℕ, ◌<◌, Bool, true, false, ◌||◌, eqb, List, [], ◌∷◌, ◌++◌, Option, Some, None, Result, Ok, Err, length, refl, sym, ap, ◌∙◌, codes}
use Rattle.std.specs.Str.{bytes_eq}
use Rattle.mesh_base.specs.Addresses.{address_of, dotted_decimal}
use Rattle.mesh_base.specs.Meshes.{Nodes, index_of, addr_at}
use Rattle.mesh_base.specs.Numbers.{number_up_to}
use Rattle.mesh_base.specs.Parts.{parts}
use Rattle.aodv_meaning.proofs.Means.{index_there}
use Rattle.mesh_model.specs.Worlds.{Event, Link, Cut}
use Rattle.mesh_grammar.specs.declared.fault.LineFault.{LineFault}
use Rattle.mesh_grammar.specs.declared.fault.LineFault.TheVariants.{Word, BadAddress, BadNumber, Early, Unknown}
use Rattle.mesh_grammar.specs.Words.{SpannedAddr, span_at, next_at}
use Rattle.mesh_grammar.specs.Written.{command_text}
use Rattle.mesh_grammar.proofs.Readings.{with_argument_case, if_case}
use Rattle.mesh_text.specs.Lines.{event_words}
use Rattle.mesh_grid.specs.declared.place.TheConstants.{GREATEST_PLACE}
use Rattle.mesh_grid.specs.declared.place.Place.{Place}
use Rattle.mesh_grid.specs.declared.line.Placing.{Placing}
use Rattle.mesh_grid.specs.Lines.{coordinate_at, placing_in, placing_at, placing_by, placing_of}

-- ---- a node of the mesh comes to a place

unfoldable pub ComesIn : ℕ → Result (Option Placing) LineFault → Type 0
ComesIn size (Ok (Some new)) = new.node < size
ComesIn size (Ok None) = Unit {0}
ComesIn size (Err f) = Unit {0}

placed : (mesh : Nodes) (first : Bool) (a : SpannedAddr) (place : Place) → ComesIn (length mesh) (placing_in mesh first a place)
unfolding ComesIn
placed mesh first a place =
    if_case (ComesIn (length mesh)) (eqb (length mesh) 0) (Err Early) _ (λ _. tt) (λ _.
    with_argument_case (ComesIn (length mesh)) (index_of mesh a.address) (Unknown a.span) (λ x. Ok (Some (record { first = first; node = x; place = place }))) tt
    (λ x is. (index_there mesh a.address x is).0))

coordinate : (size at : ℕ) (word : List ℕ) (next : ℕ → Result (Option Placing) LineFault) → ((n : ℕ) → ComesIn size (next n)) → ComesIn size (coordinate_at at word next)
unfolding ComesIn
coordinate size at word next rest =
    with_argument_case (ComesIn size) (number_up_to GREATEST_PLACE word) (BadNumber (span_at at word)) next tt (λ n _. rest n)

comes_at : (mesh : Nodes) (first : Bool) (at : ℕ) (words : List (List ℕ)) → ComesIn (length mesh) (placing_at mesh first at words)
unfolding ComesIn
comes_at mesh first at [] = tt
comes_at mesh first at (a ∷ []) = tt
comes_at mesh first at (a ∷ x ∷ []) = tt
comes_at mesh first at (a ∷ x ∷ y ∷ []) =
    with_argument_case (ComesIn (length mesh)) (address_of a) (BadAddress (span_at at a)) _ tt (λ addr _.
    coordinate (length mesh) (next_at at a) x _ (λ east.
    coordinate (length mesh) (next_at (next_at at a) x) y _ (λ north.
    placed mesh first (record { address = addr; span = span_at at a }) (record { x = east; y = north }))))
comes_at mesh first at (a ∷ x ∷ y ∷ z ∷ ws) = tt

comes_by : (mesh : Nodes) (words : List (List ℕ)) → ComesIn (length mesh) (placing_by mesh words)
unfolding ComesIn
comes_by mesh [] = tt
comes_by mesh (w ∷ ws) =
    if_case (ComesIn (length mesh)) (bytes_eq w (codes "place")) _ _ (λ _. comes_at mesh true (next_at 0 w) ws) (λ _.
    if_case (ComesIn (length mesh)) (bytes_eq w (codes "move")) _ _ (λ _. comes_at mesh false (next_at 0 w) ws) (λ _.
    if_case (ComesIn (length mesh)) (bytes_eq w (codes "link") || bytes_eq w (codes "cut")) (Err (Word (span_at 0 w))) (Ok None) (λ _. tt) (λ _. tt)))

pub comes_in : (mesh : Nodes) (line : List ℕ) → ComesIn (length mesh) (placing_of mesh line)
unfolding placing_of
comes_in mesh line = comes_by mesh (parts 32 line)

-- ---- a line of a schedule that changes a link is no command

link_refused : (mesh : Nodes) (rest : List ℕ) → placing_of mesh (codes "link" ++ 32 ∷ rest) ≡ Err (Word (span_at 0 (codes "link")))
unfolding placing_of
link_refused mesh rest = refl

cut_refused : (mesh : Nodes) (rest : List ℕ) → placing_of mesh (codes "cut" ++ 32 ∷ rest) ≡ Err (Word (span_at 0 (codes "cut")))
unfolding placing_of
cut_refused mesh rest = refl

-- it changes no link
abbrev pub KeepsLinks : Event → Type 0
KeepsLinks (Link a b) = ⊥
KeepsLinks (Cut a b) = ⊥
KeepsLinks others = Unit {0}

pub no_link_line : (mesh : Nodes) (line : List ℕ) (e : Event) → placing_of mesh line ≡ Ok None → line ≡ event_words mesh e → KeepsLinks e
unfolding event_words command_text
no_link_line mesh line (Link a b) other is =
    let refused = link_refused mesh (dotted_decimal (addr_at mesh a) ++ 32 ∷ dotted_decimal (addr_at mesh b)) in
    let clash : Ok None ≡ Err (Word (span_at 0 (codes "link"))) = sym other ∙ ap (placing_of mesh) is ∙ refused in
    let P : ⊥ = cc in P
no_link_line mesh line (Cut a b) other is =
    let refused = cut_refused mesh (dotted_decimal (addr_at mesh a) ++ 32 ∷ dotted_decimal (addr_at mesh b)) in
    let clash : Ok None ≡ Err (Word (span_at 0 (codes "cut"))) = sym other ∙ ap (placing_of mesh) is ∙ refused in
    let P : ⊥ = cc in P
no_link_line mesh line others other is = tt
