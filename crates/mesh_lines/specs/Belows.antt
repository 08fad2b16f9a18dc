-- The lines without two spaces before them, events and others, and what may be below each.
use Rattle.std.specs.Prelude.{ℕ, Bool, ◌&&◌, if◌then◌else◌, List, [], ◌∷◌, Option, Some, None, option_and_then, option_map, codes}
use Rattle.std.specs.Str.{bytes_eq}
use Rattle.mesh_base.specs.Numbers.{number_up_to, positive}
use Rattle.mesh_grammar.specs.Commands.{greatest_id}
use Rattle.mesh_grammar.specs.Words.{is_text}
use Rattle.mesh_lines.specs.declared.below.TheConstants.{GREATEST_PLACE}
use Rattle.mesh_lines.specs.declared.below.Below.{Below}
use Rattle.mesh_lines.specs.declared.below.Below.TheVariants.{Nothing, Link, Casts, Delivers, Loses, Doubles, Node, Route, Flight, Place}
use Rattle.mesh_lines.specs.declared.form.Field.TheVariants.{Address, UpTo}
use Rattle.mesh_lines.specs.Forms.{is_one_of, alone, are, text_behind, holds_of}
use Rattle.mesh_lines.specs.Lines.{address_in, is_sending, sender, is_alone}

-- ---- events

-- the number of a copy, from 1 to the greatest of 64 bits
abbrev pub number_of : List ℕ → Option ℕ
number_of word = positive (number_up_to greatest_id word)

-- one word, a copy's number
abbrev pub number_in : List (List ℕ) → Option ℕ
number_in words = alone number_of words

-- the words of a new copy, `ID TO`: its number and its receiver
abbrev pub copy_words : List (List ℕ) → Option (ℕ × ℕ)
copy_words [] = None
copy_words (id ∷ to) =
    option_and_then (λ n. option_map (λ a. (n, a)) (address_in to)) (number_of id)

abbrev pub is_link : List ℕ → Bool
is_link word = is_one_of (codes "link" ∷ codes "cut" ∷ []) word

-- the words after `data`: `ADDR ADDR TEXT`
abbrev pub is_given : List (List ℕ) → Bool
is_given words = holds_of is_text (text_behind words)

-- what may be below an event of this node that may cast a packet: none is cast yet
abbrev pub casting : ℕ → Below
casting node = Casts node None

-- what may be below the event that a line is; None if the line isn't an event
abbrev pub event_by : List ℕ → List (List ℕ) → Option Below
event_by word words =
    if bytes_eq word (codes "turn") then option_map casting (address_in words) else
    if bytes_eq word (codes "deliver") then option_map Delivers (number_in words) else
    if is_sending word then option_map casting (sender words) else
    if bytes_eq word (codes "lose") then option_map Loses (number_in words) else
    if bytes_eq word (codes "copy") then option_map Doubles (number_in words) else
    if is_link word && are (Address ∷ Address ∷ []) words then Some Link else
    if bytes_eq word (codes "data") && is_given words then Some Nothing
    else None

-- ---- other lines

-- `place ADDR X Y` or `move ADDR X Y`
abbrev pub is_place : List ℕ → List (List ℕ) → Bool
is_place word words =
    is_one_of (codes "place" ∷ codes "move" ∷ []) word
    && are (Address ∷ UpTo GREATEST_PLACE ∷ UpTo GREATEST_PLACE ∷ []) words

-- what may be below a line that is no event: `show ADDR`, `route ADDR ADDR`, `flight`, a line that
-- gives a place, or a line that has none below it
abbrev pub other_by : List ℕ → List (List ℕ) → Option Below
other_by word words =
    if bytes_eq word (codes "show") && are (Address ∷ []) words then Some Node else
    if bytes_eq word (codes "route") && are (Address ∷ Address ∷ []) words then Some Route else
    if bytes_eq word (codes "flight") && are [] words then Some Flight else
    if is_place word words then Some Place else
    if is_alone word words then Some Nothing
    else None
