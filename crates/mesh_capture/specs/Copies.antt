-- What the lines of a printed text say about copies: which are in flight, with which packet, and
-- which are heard or lost. Effects, which begin with two spaces, belong to the last line above them
-- that doesn't.
use Rattle.std.specs.Prelude.{ℕ, ◌+◌, ◌==◌, Bool, true, false, ◌||◌, if◌then◌else◌, List, [], ◌∷◌, take, drop, Option, Some, None, option_and_then, option_map, Result, Ok, Err, codes, length, nat_le, ◌&&◌, is_some}
use Rattle.std.specs.Str.{bytes_eq}
use Rattle.std.specs.Map.{lookup, remove_entry}
use Rattle.std.specs.Ordering.{nat_cmp}
use Rattle.std.specs.BTreeMap.{insert_entry, is_at}
use Rattle.hex.specs.Hex.{decode_of}
use Rattle.hex.specs.declared.error.FromHexError.{FromHexError}
use Rattle.mesh_base.specs.declared.limits.TheConstants.{LONGEST_PACKET}
use Rattle.mesh_base.specs.Parts.{parts}
use Rattle.mesh_lines.specs.declared.form.Field.TheVariants.{Address}
use Rattle.mesh_capture.specs.declared.frame.Frame.{Frame}
use Rattle.mesh_capture.specs.declared.copies.FlyingCopy.{FlyingCopy}
use Rattle.mesh_lines.specs.declared.below.Below.{Below}
use Rattle.mesh_lines.specs.declared.below.Below.TheVariants.{Nothing, Link, Casts, Delivers, Loses, Doubles, Node, Route, Flight, Place}
use Rattle.mesh_lines.specs.Forms.{is_address, are_addresses, is_hex, are}
use Rattle.mesh_lines.specs.Lines.{ends_of, is_idle, is_taken, is_of_cast, is_of_loss, is_of_node, is_of_route}
use Rattle.mesh_lines.specs.Belows.{number_of, copy_words, is_link, event_by, other_by}

-- the copies in flight, each with its sender, its receiver and its packet, by rising number
abbrev pub Flying : Type 0
Flying = List (ℕ × FlyingCopy)

abbrev pub copy_in : Flying → ℕ → Option FlyingCopy
copy_in flying id = lookup (is_at (nat_cmp id)) flying

-- what is known from the lines read so far: how many events there were, what may be below the last
-- line without two spaces, the copies in flight, and how many lines were read
pub record Reading : Type 0 where
  pub events : ℕ
  pub below : Below
  pub flying : Flying
  pub lines : ℕ

abbrev pub nothing_read : Reading
nothing_read = record { events = 0; below = Nothing; flying = []; lines = 0 }

-- what a line comes to: what is known after it, and the copy that it ends
pub record LineOutcome : Type 0 where
  pub now : Reading
  pub frame : Option Frame

abbrev pub no_frame : Reading → LineOutcome
no_frame r = record { now = r; frame = None }

-- a line that says nothing about copies, and is refused if it isn't of its form
abbrev pub checked_if : Bool → Reading → Option LineOutcome
checked_if of_form r = if of_form then Some (no_frame r) else None

-- ---- packets and copies

-- there are bytes, and no more than a mesh may send in one packet
abbrev pub is_packet : List ℕ → Bool
is_packet bytes = nat_le 1 (length bytes) && nat_le (length bytes) LONGEST_PACKET

abbrev pub packet_by : Result (List ℕ) FromHexError → Option (List ℕ)
packet_by (Ok bytes) = if is_packet bytes then Some bytes else None
packet_by (Err e) = None

-- the packet that a word gives in hexadecimal
abbrev pub packet_of : List ℕ → Option (List ℕ)
packet_of word = if is_hex word then packet_by (decode_of word) else None

-- `one` and an address, or `many` and addresses
abbrev pub are_receivers : List ℕ → List ℕ → Bool
are_receivers kind receivers =
    (bytes_eq kind (codes "one") && is_address receivers)
    || (bytes_eq kind (codes "many") && are_addresses receivers)

-- the words after `sent`: `all HEX`, `one ADDR HEX` or `many LIST HEX`. The lines below say which
-- receivers get a copy
abbrev pub cast_packet : List (List ℕ) → Option (List ℕ)
cast_packet (kind ∷ hex ∷ []) = if bytes_eq kind (codes "all") then packet_of hex else None
cast_packet (kind ∷ receivers ∷ hex ∷ []) =
    if are_receivers kind receivers then packet_of hex else None
cast_packet others = None

-- a packet is cast, which happens at most once below an event
abbrev pub after_sent : Reading → Below → List (List ℕ) → Option LineOutcome
after_sent r (Casts node None) words =
    option_map (λ packet. no_frame (record r { below = Casts node (Some packet) }))
    (cast_packet words)
after_sent r _ words = None

-- a copy of this number joins the copies in flight
abbrev pub joined : Reading → ℕ → FlyingCopy → LineOutcome
joined r id copy = no_frame (record r { flying = insert_entry nat_cmp r.flying id copy })

-- a new copy joins the copies in flight. It is refused if a copy of its number is there already
abbrev pub with_copy : Reading → ℕ → FlyingCopy → Option LineOutcome
with_copy r id copy = if is_some (copy_in r.flying id) then None else Some (joined r id copy)

-- a double of a copy, which has the same receiver
abbrev pub doubled_copy : Option FlyingCopy → ℕ → Option FlyingCopy
doubled_copy None to = None
doubled_copy (Some c) to = if c.to == to then Some c else None

-- a new copy for this receiver: of what was cast, or of the copy that is doubled
abbrev pub new_copy : Flying → Below → ℕ → Option FlyingCopy
new_copy flying (Casts node (Some packet)) to =
    Some (record { from = node; to = to; packet = packet })
new_copy flying (Doubles id) to = doubled_copy (copy_in flying id) to
new_copy flying _ to = None

-- a line `copy` below an event
abbrev pub after_copy : Reading → Below → Option (ℕ × ℕ) → Option LineOutcome
after_copy r below None = None
after_copy r below (Some w) = option_and_then (with_copy r w.0) (new_copy r.flying below w.1)

-- ---- the copies that are shown below `flight`

-- the copy of this number, with its sender and receiver and its packet
abbrev pub shown_as : ℕ → ℕ × ℕ → List ℕ → ℕ × FlyingCopy
shown_as id ends packet = (id, record { from = ends.0; to = ends.1; packet = packet })

-- the words of a copy that is shown, `ID FROM TO HEX`
abbrev pub shown_copy : List (List ℕ) → Option (ℕ × FlyingCopy)
shown_copy (id ∷ from ∷ to ∷ hex ∷ []) =
    option_and_then (λ n. option_and_then (λ ends. option_map (shown_as n ends) (packet_of hex))
    (ends_of (from ∷ to ∷ []))) (number_of id)
shown_copy others = None

-- the same sender, receiver and packet
abbrev pub is_same_copy : FlyingCopy → FlyingCopy → Bool
is_same_copy a b = (a.from == b.from) && (a.to == b.to) && bytes_eq a.packet b.packet

-- a copy that is shown joins the copies in flight. If a copy of its number is there already, it has
-- to be the same
abbrev pub with_shown : Reading → ℕ → FlyingCopy → Option FlyingCopy → Option LineOutcome
with_shown r id shown None = Some (joined r id shown)
with_shown r id shown (Some known) = checked_if (is_same_copy shown known) r

-- a line `copy` below `flight`
abbrev pub after_shown : Reading → Option (ℕ × FlyingCopy) → Option LineOutcome
after_shown r None = None
after_shown r (Some s) = with_shown r s.0 s.1 (copy_in r.flying s.0)

-- ---- the ends of copies

abbrev pub with_frame : Reading → Frame → LineOutcome
with_frame r frame = record { now = r; frame = Some frame }

-- these are the copy's sender and its receiver
abbrev pub is_between : ℕ × ℕ → FlyingCopy → Bool
is_between ends c = (c.from == ends.0) && (c.to == ends.1)

abbrev pub frame_of : Reading → Bool → FlyingCopy → Frame
frame_of r lost c =
    record { event = r.events; from = c.from; to = c.to; lost = lost; packet = c.packet }

-- the copy of this number, with this sender and this receiver, is no longer in flight
abbrev pub end_outcome : Reading → Bool → ℕ → ℕ × ℕ → Option FlyingCopy → Option LineOutcome
end_outcome r lost id ends None = None
end_outcome r lost id ends (Some c) =
    if is_between ends c
    then Some (with_frame (record r { flying = remove_entry (is_at (nat_cmp id)) r.flying })
    (frame_of r lost c))
    else None

-- the words after `heard` or `lost`: `FROM TO`
abbrev pub after_end : Reading → Bool → ℕ → List (List ℕ) → Option LineOutcome
after_end r lost id words =
    option_and_then (λ ends. end_outcome r lost id ends (copy_in r.flying id)) (ends_of words)

-- ---- lines with two spaces before them

-- one more event, with these lines below it
abbrev pub event_outcome : Reading → Below → LineOutcome
event_outcome r below = no_frame (record r { events = r.events + 1; below = below })

-- a link that is made or cut as a node comes to its place is an event
abbrev pub after_link : Reading → List (List ℕ) → Option LineOutcome
after_link r words =
    if are (Address ∷ Address ∷ []) words then Some (event_outcome r Place) else None

-- an effect by its first word, below a line that has this below it
abbrev pub effect_below : Reading → Below → List ℕ → List (List ℕ) → Option LineOutcome
effect_below r Nothing word words = None
effect_below r Link word words = checked_if (is_idle word words) r
effect_below r (Casts node packet) word words =
    if bytes_eq word (codes "copy") then after_copy r (Casts node packet) (copy_words words) else
    if bytes_eq word (codes "took") then checked_if (is_taken words) r else
    if bytes_eq word (codes "sent") then after_sent r (Casts node packet) words
    else checked_if (is_of_cast word words) r
effect_below r (Delivers id) word words =
    if bytes_eq word (codes "heard") then after_end r false id words
    else checked_if (is_idle word words) r
effect_below r (Loses id) word words =
    if bytes_eq word (codes "lost") then after_end r true id words
    else checked_if (is_of_loss word words) r
effect_below r (Doubles id) word words =
    if bytes_eq word (codes "copy") then after_copy r (Doubles id) (copy_words words)
    else checked_if (is_idle word words) r
effect_below r Node word words = checked_if (is_of_node word words) r
effect_below r Route word words = checked_if (is_of_route word words) r
effect_below r Flight word words =
    if bytes_eq word (codes "copy") then after_shown r (shown_copy words) else None
effect_below r Place word words =
    if is_link word then after_link r words else checked_if (is_idle word words) r

abbrev pub effect : Reading → List (List ℕ) → Option LineOutcome
effect r [] = None
effect r (word ∷ words) = effect_below r r.below word words

-- ---- lines without two spaces before them

-- an event, or another line
abbrev pub after_outer : Reading → Option Below → Option Below → Option LineOutcome
after_outer r (Some below) other = Some (event_outcome r below)
after_outer r None (Some below) = Some (no_frame (record r { below = below }))
after_outer r None None = None

abbrev pub outer : Reading → List (List ℕ) → Option LineOutcome
outer r [] = None
outer r (word ∷ words) = after_outer r (event_by word words) (other_by word words)

abbrev pub line_by : Reading → List ℕ → Option LineOutcome
line_by r line =
    if bytes_eq (take 2 line) (codes "  ") then effect r (parts 32 (drop 2 line))
    else outer r (parts 32 line)

-- what one more line comes to; None if it is refused
unfoldable pub after_line : Reading → List ℕ → Option LineOutcome
after_line r line = line_by (record r { lines = r.lines + 1 }) line
