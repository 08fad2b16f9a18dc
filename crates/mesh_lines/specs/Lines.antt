-- The lines of a printed text, by their first word and the words after it. The lines about copies
-- are in mesh_capture.
use Rattle.std.specs.Prelude.{ℕ, Bool, false, ◌&&◌, ◌||◌, if◌then◌else◌, List, [], ◌∷◌, ◌++◌, take, drop, length, Option, None, option_and_then, option_map, codes, is_some}
use Rattle.std.specs.List.{list_any, join_with_byte}
use Rattle.std.specs.Str.{bytes_eq}
use Rattle.mesh_base.specs.declared.limits.TheConstants.{MOST_EVENTS, MOST_NODES, LONGEST_LINE, LONGEST_INPUT}
use Rattle.mesh_base.specs.Parts.{parts}
use Rattle.mesh_base.specs.Addresses.{address_of}
use Rattle.mesh_grammar.specs.Commands.{greatest_id}
use Rattle.mesh_grammar.specs.Forms.{greatest_first}
use Rattle.mesh_grammar.specs.Written.{label_number}
use Rattle.mesh_lines.specs.declared.quiet.TheConstants.{MOST_HOPS}
use Rattle.mesh_lines.specs.declared.form.Field.{Field}
use Rattle.mesh_lines.specs.declared.form.Field.TheVariants.{Address, Precursors, UpTo, Positive, Known, Flag, Request, Sn, Did, Line, To, Events, Idle, Given, Delivered, Waiting, Queued, Flying, Lost, Copied}
use Rattle.mesh_lines.specs.Forms.{is_one_of, alone, are, is_body, text_behind, holds_of}

-- any number of 64 bits
abbrev pub number : Field
number = UpTo greatest_id

-- one word, an address
abbrev pub address_in : List (List ℕ) → Option ℕ
address_in words = alone address_of words

-- a sender and a receiver
abbrev pub ends_of : List (List ℕ) → Option (ℕ × ℕ)
ends_of [] = None
ends_of (from ∷ to) =
    option_and_then (λ x. option_map (λ y. (x, y)) (address_in to)) (address_of from)

abbrev pub sender : List (List ℕ) → Option ℕ
sender words = option_map (λ ends. ends.0) (ends_of words)

-- an event that may send a packet to another node
abbrev pub is_sending : List ℕ → Bool
is_sending word = is_one_of (codes "send" ∷ codes "ask" ∷ []) word

-- ---- below an event

-- `idle`
abbrev pub is_idle : List ℕ → List (List ℕ) → Bool
is_idle word words = bytes_eq word (codes "idle") && are [] words

-- the kind of what a turn takes
abbrev pub is_taken_kind : List ℕ → Bool
is_taken_kind word =
    is_one_of (codes "rreq" ∷ codes "rrep" ∷ codes "rerr" ∷ codes "data" ∷ codes "new" ∷ []) word

-- the words after `took`: `new D`, `data B`, `rreq B`, `rrep B` or `rerr B`
abbrev pub is_taken : List (List ℕ) → Bool
is_taken [] = false
is_taken (kind ∷ who) = is_taken_kind kind && is_some (address_in who)

-- the words after `delivered` and `dropped`: `O D BODY`
abbrev pub is_datum : List (List ℕ) → Bool
is_datum words = holds_of is_body (text_behind words)

-- below `turn`, `send` and `ask`, besides `took`, `sent` and `copy`: data that are delivered or
-- dropped, `broken X`, and `idle`
abbrev pub is_of_cast : List ℕ → List (List ℕ) → Bool
is_of_cast word words =
    if is_one_of (codes "delivered" ∷ codes "dropped" ∷ []) word then is_datum words else
    if bytes_eq word (codes "broken") then are (Address ∷ []) words else is_idle word words

-- below `lose`, besides `lost`: a datum that is dropped, and `idle`
abbrev pub is_of_loss : List ℕ → List (List ℕ) → Bool
is_of_loss word words =
    if bytes_eq word (codes "dropped") then is_datum words else is_idle word words

-- ---- below a line that shows something

-- below `show`: `sn N`, `asked O ID`, `entry D DSN DSK FLAG HOPS NEXT PRE`, `waits D FLAG COUNT`,
-- `inbox COUNT`
abbrev pub is_entry : List (List ℕ) → Bool
is_entry words =
    are (Address ∷ UpTo greatest_first ∷ Known ∷ Flag ∷ Positive MOST_HOPS ∷ Address ∷ Precursors
    ∷ []) words

abbrev pub is_of_node : List ℕ → List (List ℕ) → Bool
is_of_node word words =
    if bytes_eq word (codes "entry") then is_entry words else
    if bytes_eq word (codes "asked") then are (Address ∷ UpTo greatest_first ∷ []) words else
    if bytes_eq word (codes "sn") then are (Positive greatest_first ∷ []) words else
    if bytes_eq word (codes "waits") then are (Address ∷ Request ∷ Positive greatest_id ∷ []) words
    else bytes_eq word (codes "inbox") && are (number ∷ []) words

-- below `route`: `arrived HOPS` or `stuck AT HOPS`
abbrev pub is_of_route : List ℕ → List (List ℕ) → Bool
is_of_route word words =
    if bytes_eq word (codes "arrived") then are (number ∷ []) words
    else bytes_eq word (codes "stuck") && are (Address ∷ number ∷ []) words

-- ---- the last line

-- the counts of a run, and then these fields
abbrev pub counts_and : List Field → List Field
counts_and more =
    Events ∷ number ∷ Idle ∷ number ∷ Given ∷ number ∷ Delivered ∷ number ∷ Waiting ∷ number
    ∷ Queued ∷ number ∷ Flying ∷ number ∷ Lost ∷ number ∷ more

-- the words after `done`: the counts, and `copied C` if copies of data were doubled
abbrev pub is_summary : List (List ℕ) → Bool
is_summary words =
    are (counts_and []) words || are (counts_and (Copied ∷ Positive greatest_id ∷ [])) words

-- `line N`
abbrev pub is_numbered : List ℕ → Bool
is_numbered text = are (Line ∷ Positive greatest_id ∷ []) (parts 32 text)

-- the parts between the colons of a line (byte 58), from its second word on
abbrev pub clauses : List (List ℕ) → List (List ℕ)
clauses words = parts 58 (join_with_byte 32 words)

-- the node of an event that may cast a packet: `turn ADDR`, `send ADDR ADDR` or `ask ADDR ADDR`
abbrev pub caster : List ℕ → List (List ℕ) → Option ℕ
caster word words =
    if bytes_eq word (codes "turn") then address_in words else
    if is_sending word then sender words else None

-- such an event, after a space
abbrev pub is_cast : List (List ℕ) → Bool
is_cast (front ∷ word ∷ words) = bytes_eq front [] && is_some (caster word words)
is_cast others = false

abbrev pub is_counter : List ℕ → Bool
is_counter text = is_one_of (codes " hops" ∷ codes " number" ∷ codes " id" ∷ []) text

-- the words after `full`: `line N: EVENT: FIELD`
abbrev pub is_full_by : List (List ℕ) → Bool
is_full_by (line ∷ event ∷ field ∷ []) =
    is_numbered line && is_cast (parts 32 event) && is_counter field
is_full_by others = false

abbrev pub is_full : List (List ℕ) → Bool
is_full words = is_full_by (clauses words)

-- a limit that was passed: a label, the limit, and what it counts
abbrev pub is_limit : List ℕ → ℕ → List ℕ → List ℕ → Bool
is_limit label most what text = bytes_eq text (label_number label most ++ what)

abbrev pub is_past_limit : List ℕ → Bool
is_past_limit text =
    is_limit (codes " more than ") MOST_NODES (codes " nodes") text
    || is_limit (codes " line longer than ") LONGEST_LINE (codes " bytes") text
    || is_limit (codes " input longer than ") LONGEST_INPUT (codes " bytes") text

-- a reason why a line was refused that names no bytes of the line
abbrev pub is_whole_fault : List ℕ → Bool
is_whole_fault text =
    is_one_of (codes " wrong number of words" ∷ codes " node after the first event"
    ∷ codes " no node yet" ∷ codes " link to itself" ∷ []) text
    || is_past_limit text

-- this fault, and then `F to T`
abbrev pub is_fault_at : List ℕ → List ℕ → Bool
is_fault_at text fault =
    bytes_eq (take (length fault) text) fault
    && are (number ∷ To ∷ number ∷ []) (parts 32 (drop (length fault) text))

-- a fault of a word or of a node, and which bytes of the line it is about
abbrev pub is_word_fault : List ℕ → Bool
is_word_fault text =
    list_any (is_fault_at text) (codes " no command at bytes " ∷ codes " no address at bytes "
    ∷ codes " no number at bytes " ∷ codes " no text at bytes " ∷ [])

abbrev pub is_node_fault : List ℕ → Bool
is_node_fault text =
    list_any (is_fault_at text) (codes " node named twice at bytes "
    ∷ codes " unknown node at bytes " ∷ [])

abbrev pub is_why : List ℕ → Bool
is_why text = is_whole_fault text || is_word_fault text || is_node_fault text

-- the words after `bad`: `line N: WHY`
abbrev pub is_refusal_by : List (List ℕ) → Bool
is_refusal_by (line ∷ why ∷ []) = is_numbered line && is_why why
is_refusal_by others = false

abbrev pub is_refusal : List (List ℕ) → Bool
is_refusal words = is_refusal_by (clauses words)

-- ---- lines that are no events and have no lines below them

-- `node ADDR sn NUM`, `auto NUM`, `auto did K` and the last lines
abbrev pub is_alone : List ℕ → List (List ℕ) → Bool
is_alone word words =
    if bytes_eq word (codes "auto")
    then are (Positive MOST_EVENTS ∷ []) words || are (Did ∷ UpTo MOST_EVENTS ∷ []) words else
    if bytes_eq word (codes "node") then are (Address ∷ Sn ∷ Positive greatest_first ∷ []) words
    else
    if bytes_eq word (codes "done") then is_summary words else
    if bytes_eq word (codes "full") then is_full words
    else bytes_eq word (codes "bad") && is_refusal words
