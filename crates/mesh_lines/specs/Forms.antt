-- The forms of a printed line: what each of its words may be.
use Rattle.std.specs.Prelude.{ℕ, ◌+◌, ◌*◌, ◌%◌, ◌==◌, Bool, true, false, ◌&&◌, ◌||◌, if◌then◌else◌, List, [], ◌∷◌, Option, Some, None, is_some, codes, length, nat_le}
use Rattle.std.specs.List.{list_all, list_any, join_with_byte}
use Rattle.std.specs.Str.{bytes_eq}
use Rattle.mesh_base.specs.declared.limits.TheConstants.{LONGEST_PACKET}
use Rattle.mesh_base.specs.Parts.{parts}
use Rattle.mesh_base.specs.Addresses.{address_of}
use Rattle.mesh_base.specs.Numbers.{number_up_to, positive}
use Rattle.mesh_grammar.specs.Words.{are_printable}
use Rattle.mesh_lines.specs.declared.form.Field.{Field}
use Rattle.mesh_lines.specs.declared.form.Field.TheVariants.{Address, Precursors, UpTo, Positive, Known, Flag, Request, Sn, Did, Line, To, Events, Idle, Given, Delivered, Waiting, Queued, Flying, Lost, Copied}

-- ---- words

abbrev pub is_one_of : List (List ℕ) → List ℕ → Bool
is_one_of words word = list_any (λ w. bytes_eq word w) words

abbrev pub is_address : List ℕ → Bool
is_address word = is_some (address_of word)

-- this is an address no less than `least`, and the others pass with the next number as their least
abbrev pub address_then : ℕ → Option ℕ → (ℕ → Bool) → Bool
address_then least None others = false
address_then least (Some a) others = nat_le least a && others (a + 1)

-- addresses in rising order, the first of which is no less than this
abbrev pub rise_from : ℕ → List (List ℕ) → Bool
rise_from least [] = true
rise_from least (word ∷ words) = address_then least (address_of word) (λ next. rise_from next words)

-- addresses in rising order, joined by commas
abbrev pub are_addresses : List ℕ → Bool
are_addresses word = rise_from 0 (parts 44 word)

-- `0` to `9`, or `a` to `f`
abbrev pub is_lower_digit : ℕ → Bool
is_lower_digit b = (nat_le 48 b && nat_le b 57) || (nat_le 97 b && nat_le b 102)

-- a packet in hexadecimal, in lower case: two digits for each byte
abbrev pub is_hex : List ℕ → Bool
is_hex word =
    nat_le 2 (length word) && nat_le (length word) (2 * LONGEST_PACKET) && (length word % 2 == 0)
    && list_all is_lower_digit word

-- a word fits this field
abbrev pub fits : Field → List ℕ → Bool
fits Address word = is_address word
fits Precursors word = bytes_eq word (codes "-") || are_addresses word
fits (UpTo most) word = is_some (number_up_to most word)
fits (Positive most) word = is_some (positive (number_up_to most word))
fits Known word = bytes_eq word (codes "kno") || bytes_eq word (codes "unk")
fits Flag word = bytes_eq word (codes "val") || bytes_eq word (codes "inv")
fits Request word = bytes_eq word (codes "req") || bytes_eq word (codes "noreq")
fits Sn word = bytes_eq word (codes "sn")
fits Did word = bytes_eq word (codes "did")
fits Line word = bytes_eq word (codes "line")
fits To word = bytes_eq word (codes "to")
fits Events word = bytes_eq word (codes "events")
fits Idle word = bytes_eq word (codes "idle")
fits Given word = bytes_eq word (codes "given")
fits Delivered word = bytes_eq word (codes "delivered")
fits Waiting word = bytes_eq word (codes "waiting")
fits Queued word = bytes_eq word (codes "queued")
fits Flying word = bytes_eq word (codes "flying")
fits Lost word = bytes_eq word (codes "lost")
fits Copied word = bytes_eq word (codes "copied")

-- there are as many words as fields, and each word fits its field
abbrev pub are : List Field → List (List ℕ) → Bool
are [] [] = true
are (field ∷ fields) (word ∷ words) = fits field word && are fields words
are fields words = false

-- what a word denotes, if it is the only one
abbrev pub alone : (List ℕ → Option ℕ) → List (List ℕ) → Option ℕ
alone read (word ∷ []) = read word
alone read others = None

-- ---- texts of data

-- what follows a backslash: `x`, two digits, and bytes that denote themselves
abbrev pub is_escape : List ℕ → Bool
is_escape (x ∷ high ∷ low ∷ bytes) =
    (x == 120) && is_lower_digit high && is_lower_digit low && are_printable bytes
is_escape others = false

abbrev pub are_shown : List (List ℕ) → Bool
are_shown [] = false
are_shown (plain ∷ escapes) = are_printable plain && list_all is_escape escapes

-- the bytes of a datum as they are shown (a backslash is byte 92)
abbrev pub is_body : List ℕ → Bool
is_body bytes = nat_le 1 (length bytes) && are_shown (parts 92 bytes)

-- the text after two addresses, which may have spaces
abbrev pub text_behind : List (List ℕ) → Option (List ℕ)
text_behind (from ∷ to ∷ word ∷ words) =
    if is_address from && is_address to then Some (join_with_byte 32 (word ∷ words)) else None
text_behind others = None

-- there is a text, and it passes this test
abbrev pub holds_of : (List ℕ → Bool) → Option (List ℕ) → Bool
holds_of test None = false
holds_of test (Some text) = test text
