-- Part of what the headline says.
-- The text of a schedule's lines in the form in which they are written back, and of the last line
-- of a run.
use Rattle.std.specs.Prelude.{ℕ, zero, suc, ◌/◌, ◌%◌, ◌+◌, List, [], ◌∷◌, ◌++◌, codes, if◌then◌else◌, nat_lt}
use Rattle.std.specs.List.{flat_map}
use Rattle.mesh_base.specs.Addresses.{dotted_decimal}
use Rattle.mesh_base.specs.Meshes.{Nodes, addr_at}
use Rattle.mesh_base.specs.declared.events.Full as full
use Rattle.mesh_base.specs.declared.events.Full.TheVariants as field
use Rattle.mesh_model.specs.Worlds.{Event, Give, Turn, Send, Ask, Link, Cut, Deliver, Lose, Double}
use Rattle.mesh_model.specs.Accounts.{any, waiting, queued_data, in_flight}
use Rattle.mesh_grammar.specs.Forms.{Arguments, NoArgument, OneAddress, TwoAddresses, OneNumber, NumberedAddress, AddressesAndText}
use Rattle.mesh_grammar.specs.Written.{line, label_number, command_text}
use Rattle.mesh_text.specs.Schedule.{Sums, RunState, AcceptedLine, Nothing, NewNode, Does, Chooses, ShowsNode, ShowsRoute, ShowsFlight, world_of}

-- the written address of a node
abbrev pub name_of : Nodes → ℕ → List ℕ
name_of mesh i = dotted_decimal (addr_at mesh i)

-- a label, with the space after it, and the names of one node or two
abbrev pub of_one : List ℕ → Nodes → ℕ → List ℕ
of_one label mesh x = label ++ name_of mesh x

abbrev pub of_two : List ℕ → Nodes → ℕ → ℕ → List ℕ
of_two label mesh x y = label ++ name_of mesh x ++ 32 ∷ name_of mesh y

-- ---- lines of a schedule, without their LF

-- the word of a command and its arguments, each node by its address
pub record CommandLine : Type 0 where
  pub word : List ℕ
  pub arguments : Arguments ℕ

abbrev pub command_line : List ℕ → Arguments ℕ → CommandLine
command_line word arguments = record { word = word; arguments = arguments }

abbrev pub text_of : CommandLine → List ℕ
text_of s = command_text s.word s.arguments

-- an event as a line of a schedule
abbrev pub event_command : Nodes → Event → CommandLine
event_command mesh (Give x d body) =
    command_line (codes "data") (AddressesAndText (addr_at mesh x) (addr_at mesh d) body)
event_command mesh (Turn x) = command_line (codes "turn") (OneAddress (addr_at mesh x))
event_command mesh (Send x d) =
    command_line (codes "send") (TwoAddresses (addr_at mesh x) (addr_at mesh d))
event_command mesh (Ask x d) =
    command_line (codes "ask") (TwoAddresses (addr_at mesh x) (addr_at mesh d))
event_command mesh (Link a b) =
    command_line (codes "link") (TwoAddresses (addr_at mesh a) (addr_at mesh b))
event_command mesh (Cut a b) =
    command_line (codes "cut") (TwoAddresses (addr_at mesh a) (addr_at mesh b))
event_command mesh (Deliver id) = command_line (codes "deliver") (OneNumber id)
event_command mesh (Lose id) = command_line (codes "lose") (OneNumber id)
event_command mesh (Double id) = command_line (codes "copy") (OneNumber id)

-- the words of an event
unfoldable pub event_words : Nodes → Event → List ℕ
event_words mesh e = text_of (event_command mesh e)

-- the words of an allowed line. A blank line has none
unfoldable pub words_of : Nodes → AcceptedLine → List ℕ
words_of mesh Nothing = []
words_of mesh (NewNode address first) = command_text (codes "node") (NumberedAddress address first)
words_of mesh (Does e) = event_words mesh e
words_of mesh (Chooses count) = command_text (codes "auto") (OneNumber count)
words_of mesh (ShowsNode x) = command_text (codes "show") (OneAddress (addr_at mesh x))
words_of mesh (ShowsRoute x d) =
    command_text (codes "route") (TwoAddresses (addr_at mesh x) (addr_at mesh d))
words_of mesh ShowsFlight = command_text (codes "flight") NoArgument

-- ---- bytes

-- a digit of a number below 16: 0 to 9, and then a to f
abbrev pub hex_digit : ℕ → ℕ
hex_digit d = if nat_lt d 10 then 48 + d else 87 + d

abbrev pub hex_byte : ℕ → List ℕ
hex_byte b = hex_digit (b / 16) ∷ hex_digit (b % 16) ∷ []

-- bytes in hexadecimal
abbrev pub hex : List ℕ → List ℕ
hex bytes = flat_map hex_byte bytes

-- ---- the last line of a run

-- how many data packets were doubled, if any were
abbrev pub copied_words : ℕ → List ℕ
copied_words zero = []
copied_words (suc n) = label_number (codes " copied ") (suc n)

-- the last line of a run that read its whole input: what was counted, and the data in stores, in
-- queues and in flight
unfoldable pub summary_text : Sums → ℕ → ℕ → ℕ → List ℕ
summary_text s waits queues flies =
    label_number (codes "done events ") s.events ++ label_number (codes " idle ") s.idle
    ++ label_number (codes " given ") s.given ++ label_number (codes " delivered ") s.delivered
    ++ label_number (codes " waiting ") waits ++ label_number (codes " queued ") queues
    ++ label_number (codes " flying ") flies
    ++ line (label_number (codes " lost ") s.lost ++ copied_words s.copied)

abbrev pub done_line : RunState → List ℕ
done_line m =
    summary_text m.sums (waiting any (world_of m)) (queued_data any (world_of m))
    (in_flight any (world_of m))

-- ---- a counter is full

-- the counter that is full
abbrev pub field_text : full.Full → List ℕ
field_text field.Hops = codes "hops"
field_text field.Number = codes "number"
field_text field.Id = codes "id"

-- the last line of a run that an event of this line has ended, because a counter is full
unfoldable pub full_line : Nodes → ℕ → Event → full.Full → List ℕ
full_line mesh number e field =
    line (label_number (codes "full line ") number ++ codes ": " ++ event_words mesh e ++ codes ": "
    ++ field_text field)
