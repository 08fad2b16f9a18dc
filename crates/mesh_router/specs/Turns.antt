-- The turns of a router, its sends and its requests.
use Rattle.std.specs.Prelude.{ℕ, zero, suc, ◌+◌, Bool, true, false, List, [], ◌∷◌, ◌++◌, Option, Some, None, codes}
use Rattle.mesh_base.specs.Meshes.{Nodes}
use Rattle.mesh_base.specs.Addresses.{dotted_decimal}
use Rattle.mesh_base.specs.declared.addr.Addr.{Addr}
use Rattle.mesh_base.specs.declared.events.Full.{Full as Counter}
use Rattle.mesh_base.specs.declared.events.Item.{Item}
use Rattle.mesh_base.specs.declared.events.Item.TheVariants.{New, Heard}
use Rattle.aodv_wire.specs.declared.error.WireError.{WireError}
use Rattle.aodv_wire.specs.declared.error.WireError.TheVariants as wire
use Rattle.aodv_wire.specs.Encodes.{refusal, message_in_fields}
use Rattle.aodv_meaning.specs.Meaning.{stranger}
use Rattle.aodv_meaning.specs.Effects.{item_in}
use Rattle.aodv_model.specs.Handlers.{Took, Effect, Reaction, turn, took}
use Rattle.aodv_model.specs.Fullness.{turn_full}
use Rattle.mesh_grammar.specs.Written.{line, label_number}
use Rattle.mesh_text.specs.Lines.{name_of}
use Rattle.mesh_text.specs.Effects.{took_text, datum_fate}
use Rattle.mesh_router.specs.Logs.{Log, nothing, text_log, followed_by}
use Rattle.mesh_router.specs.Routers.{Router}
use Rattle.mesh_router.specs.Casts.{effect_log, after_reaction}

-- ---- what can't be read

-- why bytes encode no message, in words
abbrev pub refusal_words : WireError → List ℕ
refusal_words wire.Short = codes "short"
refusal_words (wire.UnknownType t) = label_number (codes "unknown type ") t
refusal_words wire.WrongLength = codes "wrong length"
refusal_words wire.OutsideProfile = codes "outside profile"
refusal_words wire.ZeroNumber = codes "zero number"
refusal_words wire.NoDestinations = codes "no destinations"
refusal_words (wire.Repeated a) = codes "repeated " ++ dotted_decimal a.0
refusal_words wire.BadData = codes "bad data"

abbrev pub stranger_words : Addr → List ℕ
stranger_words a = codes "stranger " ++ dotted_decimal a.0

-- a packet of this node was dropped
abbrev pub drop_line : Nodes → ℕ → List ℕ → List ℕ
drop_line mesh from why = line (codes "  drop " ++ name_of mesh from ++ 32 ∷ why)

-- ---- a turn

-- what a turn comes to: the queue is empty; its log, and the router then; or a counter is full
pub data TurnOutcome : Type 0 where
  Idle : TurnOutcome
  Done : Log → Router → TurnOutcome
  Full : Counter → TurnOutcome

-- the front packet, which came from this node, is dropped, and all else stays
abbrev pub dropped_turn : Router → List Item → ℕ → List ℕ → TurnOutcome
dropped_turn r rest from why =
    Done (text_log (drop_line (r.peers).mesh from why))
    (record r { queue = rest; dropped = r.dropped + 1 })

-- the log of a turn
abbrev pub turn_log : Router → Took → Effect → Log
turn_log r took e =
    followed_by
    (text_log (took_text (r.peers).mesh (r.core).ip took
    ++ datum_fate (r.peers).mesh (r.core).ip took e))
    (effect_log r e)

-- the node reacts to the front item
abbrev pub front_outcome : Router → List Item → Took → Option Counter → Reaction → TurnOutcome
front_outcome r rest took (Some field) reaction = Full field
front_outcome r rest took None reaction =
    Done (turn_log r took reaction.effect) (after_reaction r rest reaction)

abbrev pub handled_turn : Router → List Item → Item → TurnOutcome
handled_turn r rest front =
    front_outcome r rest (took r.core (item_in (r.peers).mesh front))
    (turn_full r.core r.range (item_in (r.peers).mesh front))
    (turn r.core r.range (item_in (r.peers).mesh front))

-- a turn on a packet: one that can't be read, or that names a stranger, is dropped
abbrev pub packet_turn : Router → List Item → ℕ → List ℕ → Option WireError → Option Addr
    → TurnOutcome
packet_turn r rest from bytes (Some why) who = dropped_turn r rest from (refusal_words why)
packet_turn r rest from bytes None (Some who) = dropped_turn r rest from (stranger_words who)
packet_turn r rest from bytes None None = handled_turn r rest (Heard from bytes)

unfoldable pub turn_on : Router → List Item → TurnOutcome
turn_on r [] = Idle
turn_on r (New dest body ∷ rest) = handled_turn r rest (New dest body)
turn_on r (Heard from bytes ∷ rest) =
    packet_turn r rest from bytes (refusal bytes)
    (stranger (r.peers).mesh (message_in_fields bytes))

-- the router's next turn
abbrev pub next_turn : Router → TurnOutcome
next_turn r = turn_on r r.queue

-- ---- steps

-- what comes of a command that makes the router act: its log, and the router then; or its log
-- before a counter is full
pub data StepOutcome : Type 0 where
  StepDone : Log → Router → StepOutcome
  StepFull : Log → Counter → StepOutcome

abbrev pub log_before : Log → StepOutcome → StepOutcome
log_before log (StepDone more r) = StepDone (followed_by log more) r
log_before log (StepFull more field) = StepFull (followed_by log more) field

abbrev pub idle_line : List ℕ
idle_line = line (codes "  idle")

-- a turn, and then others: an empty queue or a full counter ends them
abbrev pub with_others : Router → TurnOutcome → (Router → StepOutcome) → StepOutcome
with_others r Idle others = StepDone (text_log idle_line) r
with_others r (Done log next) others = log_before log (others next)
with_others r (Full field) others = StepFull nothing field

-- up to this many turns
unfoldable pub turns_of : ℕ → Router → StepOutcome
turns_of zero r = StepDone nothing r
turns_of (suc most) r = with_others r (next_turn r) (λ next. turns_of most next)

-- a send or a request of the node's own, below its line. If a counter is full, nothing is written
abbrev pub act_of : Router → List ℕ → Bool → Option Counter → Reaction → StepOutcome
act_of r words false full reaction = StepDone (text_log (line words ++ idle_line)) r
act_of r words true (Some field) reaction = StepFull nothing field
act_of r words true None reaction =
    StepDone (followed_by (text_log (line words)) (effect_log r reaction.effect))
    (after_reaction r r.queue reaction)
