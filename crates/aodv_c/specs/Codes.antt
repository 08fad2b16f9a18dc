-- The numbers that calls answer, and those in an outcome.
use Rattle.std.specs.Prelude.{◌==◌, ℕ, if◌then◌else◌, Option, Some, None, Result, Ok, Err}
use Rattle.mesh_base.specs.declared.events.Full.{Full as Counter}
use Rattle.mesh_base.specs.declared.events.Full.TheVariants as counters
use Rattle.mesh_base.specs.declared.events.Kind.{Kind}
use Rattle.mesh_base.specs.declared.events.Kind.TheVariants as kinds
use Rattle.mesh_base.specs.declared.events.Variant.{Variant}
use Rattle.mesh_base.specs.declared.events.Variant.TheVariants as variants
use Rattle.aodv_router.specs.declared.answers.Stranger.{Stranger}
use Rattle.aodv_router.specs.declared.answers.NewError.{NewError}
use Rattle.aodv_router.specs.declared.answers.NewError.TheVariants as news
use Rattle.aodv_router.specs.declared.answers.HearError.{HearError}
use Rattle.aodv_router.specs.declared.answers.HearError.TheVariants as hears
use Rattle.aodv_router.specs.declared.answers.GiveError.{GiveError}
use Rattle.aodv_router.specs.declared.answers.GiveError.TheVariants as gives
use Rattle.aodv_router.specs.declared.answers.TurnError.{TurnError}
use Rattle.aodv_router.specs.declared.answers.TurnError.TheVariants as turns
use Rattle.aodv_router.specs.declared.answers.SendError.{SendError}
use Rattle.aodv_router.specs.declared.answers.SendError.TheVariants as sends
use Rattle.aodv_router.specs.declared.answers.AskError.{AskError}
use Rattle.aodv_router.specs.declared.answers.AskError.TheVariants as asks
use Rattle.aodv_router.specs.declared.outcome.Casting.{Casting}
use Rattle.aodv_router.specs.declared.outcome.Casting.TheVariants as castings
use Rattle.aodv_router.specs.declared.outcome.Taken.{Taken}
use Rattle.aodv_router.specs.declared.outcome.Taken.TheVariants as told
use Rattle.aodv_c.specs.declared.codes.TheConstants.{DONE, IDLE, STRANGER, OWN, MALFORMED, NAMES_STRANGER, NO_MEMORY, LENGTH, ZERO_NUMBER, TWICE, TOO_MANY, NOT_THERE, FULL_HOPS, FULL_NUMBER, FULL_ID, NO_ENTRY, TOOK_NOTHING, TOOK_OWN, TOOK_STORED, TOOK_DATA, TOOK_REQUEST, TOOK_REPLY, TOOK_ERROR, CAST_NOTHING, CAST_ONE, CAST_MANY, CAST_ALL}

-- ---- what a call answers

-- done, or the number of the refusal
abbrev pub code_of : {A E : Type 0} → (E → ℕ) → Result A E → ℕ
code_of refusal (Ok x) = DONE
code_of refusal (Err e) = refusal e

abbrev pub full_code : Counter → ℕ
full_code counters.Hops = FULL_HOPS
full_code counters.Number = FULL_NUMBER
full_code counters.Id = FULL_ID

abbrev pub new_code : NewError → ℕ
new_code news.ZeroNumber = ZERO_NUMBER
new_code news.Twice = TWICE
new_code news.TooMany = TOO_MANY
new_code news.NotThere = NOT_THERE
new_code news.NoMemory = NO_MEMORY

abbrev pub hear_code : HearError → ℕ
hear_code hears.Stranger = STRANGER
hear_code hears.Own = OWN
hear_code hears.NoMemory = NO_MEMORY

abbrev pub give_code : GiveError → ℕ
give_code gives.Stranger = STRANGER
give_code gives.Length = LENGTH
give_code gives.NoMemory = NO_MEMORY

abbrev pub turn_code : TurnError → ℕ
turn_code turns.Idle = IDLE
turn_code (turns.Refused from why) = MALFORMED
turn_code (turns.Stranger from who) = NAMES_STRANGER
turn_code (turns.Full field) = full_code field
turn_code turns.NoMemory = NO_MEMORY

abbrev pub send_code : SendError → ℕ
send_code sends.Stranger = STRANGER
send_code sends.Idle = IDLE
send_code (sends.Full field) = full_code field

abbrev pub ask_code : AskError → ℕ
ask_code asks.Stranger = STRANGER
ask_code asks.Idle = IDLE
ask_code (asks.Full field) = full_code field
ask_code asks.NoMemory = NO_MEMORY

abbrev pub stranger_code : Stranger → ℕ
stranger_code _ = STRANGER

-- what a call that looks for an entry answers
abbrev pub entry_code : {A : Type 0} → Result (Option A) Stranger → ℕ
entry_code (Ok (Some row)) = DONE
entry_code (Ok None) = NO_ENTRY
entry_code (Err e) = STRANGER

-- ---- what an outcome has

abbrev pub kind_code : Kind → ℕ
kind_code kinds.Data = TOOK_DATA
kind_code kinds.Rreq = TOOK_REQUEST
kind_code kinds.Rrep = TOOK_REPLY
kind_code kinds.Rerr = TOOK_ERROR

abbrev pub took_code : Taken → ℕ
took_code told.Nothing = TOOK_NOTHING
took_code told.Own = TOOK_OWN
took_code (told.Stored dest) = TOOK_STORED
took_code (told.Heard from kind) = kind_code kind

-- the neighbour that a packet came from; 0 if none was taken
abbrev pub from_of : Taken → ℕ
from_of told.Nothing = 0
from_of told.Own = 0
from_of (told.Stored dest) = 0
from_of (told.Heard from kind) = from

-- the destination of a datum that now waits; 0 if none does
abbrev pub dest_of : Taken → ℕ
dest_of told.Nothing = 0
dest_of told.Own = 0
dest_of (told.Stored dest) = dest
dest_of (told.Heard from kind) = 0

abbrev pub cast_code : Casting → ℕ
cast_code castings.Nothing = CAST_NOTHING
cast_code castings.One = CAST_ONE
cast_code castings.Many = CAST_MANY
cast_code castings.All = CAST_ALL

-- ---- what a caller names

-- the variant with this number, if there is one
abbrev pub variant_of : ℕ → Option Variant
variant_of n =
    if n == 0 then Some variants.Base
    else if n == 1 then Some variants.Number
    else if n == 2 then Some variants.Reply
    else if n == 3 then Some variants.Error
    else None
