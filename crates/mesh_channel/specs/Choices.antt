-- What the channel does next.
use Rattle.std.specs.Prelude.{ℕ, ◌+◌, nat_le, min, Bool, false, if◌then◌else◌, is_some, List, [], ◌∷◌, Option, Some, None}
use Rattle.mesh_model.specs.Worlds.{World, Copy, Event, Turn, Send, Ask, Deliver, find_copy}
use Rattle.mesh_model.specs.Choices.{first_turn, first_send, first_ask}
use Rattle.mesh_fates.specs.Plans.{Plan}
use Rattle.mesh_fates.specs.declared.due.Due.{Due}
use Rattle.mesh_fates.specs.Channels.{Channel}
use Rattle.mesh_channel.specs.declared.until.TheConstants.{LAST_TICK}
use Rattle.mesh_channel.specs.declared.until.Until.{Until}
use Rattle.mesh_channel.specs.declared.until.Until.TheVariants.{Events, Tick}

-- ---- what is due

-- a plan without the copies before the first one that is in flight: a line of the input may have
-- delivered or lost them
unfoldable pub in_flight : List Copy → Plan → Plan
in_flight flying [] = []
in_flight flying (d ∷ plan) =
    if is_some (find_copy flying d.id) then d ∷ plan else in_flight flying plan

-- the same channel, with its plan like that
abbrev pub looked_at : World → Channel → Channel
looked_at w c = record c { plan = in_flight w.flying c.plan }

-- ---- the next event

-- an event that is chosen, and the channel after the choice; or no event, and the channel
pub data Choice : Type 0 where
  Chosen : Event → Channel → Choice
  Nothing : Channel → Choice

-- the first copy of the plan is delivered, and taken out of the plan
abbrev pub delivery : Channel → Due → Plan → Choice
delivery c d plan = Chosen (Deliver d.id) (record c { plan = plan })

abbrev pub ask_or : Channel → Option (ℕ × ℕ) → Choice
ask_or c None = Nothing c
ask_or c (Some p) = Chosen (Ask p.0 p.1) c

abbrev pub send_or : Channel → Option (ℕ × ℕ) → Choice → Choice
send_or c None others = others
send_or c (Some p) others = Chosen (Send p.0 p.1) c

-- a send, or else a request, each at the least node and destination
abbrev pub by_nodes : World → Channel → Choice
by_nodes w c = send_or c (first_send w) (ask_or c (first_ask w))

-- the delivery of the first copy of the plan, if it is due by this tick; otherwise a send or a
-- request, or nothing
abbrev pub due_or : World → Channel → Plan → Choice
due_or w c [] = by_nodes w c
due_or w c (d ∷ plan) = if nat_le d.tick c.tick then delivery c d plan else by_nodes w c

abbrev pub turn_or : Channel → Option ℕ → Choice → Choice
turn_or c None others = others
turn_or c (Some x) others = Chosen (Turn x) c

abbrev pub left_or : Channel → List Event → Choice → Choice
left_or c [] others = others
left_or c (e ∷ es) others = Chosen e (record c { left = es })

-- what is done next in a tick: what is decided and left to do, then a turn at the least node, then
-- the first copy that is due, then a send, then a request
unfoldable pub in_tick : World → Channel → Choice
in_tick w c =
    let looked = looked_at w c in
    left_or c c.left (turn_or c (first_turn w) (due_or w looked looked.plan))

-- ---- how long a line goes on

-- whether a line has done enough, once a tick is over
abbrev pub is_enough : Until → ℕ → Bool
is_enough (Events count) did = nat_le count did
is_enough (Tick last) did = false

-- the last tick that a line may come to
abbrev pub last_tick : Until → ℕ
last_tick (Events count) = LAST_TICK
last_tick (Tick last) = last

-- how long a line goes on that lets this many ticks pass after this one, but none after LAST_TICK
abbrev pub tick_behind : ℕ → ℕ → Until
tick_behind tick count = Tick (min (tick + count) LAST_TICK)

-- the channel at the end of a line: ticks in which nothing is due pass too
abbrev pub at_end : Until → Channel → Channel
at_end (Events count) c = c
at_end (Tick last) c = record c { tick = last }

-- the next tick in which a copy is due, and its delivery; or the end of the line
abbrev pub next_due : Until → Channel → Plan → Choice
next_due until c [] = Nothing (at_end until c)
next_due until c (d ∷ plan) =
    if nat_le d.tick (last_tick until) then delivery (record c { tick = d.tick }) d plan else
    Nothing (at_end until c)

-- what comes when a tick is over: the next copy, or nothing if none is due or enough was done
abbrev pub next_tick : Until → ℕ → Channel → Choice
next_tick until did c =
    if is_enough until did then Nothing c else next_due until c c.plan

abbrev pub or_next_tick : Until → ℕ → Choice → Choice
or_next_tick until did (Chosen e c) = Chosen e c
or_next_tick until did (Nothing c) = next_tick until did c

-- what comes next on a line that has done this many events
unfoldable pub next_choice : Until → ℕ → World → Channel → Choice
next_choice until did w c = or_next_tick until did (in_tick w c)
