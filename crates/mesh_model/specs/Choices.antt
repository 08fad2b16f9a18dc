-- Part of what the headline says.
-- What may be done next in a world, and the choice of the next event: a turn if there is one, else
-- a delivery, else the send of a stored datum, else a request, each at the least node, copy or
-- destination.
use Rattle.std.specs.Prelude.{◌≡◌, ◌<◌, ◌≤◌, ◌⊎◌, ⊤, ℕ, zero, suc, ◌+◌, Bool, true, false, if◌then◌else◌, Option, Some, None, option_map, List, [], ◌∷◌, length, slice_get}
use Rattle.aodv_model.specs.Cores.{Item}
use Rattle.aodv_model.specs.Handlers.{may_send, may_ask}
use Rattle.mesh_model.specs.Worlds.{World, Node, Event, Turn, Send, Ask, Deliver}

-- the least number that passes the test, of this many numbers from i on
abbrev pub least_from : ℕ → ℕ → (ℕ → Bool) → Option ℕ
least_from zero i passes = None
least_from (suc k) i passes = if passes i then Some i else least_from k (i + 1) passes

-- i with what is found for it, or the rest if nothing is
abbrev pub beside : ℕ → Option ℕ → Option (ℕ × ℕ) → Option (ℕ × ℕ)
beside i (Some d) rest = Some (i, d)
beside i None rest = rest

-- of this many numbers from i on, the least for which something is found, and what is found
abbrev pub least_pair_from : ℕ → ℕ → (ℕ → Option ℕ) → Option (ℕ × ℕ)
least_pair_from zero i found = None
least_pair_from (suc k) i found = beside i (found i) (least_pair_from k (i + 1) found)

-- ---- what a node may do

abbrev pub waits : List Item → Bool
waits [] = false
waits (item ∷ items) = true

-- the node may take a turn: its queue isn't empty
abbrev pub may_turn_in : Option Node → Bool
may_turn_in None = false
may_turn_in (Some n) = waits n.queue

-- the node may send a datum that waits for d
abbrev pub may_send_in : Option Node → ℕ → Bool
may_send_in None d = false
may_send_in (Some n) d = may_send n.core d

-- the node may ask for a route to d
abbrev pub may_ask_in : Option Node → ℕ → Bool
may_ask_in None d = false
may_ask_in (Some n) d = may_ask n.core d

-- ---- the least of each kind

-- the least node that may take a turn
unfoldable pub first_turn : World → Option ℕ
first_turn w = least_from (length w.nodes) 0 (λ x. may_turn_in (slice_get w.nodes x))

-- the least destination for which this node may send, and for which it may ask
unfoldable pub first_send_in : ℕ → Option Node → Option ℕ
first_send_in size n = least_from size 0 (may_send_in n)

unfoldable pub first_ask_in : ℕ → Option Node → Option ℕ
first_ask_in size n = least_from size 0 (may_ask_in n)

-- the least node that may send, with its least destination
unfoldable pub first_send : World → Option (ℕ × ℕ)
first_send w =
    least_pair_from (length w.nodes) 0 (λ x. first_send_in (length w.nodes) (slice_get w.nodes x))

-- the least node that may ask, with its least destination
unfoldable pub first_ask : World → Option (ℕ × ℕ)
first_ask w =
    least_pair_from (length w.nodes) 0 (λ x. first_ask_in (length w.nodes) (slice_get w.nodes x))

-- the id of the least copy in flight: copies are in order of rising id
unfoldable pub first_copy : World → Option ℕ
first_copy w = option_map (λ c. c.id) (slice_get w.flying 0)

-- ---- the choice

abbrev pub first_of : List (Option Event) → Option Event
first_of [] = None
first_of (None ∷ others) = first_of others
first_of (Some e ∷ others) = Some e

-- the event that is chosen next, if one of these kinds is enabled
unfoldable pub pick : World → Option Event
pick w = first_of
    (option_map Turn (first_turn w)
    ∷ option_map Deliver (first_copy w)
    ∷ option_map (λ p. Send p.0 p.1) (first_send w)
    ∷ option_map (λ p. Ask p.0 p.1) (first_ask w)
    ∷ [])

-- ---- the order of choices

-- the event is of a kind that may be chosen
abbrev pub IsChoice : Event → Type 0
IsChoice (Turn x) = ⊤
IsChoice (Deliver id) = ⊤
IsChoice (Send x d) = ⊤
IsChoice (Ask x d) = ⊤
IsChoice others = ⊥

-- node x and destination d come no later than y and c: by node, and then by destination
abbrev pub IsPairNoLater : ℕ → ℕ → ℕ → ℕ → Type 0
IsPairNoLater x d y c = (x < y) ⊎ ((x ≡ y) × (d ≤ c))

-- the first event comes no later: turns by node, then deliveries by copy, then sends by node and
-- destination, and then requests by node and destination
abbrev pub IsNoLater : Event → Event → Type 0
IsNoLater (Turn x) (Turn y) = x ≤ y
IsNoLater (Turn x) (Deliver id) = ⊤
IsNoLater (Turn x) (Send y c) = ⊤
IsNoLater (Turn x) (Ask y c) = ⊤
IsNoLater (Deliver id) (Deliver other) = id ≤ other
IsNoLater (Deliver id) (Send y c) = ⊤
IsNoLater (Deliver id) (Ask y c) = ⊤
IsNoLater (Send x d) (Send y c) = IsPairNoLater x d y c
IsNoLater (Send x d) (Ask y c) = ⊤
IsNoLater (Ask x d) (Ask y c) = IsPairNoLater x d y c
IsNoLater e f = ⊥
