-- Part of what the headline says.
-- Where the data are, and how they come and go. Each count but `doubled_in` and `doubled_at` is of
-- the data that pass a test on their originator, destination and body: of one datum, or of all.
use Rattle.std.specs.Prelude.{ℕ, ◌+◌, Bool, true, if◌then◌else◌, List, [], ◌∷◌, zero, suc, length, Option, Some, None}
use Rattle.std.specs.FinMap as maps
use Rattle.aodv_model.specs.Cores.{Body, Message, Pkt, Rreq, Rrep, Rerr, Item, New, Heard, Store, bodies_in}
use Rattle.aodv_model.specs.Handlers.{Took, Own, Stored, FromNeighbour}
use Rattle.mesh_model.specs.Worlds.{World, Copy, Event, Give, Turn, Double, find_copy, WorldEffect, Taken, CopyLost, CopyDoubled, Outcome, Idle, Full, Next, step, after}

-- a test on a datum's originator, destination and body
abbrev pub Test : Type 0
Test = ℕ → ℕ → Body → Bool

-- every datum passes
abbrev pub any : Test
any o d b = true

-- the sum of f over a list
abbrev pub total : {A : Type 0} → (A → ℕ) → List A → ℕ
total f [] = 0
total f (x ∷ xs) = f x + total f xs

-- the sum of f over the numbers below n
abbrev pub total_below : ℕ → (ℕ → ℕ) → ℕ
total_below zero f = 0
total_below (suc n) f = f n + total_below n f

-- ---- where the data are

-- one datum: 1 if it passes the test, else 0
abbrev pub counts : Test → ℕ → ℕ → Body → ℕ
counts t o d b = if t o d b then 1 else 0

-- in a message: only a data packet carries a datum
abbrev pub in_message : Test → Message → ℕ
in_message t (Pkt b d o) = counts t o d b
in_message t (Rreq m) = 0
in_message t (Rrep m) = 0
in_message t (Rerr dests) = 0

-- in an item of node x's queue: x is the originator of the data that are given to it
abbrev pub in_item : Test → ℕ → Item → ℕ
in_item t x (New b d) = counts t x d b
in_item t x (Heard from m) = in_message t m

-- in the store of node x, for destinations below the size. A store holds only data of its own node
unfoldable pub in_store : Test → ℕ → ℕ → Store → ℕ
in_store t size x store =
    total_below size (λ d. total (counts t x d) (bodies_in (maps.get store d)))

-- in a copy in flight
abbrev pub in_copy : Test → Copy → ℕ
in_copy t c = in_message t c.message

-- the data that wait in stores
unfoldable pub waiting : Test → World → ℕ
waiting t w = total (λ n. in_store t (length w.nodes) (n.core).ip (n.core).store) w.nodes

-- the data in queues, given or heard
unfoldable pub queued_data : Test → World → ℕ
queued_data t w = total (λ n. total (in_item t (n.core).ip) n.queue) w.nodes

-- the data in flight
unfoldable pub in_flight : Test → World → ℕ
in_flight t w = total (in_copy t) w.flying

-- ---- how they come and go

-- n if the event was done, 0 if it was idle or refused
abbrev pub if_goes : Outcome → ℕ → ℕ
if_goes Idle n = 0
if_goes (Full x f) n = 0
if_goes (Next w world_effect) n = n

-- the data given by an event with that outcome
abbrev pub given_data : Test → Event → Outcome → ℕ
given_data t (Give x d b) o = if_goes o (counts t x d b)
given_data t others o = 0

-- in a copy that was found: 0 if none was
abbrev pub in_found : Test → Option Copy → ℕ
in_found t None = 0
in_found t (Some c) = in_copy t c

-- the datum that an event doubles in this world
abbrev pub doubled_data : Test → World → Event → ℕ
doubled_data t w (Double id) = in_found t (find_copy w.flying id)
doubled_data t w others = 0

-- 1 if a data packet was doubled: the effect says no more of the datum
abbrev pub doubled_in : WorldEffect → ℕ
doubled_in (CopyDoubled id to parcel) = if parcel then 1 else 0
doubled_in others = 0

-- `doubled_in` of what the event of this outcome did
abbrev pub doubled_at : Outcome → ℕ
doubled_at (Next w world_effect) = doubled_in world_effect
doubled_at others = 0

-- the datum that node x delivers if it delivers what it took: its own, or a packet's
abbrev pub in_taken : Test → ℕ → Took → ℕ
in_taken t x (Own b) = counts t x x b
in_taken t x (Stored d) = 0
in_taken t x (FromNeighbour from m) = in_message t m

-- the datum that node x delivered
abbrev pub delivered_in : Test → ℕ → WorldEffect → ℕ
delivered_in t x (Taken taken effect copies) = if effect.deliver then in_taken t x taken else 0
delivered_in t x others = 0

-- `delivered_in` of what the event of this outcome did
abbrev pub delivered_at : Test → ℕ → Outcome → ℕ
delivered_at t x (Next w world_effect) = delivered_in t x world_effect
delivered_at t x others = 0

-- the data that an event delivers: only a turn does
abbrev pub delivered_data : Test → Event → Outcome → ℕ
delivered_data t (Turn x) o = delivered_at t x o
delivered_data t others o = 0

-- the datum that is dropped with what was taken: a packet's
abbrev pub in_dropped : Test → Took → ℕ
in_dropped t (Own b) = 0
in_dropped t (Stored d) = 0
in_dropped t (FromNeighbour from m) = in_message t m

-- the datum that was dropped by a turn or lost with a copy
abbrev pub dropped_in : Test → WorldEffect → ℕ
dropped_in t (Taken taken effect copies) = if effect.lost then in_dropped t taken else 0
dropped_in t (CopyLost c) = in_copy t c
dropped_in t others = 0

-- the data that an event drops: by a turn, or with a lost copy
abbrev pub dropped_data : Test → Event → Outcome → ℕ
dropped_data t e (Next w world_effect) = dropped_in t world_effect
dropped_data t e others = 0

-- the sum over a run of a count of each event and its outcome
unfoldable pub over_run : (Event → Outcome → ℕ) → World → List Event → ℕ
over_run f w [] = 0
over_run f w (e ∷ es) = f e (step w e) + over_run f (after w (step w e)) es

-- the sum over a run of a count of each event in the world before it
unfoldable pub over_worlds : (World → Event → ℕ) → World → List Event → ℕ
over_worlds f w [] = 0
over_worlds f w (e ∷ es) = f w e + over_worlds f (after w (step w e)) es
