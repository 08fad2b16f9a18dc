-- The slots for the data of one destination: one for the datum in front, and a ring for the rest.
use Rattle.std.specs.Prelude.{◌≡◌, ◌<◌, ◌++◌, ℕ, Bool, true, false, List, [], Option, Some, None, option_to_list}
use Rattle.std.specs.declared.collections.VecDeque.{VecDeque}
use Rattle.std.specs.VecDeque.{deque_items, deque_len, deque_capacity}
use Rattle.aodv_model.specs.Cores.{Body}

-- the data, with the one in front at the head
abbrev pub bodies_of : {Z : Type 0} → Option Body → VecDeque Body Z → List Body
bodies_of first rest = option_to_list first ++ deque_items rest

-- room for one, if it was made
abbrev pub room_if : Bool → ℕ
room_if true = 1
room_if false = 0

-- if the slot in front is free, nothing is after it; if room was made, a slot is free
abbrev pub AreSlots : {Z : Type 0} → Option Body → VecDeque Body Z → Bool → Type 0
AreSlots None rest roomy = deque_items rest ≡ []
AreSlots (Some first) rest roomy = roomy ≡ true → deque_len rest < deque_capacity rest
