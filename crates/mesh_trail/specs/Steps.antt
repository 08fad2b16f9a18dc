-- What a step of a node does to its lists, and what it needs in hand before.
use Rattle.std.specs.Prelude.{◌≡◌, ◌≤◌, ℕ, ◌+◌, Bool, true, false, List, [], ◌∷◌, ◌++◌, length, slice_get, ⊤}
use Rattle.mesh_base.specs.declared.events.Done.{Done}
use Rattle.mesh_base.specs.declared.events.Done.TheVariants as done
use Rattle.aodv_model.specs.Tables.{Table}
use Rattle.mesh_model.specs.Worlds as model
use Rattle.mesh_trail.specs.declared.said.Said.{Said}
use Rattle.mesh_trail.specs.declared.said.Said.TheVariants as says
use Rattle.mesh_trail.specs.declared.heard.Front.{Front}
use Rattle.mesh_trail.specs.declared.heard.Front.TheVariants as fronts
use Rattle.mesh_trail.specs.declared.lists.Hand.{Hand}
use Rattle.mesh_trail.specs.Heard.{lesson_of}
use Rattle.mesh_trail.specs.Lists.{list_in, row, after_lesson, sent_list}

-- the list of the queue's front item
abbrev pub front_list : List (List ℕ) → List ℕ
front_list queue = list_in (slice_get queue 0)

-- the lists of a node's entries, once its table is `rt`
abbrev pub rows_after : Table → Front → List ℕ → List ℕ → List (List ℕ) → List (List ℕ)
rows_after rt fronts.Empty near announced rows = rows
rows_after rt fronts.New near announced rows = rows
rows_after rt (fronts.Heard y s) near announced rows =
    after_lesson (lesson_of rt y s) near announced rows

-- the list of what node x casts
abbrev pub sent_after : ℕ → Front → List (List ℕ) → List ℕ → Said → List ℕ
sent_after x fronts.Empty rows l cast = sent_list x rows says.Parcel [] cast
sent_after x fronts.New rows l cast = sent_list x rows says.Parcel [] cast
sent_after x (fronts.Heard y s) rows l cast = sent_list x rows s l cast

-- there is room for the list that a reply to this message may take from an entry
abbrev pub FitsReply : List (List ℕ) → ℕ → Said → Type 0
FitsReply rows room says.Parcel = ⊤
FitsReply rows room says.Error = ⊤
FitsReply rows room (says.Request origin n h dest) = length (row rows dest) ≤ room
FitsReply rows room (says.Reply dest n h) = length (row rows dest) ≤ room

-- what node x needs when it has heard this from y, at the front of its queue, with list l
pub record IsInHand (x y : ℕ) (s : Said) (rows : List (List ℕ)) (l : List ℕ)
    (hand : Hand) : Type 0 where
  pub near : hand.near ≡ y ∷ x ∷ []
  pub announced : hand.announced ≡ l ++ x ∷ []
  pub two : 2 ≤ hand.room
  pub more : length l + 1 ≤ hand.room
  pub reply : FitsReply rows hand.room s

abbrev pub IsPrepared : ℕ → Front → List (List ℕ) → List ℕ → Hand → Type 0
IsPrepared x fronts.Empty rows l hand = 1 ≤ hand.room
IsPrepared x fronts.New rows l hand = 1 ≤ hand.room
IsPrepared x (fronts.Heard y s) rows l hand = IsInHand x y s rows l hand

-- if the list of the neighbour's entry is known to be that of the two nodes, it is
abbrev pub KnowsNear : Front → Hand → List (List ℕ) → Type 0
KnowsNear fronts.Empty hand rows = ⊤
KnowsNear fronts.New hand rows = ⊤
KnowsNear (fronts.Heard y s) hand rows = hand.known ≡ true → row rows y ≡ hand.near

-- there is room for the list of whatever node x casts
abbrev pub HasRoomFor : ℕ → Front → List (List ℕ) → List ℕ → ℕ → Type 0
HasRoomFor x front rows l room = (cast : Said) → length (sent_after x front rows l cast) ≤ room

-- nothing was done
abbrev pub idles : Done → Bool
idles done.Idle = true
idles others = false

-- a copy came to its receiver
abbrev pub hears : Done → Bool
hears (done.Heard from to) = true
hears others = false

-- a send or a request of node x
abbrev pub IsOwnOf : ℕ → model.Event → Type 0
IsOwnOf x (model.Send y d) = y ≡ x
IsOwnOf x (model.Ask y d) = y ≡ x
IsOwnOf x others = ⊥

-- an event that moves no list
abbrev pub MovesNothing : model.Event → Type 0
MovesNothing (model.Link a b) = ⊤
MovesNothing (model.Cut a b) = ⊤
MovesNothing (model.Lose id) = ⊤
MovesNothing others = ⊥
