-- The lists of a node as the code keeps them, from the destination to the holder, and how they
-- change.
use Rattle.std.specs.Prelude.{◌≡◌, ◌<◌, ℕ, ◌==◌, Bool, not, ◌&&◌, if◌then◌else◌, Option, Some, None, List, [], ◌∷◌, ◌++◌, length, slice_get, slice_set}
use Rattle.std.specs.List.{AllByRecursion}
use Rattle.std.specs.VecDeque.{deque_len, deque_capacity}
use Rattle.mesh_trail.specs.declared.said.Said.{Said}
use Rattle.mesh_trail.specs.declared.said.Said.TheVariants as says
use Rattle.mesh_trail.specs.declared.heard.Lesson.{Lesson}
use Rattle.mesh_trail.specs.declared.lists.NodeLists.{NodeLists}

-- a node of a mesh of this size has no list yet
pub record IsBlank (size : ℕ) (n : NodeLists) : Type 0 where
  pub count : length (n.entries).items ≡ size
  pub entries : AllByRecursion (λ l. l ≡ []) (n.entries).items
  pub queue : (n.queue).items ≡ []

-- room for a list was made, or asked for, among those of node x's queue
pub record IsRoomed (x : ℕ) (old new : List NodeLists) : Type 0 where
  pub node : NodeLists
  pub now : NodeLists
  pub there : slice_get old x ≡ Some node
  pub entries : now.entries ≡ node.entries
  pub queue : (now.queue).items ≡ (node.queue).items
  pub is : new ≡ slice_set old x now

-- there is room for one more list among those of node x's queue
abbrev pub HasRoom : ℕ → List NodeLists → Type 0
HasRoom x nodes =
    (n : NodeLists) → slice_get nodes x ≡ Some n → deque_len n.queue < deque_capacity n.queue

-- the list has joined those of node x's queue, at the end
pub record IsPushed (x : ℕ) (list : List ℕ) (old new : List NodeLists) : Type 0 where
  pub node : NodeLists
  pub now : NodeLists
  pub there : slice_get old x ≡ Some node
  pub entries : now.entries ≡ node.entries
  pub queue : (now.queue).items ≡ (node.queue).items ++ list ∷ []
  pub is : new ≡ slice_set old x now

abbrev pub list_in : Option (List ℕ) → List ℕ
list_in None = []
list_in (Some l) = l

-- the list of destination d
abbrev pub row : List (List ℕ) → ℕ → List ℕ
row rows d = list_in (slice_get rows d)

-- the lists with this one for d, or as before
abbrev pub put_if : Bool → ℕ → List ℕ → List (List ℕ) → List (List ℕ)
put_if changes d l rows = if changes then slice_set rows d l else rows

-- the lists once a node has learnt that a neighbour is near, with its list of two nodes, or the
-- route that was announced, with its longer list
abbrev pub after_lesson : Lesson → List ℕ → List ℕ → List (List ℕ) → List (List ℕ)
after_lesson l near announced rows =
    put_if (l.announced && not (l.near && (l.from == l.dest))) l.dest announced
    (put_if l.near l.from near rows)

-- the list of a reply of x to what was said, or of one that it passes on
abbrev pub reply_list : ℕ → List (List ℕ) → Said → List ℕ
reply_list x rows says.Parcel = []
reply_list x rows says.Error = []
reply_list x rows (says.Request origin n h dest) = if dest == x then x ∷ [] else row rows dest
reply_list x rows (says.Reply dest n h) = row rows dest

-- the list of what x casts after it heard what was said, which had list l. What it casts of its own
-- accord has the list that it would have after a datum
abbrev pub sent_list : ℕ → List (List ℕ) → Said → List ℕ → Said → List ℕ
sent_list x rows heard l says.Parcel = []
sent_list x rows heard l says.Error = []
sent_list x rows heard l (says.Request origin n h dest) = l ++ x ∷ []
sent_list x rows heard l (says.Reply dest n h) = reply_list x rows heard
