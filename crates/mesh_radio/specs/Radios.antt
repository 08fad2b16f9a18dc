-- The links of a mesh and the copies in flight, and what is done to them.
use Rattle.std.specs.Prelude.{◌≡◌, ℕ, ◌+◌, ◌-◌, ◌^◌, true, Option, Some, None, List, [], ◌∷◌, ◌++◌, length, max}
use Rattle.std.specs.FinSet as sets
use Rattle.mesh_base.specs.Members.{NodeIds}
use Rattle.mesh_base.specs.declared.events.Flying.{Flying}
use Rattle.aodv_model.specs.Pairs.{Pairs}
use Rattle.mesh_model.specs.Worlds.{pair, members_below}
use Rattle.mesh_model.specs.InMesh.{AreLinks}
use Rattle.mesh_radio.specs.Copies.{without, copies_to}

-- the number of nodes; the links that stand, and those that ever stood, each with the smaller node
-- first; the copies in flight by rising id; the id of the next copy; and memory: for how many more
-- copies, of how many bytes each
pub record RadioState : Type 0 where
  pub size : ℕ
  pub links : Pairs
  pub ever : Pairs
  pub flying : List Flying
  pub next_copy : ℕ
  pub room : ℕ
  pub most : ℕ

-- no link, no copy, and no memory yet
abbrev pub opening : ℕ → RadioState
opening size = record {
  size = size;
  links = sets.empty;
  ever = sets.empty;
  flying = [];
  next_copy = 1;
  room = 0;
  most = 0;
}

-- the greatest id of the next copy that a radio may begin with
abbrev pub most_copies_at_first : ℕ
most_copies_at_first = 2 ^ 60

-- room for this many more copies, of this many bytes each; room that is there is kept
abbrev pub with_more_room : RadioState → ℕ → ℕ → RadioState
with_more_room r copies bytes = record r { room = max r.room copies; most = max r.most bytes }

-- the link between a and b stands, now and among those that ever stood
abbrev pub with_link : RadioState → ℕ → ℕ → RadioState
with_link r a b = record r {
  links = sets.insert r.links (pair a b);
  ever = sets.insert r.ever (pair a b);
}

-- the link between a and b doesn't stand any more
abbrev pub without_link : RadioState → ℕ → ℕ → RadioState
without_link r a b = record r { links = sets.remove r.links (pair a b) }

-- the nodes that a cast to this set reaches, by rising index
abbrev pub receivers : RadioState → NodeIds → List ℕ
receivers r to = members_below r.size to

-- a copy of these bytes flies from this node to each member of the set
abbrev pub with_copies : RadioState → ℕ → List ℕ → NodeIds → RadioState
with_copies r from bytes to = record r {
  flying = r.flying ++ copies_to (receivers r to) r.next_copy from bytes;
  next_copy = r.next_copy + length (receivers r to);
  room = r.room - length (receivers r to);
}

-- this copy flies, after the others
abbrev pub with_copy : RadioState → Flying → RadioState
with_copy r c = record r { flying = r.flying ++ c ∷ [] }

-- the copy of that id isn't in flight any more
abbrev pub without_copy : RadioState → ℕ → RadioState
without_copy r id = record r { flying = without r.flying id }

-- a second copy like this one flies, with the next id, if there is such a copy
abbrev pub with_double : RadioState → Option Flying → RadioState
with_double r None = r
with_double r (Some c) = record r {
  flying = r.flying ++ record c { id = r.next_copy } ∷ [];
  next_copy = r.next_copy + 1;
  room = r.room - 1;
}

-- the links of a mesh of this size, those that stand and those that ever stood: each is between two
-- of its nodes, and one that stands is among those that ever stood
pub record AreLinksOf (size : ℕ) (links ever : Pairs) : Type 0 where
  pub standing : AreLinks size links
  pub earlier : AreLinks size ever
  pub stood : (p : ℕ × ℕ) → sets.contains links p ≡ true → sets.contains ever p ≡ true
