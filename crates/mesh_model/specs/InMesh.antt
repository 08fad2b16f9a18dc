-- That everything a world names is in its mesh, that copies are numbered in order, and which events
-- are events of a mesh.
use Rattle.std.specs.Prelude.{◌≡◌, ◌≢◌, ℕ, ◌<◌, true, List, length, Some, slice_get, ⊤}
use Rattle.std.specs.List.{AllByRecursion}
use Rattle.std.specs.FinSet as sets
use Rattle.aodv_model.specs.Pairs.{Pairs}
use Rattle.aodv_model.specs.Soundness.{IsSoundCore, IsDatum, IsStoreInMesh, IsMessageInMesh, IsItemInMesh}
use Rattle.mesh_model.specs.Numbered.{AreNumberedBy}
use Rattle.mesh_model.specs.Worlds.{World, Node, Copy, Event, Give, Turn, Send, Ask, Link, Cut}

-- a copy is between two nodes of the mesh, and its message names nodes of the mesh
abbrev pub IsCopyInMesh : ℕ → Copy → Type 0
IsCopyInMesh size c =
    (c.from < size) × (c.to < size) × (c.from ≢ c.to) × IsMessageInMesh size c.message

-- the ids rise from `low` on, and are below `next`
abbrev pub AreNumbered : ℕ → List Copy → ℕ → Type 0
AreNumbered low cs next = AreNumberedBy (λ c. c.id) low cs next

-- each pair is two nodes of the mesh, the smaller first
abbrev pub AreLinks : ℕ → Pairs → Type 0
AreLinks size pairs = (p : ℕ × ℕ) → sets.contains pairs p ≡ true → (p.0 < p.1) × (p.1 < size)

-- what node x names is in the mesh: its address, its core, its stored data and what is in its queue
pub record IsNodeInMesh (size x : ℕ) (n : Node) : Type 0 where
  pub named : (n.core).ip ≡ x
  pub core : IsSoundCore size n.core
  pub store : IsStoreInMesh size (n.core).store
  pub queue : AllByRecursion (IsItemInMesh size x) n.queue

-- everything the world names is in its mesh; copies are numbered in order; a link that stands is
-- among those that ever stood
pub record IsInMesh (w : World) : Type 0 where
  pub nodes : (x : ℕ) (n : Node) → slice_get w.nodes x ≡ Some n → IsNodeInMesh (length w.nodes) x n
  pub flying : AllByRecursion (IsCopyInMesh (length w.nodes)) w.flying
  pub numbered : AreNumbered 1 w.flying w.next_copy
  pub links : AreLinks (length w.nodes) w.links
  pub ever : AreLinks (length w.nodes) w.ever
  pub stood : (p : ℕ × ℕ) → sets.contains w.links p ≡ true → sets.contains w.ever p ≡ true

-- an event of a mesh of this size. Any copy id will do: the event is idle if no copy has it
abbrev pub IsEvent : ℕ → Event → Type 0
IsEvent size (Give x d b) = (x < size) × (d < size) × IsDatum b
IsEvent size (Turn x) = x < size
IsEvent size (Send x d) = (x < size) × (d < size)
IsEvent size (Ask x d) = (x < size) × (d < size)
IsEvent size (Link a b) = (a < size) × (b < size) × (a ≢ b)
IsEvent size (Cut a b) = (a < size) × (b < size) × (a ≢ b)
IsEvent size others = ⊤
