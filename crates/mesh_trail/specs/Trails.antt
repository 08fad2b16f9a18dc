-- That the lists which a trail keeps are walks.
use Rattle.std.specs.Prelude.{◌≡◌, ℕ, Option, Some, None, List, [], length, map, reverse, slice_get}
use Rattle.std.specs.List.{AllByRecursion}
use Rattle.mesh_base.specs.declared.events.Variant.{Variant}
use Rattle.mesh_model.specs.Worlds.{World, Event, AreFirstNumbers, start, run}
use Rattle.mesh_model.specs.Kept.{KeptLists}
use Rattle.mesh_model.specs.Held.{Holds}
use Rattle.mesh_world.specs.Seen.{WorldSeen, IsSoundWorld}
use Rattle.mesh_trail.specs.Lists.{row}
use Rattle.mesh_trail.specs.Casts.{IsCovered, AreEnding, list_of}
use Rattle.mesh_trail.specs.declared.lists.NodeLists.{NodeLists}
use Rattle.mesh_trail.specs.declared.casts.Cast.{Cast}
use Rattle.mesh_trail.specs.declared.parts.Parts.{Parts}

abbrev pub rows_of : Option NodeLists → List (List ℕ)
rows_of None = []
rows_of (Some n) = (n.entries).items

abbrev pub queue_of : Option NodeLists → List (List ℕ)
queue_of None = []
queue_of (Some n) = (n.queue).items

-- the definitions' lists for the code's: from the holder to the destination
abbrev pub kept_lists : List NodeLists → List Cast → KeptLists
kept_lists nodes casts = record {
  entries = λ x d. reverse (row (rows_of (slice_get nodes x)) d);
  queues = λ x. map reverse (queue_of (slice_get nodes x));
  flying = λ id. reverse (list_of casts id);
}

-- the world is that of a run, in which all nodes run this variant
pub record IsOfRun (variant : Variant) (w : World) : Type 0 where
  pub firsts : List ℕ
  pub events : List Event
  pub numbers : AreFirstNumbers firsts
  pub is : w ≡ run (start variant firsts) events

-- the lists are walks in this world
pub record AreWalks (w : WorldSeen) (nodes : List NodeLists) (casts : List Cast) : Type 0 where
  pub sound : IsSoundWorld w
  pub variant : Variant
  pub ran : IsOfRun variant w.world
  pub holds : Holds variant w.world (kept_lists nodes casts)
  pub count : length nodes ≡ length w.mesh
  pub rows : AllByRecursion (λ n. length (n.entries).items ≡ length w.mesh) nodes
  pub covered : AllByRecursion (λ c. IsCovered casts c.id) (w.world).flying
  pub ends : AreEnding 0 casts (w.world).next_copy

-- the parts are in order
abbrev pub AreKept : Parts → Type 0
AreKept p = AreWalks p.world (p.nodes).items (p.casts).items
