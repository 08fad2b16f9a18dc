-- The statements that this crate proves of the lists that are kept.
use Rattle.std.specs.Prelude.{◌≡◌, ℕ, ◌≤◌, List, length, reverse, Some}
use Rattle.std.specs.FinMap as maps
use Rattle.mesh_base.specs.declared.events.Variant.{Variant}
use Rattle.aodv_model.specs.declared.entry.Entry.{Entry}
use Rattle.aodv_model.specs.declared.entry.Flag.TheVariants.{Val}
use Rattle.mesh_model.specs.Worlds.{World, Event, step, after, start}
use Rattle.mesh_model.specs.Walks.{table}
use Rattle.mesh_model.specs.Invariants.{IsInvariant}
use Rattle.mesh_model.specs.Trails.{IsHonestWalk}
use Rattle.mesh_model.specs.Kept.{KeptLists, nothing_kept, lists_after}
use Rattle.mesh_model.specs.Held.{Holds}

-- in the opening world there is nothing for which a walk is to be kept
abbrev pub StartHolds : Type 0
StartHolds =
    (variant : Variant) (firsts : List ℕ) → Holds variant (start variant firsts) nothing_kept

-- if the invariants hold and the lists are walks before an event, the lists after it are walks, in
-- every variant
abbrev pub StepHolds : Type 0
StepHolds =
    (variant : Variant) (w : World) (e : Event) (k : KeptLists) → IsInvariant w → Holds variant w k
    → Holds variant (after w (step w e)) (lists_after w e k)

-- the list of a valid entry, reversed, is an honest walk of as many links as the entry has hops;
-- these are at most as many as the nodes
abbrev pub HeldIsHonest : Type 0
HeldIsHonest =
    (variant : Variant) (w : World) (k : KeptLists) (x d : ℕ) (e : Entry) → Holds variant w k
    → maps.get (table w x) d ≡ Some e → e.flag ≡ Val
    → IsHonestWalk w.ever x d e.hops (reverse (k.entries x d)) × (e.hops ≤ length w.nodes)
