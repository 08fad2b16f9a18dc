-- The statements that this crate proves of its definitions.
use Rattle.std.specs.Prelude.{◌≡◌, ◌≢◌, ℕ, ◌+◌, ◌≤◌, ◌<◌, true, List, ◌∷◌, length, Some}
use Rattle.std.specs.List.{AllByRecursion}
use Rattle.std.specs.FinMap as maps
use Rattle.mesh_base.specs.declared.events.Full.{Full as Counter}
use Rattle.mesh_base.specs.declared.events.Full.TheVariants as full
use Rattle.mesh_base.specs.declared.events.Variant.{Variant}
use Rattle.aodv_model.specs.declared.entry.Entry.{Entry}
use Rattle.aodv_model.specs.declared.entry.Flag.TheVariants.{Val}
use Rattle.aodv_model.specs.Quality.{is_better}
use Rattle.mesh_model.specs.Worlds.{World, Event, Idle, Full, step, after, run, start, AreFirstNumbers}
use Rattle.mesh_model.specs.Walks.{table, Edge, IsWalk, Cycle}
use Rattle.mesh_model.specs.InMesh.{IsInMesh, IsEvent}
use Rattle.mesh_model.specs.Invariants.{IsLoopSafe, IsInvariant}
use Rattle.mesh_model.specs.Accounts.{Test, waiting, queued_data, in_flight, given_data, doubled_data, doubled_at, delivered_data, dropped_data, any, over_run, over_worlds}
use Rattle.mesh_model.specs.Trails.{HonestWalk, HasWalks}
use Rattle.mesh_model.specs.Routes.{route_end, IsRouteEnd}
use Rattle.mesh_model.specs.Choices.{pick, IsChoice, IsNoLater}

-- a number of at least 1 for each node
abbrev pub ArePositive : List ℕ → Type 0
ArePositive firsts = AllByRecursion (λ n. 1 ≤ n) firsts

-- ---- the invariant

-- every event of the mesh keeps the invariant
abbrev pub StepKeeps : Type 0
StepKeeps =
    (w : World) (e : Event) → IsEvent (length w.nodes) e → IsInvariant w
    → IsInvariant (after w (step w e))

-- every event keeps what excludes cycles
abbrev pub StepKeepsLoopSafe : Type 0
StepKeepsLoopSafe = (w : World) (e : Event) → IsLoopSafe w → IsLoopSafe (after w (step w e))

-- the opening world has the invariant
abbrev pub StartKeeps : Type 0
StartKeeps =
    (variant : Variant) (firsts : List ℕ) → ArePositive firsts → IsInvariant (start variant firsts)

-- every world of every run of events of the mesh has the invariant, and as many nodes as there were
-- at the start
abbrev pub RunKeeps : Type 0
RunKeeps =
    (variant : Variant) (firsts : List ℕ) (events : List Event) → ArePositive firsts
    → AllByRecursion (IsEvent (length firsts)) events
    → IsInvariant (run (start variant firsts) events)
    × (length (run (start variant firsts) events).nodes ≡ length firsts)

-- ---- no cycles

-- a world that has what excludes cycles has no cycle for any destination
abbrev pub NoCycleIn : Type 0
NoCycleIn = (w : World) (d : ℕ) → IsLoopSafe w → ¬ (Cycle w d)

-- in no world of any run does a destination have a cycle: for every variant and every list of
-- events, doublings included
abbrev pub LoopFree : Type 0
LoopFree =
    (variant : Variant) (firsts : List ℕ) (events : List Event) (d : ℕ) → ArePositive firsts
    → ¬ (Cycle (run (start variant firsts) events) d)

-- along each edge for d from x to y: if y isn't d and has a valid entry for d, y's entry is the
-- better one. The world must have what excludes cycles
abbrev pub BetterAlongEdges : Type 0
BetterAlongEdges =
    (w : World) (d x y : ℕ) (edge : Edge w d x y) (e : Entry) → IsLoopSafe w → y ≢ d
    → maps.get (table w y) d ≡ Some e → e.flag ≡ Val
    → is_better e edge.entry ≡ true

-- if the invariant holds, a walk from a node of the mesh has at most as many nodes as the mesh
abbrev pub WalkIsShort : Type 0
WalkIsShort =
    (w : World) (d x : ℕ) (ys : List ℕ) → IsInvariant w → x < length w.nodes → IsWalk w d (x ∷ ys)
    → length (x ∷ ys) ≤ length w.nodes

-- `route_end` is where a route ends: a walk leads there, and arrives, or stops where no edge leads
-- on
abbrev pub RouteEnds : Type 0
RouteEnds =
    (w : World) (x d : ℕ) → IsInvariant w → x < length w.nodes → IsRouteEnd w x d (route_end w x d)

-- ---- choices

-- the chosen event is of a kind that may be chosen, is an event of the mesh, and is enabled
abbrev pub PickIsEnabled : Type 0
PickIsEnabled = (w : World) (e : Event) → pick w ≡ Some e
    → IsChoice e × IsEvent (length w.nodes) e × (step w e ≢ Idle)

-- if such an event is enabled, one that comes no later is chosen. So none is chosen exactly where
-- none is enabled. `IsInMesh` must hold of the world
abbrev pub PickIsLeast : Type 0
PickIsLeast = (w : World) (e : Event) → IsInMesh w → IsEvent (length w.nodes) e → IsChoice e
    → step w e ≢ Idle → (chosen : Event) × (pick w ≡ Some chosen) × IsNoLater chosen e

-- ---- the account

-- one event: as many data are there afterwards, were delivered or were dropped, as were there
-- before, were given or were doubled. It must be of the mesh, and `IsInMesh` hold of the world
abbrev pub StepBalances : Type 0
StepBalances = (t : Test) (w : World) (e : Event) → IsEvent (length w.nodes) e → IsInMesh w
    → waiting t (after w (step w e)) + queued_data t (after w (step w e))
    + in_flight t (after w (step w e)) + delivered_data t e (step w e) + dropped_data t e (step w e)
    ≡ waiting t w + queued_data t w + in_flight t w + given_data t e (step w e) + doubled_data t w e

-- a run: each datum that was given, or doubled in flight, was delivered, waits in a store or a
-- queue, is in flight, or was dropped
abbrev pub Account : Type 0
Account =
    (t : Test) (variant : Variant) (firsts : List ℕ) (events : List Event) → ArePositive firsts
    → AllByRecursion (IsEvent (length firsts)) events
    → over_run (given_data t) (start variant firsts) events
    + over_worlds (doubled_data t) (start variant firsts) events
    ≡ over_run (delivered_data t) (start variant firsts) events
    + waiting t (run (start variant firsts) events)
    + queued_data t (run (start variant firsts) events)
    + in_flight t (run (start variant firsts) events)
    + over_run (dropped_data t) (start variant firsts) events

-- an event's outcome says how many data, whatever they are, the event doubles
abbrev pub DoublingIsCounted : Type 0
DoublingIsCounted = (w : World) (e : Event) → doubled_data any w e ≡ doubled_at (step w e)

-- ---- honest hops

-- `HasWalks` holds of the opening world
abbrev pub StartHasWalks : Type 0
StartHasWalks = (variant : Variant) (firsts : List ℕ) → HasWalks variant (start variant firsts)

-- every event keeps a walk for each valid entry and each request and reply
abbrev pub StepKeepsWalks : Type 0
StepKeepsWalks =
    (variant : Variant) (w : World) (e : Event) → IsLoopSafe w → HasWalks variant w
    → HasWalks variant (after w (step w e))

-- each valid entry in each world of each run has an honest walk of as many links as its hops, which
-- are at most the number of nodes
abbrev pub HonestHops : Type 0
HonestHops =
    (variant : Variant) (firsts : List ℕ) (events : List Event) (x d : ℕ) (e : Entry)
    → ArePositive firsts
    → maps.get (table (run (start variant firsts) events) x) d ≡ Some e → e.flag ≡ Val
    → HonestWalk (run (start variant firsts) events) x d e.hops
    × (e.hops ≤ length (run (start variant firsts) events).nodes)

-- ---- counters

-- whatever was done before, an event that is refused is refused for a sequence number: no step of
-- a run is refused for a hop count or for a request id
abbrev pub OnlyNumbersFill : Type 0
OnlyNumbersFill =
    (variant : Variant) (firsts : List ℕ) (events : List Event) (event : Event) (x : ℕ)
    (f : Counter)
    → AreFirstNumbers firsts
    → step (run (start variant firsts) events) event ≡ Full x f → f ≡ full.Number
