-- What every state of a run has, and what an event answers in one.
use Rattle.std.specs.Prelude.{◌≡◌, ℕ, List, Option, Some, IfSome, option_map, ⊤, refl}
use Rattle.std.specs.Coded.{Coded, code_by, coded×, coded_ℕ, coded_list, coded_option}
use Rattle.std.specs.List.{AllByRecursion}
use Rattle.std.specs.Option.{ForSome, unwrap_or}
use Rattle.mesh_base.specs.Meshes.{Nodes, IsMesh}
use Rattle.mesh_base.specs.declared.events.Variant.{Variant}
use Rattle.mesh_base.specs.declared.events.Done.{Done}
use Rattle.mesh_model.specs.Worlds as worlds
use Rattle.mesh_model.specs.Worlds.{World, Event, Deliver, Turn}
use Rattle.mesh_model.specs.Choices.{pick}
use Rattle.aodv_model.specs.Codes.{variant_code}
use Rattle.mesh_model.specs.Codes.{world_code}
use Rattle.mesh_model.specs.Accounts.{any, waiting, queued_data, in_flight}
use Rattle.mesh_model.specs.Invariants.{IsInvariant}
use Rattle.mesh_model.specs.Walks.{Cycle}
use Rattle.mesh_meaning.specs.Events.{node_of}
use Rattle.mesh_meaning.specs.Answers.{outcome_in, IsDoneInMesh}
use Rattle.mesh_text.specs.Schedule.{RunState, Sums, AcceptedLine, Nothing, NewNode, world_of, with_world, outcome_at, next_state}
use Rattle.mesh_text.specs.Accounts.{IsBalanced}
use Rattle.mesh_run.specs.Sums.{AreCounts}
use Rattle.mesh_world.specs.Seen.{WorldSeen, IsSoundWorld}
use Rattle.mesh_world.specs.declared.totals.Totals.{Totals}
use Rattle.mesh_world.specs.declared.steps.StepError.{StepError}
use Rattle.mesh_world.specs.declared.steps.StepError.TheVariants.{Full, NoMemory}

-- the state of a run with these parts, by what is seen of its world
abbrev pub run_state_seen : Variant → Nodes → Option WorldSeen → Sums → ℕ → RunState
run_state_seen variant nodes seen sums lines = record {
  variant = variant;
  mesh = nodes;
  world = option_map (λ w. w.world) seen;
  sums = sums;
  lines = lines;
  steps = unwrap_or (option_map (λ w. w.steps) seen) 0;
}

-- the state in which a line is done: a line that is neither blank nor a `node` line starts the run
abbrev pub with_run_begun : RunState → AcceptedLine → RunState
with_run_begun m Nothing = m
with_run_begun m (NewNode address first) = m
with_run_begun m others = with_world m

-- all nodes run this variant of the protocol
abbrev pub AreOfVariant : Variant → World → Type 0
AreOfVariant variant w = AllByRecursion (λ n. (n.core).variant ≡ variant) w.nodes

-- a world of this mesh, all of whose nodes run this variant
pub record IsWorldOf (v : Variant) (nodes : Nodes) (w : WorldSeen) : Type 0 where
  pub mesh : w.mesh ≡ nodes
  pub variant : AreOfVariant v w.world

-- a sound world of this variant and mesh
pub record IsWorldAt (variant : Variant) (nodes : Nodes) (w : WorldSeen) : Type 0 where
  pub fits : IsWorldOf variant nodes w
  pub sound : IsSoundWorld w

-- the sums have not outgrown the steps, the world is sound and of the variant and the mesh, and the
-- account of the data is balanced
pub record IsSound (m : RunState) (seen : Option WorldSeen) : Type 0 where
  pub mesh : IsMesh m.mesh
  pub counts : AreCounts m.sums m.steps
  pub world : ForSome seen (IsWorldAt m.variant m.mesh)
  pub balanced : IsBalanced m

-- how many data of a world wait for a route, are queued, and are in flight
pub record AreTotals (w : World) (t : Totals) : Type 0 where
  pub waiting : t.waiting ≡ waiting any w
  pub queued : t.queued ≡ queued_data any w
  pub flying : t.flying ≡ in_flight any w

-- a world with the invariant, in which no destination's valid routes have a loop
pub record IsSafeWorld (w : World) : Type 0 where
  pub invariant : IsInvariant w
  pub loop_free : (d : ℕ) → ¬ (Cycle w d)

-- what holds in each state of a run: its world is safe, and as many data were given or doubled as
-- were delivered, wait, are in flight, or were dropped
pub record IsSafe (m : RunState) : Type 0 where
  pub world : IfSome m.world IsSafeWorld
  pub balanced : IsBalanced m

-- the event was done, or was idle: the answer, with the packet that was cast, says what came of it,
-- and names nodes of the mesh only
pub record IsAnswer (m : RunState) (e : Event) (done : Done) (n : RunState) (packet : List ℕ)
    : Type 0 where
  pub run_state : n ≡ next_state m e
  pub outcome : outcome_at m e ≡ outcome_in m.mesh (node_of e) (world_of n) done packet
  pub in_mesh : IsDoneInMesh m.mesh done packet

-- such an answer exists
pub record IsAnswered (m : RunState) (e : Event) (n : RunState) : Type 0 where
  pub done : Done
  pub packet : List ℕ
  pub answer : IsAnswer m e done n packet

-- the delivery of this copy was done, and then the turn of its receiver, which was the event that a
-- run chooses in the state between them
pub record IsTakenAtOnce (m : RunState) (id : ℕ) (n : RunState) : Type 0 where
  pub to : ℕ
  pub between : RunState
  pub delivered : IsAnswered m (Deliver id) between
  pub next : pick (world_of between) ≡ Some (Turn to)
  pub taken : IsAnswered between (Turn to) n

-- a refusal for a full counter is what the event comes to; about a lack of memory nothing is said
abbrev pub IsRefusal : RunState → Event → StepError → Type 0
IsRefusal m e (Full node field) = outcome_at m e ≡ worlds.Full node field
IsRefusal m e NoMemory = ⊤

-- ---- a code, by which proofs tell states apart

abbrev Parts : Type 0
Parts = ℕ × (ℕ × (ℕ × (ℕ × (ℕ × ℕ))))

abbrev sums_code : Coded Sums
sums_code =
    code_by Parts
    (coded× coded_ℕ (coded× coded_ℕ (coded× coded_ℕ (coded× coded_ℕ (coded× coded_ℕ coded_ℕ)))))
    (λ s. (s.events, (s.idle, (s.given, (s.delivered, (s.lost, s.copied))))))
    (λ p. record {
      events = p.0;
      idle = p.1.0;
      given = p.1.1.0;
      delivered = p.1.1.1.0;
      lost = p.1.1.1.1.0;
      copied = p.1.1.1.1.1;
    })
    (λ _. refl)

abbrev pub run_state_code : Coded RunState
run_state_code =
    code_by (Variant × (Nodes × (Option World × (Sums × (ℕ × ℕ)))))
    (coded× variant_code
    (coded× (coded_list (coded× coded_ℕ coded_ℕ))
    (coded× (coded_option world_code) (coded× sums_code (coded× coded_ℕ coded_ℕ)))))
    (λ m. (m.variant, (m.mesh, (m.world, (m.sums, (m.lines, m.steps))))))
    (λ p. record {
      variant = p.0;
      mesh = p.1.0;
      world = p.1.1.0;
      sums = p.1.1.1.0;
      lines = p.1.1.1.1.0;
      steps = p.1.1.1.1.1;
    })
    (λ _. refl)
