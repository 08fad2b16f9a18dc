-- What a step answers, and what is then seen of the world.
use Rattle.std.specs.Prelude.{◌≡◌, ◌+◌, ℕ, Bool, true, false, not, ◌||◌, List, Result, Ok, Err, IsErrOf}
use Rattle.mesh_base.specs.declared.events.Done.{Done}
use Rattle.mesh_model.specs.Worlds as worlds
use Rattle.mesh_model.specs.Worlds.{World, Event, Link, Cut, Outcome, Idle, Next, step, after}
use Rattle.mesh_meaning.specs.Events.{node_of}
use Rattle.mesh_meaning.specs.Answers.{outcome_in, IsDoneInMesh}
use Rattle.mesh_world.specs.Seen.{WorldSeen}
use Rattle.mesh_world.specs.declared.steps.StepError.{StepError}
use Rattle.mesh_world.specs.declared.steps.StepError.TheVariants as errors

-- the event was done, or wasn't enabled: the answer, with the packet that was cast, says what came
-- of it in the model's step; the new world is the one after that step; and all that the answer
-- names is in the mesh
pub record IsDone (e : Event) (old : WorldSeen) (d : Done) (new : WorldSeen) (packet : List ℕ)
    : Type 0 where
  pub outcome : step old.world e ≡ outcome_in old.mesh (node_of e) new.world d packet
  pub world : new ≡ record old { world = after old.world (step old.world e); steps = old.steps + 1 }
  pub in_mesh : IsDoneInMesh old.mesh d packet

-- an event in the world `old`: the answer, the world after it, and the packet. A refusal leaves the
-- world as it was
abbrev pub IsStep : Event → WorldSeen → Result Done StepError → WorldSeen → List ℕ → Type 0
IsStep e old (Ok d) new packet = IsDone e old d new packet
IsStep e old (Err (errors.Full node field)) new packet =
    (step old.world e ≡ worlds.Full node field) × (new ≡ old)
IsStep e old (Err errors.NoMemory) new packet = new ≡ old

-- nothing comes of the event, since it isn't enabled
abbrev pub is_idle : Outcome → Bool
is_idle Idle = true
is_idle (worlds.Full node field) = false
is_idle (Next w world_effect) = false

abbrev pub changes_link : Event → Bool
changes_link (Link a b) = true
changes_link (Cut a b) = true
changes_link others = false

-- the event may ask for memory: it is enabled, or refused for a full counter, and changes no link
abbrev pub may_need_memory : World → Event → Bool
may_need_memory w e = not (changes_link e || is_idle (step w e))

-- a lack of memory is answered only to an event that may ask for some
abbrev pub IsShortOf : {A : Type 0} → World → Event → Result A StepError → Type 0
IsShortOf w e answer = IsErrOf answer errors.NoMemory → may_need_memory w e ≡ true
