-- What is prepared for an event before the world does it, and what the world has answered.
use Rattle.std.specs.Prelude.{◌≡◌, ◌<◌, ℕ, Some, List, length, slice_get, Result, Ok, ⊤}
use Rattle.std.specs.Vec.{vec_len, vec_capacity}
use Rattle.mesh_base.specs.declared.events.Done.{Done}
use Rattle.mesh_model.specs.Worlds as model
use Rattle.mesh_world.specs.Seen.{WorldSeen, IsSoundWorld}
use Rattle.mesh_world.specs.Steps.{IsStep}
use Rattle.mesh_world.specs.declared.steps.StepError.{StepError}
use Rattle.mesh_trail.specs.declared.heard.Front.{Front}
use Rattle.mesh_trail.specs.declared.heard.Front.TheVariants as fronts
use Rattle.mesh_trail.specs.declared.lists.NodeLists.{NodeLists}
use Rattle.mesh_trail.specs.declared.parts.Parts.{Parts}
use Rattle.mesh_trail.specs.Heard.{IsFrontIn, front_of}
use Rattle.mesh_trail.specs.Lists.{HasRoom}
use Rattle.mesh_trail.specs.Steps.{IsPrepared, KnowsNear, front_list}
use Rattle.mesh_trail.specs.Casts.{list_of}
use Rattle.mesh_trail.specs.Trails.{AreWalks}

-- there is room for one more cast, and the id of its first copy is at hand
pub record IsCastPrepared (w : WorldSeen) (p : Parts) : Type 0 where
  pub room : vec_len p.casts < vec_capacity p.casts
  pub first : (p.hand).first ≡ (w.world).next_copy

-- what node x may keep and cast when this is at the front of its queue is at hand
pub record IsNodePrepared (x : ℕ) (front : Front) (w : WorldSeen) (p : Parts) : Type 0 where
  pub node : x < length w.mesh
  pub inside : IsFrontIn (length w.mesh) front
  pub waits : (p.hand).front ≡ front
  pub lists : (n : NodeLists) → slice_get (p.nodes).items x ≡ Some n
      → IsPrepared x front (n.entries).items (front_list (n.queue).items) p.hand
  pub known : (n : NodeLists) → slice_get (p.nodes).items x ≡ Some n
      → KnowsNear front p.hand (n.entries).items
  pub cast : IsCastPrepared w p

-- the list of a copy is at hand, and there is room for it among those of its receiver's queue
pub record IsCopyPrepared (id to : ℕ) (p : Parts) : Type 0 where
  pub receiver : (p.hand).to ≡ to
  pub list : (p.hand).taken ≡ list_of (p.casts).items id
  pub room : HasRoom to (p.nodes).items

-- the list of a second copy is at hand
pub record IsDoublingPrepared (id : ℕ) (w : WorldSeen) (p : Parts) : Type 0 where
  pub list : (p.hand).taken ≡ list_of (p.casts).items id
  pub cast : IsCastPrepared w p

-- the parts are prepared for the event in this world
abbrev pub IsPreparedFor : model.Event → WorldSeen → Parts → Type 0
IsPreparedFor (model.Give x d b) w p = (x < length w.mesh) × HasRoom x (p.nodes).items
IsPreparedFor (model.Turn x) w p = IsNodePrepared x (front_of (slice_get (w.world).nodes x)) w p
IsPreparedFor (model.Send x d) w p = IsNodePrepared x fronts.New w p
IsPreparedFor (model.Ask x d) w p = IsNodePrepared x fronts.New w p
IsPreparedFor (model.Deliver id) w p =
    (c : model.Copy) → model.find_copy (w.world).flying id ≡ Some c → IsCopyPrepared id c.to p
IsPreparedFor (model.Double id) w p = IsDoublingPrepared id w p
IsPreparedFor others w p = ⊤

-- the world of the parts has answered to the event; their lists are still those of the world before
-- it, and prepared
pub record IsAnsweredIn (e : model.Event) (old : WorldSeen) (p : Parts)
    (answer : Result Done StepError) (packet : List ℕ) : Type 0 where
  pub step : IsStep e old answer p.world packet
  pub sound : IsSoundWorld p.world
  pub kept : AreWalks old (p.nodes).items (p.casts).items
  pub prepared : IsPreparedFor e old p

-- so the world of the parts has done the event, or found that it wasn't enabled
abbrev pub HasDone : model.Event → Parts → Done → List ℕ → Type 0
HasDone e p did packet = (old : WorldSeen) × IsAnsweredIn e old p (Ok did) packet

-- so the world of the parts has answered
abbrev pub HasAnswered : model.Event → Parts → Result Done StepError → List ℕ → Type 0
HasAnswered e p answer packet = (old : WorldSeen) × IsAnsweredIn e old p answer packet
