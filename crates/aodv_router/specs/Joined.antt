-- What joins a router's inbox, or why nothing does.
use Rattle.std.specs.Prelude.{◌≡◌, ◌≢◌, ℕ, Option, Some, None, Result, Ok, Err, List, [], ◌∷◌, ◌++◌}
use Rattle.mesh_base.specs.Meshes.{index_of}
use Rattle.mesh_base.specs.declared.events.Item.{Item}
use Rattle.mesh_base.specs.declared.events.Item.TheVariants.{New, Heard}
use Rattle.aodv_model.specs.Soundness.{IsDatum}
use Rattle.aodv_router.specs.declared.answers.HearError.{HearError}
use Rattle.aodv_router.specs.declared.answers.HearError.TheVariants as hears
use Rattle.aodv_router.specs.declared.answers.GiveError.{GiveError}
use Rattle.aodv_router.specs.declared.answers.GiveError.TheVariants as gives
use Rattle.aodv_router.specs.Stations.{Station}

-- the item is at the back of the inbox, and all else is as it was, except the room that the inbox
-- has
pub record IsQueued (old : Station) (item : Item) (new : Station) : Type 0 where
  pub items : (new.node).items ≡ (old.node).items ++ item ∷ []
  pub core : (new.node).core ≡ (old.node).core
  pub nodes : new.nodes ≡ old.nodes

-- a packet of these bytes is heard; the option is the node of its sender's address, if the mesh has
-- it
abbrev pub IsHearing : Station → Option ℕ → List ℕ → Result (Unit {0}) HearError → Station → Type 0
IsHearing old (Some i) bytes (Ok _) new =
    (i ≢ ((old.node).core).ip) × IsQueued old (Heard i bytes) new
IsHearing old (Some i) bytes (Err hears.Stranger) new = ⊥
IsHearing old (Some i) bytes (Err hears.Own) new = (i ≡ ((old.node).core).ip) × (new ≡ old)
IsHearing old (Some i) bytes (Err hears.NoMemory) new =
    (i ≢ ((old.node).core).ip) × (new ≡ old)
IsHearing old None bytes (Ok _) new = ⊥
IsHearing old None bytes (Err hears.Stranger) new = new ≡ old
IsHearing old None bytes (Err hears.Own) new = ⊥
IsHearing old None bytes (Err hears.NoMemory) new = ⊥

-- a packet from this address is heard
abbrev pub IsHeardFrom : Station → ℕ → List ℕ → Result (Unit {0}) HearError → Station → Type 0
IsHeardFrom old from bytes result new = IsHearing old (index_of old.nodes from) bytes result new

-- a datum of these bytes is given; the option is the node of its destination's address, if the mesh
-- has it
abbrev pub IsGiving : Station → Option ℕ → List ℕ → Result (Unit {0}) GiveError → Station → Type 0
IsGiving old (Some i) body (Ok _) new = IsDatum body × IsQueued old (New i body) new
IsGiving old (Some i) body (Err gives.Stranger) new = ⊥
IsGiving old (Some i) body (Err gives.Length) new = (¬ IsDatum body) × (new ≡ old)
IsGiving old (Some i) body (Err gives.NoMemory) new = IsDatum body × (new ≡ old)
IsGiving old None body (Ok _) new = ⊥
IsGiving old None body (Err gives.Stranger) new = new ≡ old
IsGiving old None body (Err gives.Length) new = ⊥
IsGiving old None body (Err gives.NoMemory) new = ⊥

-- a datum for this address is given
abbrev pub IsGivenFor : Station → ℕ → List ℕ → Result (Unit {0}) GiveError → Station → Type 0
IsGivenFor old dest body result new = IsGiving old (index_of old.nodes dest) body result new
