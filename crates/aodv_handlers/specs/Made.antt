-- What it means that a handler did what the model does, or refused.
use Rattle.std.specs.Prelude.{◌≡◌, ℕ, false, if◌then◌else◌, Option, Some, None, Result, Ok, Err, List}
use Rattle.mesh_base.specs.declared.events.Effect as effects
use Rattle.mesh_base.specs.declared.events.Cast as cast
use Rattle.mesh_base.specs.declared.events.Full.{Full as Counter}
use Rattle.mesh_base.specs.declared.events.Full.TheVariants.{Number}
use Rattle.mesh_base.specs.Meshes.{Nodes}
use Rattle.mesh_base.specs.Members.{NodeIds}
use Rattle.aodv_model.specs.Tables.{Table}
use Rattle.aodv_model.specs.Cores.{Core, Item}
use Rattle.aodv_model.specs.Handlers.{Reaction, link_broken, turn, send, ask}
use Rattle.aodv_model.specs.Fullness.{is_number_full, turn_full, send_full, ask_full}
use Rattle.aodv_meaning.specs.Sent.{IsPacket}
use Rattle.aodv_meaning.specs.Effects.{effect_of}
use Rattle.aodv_handlers.specs.declared.cores.Core as code
use Rattle.aodv_handlers.specs.Shown.{core_of}

-- no counter was full, and the effect, the new core and the packet are those of the model's
-- reaction
pub record IsMade (mesh : Nodes) (full : Option Counter) (reaction : Reaction)
    (effect : effects.Effect) (new : Core) (out : List ℕ) : Type 0 where
  pub free : full ≡ None
  pub did : effect ≡ effect_of reaction.effect
  pub core : new ≡ reaction.core
  pub packet : IsPacket mesh out (reaction.effect).cast

-- this field would overflow, and the core is as it was
pub record IsFull (full : Option Counter) (old : Core) (field : Counter) (new : Core) : Type 0 where
  pub overfull : full ≡ Some field
  pub same : new ≡ old

-- what was done in the core `old`, by the answer, the core after it and the packet that is cast:
-- this reaction; or nothing, since the reaction would overfill the field `full`
abbrev pub IsReaction : Nodes → Option Counter → Core → Reaction → Result effects.Effect Counter
    → Core
    → List ℕ → Type 0
IsReaction mesh full old reaction (Ok effect) new out = IsMade mesh full reaction effect new out
IsReaction mesh full old reaction (Err field) new out = IsFull full old field new

-- the effect of a cast alone
abbrev pub only_cast : cast.Cast → effects.Effect
only_cast c = record { deliver = false; lost = false; broken = None; cast = c }

-- the answer, with the cast as an effect
abbrev pub as_effect : Result cast.Cast Counter → Result effects.Effect Counter
as_effect (Ok c) = Ok (only_cast c)
as_effect (Err field) = Err field

-- the field that the break of a link would overfill: the table is the one before the break, and the
-- option has the link that broke, if one did
abbrev pub number_full : Table → Option ℕ → Option Counter
number_full rt broken = if is_number_full rt broken then Some Number else None

-- ---- what cores of the code do: `entries` gives the entries of their tables

-- the core `old` reacts so, unless a number is full
abbrev pub Reacts : {T : Type 0} → (T → Table) → Nodes → (Core → Reaction)
    → code.Core T → Result effects.Effect Counter → code.Core T → List ℕ → Type 0
Reacts entries mesh reaction old answer new out =
    let core = core_of entries old in
    let did = reaction core in
    IsReaction mesh (number_full core.rt (did.effect).broken) core did answer
    (core_of entries new) out

-- the core `old` breaks its link to y, and answers with the cast alone
abbrev pub Breaks : {T : Type 0} → (T → Table) → Nodes → ℕ
    → code.Core T → Result cast.Cast Counter → code.Core T → List ℕ → Type 0
Breaks entries mesh y old answer new out =
    let core = core_of entries old in
    IsReaction mesh (number_full core.rt (Some y)) core (link_broken core y) (as_effect answer)
    (core_of entries new) out

-- the core `old` takes its turn on this item
abbrev pub TakesTurn : {T : Type 0} → (T → Table) → Nodes → NodeIds → Item
    → code.Core T → Result effects.Effect Counter → code.Core T → List ℕ → Type 0
TakesTurn entries mesh range item old answer new out =
    let core = core_of entries old in
    IsReaction mesh (turn_full core range item) core (turn core range item) answer
    (core_of entries new) out

-- the core `old` sends the first datum that waits for d
abbrev pub Sends : {T : Type 0} → (T → Table) → Nodes → NodeIds → ℕ
    → code.Core T → Result effects.Effect Counter → code.Core T → List ℕ → Type 0
Sends entries mesh range d old answer new out =
    let core = core_of entries old in
    IsReaction mesh (send_full core range d) core (send core range d) answer
    (core_of entries new) out

-- the core `old` asks for a route to d
abbrev pub Asks : {T : Type 0} → (T → Table) → Nodes → ℕ
    → code.Core T → Result effects.Effect Counter → code.Core T → List ℕ → Type 0
Asks entries mesh d old answer new out =
    let core = core_of entries old in
    IsReaction mesh (ask_full core) core (ask core d) answer (core_of entries new) out
