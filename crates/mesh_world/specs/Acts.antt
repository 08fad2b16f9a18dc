-- What a node does of its own accord, and what comes of it. No public contract cites this file.
use Rattle.std.specs.Prelude.{◌≡◌, ◌<◌, ℕ, Bool, true, if◌then◌else◌, is_some, Option, Some, None, Result, Ok, Err, List, [], ◌∷◌, ⊤}
use Rattle.mesh_base.specs.Members.{NodeIds}
use Rattle.mesh_base.specs.Meshes.{Nodes}
use Rattle.mesh_base.specs.declared.events.Air.{Air}
use Rattle.mesh_base.specs.declared.events.Full.{Full as Counter}
use Rattle.mesh_base.specs.declared.events.Done.{Done}
use Rattle.mesh_base.specs.declared.events.Done.TheVariants as done
use Rattle.mesh_base.specs.declared.events.Effect.{Effect}
use Rattle.mesh_base.specs.declared.events.Item as items
use Rattle.mesh_base.specs.declared.events.Took.{Took}
use Rattle.aodv_model.specs.Cores.{Core}
use Rattle.aodv_model.specs.Handlers.{Reaction, turn, took, may_send, send, may_ask, ask}
use Rattle.aodv_model.specs.Fullness.{turn_full, send_full, ask_full}
use Rattle.aodv_meaning.specs.Effects.{item_in}
use Rattle.aodv_handlers.specs.Made.{IsMade}
use Rattle.aodv_node.specs.Seen.{NodeSeen}
use Rattle.aodv_node.specs.Turned.{taken_of}
use Rattle.mesh_model.specs.Worlds as worlds
use Rattle.mesh_model.specs.Worlds.{Event}
use Rattle.mesh_world.specs.declared.act.Unacted.{Unacted}
use Rattle.mesh_world.specs.declared.act.Unacted.TheVariants as refused

-- a node takes a turn, sends a datum that waits for a destination, or asks for a route to one
pub data Act : Type 0 where
  Turn : Act
  Send : (dest : ℕ) → Act
  Ask : (dest : ℕ) → Act

-- the event in which node x does so
abbrev pub event_at : ℕ → Act → Event
event_at x Turn = worlds.Turn x
event_at x (Send d) = worlds.Send x d
event_at x (Ask d) = worlds.Ask x d

-- the destination, if there is one, is below `size`
abbrev pub IsFor : ℕ → Act → Type 0
IsFor size Turn = ⊤
IsFor size (Send d) = d < size
IsFor size (Ask d) = d < size

-- what comes of an act. If `full` names a counter, the act would raise that past its greatest
-- value, and isn't done; otherwise the node reacts so, `left` stays in its inbox, and `took` was
-- taken from there
pub record ActResult : Type 0 where
  pub full : Option Counter
  pub reaction : Reaction
  pub left : List items.Item
  pub took : Option Took

abbrev pub turn_result : Nodes → NodeIds → Core → List items.Item → Option ActResult
turn_result mesh range core [] = None
turn_result mesh range core (front ∷ rest) =
    let item = item_in mesh front in
    Some (record {
      full = turn_full core range item;
      reaction = turn core range item;
      left = rest;
      took = Some (taken_of front (took core item));
    })

-- nothing is taken from the inbox
abbrev pub sent_result : NodeSeen → Bool → Option Counter → Reaction → Option ActResult
sent_result n may full reaction =
    if may
    then Some (record { full = full; reaction = reaction; left = n.items; took = None })
    else None

-- what comes of an act of the node `n`, with the nodes of `range` in range; None if it isn't
-- enabled
abbrev pub act_result_of : Nodes → NodeIds → NodeSeen → Act → Option ActResult
act_result_of mesh range n Turn = turn_result mesh range n.core n.items
act_result_of mesh range n (Send d) =
    sent_result n (may_send n.core d) (send_full n.core range d) (send n.core range d)
act_result_of mesh range n (Ask d) =
    sent_result n (may_ask n.core d) (ask_full n.core) (ask n.core d)

-- ---- what the code did

-- the node acted: `took` is what it took, and `effect` what it did besides
pub record IsActResult (mesh : Nodes) (range : NodeIds) (act : Act) (old : NodeSeen)
    (took : Option Took) (effect : Effect) (new : NodeSeen) (out : List ℕ) : Type 0 where
  pub act_result : ActResult
  pub is : act_result_of mesh range old act ≡ Some act_result
  pub made : IsMade mesh act_result.full act_result.reaction effect new.core out
  pub left : new.items ≡ act_result.left
  pub taken : took ≡ act_result.took
  pub size : new.size ≡ old.size

-- an act of the node `old`: its answer (`took` gives what was taken), the node after it, and the
-- packet that is cast
abbrev pub IsActed : {T : Type 0} → (T → Option Took) → Nodes → NodeIds → Act → NodeSeen
    → Result (T × Effect) Unacted → NodeSeen → List ℕ → Type 0
IsActed took mesh range act old (Ok p) new out =
    IsActResult mesh range act old (took p.0) p.1 new out
IsActed took mesh range act old (Err refused.Idle) new out =
    (act_result_of mesh range old act ≡ None) × (new ≡ old)
IsActed took mesh range act old (Err (refused.Full field)) new out =
    (act_result : ActResult) × (act_result_of mesh range old act ≡ Some act_result)
    × (act_result.full ≡ Some field) × (new ≡ old)
IsActed took mesh range act old (Err refused.NoMemory) new out =
    (is_some (act_result_of mesh range old act) ≡ true) × (new ≡ old)

-- what is answered of an act
abbrev pub done_of : Option Took → Effect → Air → Done
done_of (Some t) effect air = done.Taken t effect air
done_of None effect air = done.Sent effect air
