-- What the send of a stored datum and a request of the node's own answer, and what is seen of the
-- node afterwards.
use Rattle.std.specs.Prelude.{◌≡◌, ◌-◌, ◌&&◌, nat_lt, not, ℕ, Bool, true, false, None, Result, Ok, Err, List}
use Rattle.std.specs.FinSet as sets
use Rattle.mesh_base.specs.Meshes.{Nodes}
use Rattle.mesh_base.specs.Members.{NodeIds}
use Rattle.mesh_base.specs.declared.events.Effect as code
use Rattle.aodv_model.specs.Cores.{SeenRequests, Core}
use Rattle.aodv_model.specs.Handlers.{may_send, send, fresh_id, may_ask, ask}
use Rattle.aodv_model.specs.Fullness.{send_full, ask_full}
use Rattle.aodv_handlers.specs.Made.{IsMade, IsFull}
use Rattle.aodv_node.specs.declared.answers.SendError.{SendError}
use Rattle.aodv_node.specs.declared.answers.SendError.TheVariants as sends
use Rattle.aodv_node.specs.declared.answers.AskError.{AskError}
use Rattle.aodv_node.specs.declared.answers.AskError.TheVariants as asks

-- the send of a datum that waits for d, by the core `old`: its answer, the core after it, and the
-- packet that is cast
abbrev pub IsSend : Nodes → NodeIds → Core → ℕ → Result code.Effect SendError → Core → List ℕ
    → Type 0
IsSend mesh range old d (Ok effect) new out =
    (may_send old d ≡ true) × IsMade mesh (send_full old range d) (send old range d) effect new out
IsSend mesh range old d (Err sends.Idle) new out = (may_send old d ≡ false) × (new ≡ old)
IsSend mesh range old d (Err (sends.Full field)) new out =
    (may_send old d ≡ true) × IsFull (send_full old range d) old field new

-- the id is the next one after one of o's that was seen
abbrev pub follows : SeenRequests → ℕ → ℕ → Bool
follows seen o id = nat_lt 0 id && sets.contains seen (o, id - 1)

-- a request of the node's own may need memory if its id doesn't follow one of the node's own
abbrev pub ask_needs_memory : Core → Bool
ask_needs_memory core = not (follows core.seen core.ip (fresh_id core.variant core))

-- a request for a route to d may need memory: it may be made, and no counter is full
pub record IsAskShort (core : Core) (d : ℕ) : Type 0 where
  pub may : may_ask core d ≡ true
  pub free : ask_full core ≡ None
  pub needs : ask_needs_memory core ≡ true

-- a request for a route to d, by the core `old`
abbrev pub IsAsk : Nodes → Core → ℕ → Result code.Effect AskError → Core → List ℕ → Type 0
IsAsk mesh old d (Ok effect) new out =
    (may_ask old d ≡ true) × IsMade mesh (ask_full old) (ask old d) effect new out
IsAsk mesh old d (Err asks.Idle) new out = (may_ask old d ≡ false) × (new ≡ old)
IsAsk mesh old d (Err (asks.Full field)) new out =
    (may_ask old d ≡ true) × IsFull (ask_full old) old field new
IsAsk mesh old d (Err asks.NoMemory) new out = IsAskShort old d × (new ≡ old)
