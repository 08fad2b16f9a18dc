-- What a turn, a send and a request answer, and what is seen of the router afterwards. Each answer
-- is that of the router's node, in addresses, or that the mesh has no such address.
use Rattle.std.specs.Prelude.{◌≡◌, ℕ, Option, Some, None, Result, Ok, Err, List}
use Rattle.mesh_base.specs.Meshes.{Nodes, addr_at, index_of}
use Rattle.mesh_base.specs.declared.events.Effect as effects
use Rattle.aodv_node.specs.Turned.{IsTurn}
use Rattle.aodv_node.specs.Discovered.{IsSend, IsAsk}
use Rattle.aodv_node.specs.declared.answers.TurnDone as done
use Rattle.aodv_node.specs.declared.answers.TurnError as turns
use Rattle.aodv_node.specs.declared.answers.TurnError.TheVariants as turn_errors
use Rattle.aodv_node.specs.declared.answers.SendError as sends
use Rattle.aodv_node.specs.declared.answers.SendError.TheVariants as send_errors
use Rattle.aodv_node.specs.declared.answers.AskError as asks
use Rattle.aodv_node.specs.declared.answers.AskError.TheVariants as ask_errors
use Rattle.aodv_router.specs.declared.answers.TurnError.{TurnError}
use Rattle.aodv_router.specs.declared.answers.TurnError.TheVariants as turn
use Rattle.aodv_router.specs.declared.answers.SendError.{SendError}
use Rattle.aodv_router.specs.declared.answers.SendError.TheVariants as send
use Rattle.aodv_router.specs.declared.answers.AskError.{AskError}
use Rattle.aodv_router.specs.declared.answers.AskError.TheVariants as ask
use Rattle.aodv_router.specs.declared.outcome.Outcome.{Outcome}
use Rattle.aodv_router.specs.Stations.{Station, range_of}
use Rattle.aodv_router.specs.Outcomes.{TellsTurn, TellsAct}

-- ---- turns

-- the node's refusal, in addresses
abbrev pub turn_error : Nodes → turns.TurnError → TurnError
turn_error nodes turn_errors.Idle = turn.Idle
turn_error nodes (turn_errors.Refused from why) = turn.Refused (addr_at nodes from) why
turn_error nodes (turn_errors.Stranger from who) = turn.Stranger (addr_at nodes from) who.0
turn_error nodes (turn_errors.Full field) = turn.Full field
turn_error nodes turn_errors.NoMemory = turn.NoMemory

-- the router's answer is that of its node, in addresses
abbrev pub TellsTurnAnswer : Nodes → Result done.TurnDone turns.TurnError → List ℕ
    → Result Outcome TurnError → Type 0
TellsTurnAnswer nodes (Ok d) packet (Ok o) = TellsTurn nodes d packet o
TellsTurnAnswer nodes (Ok d) packet (Err e) = ⊥
TellsTurnAnswer nodes (Err why) packet (Ok o) = ⊥
TellsTurnAnswer nodes (Err why) packet (Err e) = e ≡ turn_error nodes why

-- a turn of the router when these addresses are near
pub record IsTurnOf (old : Station) (near : List ℕ) (result : Result Outcome TurnError)
    (new : Station) : Type 0 where
  pub answer : Result done.TurnDone turns.TurnError
  pub packet : List ℕ
  pub turn : IsTurn old.nodes (range_of old near) old.node answer new.node packet
  pub tells : TellsTurnAnswer old.nodes answer packet result
  pub nodes : new.nodes ≡ old.nodes

-- ---- sends

abbrev pub send_error : sends.SendError → SendError
send_error send_errors.Idle = send.Idle
send_error (send_errors.Full field) = send.Full field

abbrev pub TellsSendAnswer : Nodes → Result effects.Effect sends.SendError → List ℕ
    → Result Outcome SendError → Type 0
TellsSendAnswer nodes (Ok e) packet (Ok o) = TellsAct nodes e packet o
TellsSendAnswer nodes (Ok e) packet (Err why) = ⊥
TellsSendAnswer nodes (Err why) packet (Ok o) = ⊥
TellsSendAnswer nodes (Err why) packet (Err e) = e ≡ send_error why

-- the inbox and the mesh are as they were
pub record KeepsInbox (old new : Station) : Type 0 where
  pub node : new.node ≡ record (old.node) { core = (new.node).core }
  pub nodes : new.nodes ≡ old.nodes

-- the send of the first datum that waits for node d when these addresses are near
pub record IsSendTo (old : Station) (near : List ℕ) (d : ℕ) (result : Result Outcome SendError)
    (new : Station) : Type 0 where
  pub answer : Result effects.Effect sends.SendError
  pub packet : List ℕ
  pub send : IsSend old.nodes (range_of old near) (old.node).core d answer (new.node).core packet
  pub tells : TellsSendAnswer old.nodes answer packet result
  pub keeps : KeepsInbox old new

abbrev pub IsSending : Station → List ℕ → Option ℕ → Result Outcome SendError → Station → Type 0
IsSending old near (Some d) result new = IsSendTo old near d result new
IsSending old near None result new = (result ≡ Err send.Stranger) × (new ≡ old)

-- the send of the first datum that waits for an address when these addresses are near
abbrev pub IsSendOf : Station → List ℕ → ℕ → Result Outcome SendError → Station → Type 0
IsSendOf old near dest result new = IsSending old near (index_of old.nodes dest) result new

-- ---- requests

abbrev pub ask_error : asks.AskError → AskError
ask_error ask_errors.Idle = ask.Idle
ask_error (ask_errors.Full field) = ask.Full field
ask_error ask_errors.NoMemory = ask.NoMemory

abbrev pub TellsAskAnswer : Nodes → Result effects.Effect asks.AskError → List ℕ
    → Result Outcome AskError → Type 0
TellsAskAnswer nodes (Ok e) packet (Ok o) = TellsAct nodes e packet o
TellsAskAnswer nodes (Ok e) packet (Err why) = ⊥
TellsAskAnswer nodes (Err why) packet (Ok o) = ⊥
TellsAskAnswer nodes (Err why) packet (Err e) = e ≡ ask_error why

-- a request for a route to node d
pub record IsAskFor (old : Station) (d : ℕ) (result : Result Outcome AskError) (new : Station)
    : Type 0 where
  pub answer : Result effects.Effect asks.AskError
  pub packet : List ℕ
  pub ask : IsAsk old.nodes (old.node).core d answer (new.node).core packet
  pub tells : TellsAskAnswer old.nodes answer packet result
  pub keeps : KeepsInbox old new

abbrev pub IsAsking : Station → Option ℕ → Result Outcome AskError → Station → Type 0
IsAsking old (Some d) result new = IsAskFor old d result new
IsAsking old None result new = (result ≡ Err ask.Stranger) × (new ≡ old)

-- a request for a route to an address
abbrev pub IsAskOf : Station → ℕ → Result Outcome AskError → Station → Type 0
IsAskOf old dest result new = IsAsking old (index_of old.nodes dest) result new
