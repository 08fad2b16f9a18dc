-- When a router may be short of memory.
use Rattle.std.specs.Prelude.{◌≡◌, ◌⊎◌, ℕ, zero, suc, true, List, [], ◌∷◌, ◌++◌, Option, Some, is_some, ⊤}
use Rattle.mesh_base.specs.declared.events.Item.{Item}
use Rattle.aodv_meaning.specs.Effects.{item_in}
use Rattle.aodv_node.specs.Discovered.{IsAskShort}
use Rattle.aodv_node.specs.Turned.{IsReadableItem, needs_memory}
use Rattle.mesh_link.specs.Datagrams.{Datagram}
use Rattle.mesh_script.specs.NodeLines.{AcceptedLine, Give, Turns, Asks}
use Rattle.mesh_script.specs.Peers.{PeersSeen, at_port}
use Rattle.mesh_router.specs.Routers.{Router}
use Rattle.mesh_router.specs.Turns as turns
use Rattle.mesh_router.specs.Turns.{TurnOutcome, next_turn}
use Rattle.mesh_router.specs.Finds.{Find, AreFound}

-- the next turn may need memory: a datum for another node is to wait, or a request to be kept
pub record IsTurnShort (r : Router) : Type 0 where
  pub front : Item
  pub rest : List Item
  pub was : r.queue ≡ front ∷ rest
  pub readable : IsReadableItem (r.peers).mesh front
  pub needs : needs_memory r.core (item_in (r.peers).mesh front) ≡ true

-- the turn is done, and this holds of the router after it
abbrev pub HoldsAfter : TurnOutcome → (Router → Type 0) → Type 0
HoldsAfter (turns.Done log next) holds = holds next
HoldsAfter others holds = ⊥

-- one of this many turns may need memory
abbrev pub AreTurnsShort : ℕ → Router → Type 0
AreTurnsShort zero r = ⊥
AreTurnsShort (suc most) r =
    IsTurnShort r ⊎ HoldsAfter (next_turn r) (λ next. AreTurnsShort most next)

-- a command may need memory
abbrev pub IsStepShort : Router → AcceptedLine → Type 0
IsStepShort r (Give dest body) = ⊤
IsStepShort r (Turns count) = AreTurnsShort count r
IsStepShort r (Asks d) = IsAskShort r.core d
IsStepShort r others = ⊥

-- the last find is a peer's datagram, which is to join the queue
pub record IsPollShort (p : PeersSeen) (arrived left : Option (List Datagram)) : Type 0 where
  pub before : List Find
  pub datagram : Datagram
  pub taken : AreFound arrived left (before ++ Some datagram ∷ [])
  pub peer : is_some (at_port p datagram.port) ≡ true
