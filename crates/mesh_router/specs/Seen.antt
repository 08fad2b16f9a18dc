-- What is seen of a router of the code, and what holds of every one.
use Rattle.std.specs.Prelude.{◌≡◌, ◌≤◌, ◌+◌, ◌*◌, ◌^◌, ℕ, length, List, Some, refl}
use Rattle.std.specs.Coded.{Coded, code_by, coded×, coded_ℕ, coded_list}
use Rattle.std.specs.FinSet as sets
use Rattle.mesh_base.specs.Members.{NodeIds}
use Rattle.mesh_base.specs.declared.limits.TheConstants.{MOST_NODES}
use Rattle.mesh_base.specs.declared.events.Item.{Item}
use Rattle.aodv_model.specs.Cores.{Core}
use Rattle.aodv_model.specs.Codes.{core_code}
use Rattle.aodv_node.specs.Seen.{NodeSeen, item_code}
use Rattle.mesh_script.specs.declared.limits.TheConstants.{MOST_AT_ONCE}
use Rattle.mesh_script.specs.Peers.{PeersSeen, peers_code}
use Rattle.mesh_router.specs.Routers.{Router}
use Rattle.mesh_router.specs.Peers.{ArePeers}

-- the node is the router's own, it is made for a mesh as large as that of the peers, and the nodes
-- in range are peers
pub record IsSound (p : PeersSeen) (node : NodeSeen) (near : NodeIds) : Type 0 where
  pub me : p.me ≡ Some (node.core).ip
  pub size : node.size ≡ length p.mesh
  pub range : ArePeers p near

-- a line may be done while no count is above this, and each part of a line while no count is above
-- twice as much
abbrev pub most_counted_before_line : ℕ
most_counted_before_line = 2 ^ 61

abbrev pub most_counted : ℕ
most_counted = 2 ^ 62

-- no count is above n
pub record HasCounts (n : ℕ) (r : Router) : Type 0 where
  pub heard : r.heard ≤ n
  pub sent : r.sent ≤ n
  pub dropped : r.dropped ≤ n

-- each count grew by n at most
pub record IsGrown (n : ℕ) (old new : Router) : Type 0 where
  pub heard : new.heard ≤ old.heard + n
  pub sent : new.sent ≤ old.sent + n
  pub dropped : new.dropped ≤ old.dropped + n

-- the most that a line can add to a count: all turns that one line may do, each with a datagram to
-- every node
abbrev pub most_grown : ℕ
most_grown = MOST_NODES * MOST_AT_ONCE

-- ---- a code, by which proofs tell routers apart

abbrev pub router_code : Coded Router
router_code =
    code_by (PeersSeen × (Core × (List Item × (NodeIds × (ℕ × (ℕ × ℕ))))))
    (coded× peers_code (coded× core_code (coded× (coded_list item_code)
    (coded× (sets.code coded_ℕ) (coded× coded_ℕ (coded× coded_ℕ coded_ℕ))))))
    (λ r. (r.peers, (r.core, (r.queue, (r.range, (r.heard, (r.sent, r.dropped)))))))
    (λ p. record {
      peers = p.0;
      core = p.1.0;
      queue = p.1.1.0;
      range = p.1.1.1.0;
      heard = p.1.1.1.1.0;
      sent = p.1.1.1.1.1.0;
      dropped = p.1.1.1.1.1.1;
    })
    (λ _. refl)
