-- A router's mesh, the node itself in that mesh, and the port of each peer.
use Rattle.std.specs.Prelude.{◌≡◌, ◌<◌, ◌↔◌, ℕ, ◌+◌, ◌==◌, List, [], length, Option, Some, None, IfSome, if◌then◌else◌, position, insert, get_or, option_map, nat_lt, nat_le}
use Rattle.std.specs.List.{position_or_len}
use Rattle.std.specs.Coded.{Coded, code_by, coded×, coded_ℕ, coded_list, coded_option}
use Rattle.std.proofs.Common.{refl}
use Rattle.mesh_base.specs.Meshes.{Nodes, with_node}

-- the mesh of the node and its peers; the node itself, once a line has named it; and a port for
-- each node, which is 0 for the node itself
pub record PeersSeen : Type 0 where
  pub mesh : Nodes
  pub me : Option ℕ
  pub ports : List ℕ

abbrev pub no_peers : PeersSeen
no_peers = record { mesh = []; me = None; ports = [] }

-- the index that an address gets in the mesh: before the first greater one
abbrev pub index_for : Nodes → ℕ → ℕ
index_for mesh a = position_or_len (λ q. nat_lt a q.0) mesh

-- the index of node i once one more node is at this index
abbrev pub moved_index : ℕ → ℕ → ℕ
moved_index index i = if nat_le index i then i + 1 else i

-- the node itself joins the mesh
unfoldable pub with_self : PeersSeen → ℕ → ℕ → PeersSeen
with_self p a first = record {
  mesh = with_node p.mesh a first;
  me = Some (index_for p.mesh a);
  ports = insert p.ports (index_for p.mesh a) 0;
}

-- a peer joins the mesh. Its first sequence number is 1
unfoldable pub with_peer : PeersSeen → ℕ → ℕ → PeersSeen
with_peer p a port = record {
  mesh = with_node p.mesh a 1;
  me = option_map (moved_index (index_for p.mesh a)) p.me;
  ports = insert p.ports (index_for p.mesh a) port;
}

-- the peer at this port
abbrev pub at_port : PeersSeen → ℕ → Option ℕ
at_port p port = if port == 0 then None else position (λ q. q == port) p.ports

-- the port of a peer
abbrev pub port_of : PeersSeen → ℕ → Option ℕ
port_of p i = if get_or p.ports i 0 == 0 then None else Some (get_or p.ports i 0)

-- each node has a port, which is 0 for the node itself alone
pub record ArePeers (p : PeersSeen) : Type 0 where
  pub each : length p.ports ≡ length p.mesh
  pub within : IfSome p.me (λ i. i < length p.mesh)
  pub mine : (i : ℕ) → i < length p.mesh → (get_or p.ports i 0 ≡ 0) ↔ (p.me ≡ Some i)

-- ---- a code, by which proofs tell such values apart

abbrev pub peers_code : Coded PeersSeen
peers_code =
    code_by (Nodes × (Option ℕ × List ℕ))
    (coded× (coded_list (coded× coded_ℕ coded_ℕ))
    (coded× (coded_option coded_ℕ) (coded_list coded_ℕ)))
    (λ p. (p.mesh, (p.me, p.ports)))
    (λ q. record { mesh = q.0; me = q.1.0; ports = q.1.1 })
    (λ _. refl)
