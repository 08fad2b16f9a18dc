-- A router on a socket, and the state of its script's run.
use Rattle.std.specs.Prelude.{ℕ, zero, suc, ◌+◌, Bool, true, false, List, [], length, unwrap_or}
use Rattle.std.specs.FinSet as sets
use Rattle.mesh_base.specs.Members.{NodeIds}
use Rattle.mesh_base.specs.Meshes.{first_at}
use Rattle.mesh_base.specs.declared.events.Item.{Item}
use Rattle.mesh_base.specs.declared.events.Variant.TheVariants.{Base}
use Rattle.aodv_model.specs.Cores.{Core, opening}
use Rattle.mesh_script.specs.Peers.{PeersSeen, no_peers}

-- the router's mesh, with itself and its peers; its core; its queue, with packets as bytes; the
-- peers in range; and how many datagrams it has heard, sent and dropped
pub record Router : Type 0 where
  pub peers : PeersSeen
  pub core : Core
  pub queue : List Item
  pub range : NodeIds
  pub heard : ℕ
  pub sent : ℕ
  pub dropped : ℕ

-- all nodes below n
unfoldable pub all_below : ℕ → NodeIds
all_below zero = sets.empty
all_below (suc n) = sets.insert (all_below n) n

-- node `me` of a mesh in its opening state, with all its peers in range
unfoldable pub fresh_at : PeersSeen → ℕ → Router
fresh_at p me = record {
  peers = p;
  core = opening Base me (first_at p.mesh me);
  queue = [];
  range = sets.remove (all_below (length p.mesh)) me;
  heard = 0;
  sent = 0;
  dropped = 0;
}

abbrev pub fresh : PeersSeen → Router
fresh p = fresh_at p (unwrap_or p.me 0)

-- ---- states

-- the mesh grows until a line comes that is neither blank nor a `self` or `peer` line, and from
-- then on the router runs
pub data Stage : Type 0 where
  Joining : PeersSeen → Stage
  Running : Router → Stage

abbrev pub peers_in : Stage → PeersSeen
peers_in (Joining p) = p
peers_in (Running r) = r.peers

abbrev pub router_in : Stage → Router
router_in (Joining p) = fresh p
router_in (Running r) = r

abbrev pub is_running : Stage → Bool
is_running (Joining p) = false
is_running (Running r) = true

-- the state of a run between two lines: its stage, and how many lines were read
pub record RunState : Type 0 where
  pub stage : Stage
  pub lines : ℕ

abbrev pub opening_run_state : RunState
opening_run_state = record { stage = Joining no_peers; lines = 0 }

-- one more line was read, and the run is at this stage
abbrev pub counted_at : RunState → Stage → RunState
counted_at m stage = record { stage = stage; lines = m.lines + 1 }
