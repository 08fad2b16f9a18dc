-- A node as a checkpoint has it.
use Rattle.aodv_model.specs.Pairs.{pairs_in}
use Rattle.aodv_node.specs.Seen.{NodeSeen}
use Rattle.mesh_checkpoint.specs.Checkpoint.{Node}
use Rattle.mesh_checkpoint.specs.Points.{routes_in, waits_in}

-- a node's own number, its routes, the requests that it has seen, its store, and its inbox
abbrev pub listed_node : NodeSeen → Node
listed_node n = record {
  sn = (n.core).sn;
  routes = routes_in (n.core).rt;
  asked = pairs_in (n.core).seen;
  store = waits_in (n.core).store;
  inbox = n.items;
}
