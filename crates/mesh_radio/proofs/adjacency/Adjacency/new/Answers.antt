use Rattle.std.proofs.Common.{◌∙◌, ap, sym, subst}
use Rattle.mesh_radio.specs.Kept.{AreMutual, graph_of}
use Rattle.mesh_radio.proofs.Graphs.{none_mutual, none_graph}
use Rattle.mesh_radio.proofs.adjacency.Adjacency.new.Goals as goal

pub invariant_of-result : goal.invariant_of-result
invariant_of-result c = subst AreMutual (sym c.in_ok-rows.ensures) (none_mutual c.args.nodes c.requires)

pub returns : goal.returns
returns c = ap graph_of c.in_ok-rows.ensures ∙ none_graph c.args.nodes
