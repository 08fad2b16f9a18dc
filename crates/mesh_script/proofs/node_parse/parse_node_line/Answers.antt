use Rattle.std.proofs.Common.{◌≤◌, length, rules, subst, ap, arith, IfOk}
use Rattle.mesh_base.specs.declared.limits.TheConstants.{MOST_NODES}
use Rattle.mesh_script.specs.NodeLines.{line_of}
use Rattle.mesh_script.specs.NodeSeen.{IsSaidIn}
use Rattle.mesh_script.proofs.Said.{said_in}
use Rattle.mesh_script.proofs.NodeAllowed.{line_of_said, allowed}
use Rattle.mesh_script.proofs.node_parse.parse_node_line.Goals as goal

pub line_at-requires : goal.line_at-requires
line_at-requires c = record {
  said = subst (λ r. IfOk r (IsSaidIn (length c.args.bytes.now))) c.in-Ok.is (said_in c.args.bytes.now c.shape_of.result c.shape_of.ensures);
}

pub returns-in-Err-clause-value : goal.returns-in-Err-clause-value
unfolding line_of
returns-in-Err-clause-value c = let e = rw c.in-Err.is at c.shape_of.ensures in search rules

read : goal.returns-in-Ok-clause-value
read c =
    let shape = rw c.in-Ok.is at c.shape_of.ensures in
    line_of_said c.args.peers.now c.args.started c.args.bytes.now c.in-Ok.said _ shape c.line_at.ensures

pub returns-in-Ok-clause-value : goal.returns-in-Ok-clause-value
returns-in-Ok-clause-value c = read c

pub returns-in-Ok-clause-allowed : goal.returns-in-Ok-clause-allowed
returns-in-Ok-clause-allowed c =
    let few : length c.args.peers.now.mesh ≤ MOST_NODES = omega (arith, c.len-nodes.ensures.is_mesh.few, ap length c.mesh.ensures.mesh) in
    allowed c.args.peers.now c.args.started c.args.bytes.now c.line_at.result few (read c)
