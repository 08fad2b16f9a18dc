use Rattle.std.proofs.Common.{rules, refl, arith}
use Rattle.mesh_checkpoint.proofs.body.pass_world.Goals as goal

pub returns : goal.returns
returns c =
    let nodes = c.in_ok-at_nodes.ensures in
    let links = c.in_ok-rest.ensures in
    let copies = c.in_ok-flying.ensures in
    record {
      value = record { steps = c.in_ok-_steps._steps; nodes = nodes.value; links = links.value; next = c.in_ok-next.next; copies = copies.value };
      read = search rules;
      count = rw (nodes.count, copies.count) refl;
      few = omega (arith, nodes.few, links.few, copies.few, c.in_ok-_steps.ensures.shorter, c.in_ok-count.ensures.shorter, c.in_ok-next.ensures.shorter, c.in_ok-count-2.ensures.shorter);
    }
