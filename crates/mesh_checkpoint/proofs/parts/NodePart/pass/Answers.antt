use Rattle.std.proofs.Common.{rules, refl, arith}
use Rattle.mesh_checkpoint.proofs.parts.NodePart.pass.Goals as goal

pub returns : goal.returns
returns c =
    let routes = c.in_ok-rest.ensures in
    let asked = c.in_ok-rest-2.ensures in
    let store = c.in_ok-waiting.ensures in
    let inbox = c.in_ok-queued.ensures in
    record {
      value = record { sn = c.in_ok-_sn._sn; routes = routes.value; asked = asked.value; store = store.value; inbox = inbox.value };
      read = search rules;
      count = rw (store.count, inbox.count) refl;
      few = omega (arith, routes.few, asked.few, store.few, inbox.few, c.in_ok-_sn.ensures.shorter, c.in_ok-count.ensures.shorter, c.in_ok-count-2.ensures.shorter, c.in_ok-count-3.ensures.shorter, c.in_ok-count-4.ensures.shorter);
    }
