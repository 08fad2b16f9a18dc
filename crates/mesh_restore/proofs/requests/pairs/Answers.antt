use Rattle.std.proofs.Common.{arith}
use Rattle.mesh_checkpoint.specs.Checkpoint as model
use Rattle.aodv_model.specs.Pairs.{pairs_in}
use Rattle.mesh_restore.proofs.PairLists.{no_pairs, none_paired, pairs_last, pairs_below}
use Rattle.mesh_checkpoint.proofs.Loop.{starts, goes_on, ends, falls}
use Rattle.mesh_restore.proofs.requests.pairs.Goals as goal

pub loop-init : goal.loop-init
loop-init c = rw c.in_ok-asked.ensures.pairs record {
  so_far = rw no_pairs (starts model.request_key (model.request c.args.nodes).get c.args.count c.args.bytes.now);
  below = none_paired;
  nodes = c.in_ok-asked.ensures.nodes;
}

pub returns-in_default-clause-value : goal.returns-in_default-clause-value
returns-in_default-clause-value c =
    ends model.request_key (model.request c.args.nodes).get c.args.count c.loop.counter c.loop.low c.args.bytes.now (pairs_in (c.loop.asked).pairs) c.loop.rest.now (omega arith) c.in_default.ensures.value c.loop.invariant.so_far

pub returns-then-key-low-clause-value : goal.returns-then-key-low-clause-value
returns-then-key-low-clause-value c =
    falls model.request_key (model.request c.args.nodes).get c.args.count c.loop.counter c.loop.low c.args.bytes.now (pairs_in (c.loop.asked).pairs) c.loop.rest.now (c.in-Some.request.origin, c.in-Some.request.id) c.in-Some.behind.now (omega arith) c.in-Some.ensures.value (omega arith) c.loop.invariant.so_far

pub loop-preserved : goal.loop-preserved
loop-preserved c = rw (c.insert.ensures.pairs, c.insert.ensures.nodes, c.make_room.ensures.pairs, c.make_room.ensures.nodes) record {
  so_far =
      rw (pairs_last (c.loop.asked).pairs c.loop.low (c.in-Some.request.origin, c.in-Some.request.id) c.loop.invariant.below (omega arith) c.in-Some.ensures.id)
      (goes_on model.request_key (model.request c.args.nodes).get c.args.count c.loop.counter c.loop.low c.args.bytes.now (pairs_in (c.loop.asked).pairs) c.loop.rest.now (c.in-Some.request.origin, c.in-Some.request.id) c.in-Some.behind.now _ (omega arith) c.in-Some.ensures.value (omega arith) (omega arith) c.loop.invariant.so_far);
  below = pairs_below (c.loop.asked).pairs c.loop.low (c.in-Some.request.origin, c.in-Some.request.id) _ c.loop.invariant.below (omega arith) c.in-Some.ensures.id (omega arith);
  nodes = c.loop.invariant.nodes;
}
