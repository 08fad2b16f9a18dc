use Rattle.std.proofs.Common.{arith}
use Rattle.aodv_model.specs.declared.entry.Entry.{Entry}
use Rattle.mesh_checkpoint.specs.Checkpoint as model
use Rattle.mesh_checkpoint.specs.Points.{route_of, routes_in}
use Rattle.mesh_restore.proofs.Listings.{none_listed, no_routes, routes_last, still_below}
use Rattle.mesh_restore.proofs.Precursors.{no_precursors, precursors_still_below}
use Rattle.mesh_checkpoint.proofs.Loop.{starts, goes_on, ends, falls}
use Rattle.mesh_restore.proofs.routes.rows.Goals as goal

pub loop-init : goal.loop-init
loop-init c = rw c.in_ok-table.ensures record {
  so_far = rw no_routes (starts (λ r. r.dest) (model.route c.args.nodes).get c.args.count c.args.bytes.now);
  below = none_listed Entry;
  nodes = omega arith;
  precursors = no_precursors c.args.nodes;
}

pub returns-in_default-clause-value : goal.returns-in_default-clause-value
returns-in_default-clause-value c =
    ends (λ r. r.dest) (model.route c.args.nodes).get c.args.count c.loop.counter c.loop.low c.args.bytes.now (routes_in (c.loop.table).entries) c.loop.rest.now (omega arith) c.in_default.ensures.value c.loop.invariant.so_far

pub returns-then-dest-low-clause-value : goal.returns-then-dest-low-clause-value
returns-then-dest-low-clause-value c =
    falls (λ r. r.dest) (model.route c.args.nodes).get c.args.count c.loop.counter c.loop.low c.args.bytes.now (routes_in (c.loop.table).entries) c.loop.rest.now (route_of (c.in-Some.dest, c.in-Some.entry)) c.in-Some.behind.now (omega arith) c.in-Some.ensures.value (omega arith) c.loop.invariant.so_far

pub loop-preserved : goal.loop-preserved
loop-preserved c = rw (c.put.ensures.entries, c.put.ensures.nodes, c.make_room.ensures.entries, c.make_room.ensures.nodes) record {
  so_far =
      rw (routes_last (c.loop.table).entries c.loop.low c.in-Some.dest c.in-Some.entry c.loop.invariant.below (omega arith))
      (goes_on (λ r. r.dest) (model.route c.args.nodes).get c.args.count c.loop.counter c.loop.low c.args.bytes.now (routes_in (c.loop.table).entries) c.loop.rest.now (route_of (c.in-Some.dest, c.in-Some.entry)) c.in-Some.behind.now _ (omega arith) c.in-Some.ensures.value (omega arith) (omega arith) c.loop.invariant.so_far);
  below = still_below (c.loop.table).entries c.loop.low c.in-Some.dest c.in-Some.entry c.loop.invariant.below (omega arith);
  nodes = c.loop.invariant.nodes;
  precursors = precursors_still_below c.args.nodes (c.loop.table).entries c.in-Some.dest c.in-Some.entry c.loop.invariant.precursors c.in-Some.ensures.precursors;
}
