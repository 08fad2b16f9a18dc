use Rattle.std.proofs.Common.{◌≡◌, ◌+◌, arith}
use Rattle.mesh_base.specs.Members.{member_list}
use Rattle.mesh_checkpoint.specs.Checkpoint as model
use Rattle.mesh_restore.proofs.Listings.{no_members, none_below, members_last, members_still_below}
use Rattle.mesh_restore.proofs.Precursors.{below_end}
use Rattle.mesh_checkpoint.proofs.Loop.{starts, goes_on}
use Rattle.mesh_restore.proofs.routes.precursors.Goals as goal

pub loop-init : goal.loop-init
loop-init c = rw c.new-found.ensures record {
  so_far = rw no_members (starts (λ i. i) (model.index c.args.nodes).get c.args.count c.args.bytes.now);
  below = none_below;
  within = omega arith;
}

pub loop-preserved : goal.loop-preserved
loop-preserved c = rw (c.add.ensures, c.from-in-loop.ensures) record {
  so_far =
      rw (members_last c.loop.found c.loop.low c.in_ok-index.index c.loop.invariant.below (omega arith) (omega (arith, c.in_ok-index.ensures.below)))
      (goes_on (λ i. i) (model.index c.args.nodes).get c.args.count c.loop.counter c.loop.low c.args.bytes.now (member_list c.loop.found) c.loop.rest.now c.in_ok-index.index c.in_ok-index.behind.now _ (omega arith) c.in_ok-index.ensures.value (omega (arith, c.in_ok-low.ensures.order)) (omega (arith, c.in_ok-low.ensures.next)) c.loop.invariant.so_far);
  below =
      let next : c.in_ok-low.low ≡ c.in_ok-index.index + 1 = omega (arith, c.in_ok-low.ensures.next) in
      rw next (members_still_below c.loop.found c.loop.low c.in_ok-index.index c.loop.invariant.below (omega (arith, c.in_ok-low.ensures.order)));
  within = omega (arith, c.in_ok-index.ensures.below);
}

pub returns-clause-below : goal.returns-clause-below
returns-clause-below c = below_end c.args.nodes c.loop.low c.loop.found c.loop.invariant.below c.loop.invariant.within
