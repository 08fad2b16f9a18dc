use Rattle.std.proofs.Common.{arith, refl, ◌∙◌}
use Rattle.std.proofs.lemmas.List.{length-set}
use Rattle.mesh_restore.proofs.StoreLists.{none_added, one_more_added}
use Rattle.mesh_restore.proofs.store.bodies.Goals as goal

pub loop-init : goal.loop-init
loop-init c = record { added = none_added (c.args.waiting.now).store c.args.dest c.args.count c.args.bytes.now; nodes = refl }

pub loop-preserved : goal.loop-preserved
loop-preserved c = rw (c.add.ensures.store, c.in_ok-body.ensures.copy, c.make_room.ensures.store, c.add.ensures.rooms) record {
  added = one_more_added (c.args.waiting.now).store c.args.dest c.args.count c.loop.counter c.args.bytes.now (c.loop.waiting).store c.loop.rest.now c.in-Some.body.now c.in-Some.behind.now c.requires.below (omega arith) c.in-Some.ensures.value c.loop.invariant.added;
  nodes = length-set _ _ _ ∙ c.make_room.ensures.nodes ∙ c.loop.invariant.nodes;
}
