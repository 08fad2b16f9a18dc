use Rattle.std.proofs.Common.{arith, refl}
use Rattle.mesh_checkpoint.specs.Checkpoint as model
use Rattle.mesh_checkpoint.specs.Points.{links_of}
use Rattle.mesh_checkpoint.specs.Views.{link_of}
use Rattle.mesh_restore.proofs.LinkLists.{no_links, none_linked, none_stood, not_linked, links_last, still_linked_below, still_stood, others_stay}
use Rattle.mesh_checkpoint.proofs.Loop.{starts, goes_on, ends, falls}
use Rattle.mesh_restore.proofs.links.link_all.Goals as goal

pub loop-init : goal.loop-init
loop-init c = record {
  so_far = rw (c.requires.links, c.requires.ever, no_links) (starts model.link_key (model.link c.args.nodes).get c.args.count c.args.bytes.now);
  below = rw c.requires.ever none_linked;
  stood = none_stood c.args.radio.now c.requires.links;
  others = refl;
}

pub returns-in_err-link : goal.returns-in_err-link
returns-in_err-link c =
    rw c.from_residual.ensures (ends model.link_key (model.link c.args.nodes).get c.args.count c.loop.counter c.loop.low c.args.bytes.now (links_of (c.loop.radio).ever (c.loop.radio).links) c.loop.rest.now (omega arith) c.in_err-link.ensures.value c.loop.invariant.so_far)

pub returns-in_err-low : goal.returns-in_err-low
returns-in_err-low c =
    rw c.from_residual-in_err-low.ensures (falls model.link_key (model.link c.args.nodes).get c.args.count c.loop.counter c.loop.low c.args.bytes.now (links_of (c.loop.radio).ever (c.loop.radio).links) c.loop.rest.now (link_of c.in_ok-link.link) c.in_ok-link.behind.now (omega arith) c.in_ok-link.ensures.value (omega (arith, c.in_err-low.ensures.order)) c.loop.invariant.so_far)

pub keep-requires-clause-new : goal.keep-requires-clause-new
keep-requires-clause-new c =
    not_linked c.loop.radio c.loop.low (c.in_ok-link.link.a, c.in_ok-link.link.b) c.loop.invariant.stood c.loop.invariant.below (omega arith) c.in_ok-link.ensures.small

pub loop-preserved : goal.loop-preserved
loop-preserved c = record {
  so_far =
      rw (links_last c.loop.radio c.keep.new.radio c.loop.low (c.in_ok-link.link.a, c.in_ok-link.link.b) c.in_ok-link.link.stands c.loop.invariant.below (omega arith) c.in_ok-link.ensures.small c.keep.ensures)
      (goes_on model.link_key (model.link c.args.nodes).get c.args.count c.loop.counter c.loop.low c.args.bytes.now (links_of (c.loop.radio).ever (c.loop.radio).links) c.loop.rest.now (link_of c.in_ok-link.link) c.in_ok-link.behind.now _ (omega arith) c.in_ok-link.ensures.value (omega (arith, c.in_ok-low.ensures.order)) (omega (arith, c.in_ok-low.ensures.next)) c.loop.invariant.so_far);
  below = still_linked_below c.loop.radio c.keep.new.radio c.loop.low (c.in_ok-link.link.a, c.in_ok-link.link.b) c.in_ok-link.link.stands _ c.loop.invariant.below (omega arith) c.in_ok-link.ensures.small (omega arith) c.keep.ensures;
  stood = still_stood c.loop.radio c.keep.new.radio (c.in_ok-link.link.a, c.in_ok-link.link.b) c.in_ok-link.link.stands c.loop.invariant.stood c.keep.ensures;
  others = others_stay c.args.radio.now c.loop.radio c.keep.new.radio (c.in_ok-link.link.a, c.in_ok-link.link.b) c.in_ok-link.link.stands c.loop.invariant.others c.keep.ensures;
}
