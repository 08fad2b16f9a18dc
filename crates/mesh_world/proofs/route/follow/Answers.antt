use Rattle.std.proofs.Common.{sym, refl}
use Rattle.std.proofs.lemmas.Option.{slice_get_read}
use Rattle.mesh_world.proofs.Ways.{at_start, at_next, ends_there, ends_short}
use Rattle.mesh_world.proofs.route.follow.Goals as goal

pub loop-at-init : goal.loop-at-init
loop-at-init c = at_start c.args.nodes.now c.args.from c.args.to c.requires.from

pub loop-at-preserved : goal.loop-at-preserved
loop-at-preserved c =
    let there = slice_get_read c.args.nodes.now _ c.loop-at.at c.index-nodes-at.result refl c.loop-at.invariant.within c.index-nodes-at.is in
    at_next c.args.nodes.now c.args.from c.args.to c.requires.from c.requires.nodes c.loop-at.at c.loop-at.hops c.in-Some.next c.index-nodes-at.result c.loop-at-test.true there (sym c.in-Some.ensures) c.loop-at.invariant

pub returns-in_default-clause-value : goal.returns-in_default-clause-value
returns-in_default-clause-value c = λ mesh radio inv.
    let there = slice_get_read c.args.nodes.now _ c.loop-at.at c.index-nodes-at.result refl c.loop-at.invariant.within c.index-nodes-at.is in
    (ends_short c.args.nodes.now c.args.from c.args.to c.requires.from c.loop-at.at c.loop-at.hops c.index-nodes-at.result c.loop-at-test.true there (sym c.in_default.ensures) c.loop-at.invariant mesh radio inv).same

pub returns-clause-value : goal.returns-clause-value
returns-clause-value c = λ mesh radio inv. (ends_there c.args.nodes.now c.args.from c.args.to c.requires.from c.loop-at.at c.loop-at.hops c.loop-at-test.false c.loop-at.invariant mesh radio inv).same

pub returns-in_default-clause-walk : goal.returns-in_default-clause-walk
returns-in_default-clause-walk c = λ mesh radio inv.
    let there = slice_get_read c.args.nodes.now _ c.loop-at.at c.index-nodes-at.result refl c.loop-at.invariant.within c.index-nodes-at.is in
    (ends_short c.args.nodes.now c.args.from c.args.to c.requires.from c.loop-at.at c.loop-at.hops c.index-nodes-at.result c.loop-at-test.true there (sym c.in_default.ensures) c.loop-at.invariant mesh radio inv).is

pub returns-clause-walk : goal.returns-clause-walk
returns-clause-walk c = λ mesh radio inv. (ends_there c.args.nodes.now c.args.from c.args.to c.requires.from c.loop-at.at c.loop-at.hops c.loop-at-test.false c.loop-at.invariant mesh radio inv).is
