use Rattle.std.proofs.Common.{◌≡◌, ◌<◌, ◌+◌, ◌^◌, refl, ap, ◌∙◌, arith}
use Rattle.std.proofs.lemmas.Option.{slice_get_read}
use Rattle.mesh_world.specs.Counted.{waiting_at, queued_in}
use Rattle.mesh_world.proofs.Counts.{data_flying, flying_means, counts_waiting_fits, counts_queued_fits, counts_waiting, counts_queued}
use Rattle.mesh_world.proofs.totals.count_data.Goals as goal

pub count_waiting-waiting-requires : goal.count_waiting-waiting-requires
count_waiting-waiting-requires c =
    let there = slice_get_read c.args.nodes.now _ c.loop-node.node-index c.node-item.result refl c.loop-node-test.true c.node-item.is in
    let fits : c.loop-node.waiting + waiting_at c.node-item.result < 2 ^ 64 = counts_waiting_fits c.requires.few.0 c.args.nodes.now c.args.radio.now c.requires.few.1 c.loop-node.node-index c.loop-node.waiting c.loop-node.queued c.node-item.result there c.loop-node.invariant in
    omega arith

pub overflow_add-waiting : goal.overflow_add-waiting
overflow_add-waiting c =
    let there = slice_get_read c.args.nodes.now _ c.loop-node.node-index c.node-item.result refl c.loop-node-test.true c.node-item.is in
    let fits : c.loop-node.waiting + waiting_at c.node-item.result < 2 ^ 64 = counts_waiting_fits c.requires.few.0 c.args.nodes.now c.args.radio.now c.requires.few.1 c.loop-node.node-index c.loop-node.waiting c.loop-node.queued c.node-item.result there c.loop-node.invariant in
    let is : c.count_waiting-waiting.result ≡ waiting_at c.node-item.result = c.count_waiting-waiting.ensures in
    omega arith

pub count_queued-queued-requires : goal.count_queued-queued-requires
count_queued-queued-requires c =
    let there = slice_get_read c.args.nodes.now _ c.loop-node.node-index c.node-item.result refl c.loop-node-test.true c.node-item.is in
    let fits : c.loop-node.queued + queued_in c.node-item.result.items < 2 ^ 64 = counts_queued_fits c.requires.few.0 c.args.nodes.now c.args.radio.now c.requires.few.1 c.loop-node.node-index c.loop-node.waiting c.loop-node.queued c.node-item.result there c.loop-node.invariant in
    let same : queued_in c.inbox.result.now.items ≡ queued_in c.node-item.result.items = ap queued_in c.inbox.ensures.items in
    omega arith

pub overflow_add-queued : goal.overflow_add-queued
overflow_add-queued c =
    let there = slice_get_read c.args.nodes.now _ c.loop-node.node-index c.node-item.result refl c.loop-node-test.true c.node-item.is in
    let fits : c.loop-node.queued + queued_in c.node-item.result.items < 2 ^ 64 = counts_queued_fits c.requires.few.0 c.args.nodes.now c.args.radio.now c.requires.few.1 c.loop-node.node-index c.loop-node.waiting c.loop-node.queued c.node-item.result there c.loop-node.invariant in
    let is : c.count_queued-queued.result ≡ queued_in c.node-item.result.items = c.count_queued-queued.ensures ∙ ap queued_in c.inbox.ensures.items in
    omega arith

pub returns-clause-waiting : goal.returns-clause-waiting
returns-clause-waiting c = λ mesh are. counts_waiting mesh c.args.nodes.now c.args.radio.now are c.loop-node.node-index c.loop-node.waiting c.loop-node.queued (omega (arith, c.loop-node-test.false)) c.loop-node.invariant

pub returns-clause-queued : goal.returns-clause-queued
returns-clause-queued c = λ mesh are. counts_queued mesh c.args.nodes.now c.args.radio.now are c.loop-node.node-index c.loop-node.waiting c.loop-node.queued (omega (arith, c.loop-node-test.false)) c.loop-node.invariant

pub returns-clause-flying : goal.returns-clause-flying
returns-clause-flying c = λ mesh are. c.data_count.ensures ∙ data_flying c.args.radio.now.flying ∙ flying_means mesh c.args.nodes.now c.args.radio.now are
