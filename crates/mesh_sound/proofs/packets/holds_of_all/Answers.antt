use Rattle.std.proofs.Common.{◌≡◌, refl, sym, ◌∙◌, ◌≤◌, length, arith}
use Rattle.std.specs.List.{AllByRecursion}
use Rattle.std.proofs.lemmas.Option.{slice_get_read}
use Rattle.std.proofs.lemmas.Bool.{false≢true}
use Rattle.mesh_base.proofs.Lemmas.Lists.{each_at}
use Rattle.mesh_sound.specs.Packets.{InItem}
use Rattle.mesh_sound.specs.Claims.{Holds, IsReadable}
use Rattle.mesh_sound.proofs.Indices.{goes_on, ends}
use Rattle.mesh_sound.proofs.packets.holds_of_all.Goals as goal

pub holds_of_inbox-requires-clause-size : goal.holds_of_inbox-requires-clause-size
holds_of_inbox-requires-clause-size c =
    let here = slice_get_read c.args.nodes.now _ c.loop-node.node-index c.node-item.result refl c.loop-node-test.true c.node-item.is in
    each_at (λ n. n.size ≡ length c.args.nodes.now) c.args.nodes.now c.loop-node.node-index c.node-item.result c.requires.nodes.sizes here ∙ c.requires.nodes.count

pub holds_of_inbox-requires-clause-readable : goal.holds_of_inbox-requires-clause-readable
holds_of_inbox-requires-clause-readable c =
    let here = slice_get_read c.args.nodes.now _ c.loop-node.node-index c.node-item.result refl c.loop-node-test.true c.node-item.is in
    each_at (λ n. AllByRecursion (InItem (IsReadable c.args.claim c.args.mesh.now)) n.items) c.args.nodes.now c.loop-node.node-index c.node-item.result c.requires.readable.waits here

pub returns-then-not-holds_of_inbox : goal.returns-then-not-holds_of_inbox
returns-then-not-holds_of_inbox c =
    let here = slice_get_read c.args.nodes.now _ c.loop-node.node-index c.node-item.result refl c.loop-node-test.true c.node-item.is in (
      λ t. absurd (false≢true t),
      λ all. absurd (false≢true (sym c.if-not-holds_of_inbox.true
          ∙ c.holds_of_inbox.ensures.1 (each_at (λ n. AllByRecursion (InItem (Holds c.args.claim c.args.mesh.now c.args.nodes.now)) n.items) c.args.nodes.now c.loop-node.node-index c.node-item.result all.waits here))),
    )

pub loop-node-preserved : goal.loop-node-preserved
loop-node-preserved c =
    let here = slice_get_read c.args.nodes.now _ c.loop-node.node-index c.node-item.result refl c.loop-node-test.true c.node-item.is in
    goes_on (λ n. AllByRecursion (InItem (Holds c.args.claim c.args.mesh.now c.args.nodes.now)) n.items) c.args.nodes.now c.loop-node.node-index c.node-item.result here
    (c.holds_of_inbox.ensures.0 c.if-not-holds_of_inbox.false) c.loop-node.invariant

pub returns : goal.returns
returns c =
    let end : length c.args.nodes.now ≤ c.loop-node.node-index = (let last = c.loop-node-test.false in omega arith) in (
      λ t. record {
        waits = ends (λ n. AllByRecursion (InItem (Holds c.args.claim c.args.mesh.now c.args.nodes.now)) n.items) c.args.nodes.now c.loop-node.node-index end c.loop-node.invariant;
        flies = c.holds_of_copies.ensures.0 t;
      },
      λ all. c.holds_of_copies.ensures.1 all.flies,
    )
