use Rattle.std.proofs.Common.{refl, sym, ap, ◌∙◌, ◌≤◌, length, arith, List}
use Rattle.std.proofs.lemmas.Bool.{false≢true}
use Rattle.std.specs.Prelude.{slice_get}
use Rattle.mesh_base.specs.declared.events.Item.{Item}
use Rattle.mesh_base.proofs.Lemmas.Lists.{each_at}
use Rattle.aodv_node.specs.Seen.{IsItemAt}
use Rattle.mesh_sound.specs.Packets.{InItem}
use Rattle.mesh_sound.specs.Claims.{Holds, IsReadable}
use Rattle.mesh_sound.proofs.Indices.{goes_on, ends}
use Rattle.mesh_sound.proofs.Items.{item_near}
use Rattle.mesh_sound.proofs.packets.holds_of_inbox.Goals as goal

pub holds_of_item-requires-clause-from : goal.holds_of_item-requires-clause-from
holds_of_item-requires-clause-from c =
    let n = c.args.node.now in
    let here = ap (λ (is : List Item). slice_get is c.loop-k.k) (sym c.inbox-inbox.ensures.items) ∙ c.at.ensures.value in
    item_near n.size n.core.ip (length c.args.mesh.now) c.at.result.now c.requires.size (each_at (IsItemAt n.size n.core.ip) n.items c.loop-k.k c.at.result.now c.sn-number.ensures.sound.each here)

pub holds_of_item-requires-clause-readable : goal.holds_of_item-requires-clause-readable
holds_of_item-requires-clause-readable c =
    let here = ap (λ (is : List Item). slice_get is c.loop-k.k) (sym c.inbox-inbox.ensures.items) ∙ c.at.ensures.value in
    each_at (InItem (IsReadable c.args.claim c.args.mesh.now)) c.args.node.now.items c.loop-k.k c.at.result.now c.requires.readable here

pub returns-then-not-holds_of_item : goal.returns-then-not-holds_of_item
returns-then-not-holds_of_item c =
    let here = ap (λ (is : List Item). slice_get is c.loop-k.k) (sym c.inbox-inbox.ensures.items) ∙ c.at.ensures.value in (
      λ t. absurd (false≢true t),
      λ all. absurd (false≢true (sym c.if-not-holds_of_item.true
          ∙ c.holds_of_item.ensures.1 (each_at (InItem (Holds c.args.claim c.args.mesh.now c.args.nodes.now)) c.args.node.now.items c.loop-k.k c.at.result.now all here))),
    )

pub loop-k-preserved : goal.loop-k-preserved
loop-k-preserved c =
    let here = ap (λ (is : List Item). slice_get is c.loop-k.k) (sym c.inbox-inbox.ensures.items) ∙ c.at.ensures.value in
    goes_on (InItem (Holds c.args.claim c.args.mesh.now c.args.nodes.now)) c.args.node.now.items c.loop-k.k c.at.result.now here
    (c.holds_of_item.ensures.0 c.if-not-holds_of_item.false) c.loop-k.invariant

pub returns : goal.returns
returns c =
    let end : length c.args.node.now.items ≤ c.loop-k.k = (let size = ap length c.inbox-inbox.ensures.items in let count = c.len-k-end.ensures.value in let last = c.loop-k-test.false in omega arith) in
    (λ _. ends (InItem (Holds c.args.claim c.args.mesh.now c.args.nodes.now)) c.args.node.now.items c.loop-k.k end c.loop-k.invariant, λ _. refl)
