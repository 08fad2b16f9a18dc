use Rattle.std.proofs.Common.{◌≡◌, ◌<◌, ◌≤◌, ap, ◌∙◌, arith}
use Rattle.mesh_base.specs.Meshes.{Nodes}
use Rattle.aodv_meaning.specs.Meaning.{meaning}
use Rattle.mesh_trail.specs.Said.{said_of}
use Rattle.mesh_trail.specs.Steps.{sent_after}
use Rattle.mesh_trail.specs.declared.casts.Cast.{Cast}
use Rattle.mesh_trail.specs.declared.heard.Front.TheVariants as fronts
use Rattle.mesh_trail.proofs.Moves.{after_done}
use Rattle.mesh_trail.proofs.Prepared.{own_prepared}
use Rattle.mesh_trail.proofs.Sends.{own_none, own_sent}
use Rattle.mesh_trail.proofs.parts.Parts.follow_own.Goals as goal

pub returns-then-first-end-clause-kept : goal.returns-then-first-end-clause-kept
returns-then-first-end-clause-kept c =
    let p = c.args.self.now in
    let e = c.requires.0 in
    let did = c.requires.1 in
    let own = c.requires.2 in
    let old = c.requires.3.0 in
    let a = c.requires.3.1 in
    let out = c.args.out.now.items in
    let first : p.hand.first ≡ old.world.next_copy = (own_prepared c.args.x e old p own a.prepared).cast.first in
    let end : c.next_id-end.result ≡ p.world.world.next_copy = c.next_id-end.ensures ∙ c.radio.ensures.next in
    let less : old.world.next_copy < p.world.world.next_copy = let test = c.if-first-end.true in omega arith in
    let mesh : p.world.mesh ≡ old.mesh = (after_done e old p.world did out a.step).mesh in
    let cast : Cast = record { first = p.hand.first; end = c.next_id-end.result; list = c.list_for-list.result } in
    let rows = c.index-lists.result.now.entries.items in
    own_sent c.args.x e old p.world did out p.nodes.items p.casts.items c.push_reserved.new.self.items cast rows p.hand.taken own a.sound a.step less c.push_reserved.ensures.items first end
    (λ free. c.list_for-list.ensures free ∙ ap (λ (m : Nodes). sent_after c.args.x fronts.New rows p.hand.taken (said_of (meaning m out))) mesh) a.kept

pub returns-else-first-end-clause-kept : goal.returns-else-first-end-clause-kept
returns-else-first-end-clause-kept c =
    let p = c.args.self.now in
    let e = c.requires.0 in
    let own = c.requires.2 in
    let old = c.requires.3.0 in
    let a = c.requires.3.1 in
    let first : p.hand.first ≡ old.world.next_copy = (own_prepared c.args.x e old p own a.prepared).cast.first in
    let end : c.next_id-end.result ≡ p.world.world.next_copy = c.next_id-end.ensures ∙ c.radio.ensures.next in
    let less : p.world.world.next_copy ≤ old.world.next_copy = let test = c.if-first-end.false in omega arith in
    own_none c.args.x e old p.world c.requires.1 c.args.out.now.items p.nodes.items p.casts.items own a.sound a.step less a.kept
