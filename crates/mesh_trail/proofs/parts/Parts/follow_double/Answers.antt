use Rattle.std.proofs.Common.{◌≡◌, ◌<◌, ◌≤◌, ◌∙◌, arith}
use Rattle.mesh_trail.specs.declared.casts.Cast.{Cast}
use Rattle.mesh_trail.proofs.Sends.{doubled, undoubled}
use Rattle.mesh_trail.proofs.parts.Parts.follow_double.Goals as goal

pub returns-then-first-end-clause-kept : goal.returns-then-first-end-clause-kept
returns-then-first-end-clause-kept c =
    let p = c.args.self.now in
    let old = c.requires.3.0 in
    let a = c.requires.3.1 in
    let first : p.hand.first ≡ old.world.next_copy = a.prepared.cast.first in
    let end : c.next_id-end.result ≡ p.world.world.next_copy = c.next_id-end.ensures ∙ c.radio.ensures.next in
    let less : old.world.next_copy < p.world.world.next_copy = let test = c.if-first-end.true in omega arith in
    let cast : Cast = record { first = p.hand.first; end = c.next_id-end.result; list = c.replace-list.result } in
    doubled c.requires.0 old p.world c.requires.1 c.requires.2 p.nodes.items p.casts.items c.push_reserved.new.self.items cast a.sound a.step less c.push_reserved.ensures.items first end (c.replace-list.ensures.value ∙ a.prepared.list) a.kept

pub returns-else-first-end-clause-kept : goal.returns-else-first-end-clause-kept
returns-else-first-end-clause-kept c =
    let p = c.args.self.now in
    let old = c.requires.3.0 in
    let a = c.requires.3.1 in
    let first : p.hand.first ≡ old.world.next_copy = a.prepared.cast.first in
    let end : c.next_id-end.result ≡ p.world.world.next_copy = c.next_id-end.ensures ∙ c.radio.ensures.next in
    let less : p.world.world.next_copy ≤ old.world.next_copy = let test = c.if-first-end.false in omega arith in
    undoubled c.requires.0 old p.world c.requires.1 c.requires.2 p.nodes.items p.casts.items a.sound a.step less a.kept
