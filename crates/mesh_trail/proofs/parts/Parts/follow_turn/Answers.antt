use Rattle.std.proofs.Common.{◌≡◌, ◌<◌, ◌≤◌, length, sym, ap, subst, ◌∙◌, arith}
use Rattle.std.specs.Prelude.{slice_get, reverse}
use Rattle.aodv_meaning.specs.Meaning.{meaning}
use Rattle.mesh_model.specs.Walks.{table}
use Rattle.mesh_model.specs.Worlds.{Turn}
use Rattle.mesh_trail.specs.Said.{said_of}
use Rattle.mesh_trail.specs.Heard.{IsFrontIn, front_of}
use Rattle.mesh_trail.specs.Steps.{IsPrepared, front_list, sent_after}
use Rattle.mesh_trail.specs.declared.casts.Cast.{Cast}
use Rattle.mesh_trail.specs.declared.heard.Front.{Front}
use Rattle.mesh_trail.proofs.Moves.{after_done}
use Rattle.mesh_trail.proofs.Nodes.{node_at}
use Rattle.mesh_trail.proofs.Sends.{cast_done, none_done}
use Rattle.mesh_trail.proofs.Turns.{Took, Turned, turned}
use Rattle.mesh_trail.proofs.parts.Parts.follow_turn.Goals as goal

pub returns-then-first-end-clause-kept : goal.returns-then-first-end-clause-kept
returns-then-first-end-clause-kept c =
    let p = c.args.self.now in
    let x = c.args.x in
    let e = Turn x in
    let d = c.args.done.now in
    let out = c.args.out.now.items in
    let old = c.requires.0 in
    let a = c.requires.1 in
    let r = a.prepared in
    let n = c.index_mut-lists.result.now in
    let at = node_at p.nodes.items old p.casts.items x n a.kept r.node c.index_mut-lists.ensures.value in
    let front = p.hand.front in
    let waits : front ≡ front_of (slice_get old.world.nodes x) = r.waits in
    let now = c.take_front.new.lists in
    let prepared = subst (λ (f : Front). IsPrepared x f n.entries.items (front_list n.queue.items) p.hand) (sym waits) (r.lists n at) in
    let took : Took x (table p.world.world x) front p.hand n now = record { prepared = prepared; queue = c.take_front.ensures.queue; rows = c.take_front.ensures.rows } in
    let inside = subst (IsFrontIn (length old.mesh)) (sym waits) r.inside in
    let t : Turned x old p.world d out p.nodes.items p.casts.items front n now = turned x old p.world d out p.nodes.items p.casts.items n now p.hand front a.kept r.node at a.step (sym c.if-is_idle.ensures) waits inside took in
    let first : p.hand.first ≡ old.world.next_copy = r.cast.first in
    let end : c.next_id-end.result ≡ p.world.world.next_copy = c.next_id-end.ensures ∙ c.radio.ensures.next in
    let less : old.world.next_copy < p.world.world.next_copy = let test = c.if-first-end.true in omega arith in
    let cast : Cast = record { first = p.hand.first; end = c.next_id-end.result; list = c.list_for-list.result } in
    let mesh : p.world.mesh ≡ old.mesh = (after_done e old p.world d out a.step).mesh in
    let list = c.take_front.ensures.taken in
    cast_done e old p.world x d out p.nodes.items _ p.casts.items c.push_reserved.new.self.items cast t.list a.sound a.step t.makes t.go less c.push_reserved.ensures.items first end
    (λ free. ap reverse (c.list_for-list.ensures free ∙ (λ i. sent_after x front now.entries.items (list i) (said_of (meaning (mesh i) out)))) ∙ t.said (meaning old.mesh out)) a.kept

pub returns-else-first-end-clause-kept : goal.returns-else-first-end-clause-kept
returns-else-first-end-clause-kept c =
    let p = c.args.self.now in
    let x = c.args.x in
    let e = Turn x in
    let d = c.args.done.now in
    let out = c.args.out.now.items in
    let old = c.requires.0 in
    let a = c.requires.1 in
    let r = a.prepared in
    let n = c.index_mut-lists.result.now in
    let at = node_at p.nodes.items old p.casts.items x n a.kept r.node c.index_mut-lists.ensures.value in
    let front = p.hand.front in
    let waits : front ≡ front_of (slice_get old.world.nodes x) = r.waits in
    let now = c.take_front.new.lists in
    let prepared = subst (λ (f : Front). IsPrepared x f n.entries.items (front_list n.queue.items) p.hand) (sym waits) (r.lists n at) in
    let took : Took x (table p.world.world x) front p.hand n now = record { prepared = prepared; queue = c.take_front.ensures.queue; rows = c.take_front.ensures.rows } in
    let inside = subst (IsFrontIn (length old.mesh)) (sym waits) r.inside in
    let t : Turned x old p.world d out p.nodes.items p.casts.items front n now = turned x old p.world d out p.nodes.items p.casts.items n now p.hand front a.kept r.node at a.step (sym c.if-is_idle.ensures) waits inside took in
    let first : p.hand.first ≡ old.world.next_copy = r.cast.first in
    let end : c.next_id-end.result ≡ p.world.world.next_copy = c.next_id-end.ensures ∙ c.radio.ensures.next in
    let less : p.world.world.next_copy ≤ old.world.next_copy = let test = c.if-first-end.false in omega arith in
    none_done e old p.world x d out p.nodes.items _ p.casts.items t.list a.sound a.step t.makes t.go less a.kept
