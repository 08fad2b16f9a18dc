use Rattle.std.proofs.Common.{◌≡◌, ◌<◌, Some, length, refl, sym, subst, ◌∙◌, rules}
use Rattle.std.specs.Prelude.{slice_get}
use Rattle.std.proofs.lemmas.Option.{same_Some}
use Rattle.mesh_world.specs.Seen.{WorldSeen}
use Rattle.mesh_trail.specs.Heard.{IsFrontIn}
use Rattle.mesh_trail.specs.Steps.{IsPrepared, front_list}
use Rattle.mesh_trail.specs.declared.lists.Hand.{Hand}
use Rattle.mesh_trail.specs.declared.lists.NodeLists.{NodeLists}
use Rattle.mesh_trail.proofs.Known.{near_known, prepared_so}
use Rattle.mesh_trail.proofs.Nodes.{node_at}
use Rattle.mesh_trail.proofs.parts.Parts.prepare_node.Goals as goal

pub returns-clause-prepared : goal.returns-clause-prepared
returns-clause-prepared c =
    let p = c.make_room.new.self in
    let x = c.args.x in
    let front = c.args.front in
    let hand = c.prepare_hand.new.hand in
    let now : Hand = record hand { front = front; first = c.next_id-self.result; known = c.knows-self.result } in
    let kept = c.make_room.ensures.kept in
    let below = subst (λ (w : WorldSeen). x < length w.mesh) (sym c.make_room.ensures.world) c.requires.node in
    let n = c.index-lists.result.now in
    let at = node_at p.nodes.items p.world p.casts.items x n kept below c.index-lists.ensures in
    let prepared : (m : NodeLists) → slice_get p.nodes.items x ≡ Some m → IsPrepared x front m.entries.items (front_list m.queue.items) hand = λ m is. subst (λ (k : NodeLists). IsPrepared x front k.entries.items (front_list k.queue.items) hand) (same_Some n m (sym at ∙ is)) c.in_ok-prepare_hand.ensures in
    record {
      node = below;
      inside = subst (λ (w : WorldSeen). IsFrontIn (length w.mesh) front) (sym c.make_room.ensures.world) c.requires.front;
      waits = refl;
      lists = λ m is. prepared_so x front m.entries.items (front_list m.queue.items) hand now refl refl refl (prepared m is);
      known = λ m is. near_known p.world p.nodes.items p.casts.items x front m hand now kept is c.knows-self.ensures refl (prepared m is);
      cast = search rules;
    }
