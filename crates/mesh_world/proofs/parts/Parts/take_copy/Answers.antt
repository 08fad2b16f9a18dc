use Rattle.std.specs.Prelude.{slice_get, slice_index_or}
use Rattle.std.proofs.Common.{◌≡◌, ◌≢◌, ◌<◌, ◌+◌, ℕ, List, Option, Some, length, ap, arith, refl, subst, sym, ◌∙◌}
use Rattle.std.specs.Vec.{with_item}
use Rattle.mesh_base.specs.declared.events.Done.TheVariants as done
use Rattle.mesh_base.specs.declared.events.Took.TheVariants as takes
use Rattle.aodv_node.specs.Seen.{NodeSeen, IsSoundNode}
use Rattle.aodv_node.specs.Turned.{IsTaken, hearing, heard_done}
use Rattle.mesh_model.specs.Worlds.{World, linked_below}
use Rattle.mesh_radio.specs.Copies.{held_seen}
use Rattle.mesh_radio.specs.Radios.{RadioState}
use Rattle.mesh_radio.specs.declared.copies.Held.{Held}
use Rattle.mesh_base.specs.Meshes.{Nodes}
use Rattle.mesh_world.specs.Parts.{AreKept}
use Rattle.mesh_world.specs.Kept.{IsKept, seen_of}
use Rattle.mesh_world.specs.Noted.{with_turn}
use Rattle.mesh_world.specs.declared.parts.Parts.{Parts}
use Rattle.mesh_world.proofs.Frames.{began, count_set, is_there, node_at, roomed, roomed_shown, set_back, set_got, size_at, count_of}
use Rattle.mesh_world.proofs.Moves.{after_cast, changed, noted_before, of_ends, sound_before, still_few, still_within}
use Rattle.mesh_world.proofs.Moves as moves
use Rattle.mesh_world.proofs.Arrivals.{IsFound, Seen, seen_flying, may_hear}
use Rattle.mesh_world.proofs.AtOnce.{empty_at, next_is, delivered, taken}
use Rattle.mesh_world.proofs.parts.Parts.take_copy.Goals as goal

-- node `to`, which a copy from there reaches
record Reached (mesh : Nodes) (nodes : List NodeSeen) (sender to : ℕ) (n : NodeSeen) : Type 0 where
  at : slice_get nodes to ≡ Some n
  size : n.size ≡ length mesh
  from : sender < n.size
  other : sender ≢ (n.core).ip

-- the copy that is held is in flight to a node
record Receives (old : Parts) (radio : RadioState) (id : ℕ) (held : Held) : Type 0 where
  kept : IsKept old.mesh (old.nodes).items radio old.ready old.steps
  seen : Seen old.mesh radio id held.to (held_seen held)
  within : held.to < length old.mesh
  count : length (old.nodes).items ≡ length old.mesh
  node : (n : NodeSeen) → n ≡ slice_index_or (old.nodes).items held.to n → Reached old.mesh (old.nodes).items held.from held.to n

receives : (old : Parts) (radio : RadioState) (id : ℕ) (o : Option Held) (held : Held) → AreKept old → radio ≡ record old.radio { room = radio.room; most = radio.most } → IsFound o radio id → o ≡ Some held → Receives old radio id held
receives old radio id o held kept rooms found some =
    let mesh = old.mesh in
    let nodes = (old.nodes).items in
    let k = roomed mesh nodes old.radio radio old.ready old.steps rooms kept in
    let seen = seen_flying mesh nodes radio old.ready old.steps id o held k found some in
    let within : held.to < length mesh = (seen.flies).to in
    record {
      kept = k;
      seen = seen;
      within = within;
      count = count_of mesh nodes radio old.ready old.steps k;
      node = λ n is.
          let at = node_at mesh nodes radio old.ready old.steps held.to n k within is in
          let may = may_hear mesh nodes radio old.ready old.steps id held.to (held_seen held) n n n k at seen refl refl refl in
          record { at = at; size = sym (size_at mesh nodes radio old.ready old.steps held.to n k within is); from = may.0; other = may.1 };
    }

-- where nothing came of it, only rooms were made
shown : (old : Parts) (nodes : List NodeSeen) (radio : RadioState) → nodes ≡ (old.nodes).items → radio ≡ record old.radio { room = radio.room; most = radio.most }
    → seen_of old.mesh nodes radio old.steps ≡ seen_of old.mesh (old.nodes).items old.radio old.steps
shown old nodes radio same rooms =
    ap (λ (ns : List NodeSeen). seen_of old.mesh ns radio old.steps) same
    ∙ ap (λ (w : World). record { mesh = old.mesh; world = w; steps = old.steps }) (roomed_shown old.mesh (old.nodes).items old.radio radio rooms)

pub returns-in_default-clause-none : goal.returns-in_default-clause-none
returns-in_default-clause-none c = λ none.
    let old = c.args.self.now in
    (shown old old.nodes.items c.make_room.new.self refl c.make_room.ensures.same, roomed old.mesh old.nodes.items old.radio c.make_room.new.self old.ready old.steps c.make_room.ensures.same c.requires.kept)

pub range-range-requires : goal.range-range-requires
range-range-requires c =
    let r = receives c.args.self.now c.make_room.new.self c.args.id c.held.result c.in-Some.held c.requires.kept c.make_room.ensures.same c.held.ensures c.in-Some.is in
    let l = r.within in
    let size = r.kept.size in
    omega arith

pub index_mut-requires : goal.index_mut-requires
index_mut-requires c =
    let r = receives c.args.self.now c.make_room.new.self c.args.id c.held.result c.in-Some.held c.requires.kept c.make_room.ensures.same c.held.ensures c.in-Some.is in
    moves.within c.args.self.now.nodes c.in-Some.held.to (length c.args.self.now.mesh) r.count r.within

pub turn_on-heard-requires-clause-mesh : goal.turn_on-heard-requires-clause-mesh
turn_on-heard-requires-clause-mesh c =
    let r = receives c.args.self.now c.make_room.new.self c.args.id c.held.result c.in-Some.held c.requires.kept c.make_room.ensures.same c.held.ensures c.in-Some.is in
    sym (r.node c.index_mut.result.now c.index_mut.ensures.value).size

pub turn_on-heard-requires-clause-from : goal.turn_on-heard-requires-clause-from
turn_on-heard-requires-clause-from c =
    let r = receives c.args.self.now c.make_room.new.self c.args.id c.held.result c.in-Some.held c.requires.kept c.make_room.ensures.same c.held.ensures c.in-Some.is in
    (r.node c.index_mut.result.now c.index_mut.ensures.value).from

pub turn_on-heard-requires-clause-other : goal.turn_on-heard-requires-clause-other
turn_on-heard-requires-clause-other c =
    let r = receives c.args.self.now c.make_room.new.self c.args.id c.held.result c.in-Some.held c.requires.kept c.make_room.ensures.same c.held.ensures c.in-Some.is in
    (r.node c.index_mut.result.now c.index_mut.ensures.value).other

pub turn_on-heard-requires-clause-empty : goal.turn_on-heard-requires-clause-empty
turn_on-heard-requires-clause-empty c =
    let r = receives c.args.self.now c.make_room.new.self c.args.id c.held.result c.in-Some.held c.requires.kept c.make_room.ensures.same c.held.ensures c.in-Some.is in
    empty_at c.args.self.now.mesh c.args.self.now.nodes.items c.args.self.now.radio c.in-Some.held.to c.index_mut.result.now c.requires.idle (r.node c.index_mut.result.now c.index_mut.ensures.value).at

pub returns-in-Err-clause-none : goal.returns-in-Err-clause-none
returns-in-Err-clause-none c = λ none.
    let old = c.args.self.now in
    let r = receives c.args.self.now c.make_room.new.self c.args.id c.held.result c.in-Some.held c.requires.kept c.make_room.ensures.same c.held.ensures c.in-Some.is in
    let n = c.index_mut.result.now in
    let back = set_back old.nodes.items c.in-Some.held.to n c.turn_on-heard.new.self (r.node n c.index_mut.ensures.value).at c.in-Err.ensures.turn.2 in
    (shown old _ c.make_room.new.self back c.make_room.ensures.same, subst (λ (ns : List NodeSeen). IsKept old.mesh ns c.make_room.new.self old.ready old.steps) (sym back) r.kept)

pub cast-requires-clause-node : goal.cast-requires-clause-node
cast-requires-clause-node c =
    let r = receives c.args.self.now c.make_room.new.self c.args.id c.held.result c.in-Some.held c.requires.kept c.make_room.ensures.same c.held.ensures c.in-Some.is in
    let l = r.within in
    let size = r.kept.size in
    subst (λ (radio : RadioState). c.in-Some.held.to < radio.size) (sym c.remove.ensures) (omega arith)

pub end_at-requires-clause-node : goal.end_at-requires-clause-node
end_at-requires-clause-node c =
    let old = c.args.self.now in
    let to = c.in-Some.held.to in
    let r = receives c.args.self.now c.make_room.new.self c.args.id c.held.result c.in-Some.held c.requires.kept c.make_room.ensures.same c.held.ensures c.in-Some.is in
    let pre : Parts = record (changed old to c.turn_on-heard.new.self c.remove.new.self) { steps = old.steps + 1 } in
    let count = count_set old.mesh old.nodes.items old.radio old.ready old.steps to c.turn_on-heard.new.self c.requires.kept in
    still_within pre c.cast.new.self to (length old.mesh) c.cast.ensures.others count r.within

pub end_at-requires-clause-few : goal.end_at-requires-clause-few
end_at-requires-clause-few c =
    let old = c.args.self.now in
    let to = c.in-Some.held.to in
    let pre : Parts = record (changed old to c.turn_on-heard.new.self c.remove.new.self) { steps = old.steps + 1 } in
    let count = count_set old.mesh old.nodes.items old.radio old.ready old.steps to c.turn_on-heard.new.self c.requires.kept in
    still_few pre c.cast.new.self (length old.mesh) c.cast.ensures.others count c.requires.kept.sound.mesh.few

pub returns-clause-taken : goal.returns-clause-taken
returns-clause-taken c =
    let old = c.args.self.now in
    let mesh = old.mesh in
    let nodes = old.nodes.items in
    let radio = c.make_room.new.self in
    let held = c.in-Some.held in
    let to = held.to in
    let r = receives c.args.self.now c.make_room.new.self c.args.id c.held.result c.in-Some.held c.requires.kept c.make_room.ensures.same c.held.ensures c.in-Some.is in
    let k = r.kept in
    let within = r.within in
    let n = c.index_mut.result.now in
    let at = (r.node n c.index_mut.ensures.value).at in
    let seen = r.seen in
    let pre : Parts = record (changed old to c.turn_on-heard.new.self c.remove.new.self) { steps = old.steps + 1 } in
    let count = count_set mesh nodes old.radio old.ready old.steps to c.turn_on-heard.new.self c.requires.kept in
    let new = c.turn_on-heard.new.self in
    let out = c.turn_on-heard.new.out.items in
    let near = c.range-range.result in
    let p = c.in-Ok.done in
    let h = hearing n held.from held.bytes.now in
    let there = is_there mesh nodes old.radio old.ready old.steps to c.requires.kept within in
    let none = empty_at mesh nodes old.radio to n c.requires.idle at in
    let few = c.requires.few in
    let first = delivered mesh nodes radio c.remove.new.self old.ready old.steps c.args.id to (held_seen held) n out k (omega arith) seen c.remove.ensures at none in
    let written = set_got nodes to new there in
    let took : IsTaken mesh near h (heard_done held.from held.bytes.now p) new out =
    subst (λ (bs : List ℕ). IsTaken mesh near (hearing n held.from bs) (heard_done held.from bs p) new out) c.as_slice-bytes.ensures c.in-Ok.ensures.turn in
    let second = taken mesh nodes c.remove.new.self c.cast.new.self.radio old.ready c.end_at.new.self.ready (old.steps + 1) to near h new (heard_done held.from held.bytes.now p) out c.cast.result first.kept few within there
    (c.range-range.ensures.value ∙ ap (λ (r : RadioState). linked_below r.links to r.size) (sym c.remove.ensures))
    (sound_before IsSoundNode pre c.cast.new.self to new c.cast.ensures.others written c.end_at.ensures.sound)
    took
    (record { radio = c.cast.ensures.radio; answer = c.cast.ensures.air; few = c.cast.ensures.few })
    (noted_before pre c.cast.new.self c.end_at.new.self.ready to (length mesh) new c.cast.ensures.others written count c.end_at.ensures.ready) in
    let between : Parts = record { mesh = mesh; nodes = with_item old.nodes to h; radio = c.remove.new.self; ready = with_turn old.ready to; steps = old.steps + 1 } in
    record {
      from = held.from;
      between = between;
      mesh = refl;
      delivered = of_ends _ old (with_item old.nodes to h) _ _ _ _ _ (began _ mesh nodes old.radio radio old.steps _ _ _ _ _ out c.make_room.ensures.same first);
      within = within;
      next = next_is mesh nodes old.radio c.remove.new.self to h c.requires.idle there refl;
      answer = done.Taken (takes.Heard held.from p.0 held.bytes.now) p.1 c.cast.result;
      taken = after_cast _ between pre c.cast.new.self c.end_at.new.self _ _ c.cast.ensures.others c.end_at.ensures.others
          (of_ends _ between (with_item old.nodes to new) _ _ _ _ _ second);
      counted = c.counts_of_heard.ensures held.from held.bytes.now c.cast.result;
    }
