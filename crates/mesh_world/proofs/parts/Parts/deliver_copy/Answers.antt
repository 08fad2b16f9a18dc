use Rattle.std.proofs.Common.{◌≡◌, ◌<◌, ◌+◌, ℕ, List, Option, length, Ok, ap, arith, refl, subst, sym, ◌∙◌}
use Rattle.mesh_world.proofs.Frames.{count_of, is_there, node_at, set_got_again, count_again, read_back}
use Rattle.mesh_world.proofs.Arrivals.{Joined, found_seen, joined, noted_joined, receiver_in, seen_flying, may_hear, deliver_done, deliver_idle, deliver_short}
use Rattle.mesh_world.proofs.Moves.{of_ends, at_end, changed, within}
use Rattle.std.specs.Prelude.{is_some, option_map, slice_get, slice_set, slice_index_or}
use Rattle.std.specs.Vec.{vec_len}
use Rattle.mesh_base.specs.declared.events.Item.TheVariants as item
use Rattle.mesh_base.specs.declared.events.Done.TheVariants as done
use Rattle.mesh_model.specs.Worlds.{Deliver}
use Rattle.mesh_radio.specs.Radios.{without_copy}
use Rattle.mesh_world.specs.Noted.{with_turn}
use Rattle.mesh_world.specs.Parts.{IsDoneTo}
use Rattle.mesh_world.specs.declared.parts.Parts.{Parts}
use Rattle.mesh_base.specs.declared.events.Flying.{Flying}
use Rattle.mesh_radio.specs.Copies.{find_copy, held_seen}
use Rattle.mesh_world.proofs.Memory.{needs_deliver, found_is_some}
use Rattle.mesh_world.proofs.CountsOfEvents.{told_done, told_short, told_still}
use Rattle.mesh_world.proofs.parts.Parts.deliver_copy.Goals as goal
use Rattle.mesh_world.proofs.parts.Parts.deliver_copy.Goals.{in-Some-clone_inline, in-None+in_ok-bytes-in-None}

pub returns-in_default-clause-done : goal.returns-in_default-clause-done
returns-in_default-clause-done c = λ packet.
    let old = c.args.self.now in
    told_done _ _ _ _ _ _ _ _ (
    of_ends _ old _ _ _ _ _ _ (deliver_idle old.mesh old.nodes.items old.radio old.ready old.steps c.args.id c.held.result packet c.requires.kept c.requires.few c.held.ensures c.in_default.is)
    ) c.tell.ensures.event_counts c.tell.ensures.left

pub index_mut-requires : goal.index_mut-requires
index_mut-requires c =
    let old = c.args.self.now in
    within old.nodes c.in-Some.held.to (length old.mesh) (count_of old.mesh old.nodes.items old.radio old.ready old.steps c.requires.kept)
    (receiver_in old.mesh old.nodes.items old.radio old.ready old.steps c.args.id c.held.result c.in-Some.held c.requires.kept c.held.ensures c.in-Some.is)

pub index_mut-requires-2 : goal.index_mut-requires-2
index_mut-requires-2 c =
    let old = c.args.self.now in
    let here : c.match-clone_inline.self ≡ changed old c.in-Some.held.to c.make_room.new.self old.radio = elim c.match-clone_inline.branch [
      | in-Some-clone_inline w ↦ w.self-is
      | in-None+in_ok-bytes-in-None w ↦ w.self-is
    ] in
    subst (λ (p : Parts). c.in-Some.held.to < vec_len p.nodes) (sym here)
    (within old.nodes c.in-Some.held.to (length old.mesh) (count_of old.mesh old.nodes.items old.radio old.ready old.steps c.requires.kept)
    (receiver_in old.mesh old.nodes.items old.radio old.ready old.steps c.args.id c.held.result c.in-Some.held c.requires.kept c.held.ensures c.in-Some.is))

pub hear-requires-clause-room : goal.hear-requires-clause-room
hear-requires-clause-room c =
    let old = c.args.self.now in
    let here : c.match-clone_inline.self ≡ changed old c.in-Some.held.to c.make_room.new.self old.radio = elim c.match-clone_inline.branch [
      | in-Some-clone_inline w ↦ w.self-is
      | in-None+in_ok-bytes-in-None w ↦ w.self-is
    ] in
    let room = ap (λ n. n.room) (read_back old.nodes.items c.in-Some.held.to c.make_room.new.self c.index_mut-2.result.now (is_there old.mesh old.nodes.items old.radio old.ready old.steps c.in-Some.held.to c.requires.kept (receiver_in old.mesh old.nodes.items old.radio old.ready old.steps c.args.id c.held.result c.in-Some.held c.requires.kept c.held.ensures c.in-Some.is)) (c.index_mut-2.ensures.value ∙ ap (λ (p : Parts). slice_index_or p.nodes.items c.in-Some.held.to c.index_mut-2.result.now) here)) in
    let some = c.in_ok-make_room.ensures.here in
    omega arith

pub hear-requires-clause-from : goal.hear-requires-clause-from
hear-requires-clause-from c =
    let old = c.args.self.now in
    let here : c.match-clone_inline.self ≡ changed old c.in-Some.held.to c.make_room.new.self old.radio = elim c.match-clone_inline.branch [
      | in-Some-clone_inline w ↦ w.self-is
      | in-None+in_ok-bytes-in-None w ↦ w.self-is
    ] in
    (may_hear old.mesh old.nodes.items old.radio old.ready old.steps c.args.id c.in-Some.held.to (held_seen c.in-Some.held) c.index_mut.result.now c.make_room.new.self c.index_mut-2.result.now
    c.requires.kept (node_at old.mesh old.nodes.items old.radio old.ready old.steps c.in-Some.held.to c.index_mut.result.now c.requires.kept (receiver_in old.mesh old.nodes.items old.radio old.ready old.steps c.args.id c.held.result c.in-Some.held c.requires.kept c.held.ensures c.in-Some.is) c.index_mut.ensures.value) (seen_flying old.mesh old.nodes.items old.radio old.ready old.steps c.args.id c.held.result c.in-Some.held c.requires.kept c.held.ensures c.in-Some.is) c.make_room.ensures.core c.make_room.ensures.size (read_back old.nodes.items c.in-Some.held.to c.make_room.new.self c.index_mut-2.result.now (is_there old.mesh old.nodes.items old.radio old.ready old.steps c.in-Some.held.to c.requires.kept (receiver_in old.mesh old.nodes.items old.radio old.ready old.steps c.args.id c.held.result c.in-Some.held c.requires.kept c.held.ensures c.in-Some.is)) (c.index_mut-2.ensures.value ∙ ap (λ (p : Parts). slice_index_or p.nodes.items c.in-Some.held.to c.index_mut-2.result.now) here))).0

pub hear-requires-clause-other : goal.hear-requires-clause-other
hear-requires-clause-other c =
    let old = c.args.self.now in
    let here : c.match-clone_inline.self ≡ changed old c.in-Some.held.to c.make_room.new.self old.radio = elim c.match-clone_inline.branch [
      | in-Some-clone_inline w ↦ w.self-is
      | in-None+in_ok-bytes-in-None w ↦ w.self-is
    ] in
    (may_hear old.mesh old.nodes.items old.radio old.ready old.steps c.args.id c.in-Some.held.to (held_seen c.in-Some.held) c.index_mut.result.now c.make_room.new.self c.index_mut-2.result.now
    c.requires.kept (node_at old.mesh old.nodes.items old.radio old.ready old.steps c.in-Some.held.to c.index_mut.result.now c.requires.kept (receiver_in old.mesh old.nodes.items old.radio old.ready old.steps c.args.id c.held.result c.in-Some.held c.requires.kept c.held.ensures c.in-Some.is) c.index_mut.ensures.value) (seen_flying old.mesh old.nodes.items old.radio old.ready old.steps c.args.id c.held.result c.in-Some.held c.requires.kept c.held.ensures c.in-Some.is) c.make_room.ensures.core c.make_room.ensures.size (read_back old.nodes.items c.in-Some.held.to c.make_room.new.self c.index_mut-2.result.now (is_there old.mesh old.nodes.items old.radio old.ready old.steps c.in-Some.held.to c.requires.kept (receiver_in old.mesh old.nodes.items old.radio old.ready old.steps c.args.id c.held.result c.in-Some.held c.requires.kept c.held.ensures c.in-Some.is)) (c.index_mut-2.ensures.value ∙ ap (λ (p : Parts). slice_index_or p.nodes.items c.in-Some.held.to c.index_mut-2.result.now) here))).1

pub end_with_item-requires-clause-node : goal.end_with_item-requires-clause-node
end_with_item-requires-clause-node c =
    let old = c.args.self.now in
    let here : c.match-clone_inline.self ≡ changed old c.in-Some.held.to c.make_room.new.self old.radio = elim c.match-clone_inline.branch [
      | in-Some-clone_inline w ↦ w.self-is
      | in-None+in_ok-bytes-in-None w ↦ w.self-is
    ] in
    let count = ap (λ (p : Parts). length (slice_set p.nodes.items c.in-Some.held.to c.hear.new.self)) here ∙ count_again old.mesh old.nodes.items old.radio old.ready old.steps c.in-Some.held.to c.make_room.new.self c.hear.new.self c.requires.kept in
    let l = (receiver_in old.mesh old.nodes.items old.radio old.ready old.steps c.args.id c.held.result c.in-Some.held c.requires.kept c.held.ensures c.in-Some.is) in
    omega arith

pub end_with_item-requires-clause-few : goal.end_with_item-requires-clause-few
end_with_item-requires-clause-few c =
    let old = c.args.self.now in
    let here : c.match-clone_inline.self ≡ changed old c.in-Some.held.to c.make_room.new.self old.radio = elim c.match-clone_inline.branch [
      | in-Some-clone_inline w ↦ w.self-is
      | in-None+in_ok-bytes-in-None w ↦ w.self-is
    ] in
    let count = ap (λ (p : Parts). length (slice_set p.nodes.items c.in-Some.held.to c.hear.new.self)) here ∙ count_again old.mesh old.nodes.items old.radio old.ready old.steps c.in-Some.held.to c.make_room.new.self c.hear.new.self c.requires.kept in
    let few = c.requires.kept.sound.mesh.few in
    omega arith

pub remove_found-requires : goal.remove_found-requires
remove_found-requires c =
    let old = c.args.self.now in
    let here : c.match-clone_inline.self ≡ changed old c.in-Some.held.to c.make_room.new.self old.radio = elim c.match-clone_inline.branch [
      | in-Some-clone_inline w ↦ w.self-is
      | in-None+in_ok-bytes-in-None w ↦ w.self-is
    ] in
    let receiver : Parts → Option ℕ = λ p. option_map (λ (f : Flying). f.to) (find_copy (p.radio).flying c.args.id) in
    ap receiver c.end_with_item.ensures.others ∙ ap receiver here
    ∙ ap (option_map (λ (f : Flying). f.to)) (found_seen old.radio c.args.id c.held.result c.in-Some.held c.held.ensures c.in-Some.is)

pub returns-clause-done : goal.returns-clause-done
returns-clause-done c = λ packet.
    let old = c.args.self.now in
    let here : c.match-clone_inline.self ≡ changed old c.in-Some.held.to c.make_room.new.self old.radio = elim c.match-clone_inline.branch [
      | in-Some-clone_inline w ↦ w.self-is
      | in-None+in_ok-bytes-in-None w ↦ w.self-is
    ] in
    let to = c.in-Some.held.to in
    let within = receiver_in old.mesh old.nodes.items old.radio old.ready old.steps c.args.id c.held.result c.in-Some.held c.requires.kept c.held.ensures c.in-Some.is in
    let there = is_there old.mesh old.nodes.items old.radio old.ready old.steps to c.requires.kept within in
    let at = ap (λ (p : Parts). slice_get (slice_set p.nodes.items to c.hear.new.self) to) here ∙ set_got_again old.nodes.items to c.make_room.new.self c.hear.new.self there in
    let at_first = node_at old.mesh old.nodes.items old.radio old.ready old.steps to c.index_mut.result.now c.requires.kept within c.index_mut.ensures.value in
    let same = read_back old.nodes.items to c.make_room.new.self c.index_mut-2.result.now there (c.index_mut-2.ensures.value ∙ ap (λ (p : Parts). slice_index_or p.nodes.items c.in-Some.held.to c.index_mut-2.result.now) here) in
    let bytes : c.match-clone_inline.bytes ≡ c.in-Some.held.bytes.now = elim c.match-clone_inline.branch [
      | in-Some-clone_inline w ↦ w.bytes-is ∙ w.in-Some-clone_inline.ensures.value
      | in-None+in_ok-bytes-in-None w ↦ w.bytes-is ∙ w.in_ok-bytes-in-None.ensures.copy ∙ w.as_slice.ensures
    ] in
    let j = subst (λ (bs : List ℕ). Joined c.index_mut.result.now c.hear.new.self (item.Heard c.in-Some.held.from bs)) bytes (joined c.index_mut.result.now c.index_mut-2.result.now c.hear.new.self _ (ap (λ n. n.core) same ∙ c.make_room.ensures.core) (ap (λ n. n.items) same ∙ c.make_room.ensures.items) (ap (λ n. n.size) same ∙ c.make_room.ensures.size) c.hear.ensures (c.end_with_item.ensures.sound c.hear.new.self at)) in
    told_done _ _ _ _ _ _ _ _ (
    at_end _ old (changed c.match-clone_inline.self to c.hear.new.self c.remove_found.new.self) (record c.end_with_item.new.self { radio = c.remove_found.new.self }) _ packet
    (ap (λ (p : Parts). record p { radio = c.remove_found.new.self }) c.end_with_item.ensures.others)
    (subst (λ (p : Parts). IsDoneTo (Deliver c.args.id) old (Ok (done.Heard c.in-Some.held.from to)) (record (changed p to c.hear.new.self c.remove_found.new.self) { steps = p.steps + 1; ready = c.end_with_item.new.self.ready }) packet) (sym here)
    (of_ends _ old _ _ _ _ _ _ (deliver_done old.mesh old.nodes.items old.radio c.remove_found.new.self old.ready c.end_with_item.new.self.ready old.steps c.args.id to (held_seen c.in-Some.held)
    c.index_mut.result.now c.make_room.new.self c.hear.new.self packet c.requires.kept c.requires.few (seen_flying old.mesh old.nodes.items old.radio old.ready old.steps c.args.id c.held.result c.in-Some.held c.requires.kept c.held.ensures c.in-Some.is) (c.remove_found.ensures ∙ ap (λ (p : Parts). without_copy p.radio c.args.id) c.end_with_item.ensures.others ∙ ap (λ (p : Parts). without_copy p.radio c.args.id) here) at_first j
    (noted_joined old.mesh old.nodes.items old.radio old.ready c.end_with_item.new.self.ready old.steps to c.index_mut.result.now c.hear.new.self _ c.requires.kept at_first j (c.end_with_item.ensures.ready ∙ ap (λ (p : Parts). with_turn p.ready to) here)))))
    ) c.tell-2.ensures.event_counts c.tell-2.ensures.left

pub returns-in_err-make_room-clause-memory : goal.returns-in_err-make_room-clause-memory
returns-in_err-make_room-clause-memory c = λ short.
    let old = c.args.self.now in
    sym (needs_deliver old.mesh old.nodes.items old.radio c.args.id _ refl) ∙ sym (found_is_some c.held.result _ c.held.ensures) ∙ ap is_some c.in-Some.is

pub returns-in_err-make_room-clause-done : goal.returns-in_err-make_room-clause-done
returns-in_err-make_room-clause-done c = λ packet. told_still _ c.args.self.now _ _ _ c.in-Some.held.to c.index_mut.result.now c.make_room.new.self packet c.index_mut.ensures.value c.in_err-make_room.ensures.refused c.from_residual.ensures.1 c.requires.kept

pub returns-in_err-bytes-in-None-clause-memory : goal.returns-in_err-bytes-in-None-clause-memory
returns-in_err-bytes-in-None-clause-memory c = λ short.
    let old = c.args.self.now in
    sym (needs_deliver old.mesh old.nodes.items old.radio c.args.id _ refl) ∙ sym (found_is_some c.held.result _ c.held.ensures) ∙ ap is_some c.in-Some.is

pub returns-in_err-bytes-in-None-clause-done : goal.returns-in_err-bytes-in-None-clause-done
returns-in_err-bytes-in-None-clause-done c = λ packet.
    let old = c.args.self.now in
    let to = c.in-Some.held.to in
    let within = receiver_in old.mesh old.nodes.items old.radio old.ready old.steps c.args.id c.held.result c.in-Some.held c.requires.kept c.held.ensures c.in-Some.is in
    let here = node_at old.mesh old.nodes.items old.radio old.ready old.steps to c.index_mut.result.now c.requires.kept within c.index_mut.ensures.value in
    told_short _ _ _ _ _ _ _ c.from_residual-in_err-bytes-in-None.ensures.1
    (of_ends _ old _ _ _ _ _ packet (deliver_short old.mesh old.nodes.items old.radio old.ready old.steps c.args.id to c.index_mut.result.now c.make_room.new.self packet c.requires.kept here c.index_mut.ensures.value
    (λ i. record { core = c.make_room.ensures.core i; items = c.make_room.ensures.items i; room = (c.make_room.new.self).room; size = c.make_room.ensures.size i })))
