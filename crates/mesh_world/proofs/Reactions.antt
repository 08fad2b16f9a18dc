-- What a node does, and the cast of it, is the model's step of the world.
use Rattle.std.proofs.Common.{◌≡◌, ℕ, ◌<◌, ◌≤◌, ◌+◌, ◌^◌, List, [], ◌∷◌, ◌++◌, map, length, refl, ap, sym, ◌∙◌, subst, arith}
use Rattle.std.specs.Prelude.{slice_set, IfSome}
use Rattle.std.specs.List.{AllByRecursion}
use Rattle.std.proofs.lemmas.List.{length-map}
use Rattle.std.specs.FinSet as sets
use Rattle.mesh_base.specs.Members.{NodeIds}
use Rattle.mesh_base.specs.Meshes.{Nodes}
use Rattle.mesh_base.specs.declared.events.Effect as code
use Rattle.mesh_base.specs.declared.events.Air.{Air}
use Rattle.mesh_base.specs.declared.events.Cast as cast
use Rattle.aodv_model.specs.Handlers.{Reaction, Cast, Effect}
use Rattle.aodv_model.specs.Soundness.{IsCastInMesh}
use Rattle.aodv_model.specs.Soundness as sound
use Rattle.aodv_meaning.specs.Effects.{item_in, cast_of, effect_of}
use Rattle.aodv_meaning.specs.Sent.{IsPacket}
use Rattle.aodv_node.specs.Seen.{NodeSeen}
use Rattle.mesh_model.specs.Worlds.{range, linked_below, members_below, receivers, copies, copies_of, done_by}
use Rattle.mesh_model.proofs.MeshSteps.{range_has}
use Rattle.mesh_model.proofs.Lists.{each_append}
use Rattle.mesh_radio.specs.Copies as radio
use Rattle.mesh_radio.specs.Radios.{RadioState, with_copies}
use Rattle.mesh_meaning.specs.Packets.{IsWrittenCopy, copy_in}
use Rattle.mesh_meaning.specs.Answers.{cast_in, effect_in, copies_in, IsCastWritten, IsEffectInMesh}
use Rattle.mesh_world.specs.Seen.{node_in}
use Rattle.mesh_world.specs.Kept.{Ready, IsKept, IsKeptNode, world_in}
use Rattle.mesh_world.specs.Noted.{ready_with}
use Rattle.mesh_world.specs.Parts.{near_receivers}
use Rattle.mesh_world.proofs.Receivers.{reached_near}
use Rattle.mesh_world.proofs.Frames.{Beside, map-set, each_set, count_of}
use Rattle.mesh_world.proofs.Casts.{Flies, flies, flights_length}
use Rattle.mesh_world.proofs.ReadySets.{noted_ready}

-- the nodes in range
pub near_is : (mesh : Nodes) (nodes : List NodeSeen) (radio : RadioState) (ready : Ready) (steps x : ℕ) (near : NodeIds) → IsKept mesh nodes radio ready steps → near ≡ linked_below radio.links x radio.size → near ≡ range (world_in mesh nodes radio) x
unfolding world_in range
near_is mesh nodes radio ready steps x near k e = e ∙ ap (linked_below radio.links x) (k.size ∙ sym (k.sound).count)

pub near_below : (mesh : Nodes) (nodes : List NodeSeen) (radio : RadioState) (ready : Ready) (steps x : ℕ) (near : NodeIds) → IsKept mesh nodes radio ready steps → near ≡ range (world_in mesh nodes radio) x → sound.AreBelow (length mesh) near
near_below mesh nodes radio ready steps x near k e q t =
    subst (λ (n : ℕ). q < n) (k.sound).count (range_has (world_in mesh nodes radio) x q (ap (λ (s : NodeIds). sets.contains s q) (sym e) ∙ t)).0

-- what node x did, by the reaction of the model
pub record Acts (mesh : Nodes) (x : ℕ) (new : NodeSeen) (reaction : Reaction) (effect : code.Effect) (out : List ℕ) : Type 0 where
  pub core : new.core ≡ reaction.core
  pub did : effect ≡ effect_of reaction.effect
  pub packet : IsPacket mesh out (reaction.effect).cast
  pub cast : IsCastInMesh (length mesh) (reaction.effect).cast
  pub aimed : sound.IsEffectInMesh (length mesh) reaction.effect
  pub kept : IsKeptNode mesh new

-- what the radio did for it
pub record Sends (mesh : Nodes) (x : ℕ) (near : NodeIds) (effect : code.Effect) (out : List ℕ) (air : Air) (old new : RadioState) : Type 0 where
  pub radio : new ≡ with_copies old x out (near_receivers mesh near effect.cast out)
  pub answer : air ≡ record { first = old.next_copy; to = near_receivers mesh near effect.cast out }
  pub few : new.next_copy ≤ old.next_copy + 200

-- what came of both
pub record Comes (mesh : Nodes) (nodes : List NodeSeen) (radio : RadioState) (ready : Ready) (steps x : ℕ) (new : NodeSeen) (reaction : Reaction) (effect : code.Effect) (out : List ℕ) (air : Air) (radio' : RadioState) : Type 0 where
  pub world : done_by (world_in mesh nodes radio) x reaction (map (item_in mesh) new.items) ≡ world_in mesh (slice_set nodes x new) radio'
  pub copies : copies (world_in mesh nodes radio) x (reaction.effect).cast ≡ copies_in mesh x effect.cast air out
  pub means : reaction.effect ≡ effect_in mesh effect out
  pub in_mesh : IsEffectInMesh mesh effect air out
  pub beside : Beside mesh (slice_set nodes x new) radio' (ready_with ready x new (length mesh)) (steps + 1)

map-append : {A B : Type 0} (f : A → B) (xs ys : List A) → map f (xs ++ ys) ≡ map f xs ++ map f ys
map-append f [] ys = refl
map-append f (x ∷ xs) ys = ap (λ zs. f x ∷ zs) (map-append f xs ys)

-- the receivers, by either cast
same_reached : (mesh : Nodes) (near : NodeIds) (e : code.Effect) (effect : Effect) (out : List ℕ) → e ≡ effect_of effect → cast_in mesh (cast_of effect.cast) out ≡ effect.cast → near_receivers mesh near e.cast out ≡ receivers near effect.cast
same_reached mesh near e effect out is means = ap (λ (k : code.Effect). near_receivers mesh near k.cast out) is ∙ ap (receivers near) means

-- the world after it, where the copies are those of the radio
made : (mesh : Nodes) (nodes : List NodeSeen) (old new : RadioState) (x : ℕ) (n : NodeSeen) (reaction : Reaction) (out : List ℕ) (to : NodeIds) → n.core ≡ reaction.core
    → copies (world_in mesh nodes old) x (reaction.effect).cast ≡ map (copy_in mesh) (radio.copies_to (members_below old.size to) old.next_copy x out) → new ≡ with_copies old x out to
    → done_by (world_in mesh nodes old) x reaction (map (item_in mesh) n.items) ≡ world_in mesh (slice_set nodes x n) new
unfolding world_in done_by
made mesh nodes old new x n reaction out to core_is copies_are sent =
    let tos = members_below old.size to in
    let cs = copies (world_in mesh nodes old) x (reaction.effect).cast in
    let fs = radio.copies_to tos old.next_copy x out in
    let count : length cs ≡ length tos = ap length copies_are ∙ length-map fs (copy_in mesh) ∙ flights_length tos old.next_copy x out in
    let node : record { core = reaction.core; queue = map (item_in mesh) n.items } ≡ node_in mesh n = λ i. record { core = sym core_is i; queue = map (item_in mesh) n.items } in
    let ns : slice_set (map (node_in mesh) nodes) x (record { core = reaction.core; queue = map (item_in mesh) n.items }) ≡ map (node_in mesh) (slice_set nodes x n) =
    ap (slice_set (map (node_in mesh) nodes) x) node ∙ sym (map-set (node_in mesh) nodes x n) in
    let flying : map (copy_in mesh) old.flying ++ cs ≡ map (copy_in mesh) (old.flying ++ fs) =
    ap (λ zs. map (copy_in mesh) old.flying ++ zs) copies_are ∙ sym (map-append (copy_in mesh) old.flying fs) in
    (λ i. record { nodes = ns i; links = old.links; ever = old.ever; flying = flying i; next_copy = old.next_copy + count i })
    ∙ ap (world_in mesh (slice_set nodes x n)) (sym sent)

world_copies : (mesh : Nodes) (nodes : List NodeSeen) (old : RadioState) (ready : Ready) (steps x : ℕ) (near : NodeIds) (c : Cast) → IsKept mesh nodes old ready steps → near ≡ range (world_in mesh nodes old) x
    → copies (world_in mesh nodes old) x c ≡ copies_of c (members_below (length mesh) (receivers near c)) old.next_copy x
unfolding copies world_in
world_copies mesh nodes old ready steps x near c k near_is =
    λ i. copies_of c (members_below ((k.sound).count i) (receivers (sym near_is i) c)) old.next_copy x

said_copies : (mesh : Nodes) (old : RadioState) (x : ℕ) (ec : cast.Cast) (c : Cast) (near : NodeIds) (out : List ℕ) (air : Air) (to : NodeIds) → cast_in mesh ec out ≡ c → to ≡ receivers near c → air ≡ record { first = old.next_copy; to = to }
    → copies_of c (members_below (length mesh) (receivers near c)) old.next_copy x ≡ copies_in mesh x ec air out
unfolding copies_in
said_copies mesh old x ec c near out air to casts to_is air_is =
    (λ i. copies_of (sym casts i) (members_below (length mesh) (sym to_is i)) old.next_copy x) ∙ ap (λ (r : Air). copies_of (cast_in mesh ec out) (members_below (length mesh) r.to) r.first x) (sym air_is)

pub comes : (mesh : Nodes) (nodes : List NodeSeen) (old new : RadioState) (ready : Ready) (steps x : ℕ) (near : NodeIds) (n : NodeSeen) (reaction : Reaction) (effect : code.Effect) (out : List ℕ) (air : Air)
    → IsKept mesh nodes old ready steps → steps < 2 ^ 48 → x < length mesh → near ≡ range (world_in mesh nodes old) x → Acts mesh x n reaction effect out → Sends mesh x near effect out air old new
    → Comes mesh nodes old ready steps x n reaction effect out air new
comes mesh nodes old new ready steps x near n reaction effect out air k few l near_is a s =
    let c = (reaction.effect).cast in
    let w = world_in mesh nodes old in
    let f : Flies mesh near c old.next_copy x out = flies mesh near c old.next_copy x out (k.sound).mesh a.cast (a.aimed).cast a.packet in
    let to : NodeIds = near_receivers mesh near effect.cast out in
    let to_is : to ≡ receivers near c = same_reached mesh near effect reaction.effect out a.did f.means in
    let casts : cast_in mesh effect.cast out ≡ c = ap (λ (e : code.Effect). cast_in mesh e.cast out) a.did ∙ f.means in
    let tos_are : members_below old.size to ≡ members_below (length mesh) (receivers near c) = λ i. members_below (k.size i) (to_is i) in
    let copies_are : copies w x c ≡ map (copy_in mesh) (radio.copies_to (members_below old.size to) old.next_copy x out) =
    world_copies mesh nodes old ready steps x near c k near_is ∙ sym f.shown ∙ ap (λ (tos : List ℕ). map (copy_in mesh) (radio.copies_to tos old.next_copy x out)) (sym tos_are) in
    record {
      world = made mesh nodes old new x n reaction out to a.core copies_are s.radio;
      copies = world_copies mesh nodes old ready steps x near c k near_is ∙ said_copies mesh old x effect.cast c near out air to casts to_is s.answer;
      means = λ i. record { deliver = (sym a.did i).deliver; lost = (sym a.did i).lost; broken = (sym a.did i).broken; cast = sym casts i };
      in_mesh = record {
        broken = subst (λ (e : code.Effect). IfSome e.broken (λ y. y < length mesh)) (sym a.did) (a.aimed).broken;
        cast = subst (λ (e : code.Effect). IsCastWritten mesh e.cast out) (sym a.did) f.in_mesh;
        receivers = subst (λ (r : Air). sound.AreBelow (length mesh) r.to) (sym s.answer)
            (λ q t. near_below mesh nodes old ready steps x near k near_is q (reached_near mesh near effect.cast out to refl q t));
        few = subst (λ (r : Air). r.first + 200 < 2 ^ 64) (sym s.answer) (let numbers = k.numbers in omega arith);
      };
      beside = record {
        each = each_set (IsKeptNode mesh) nodes x n k.each a.kept;
        flying = subst (λ (r : RadioState). AllByRecursion (IsWrittenCopy mesh) r.flying) (sym s.radio)
            (each_append (IsWrittenCopy mesh) old.flying _ k.flying (subst (λ (tos : List ℕ). AllByRecursion (IsWrittenCopy mesh) (radio.copies_to tos old.next_copy x out)) (sym tos_are) f.written));
        size = ap (λ (r : RadioState). r.size) s.radio ∙ k.size;
        numbers = (let numbers = k.numbers in let more = s.few in omega arith);
        sets = noted_ready mesh nodes ready x n k.sets (let c = count_of mesh nodes old ready steps k in omega arith);
      };
    }
