use Rattle.std.proofs.Common.{◌≡◌, List, false, true, length, refl, ap, subst, ◌∙◌}
use Rattle.std.specs.List.{AllByRecursion}
use Rattle.aodv_node.specs.Seen.{NodeSeen, IsSoundNode}
use Rattle.mesh_world.specs.Kept.{IsReadyFor}
use Rattle.mesh_world.specs.Restored.{AreSoundParts, IsFirstPart}
use Rattle.mesh_world.proofs.Restoring.{are_of, not_sound, remade, remade_seen}
use Rattle.mesh_world.proofs.world.World.from_parts.Goals as goal

different : false ≡ true → ⊥
different e = cc

pub first_unsound-requires-clause-nodes : goal.first_unsound-requires-clause-nodes
first_unsound-requires-clause-nodes c = rw (c.deref.ensures.value ∙ c.into_vec-nodes.ensures) (are_of c.args.mesh.now c.args.variant c.args.nodes.nodes c.requires.nodes)

pub returns-in-Some-clause-sound : goal.returns-in-Some-clause-sound
returns-in-Some-clause-sound c = (
  λ t. absurd (different t),
  λ sound. absurd (not_sound c.args.mesh.now c.args.nodes.nodes c.args.radio.flying c.in-Some.part
      (subst (λ (ns : List NodeSeen). IsFirstPart c.args.mesh.now ns c.args.radio.flying c.in-Some.part) (c.deref.ensures.value ∙ c.into_vec-nodes.ensures) c.in-Some.ensures.some) sound),
)

pub returns-in-Some-clause-part : goal.returns-in-Some-clause-part
returns-in-Some-clause-part c = subst (λ (ns : List NodeSeen). IsFirstPart c.args.mesh.now ns c.args.radio.flying c.in-Some.part) (c.deref.ensures.value ∙ c.into_vec-nodes.ensures) c.in-Some.ensures.some

pub ready_for-ready-requires : goal.ready_for-ready-requires
ready_for-ready-requires c = ap length (c.deref-2.ensures.value ∙ c.into_vec-nodes.ensures) ∙ c.requires.nodes.count

pub invariant_of-result : goal.invariant_of-result
invariant_of-result c =
    let mesh = c.args.mesh.now in
    let radio = c.args.radio in
    let first = c.deref.ensures.value ∙ c.into_vec-nodes.ensures in
    let second = c.deref-2.ensures.value ∙ c.into_vec-nodes.ensures in
    let parts : AreSoundParts mesh c.args.nodes.nodes radio.flying = subst (λ (ns : List NodeSeen). AreSoundParts mesh ns radio.flying) first c.in_default.ensures.none in
    remade mesh c.copy.result c.args.variant c.args.nodes.nodes c.into_vec-nodes.result.items radio c.ready_for-ready.result c.args.steps c.copy.ensures c.into_vec-nodes.ensures
    (record {
      is_mesh = c.len-nodes.ensures.is_mesh;
      some = c.requires.some;
      are = c.requires.nodes;
      each = subst (AllByRecursion IsSoundNode) second c.ready_for-ready.ensures.sound;
      size = c.requires.size;
      between = c.count-copies.ensures.between;
      numbered = c.count-copies.ensures.numbered;
      linked = c.count-copies.ensures.linked;
      parts = parts;
    })
    (c.requires.few parts.written) c.requires.steps c.requires.next
    (subst (λ (ns : List NodeSeen). IsReadyFor mesh ns c.ready_for-ready.result) second c.ready_for-ready.ensures.ready)

pub returns-clause-world : goal.returns-clause-world
returns-clause-world c = remade_seen c.args.mesh.now c.copy.result c.args.nodes.nodes c.into_vec-nodes.result.items c.args.radio c.args.steps c.copy.ensures c.into_vec-nodes.ensures

pub returns-clause-sound : goal.returns-clause-sound
returns-clause-sound c = (
  λ _. subst (λ (ns : List NodeSeen). AreSoundParts c.args.mesh.now ns c.args.radio.flying) (c.deref.ensures.value ∙ c.into_vec-nodes.ensures) c.in_default.ensures.none,
  λ _. refl,
)
