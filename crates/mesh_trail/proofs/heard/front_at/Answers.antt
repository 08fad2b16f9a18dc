use Rattle.std.proofs.Common.{sym, ap, ◌∙◌, ℕ, List, ◌≡◌, ◌<◌, ◌≤◌, None, subst, length}
use Rattle.mesh_base.specs.Meshes.{Nodes}
use Rattle.mesh_base.specs.declared.events.Item.TheVariants as item
use Rattle.aodv_wire.specs.Encodes.{refusal}
use Rattle.aodv_meaning.specs.Meaning.{meaning}
use Rattle.mesh_trail.specs.Said.{said_of, IsSaidIn}
use Rattle.mesh_trail.specs.declared.heard.Front.TheVariants as fronts
use Rattle.mesh_trail.proofs.Fronts.{front_is, first_written, first_near}
use Rattle.mesh_trail.proofs.heard.front_at.Goals as goal

pub returns-in-Some-New-clause-value : goal.returns-in-Some-New-clause-value
returns-in-Some-New-clause-value c =
    sym (front_is c.args.world.now.mesh c.args.world.now.world.nodes c.args.x c.node.result.now c.inbox.result.now.items c.in-Some-New.field-0.now (item.New c.in-Some-New.field-0-0 c.in-Some-New.field-0-1)
    c.node.ensures.node c.inbox.ensures.items c.in-Some-New.ensures.front c.in-Some-New.field-0-is)

pub returns-in-Some-Heard-clause-value : goal.returns-in-Some-Heard-clause-value
returns-in-Some-Heard-clause-value c =
    let same = c.as_slice.ensures in
    let free = first_written c.args.world.now.mesh c.node.result.now c.inbox.result.now.items c.in-Some-Heard.field-0.now c.in-Some-Heard.from c.in-Some-Heard.bytes
    c.node.ensures.written c.inbox.ensures.items c.in-Some-Heard.ensures.front c.in-Some-Heard.field-0-is in
    let said = c.read_said.ensures.value (subst (λ (b : List ℕ). refusal b ≡ None) (sym same) free) in
    ap (fronts.Heard c.in-Some-Heard.from) (said ∙ (λ i. said_of (meaning (c.mesh-mesh.ensures.value i) (same i))))
    ∙ sym (front_is c.args.world.now.mesh c.args.world.now.world.nodes c.args.x c.node.result.now c.inbox.result.now.items c.in-Some-Heard.field-0.now (item.Heard c.in-Some-Heard.from c.in-Some-Heard.bytes)
    c.node.ensures.node c.inbox.ensures.items c.in-Some-Heard.ensures.front c.in-Some-Heard.field-0-is)

pub returns-in-Some-Heard-clause-within : goal.returns-in-Some-Heard-clause-within
returns-in-Some-Heard-clause-within c =
    let w = c.args.world.now in
    let sound = c.mesh-mesh.ensures.sound in
    let here = sound.invariant.in_mesh.nodes c.args.x _ c.node.ensures.node in
    let from = first_near w.mesh (length w.world.nodes) c.args.x c.node.result.now c.inbox.result.now.items c.in-Some-Heard.field-0.now c.in-Some-Heard.from c.in-Some-Heard.bytes here.queue c.inbox.ensures.items c.in-Some-Heard.ensures.front c.in-Some-Heard.field-0-is in (
      subst (λ (n : ℕ). c.in-Some-Heard.from < n) sound.count from,
      subst (λ (m : Nodes). IsSaidIn (length m) c.read_said.result) c.mesh-mesh.ensures.value (c.read_said.ensures.within (subst (λ (m : Nodes). 1 ≤ length m) (sym c.mesh-mesh.ensures.value) sound.some)),
    )
