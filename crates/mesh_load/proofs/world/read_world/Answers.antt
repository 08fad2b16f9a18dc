use Rattle.std.proofs.Common.{ℕ, subst, inl, inr, refl}
use Rattle.std.proofs.lemmas.Result.{err_from_is_err_and}
use Rattle.mesh_restore.specs.RadioParts.{radio_part}
use Rattle.mesh_restore.specs.Reading.{Refuses}
use Rattle.mesh_load.proofs.WorldParts.{parts_read, kept_of, nodes_refused, radio_part_refused, item_unsound, are_nodes, few_data, made, part_unsound}
use Rattle.mesh_load.proofs.world.read_world.Goals as goal
use Rattle.mesh_load.proofs.world.read_world.Goals.{then-not-in_place-via-then-not-in_place, then-not-in_place-via-else-not-in_place+then-not-apart}

pub returns-in_err-nodes : goal.returns-in_err-nodes
returns-in_err-nodes c =
    let p = err_from_is_err_and c.from_residual.result c.from_residual.ensures.1 in
    rw (p.1, p.2) (nodes_refused c.args.mesh.now c.args.variant c.in-Some.steps c.args.bytes.now c.in-Some.rest.now c.in_err-nodes.field-0.0 c.in-Some.ensures.value c.in_err-nodes.ensures)

pub returns-in_err-radio : goal.returns-in_err-radio
returns-in_err-radio c =
    let p = err_from_is_err_and c.from_residual-in_err-radio.result c.from_residual-in_err-radio.ensures.1 in
    let refused = subst (λ (n : ℕ). Refuses c.in_err-radio.field-0.0 ((radio_part n).get c.in_ok-nodes.rest.now)) c.len.ensures.value c.in_err-radio.ensures in
    rw (p.1, p.2) (radio_part_refused c.args.mesh.now c.args.variant c.in-Some.steps c.args.bytes.now c.in-Some.rest.now c.in_ok-nodes.rest.now (c.in_ok-nodes.ensures).lists c.in_err-radio.field-0.0 c.in-Some.ensures.value (c.in_ok-nodes.ensures).read_is refused)

pub returns-then-not-in_place : goal.returns-then-not-in_place
returns-then-not-in_place c =
    let parts = parts_read c.args.mesh.now c.args.variant c.args.bytes.now c.in-Some.steps (c.in_ok-nodes.nodes).nodes c.in_ok-nodes.in_place c.in_ok-radio.radio c.in_ok-radio.apart c.in-Some.rest.now c.in_ok-nodes.rest.now c.in_ok-radio.field-0-2.now c.len.result c.len.ensures.value c.in-Some.ensures.value c.in_ok-nodes.ensures c.in_ok-radio.ensures in
    elim c.then-not-in_place.branch [
      | then-not-in_place-via-then-not-in_place w ↦ item_unsound c.args.mesh.now c.args.variant c.args.bytes.now c.in-Some.steps (c.in_ok-nodes.nodes).nodes c.in_ok-nodes.in_place c.in_ok-radio.radio c.in_ok-radio.apart parts (inl w.if-not-in_place.true)
      | then-not-in_place-via-else-not-in_place+then-not-apart w ↦ item_unsound c.args.mesh.now c.args.variant c.args.bytes.now c.in-Some.steps (c.in_ok-nodes.nodes).nodes c.in_ok-nodes.in_place c.in_ok-radio.radio c.in_ok-radio.apart parts (inr w.if-not-apart.true)
    ]

pub from_parts-requires-clause-nodes : goal.from_parts-requires-clause-nodes
from_parts-requires-clause-nodes c =
    let k = kept_of c.args.mesh.now c.args.variant c.args.bytes.now c.in-Some.steps (c.in_ok-nodes.nodes).nodes c.in_ok-nodes.in_place c.in_ok-radio.radio c.in_ok-radio.apart c.in-Some.rest.now c.in_ok-nodes.rest.now c.in_ok-radio.field-0-2.now c.len.result c.len.ensures.value c.in-Some.ensures.value c.in_ok-nodes.ensures c.in_ok-radio.ensures c.if-not-in_place.false c.if-not-apart.false in
    are_nodes c.args.mesh.now c.args.variant (k.found).nodes (c.in_ok-nodes.nodes).nodes k.listed_are k.count

pub from_parts-requires-clause-few : goal.from_parts-requires-clause-few
from_parts-requires-clause-few c =
    let k = kept_of c.args.mesh.now c.args.variant c.args.bytes.now c.in-Some.steps (c.in_ok-nodes.nodes).nodes c.in_ok-nodes.in_place c.in_ok-radio.radio c.in_ok-radio.apart c.in-Some.rest.now c.in_ok-nodes.rest.now c.in_ok-radio.field-0-2.now c.len.result c.len.ensures.value c.in-Some.ensures.value c.in_ok-nodes.ensures c.in_ok-radio.ensures c.if-not-in_place.false c.if-not-apart.false in
    few_data c.args.mesh.now c.args.variant c.args.bytes.now c.in-Some.steps (c.in_ok-nodes.nodes).nodes c.in_ok-radio.radio k c.requires.fitting

pub returns-in-Ok : goal.returns-in-Ok
returns-in-Ok c =
    let k = kept_of c.args.mesh.now c.args.variant c.args.bytes.now c.in-Some.steps (c.in_ok-nodes.nodes).nodes c.in_ok-nodes.in_place c.in_ok-radio.radio c.in_ok-radio.apart c.in-Some.rest.now c.in_ok-nodes.rest.now c.in_ok-radio.field-0-2.now c.len.result c.len.ensures.value c.in-Some.ensures.value c.in_ok-nodes.ensures c.in_ok-radio.ensures c.if-not-in_place.false c.if-not-apart.false in
    made c.args.mesh.now c.args.variant c.args.bytes.now c.in-Some.steps (c.in_ok-nodes.nodes).nodes c.in_ok-radio.radio c.in-Ok.world k c.count-copies.ensures.between (c.in-Ok.ensures.sound.0 refl) c.requires.fitting c.in-Ok.ensures.world

pub returns-in-Err : goal.returns-in-Err
returns-in-Err c =
    let k = kept_of c.args.mesh.now c.args.variant c.args.bytes.now c.in-Some.steps (c.in_ok-nodes.nodes).nodes c.in_ok-nodes.in_place c.in_ok-radio.radio c.in_ok-radio.apart c.in-Some.rest.now c.in_ok-nodes.rest.now c.in_ok-radio.field-0-2.now c.len.result c.len.ensures.value c.in-Some.ensures.value c.in_ok-nodes.ensures c.in_ok-radio.ensures c.if-not-in_place.false c.if-not-apart.false in
    part_unsound c.args.mesh.now c.args.variant c.args.bytes.now c.in-Some.steps (c.in_ok-nodes.nodes).nodes c.in_ok-radio.radio c.in-Err.part k c.count-copies.ensures.between c.in-Err.ensures.part
