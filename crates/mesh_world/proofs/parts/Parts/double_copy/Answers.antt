use Rattle.std.proofs.Common.{ap, refl, sym, ◌∙◌, rules}
use Rattle.std.specs.Prelude.{is_some}
use Rattle.aodv_wire.specs.Encodes.{is_data}
use Rattle.mesh_world.proofs.Doublings.{double_done, double_idle}
use Rattle.mesh_world.proofs.Moves.{of_ends}
use Rattle.mesh_world.proofs.Memory.{needs_double, found_is_some}
use Rattle.mesh_world.proofs.CountsOfEvents.{told_done, told_short}
use Rattle.mesh_world.proofs.parts.Parts.double_copy.Goals as goal

pub returns-in_default-clause-done : goal.returns-in_default-clause-done
returns-in_default-clause-done c = λ packet.
    let old = c.args.self.now in
    told_done _ _ _ _ _ _ _ _ (
    of_ends _ old _ _ _ _ _ _ (double_idle old.mesh old.nodes.items old.radio old.ready old.steps c.args.id c.held.result packet c.requires.kept c.requires.few c.held.ensures c.in_default.is)
    ) c.tell.ensures.event_counts c.tell.ensures.left

pub returns-clause-done : goal.returns-clause-done
returns-clause-done c = λ packet.
    let old = c.args.self.now in
    told_done _ _ _ _ _ _ _ _ (
    of_ends _ old _ _ _ _ _ _ (double_done old.mesh old.nodes.items old.radio c.make_room.new.self c.double.new.self old.ready old.steps c.args.id c.in-Some-double.id c.in-Some-double.to c.is_data-parcel.result
    c.held.result c.in-Some.held c.double.result packet c.requires.kept c.requires.few c.held.ensures c.in-Some.is (c.is_data-parcel.ensures ∙ ap is_data c.as_slice.ensures) c.make_room.ensures.same c.double.ensures.given c.in-Some-double.is c.double.ensures.doubled)
    ) c.tell-2.ensures.event_counts c.tell-2.ensures.left

pub returns-in_err-make_room-clause-memory : goal.returns-in_err-make_room-clause-memory
returns-in_err-make_room-clause-memory c = λ short.
    let old = c.args.self.now in
    sym (needs_double old.mesh old.nodes.items old.radio c.args.id _ refl) ∙ sym (found_is_some c.held.result _ c.held.ensures) ∙ ap is_some c.in-Some.is

pub returns-in_err-make_room-clause-done : goal.returns-in_err-make_room-clause-done
returns-in_err-make_room-clause-done c = λ packet. told_short _ _ _ _ _ _ _ c.from_residual.ensures.1 (record { step = search rules; kept = search rules })
