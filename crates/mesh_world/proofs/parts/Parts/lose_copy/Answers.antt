use Rattle.std.proofs.Common.{ap, refl, sym, ◌∙◌, rules}
use Rattle.std.specs.Prelude.{is_some, option_map}
use Rattle.mesh_base.specs.declared.events.Flying.{Flying}
use Rattle.mesh_world.proofs.Arrivals.{found_seen, lose_done, lose_idle}
use Rattle.mesh_world.proofs.Moves.{of_ends}
use Rattle.mesh_world.proofs.Memory.{needs_lose, found_is_some}
use Rattle.mesh_world.proofs.CountsOfEvents.{told_done, told_short}
use Rattle.mesh_world.proofs.parts.Parts.lose_copy.Goals as goal

pub returns-in_default-clause-done : goal.returns-in_default-clause-done
returns-in_default-clause-done c = λ packet.
    let old = c.args.self.now in
    told_done _ _ _ _ _ _ _ _ (
    of_ends _ old _ _ _ _ _ _ (lose_idle old.mesh old.nodes.items old.radio old.ready old.steps c.args.id c.held.result packet c.requires.kept c.requires.few c.held.ensures c.in_default.is)
    ) c.tell.ensures.event_counts c.tell.ensures.left

pub remove_found-requires : goal.remove_found-requires
remove_found-requires c =
    ap (option_map (λ (f : Flying). f.to)) (found_seen c.args.self.now.radio c.args.id c.held.result c.in-Some.held c.held.ensures c.in-Some.is)

pub returns-clause-done : goal.returns-clause-done
returns-clause-done c = λ packet.
    let old = c.args.self.now in
    told_done _ _ _ _ _ _ _ _ (
    of_ends _ old _ _ _ _ _ _ (lose_done old.mesh old.nodes.items old.radio c.remove_found.new.self old.ready old.steps c.args.id c.held.result c.in-Some.held _ packet
    c.requires.kept c.requires.few c.held.ensures c.in-Some.is refl (c.in_ok-copy_of.ensures.copy ∙ c.as_slice.ensures) c.remove_found.ensures)
    ) c.tell-2.ensures.event_counts c.tell-2.ensures.left

pub returns-in_err-copy_of-clause-memory : goal.returns-in_err-copy_of-clause-memory
returns-in_err-copy_of-clause-memory c = λ short.
    let old = c.args.self.now in
    sym (needs_lose old.mesh old.nodes.items old.radio c.args.id _ refl) ∙ sym (found_is_some c.held.result _ c.held.ensures) ∙ ap is_some c.in-Some.is

pub returns-in_err-copy_of-clause-done : goal.returns-in_err-copy_of-clause-done
returns-in_err-copy_of-clause-done c = λ packet. told_short _ _ _ _ _ _ _ c.from_residual.ensures.1 (record { step = search rules; kept = search rules })
