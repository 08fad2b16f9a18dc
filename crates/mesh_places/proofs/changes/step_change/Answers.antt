use Rattle.std.proofs.Common.{◌∙◌, length, is_some, sym, ap, subst, arith}
use Rattle.mesh_base.specs.Meshes.{Nodes}
use Rattle.mesh_meaning.specs.Events.{event_of}
use Rattle.mesh_model.specs.InMesh.{IsEvent}
use Rattle.mesh_text.specs.Schedule.{RunState, world_of}
use Rattle.mesh_places.proofs.ChangeLaws.{begun_next, fills_nothing, is_event}
use Rattle.mesh_places.proofs.changes.step_change.Goals as goal
use Rattle.mesh_places.proofs.changes.step_change.Goals.{in-Ok, in-Err-NoMemory}

pub step_counted-requires-clause-made : goal.step_counted-requires-clause-made
step_counted-requires-clause-made c = ap (λ (m : RunState). is_some m.world) (c.at.view_is ∙ c.in_ok-begin.ensures.ok)

pub step_counted-requires-clause-event : goal.step_counted-requires-clause-event
step_counted-requires-clause-event c =
    let mesh = ap (λ (m : RunState). m.mesh) (c.at.view_is ∙ c.in_ok-begin.ensures.ok) in
    subst (λ (k : Nodes). IsEvent (length k) (event_of c.args.event.now)) (sym mesh) (is_event (length c.args.at.now.mesh) (event_of c.args.event.now) c.requires.change)

pub step_counted-requires-clause-few : goal.step_counted-requires-clause-few
step_counted-requires-clause-few c = let steps = ap (λ (m : RunState). m.steps) (c.at.view_is ∙ c.in_ok-begin.ensures.ok) in omega (arith, c.requires.few)

pub unreachable-requires : goal.unreachable-requires
unreachable-requires c =
    fills_nothing (length c.args.at.now.mesh) (world_of c.at.inside.state) (event_of c.args.event.now) _ _ c.requires.change (rw c.in-Err-Full.field-0-is at c.in-Err-Full.ensures.refused)

pub returns : goal.returns
returns c = record {
  run_state = elim c.match-step_counted.branch [
    | in-Ok w ↦ rw w.result-is (w.in-Ok.ensures.done.answer.run_state ∙ begun_next c.args.at.now c.at.inside.state (event_of c.args.event.now) (c.at.view_is ∙ c.in_ok-begin.ensures.ok))
    | in-Err-NoMemory w ↦ rw w.result-is tt
  ];
}
