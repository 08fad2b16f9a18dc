use Rattle.std.proofs.Common.{◌≡◌, ◌∙◌, ℕ, List, [], ◌∷◌, true, Result, Ok, Err, sym, ap, subst}
use Rattle.std.specs.Prelude.{IfSome, OnErr, OnOk}
use Rattle.std.specs.Io.KnownBytes.{Appends}
use Rattle.mesh_base.specs.declared.events.Event.{Event as EventGiven}
use Rattle.mesh_base.specs.Meshes.{Nodes}
use Rattle.mesh_io.specs.Puts.{AppendsPrefix}
use Rattle.mesh_model.specs.Worlds.{World, Event}
use Rattle.mesh_meaning.specs.Events.{event_of, node_of}
use Rattle.mesh_meaning.specs.Answers.{outcome_in, IsDoneInMesh}
use Rattle.mesh_text.specs.Schedule.{RunState, Does, world_of}
use Rattle.mesh_text.specs.Effects.{outcome_lines}
use Rattle.mesh_script.specs.Seen.{IsPrintable}
use Rattle.mesh_script.specs.declared.line.Line.TheVariants as line
use Rattle.mesh_run.specs.RunStates.{IsAnswer, IsRefusal}
use Rattle.mesh_run.specs.Stops.{answer_of}
use Rattle.mesh_run.specs.Runs.{IsLineOf, IsLineRun, line_outcome_at}
use Rattle.mesh_run.specs.declared.stop.EventStop.{EventStop}
use Rattle.mesh_run.proofs.Events.{answer_goes, answer_front, answer_mesh, refusal_stops}
use Rattle.mesh_run.proofs.Ways.{reached_none, reached_one}
use Rattle.mesh_run.proofs.commands.do_event.Goals as goal
use Rattle.mesh_run.proofs.commands.do_event.Goals.{in-Ok, in-Err-say_event}

pub say_event-requires-clause-printable : goal.say_event-requires-clause-printable
say_event-requires-clause-printable g c =
    let told = c.step_counted.ensures.left c.if-not-say.false in
    let here = subst (λ r. OnOk r (IsAnswer c.at.inside.state (event_of c.args.event.now) c.step_counted.new.answer c.step_counted.new.self c.step_counted.new.out.items)) c.in_default.is told in
    let is = subst (λ (m : RunState). IsAnswer m (event_of c.args.event.now) c.step_counted.new.answer c.step_counted.new.self c.step_counted.new.out.items) c.at.view_is here in
    let same : c.mesh-mesh.result.now ≡ c.args.at.now.mesh = c.mesh-mesh.ensures.value ∙ answer_mesh c.args.at.now c.step_counted.new.self (event_of c.args.event.now) c.step_counted.new.answer c.step_counted.new.out.items is in
    subst (λ (m : Nodes). IsPrintable m (line.Step c.args.event.now)) (sym same) c.requires.printable

pub say_event-requires-clause-in_mesh : goal.say_event-requires-clause-in_mesh
say_event-requires-clause-in_mesh g c =
    let told = c.step_counted.ensures.left c.if-not-say.false in
    let here = subst (λ r. OnOk r (IsAnswer c.at.inside.state (event_of c.args.event.now) c.step_counted.new.answer c.step_counted.new.self c.step_counted.new.out.items)) c.in_default.is told in
    let is = subst (λ (m : RunState). IsAnswer m (event_of c.args.event.now) c.step_counted.new.answer c.step_counted.new.self c.step_counted.new.out.items) c.at.view_is here in
    let same : c.mesh-mesh.result.now ≡ c.args.at.now.mesh = c.mesh-mesh.ensures.value ∙ answer_mesh c.args.at.now c.step_counted.new.self (event_of c.args.event.now) c.step_counted.new.answer c.step_counted.new.out.items is in
    subst (λ (m : Nodes). IsDoneInMesh m c.step_counted.new.answer c.step_counted.new.out.items) (sym same) is.in_mesh

pub say_event-requires-clause-echo : goal.say_event-requires-clause-echo
say_event-requires-clause-echo g c =
    let told = c.step_counted.ensures.left c.if-not-say.false in
    let here = subst (λ r. OnOk r (IsAnswer c.at.inside.state (event_of c.args.event.now) c.step_counted.new.answer c.step_counted.new.self c.step_counted.new.out.items)) c.in_default.is told in
    let is = subst (λ (m : RunState). IsAnswer m (event_of c.args.event.now) c.step_counted.new.answer c.step_counted.new.self c.step_counted.new.out.items) c.at.view_is here in
    let same : c.mesh-mesh.result.now ≡ c.args.at.now.mesh = c.mesh-mesh.ensures.value ∙ answer_mesh c.args.at.now c.step_counted.new.self (event_of c.args.event.now) c.step_counted.new.answer c.step_counted.new.out.items is in
    subst (λ (m : Nodes). IfSome c.args.bytes (λ b. IsLineOf m (Does (event_of c.args.event.now)) b.now)) (sym same) (c.requires.echo c.if-not-say.false)

pub returns-clause-comes : goal.returns-clause-comes
returns-clause-comes g c =
    let e : Event = event_of c.args.event.now in
    let told = c.step_counted.ensures.left c.if-not-say.false in
    let here = subst (λ r. OnOk r (IsAnswer c.at.inside.state e c.step_counted.new.answer c.step_counted.new.self c.step_counted.new.out.items)) c.in_default.is told in
    let is = subst (λ (m : RunState). IsAnswer m e c.step_counted.new.answer c.step_counted.new.self c.step_counted.new.out.items) c.at.view_is here in
    let same : c.mesh-mesh.result.now ≡ c.args.at.now.mesh = c.mesh-mesh.ensures.value ∙ answer_mesh c.args.at.now c.step_counted.new.self e c.step_counted.new.answer c.step_counted.new.out.items is in
    let n : RunState = c.step_counted.new.self in
    let d = c.step_counted.new.answer in
    let packet = c.step_counted.new.out.items in
    let w : World = world_of n in
    let text : Nodes → List ℕ = λ k. outcome_lines k e (outcome_in k (node_of e) w d packet) in
    let before = g.O.Sink.held c.args.out.now in
    let now = g.O.Sink.held c.say_event.new.out in
    let run : Result (Unit {0}) EventStop → Type 0 = λ r. IsLineRun c.args.say c.args.at.now (line_outcome_at c.args.at.now e) n before now (answer_of c.args.event.now r) in
    elim c.match-say_event.branch [
      | in-Ok b ↦
          subst run (sym b.result-is)
          (rw c.if-not-say.false (answer_goes true c.args.at.now n e d packet _ _ is (subst (λ k. Appends before now (text k)) same (b.in-Ok.ensures.text w))))
      | in-Err-say_event b ↦
          subst run (sym b.result-is)
          (rw c.if-not-say.false (answer_front true c.args.at.now n e d packet _ _ is (subst (λ k. AppendsPrefix before now (text k)) same (b.in-Err-say_event.ensures.text w))))
    ]

pub returns-in-Err-clause-comes : goal.returns-in-Err-clause-comes
returns-in-Err-clause-comes g c =
    let m : RunState = c.args.at.now in
    let e : EventGiven = c.args.event.now in
    let same : c.step_counted.new.self ≡ m = c.in-Err.ensures.same ∙ c.at.view_is in
    let refused : IsRefusal m (event_of e) c.in-Err.error = subst (λ (k : RunState). IsRefusal k (event_of e) c.in-Err.error) c.at.view_is c.in-Err.ensures.refused in
    rw c.event_stop_of.ensures (refusal_stops c.args.say m c.step_counted.new.self e c.in-Err.error _ c.requires.printable.1 refused same)

pub returns-clause-way : goal.returns-clause-way
returns-clause-way g c =
    let told = c.step_counted.ensures.left c.if-not-say.false in
    let here = subst (λ r. OnOk r (IsAnswer c.at.inside.state (event_of c.args.event.now) c.step_counted.new.answer c.step_counted.new.self c.step_counted.new.out.items)) c.in_default.is told in
    let is = subst (λ (m : RunState). IsAnswer m (event_of c.args.event.now) c.step_counted.new.answer c.step_counted.new.self c.step_counted.new.out.items) c.at.view_is here in
    on_err c.match-say_event.result (reached_one c.args.at.now c.step_counted.new.self (event_of c.args.event.now) [] is.run_state)
  where
    on_err : {P : Type 0} (r : Result (Unit {0}) EventStop) → P → OnErr r P
    on_err (Ok x) p = tt
    on_err (Err e) p = p

pub returns-in-Err-clause-way : goal.returns-in-Err-clause-way
returns-in-Err-clause-way g c =
    reached_none c.args.at.now c.step_counted.new.self (event_of c.args.event.now ∷ [])
    (subst (λ r. OnErr r (c.step_counted.new.self ≡ c.at.inside.state)) c.in-Err.is c.step_counted.ensures.same ∙ c.at.view_is)
