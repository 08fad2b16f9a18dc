use Rattle.std.proofs.Common.{◌≡◌, ◌∙◌, ℕ, List, true, Result, Ok, Err, length, refl, sym, ap, subst}
use Rattle.std.specs.Prelude.{IfSome, ◌≤◌}
use Rattle.std.specs.Io.KnownBytes.{Appends}
use Rattle.mesh_base.specs.Meshes.{Nodes}
use Rattle.mesh_base.specs.declared.limits.TheConstants.{MOST_NODES}
use Rattle.mesh_io.specs.Puts.{AppendsPrefix}
use Rattle.mesh_model.specs.Worlds.{World}
use Rattle.mesh_meaning.specs.Events.{event_of, node_of}
use Rattle.mesh_meaning.specs.Answers.{outcome_in, IsDoneInMesh}
use Rattle.mesh_text.specs.Schedule.{RunState, Does, world_of}
use Rattle.mesh_text.specs.Effects.{outcome_lines}
use Rattle.mesh_script.specs.Seen.{IsPrintable}
use Rattle.mesh_script.specs.declared.line.Line.TheVariants as line
use Rattle.mesh_run.specs.Outputs.{says_lines}
use Rattle.mesh_run.specs.RunStates.{IsAnswer}
use Rattle.mesh_run.specs.Runs.{IsLineOf, output_if}
use Rattle.mesh_run.proofs.Events.{answer_goes, answer_front, answer_mesh}
use Rattle.mesh_channel.proofs.Lining.{few_stepped}
use Rattle.mesh_channel.proofs.event.do_event.Goals as goal

pub say_if-requires-clause-printable : goal.say_if-requires-clause-printable
say_if-requires-clause-printable g c =
    let is = subst (λ (s : RunState). IsAnswer s (event_of c.args.event) c.step_counted.new.answer c.step_counted.new.self c.step_counted.new.out.items) c.point.view_is (c.in-Ok.ensures.left refl) in
    let same = c.mesh-mesh.ensures.value ∙ answer_mesh c.args.at.now.point c.step_counted.new.self (event_of c.args.event) c.step_counted.new.answer c.step_counted.new.out.items is in
    subst (λ (m : Nodes). IsPrintable m (line.Step c.args.event)) (sym same) c.requires.printable

pub say_if-requires-clause-in_mesh : goal.say_if-requires-clause-in_mesh
say_if-requires-clause-in_mesh g c =
    let is = subst (λ (s : RunState). IsAnswer s (event_of c.args.event) c.step_counted.new.answer c.step_counted.new.self c.step_counted.new.out.items) c.point.view_is (c.in-Ok.ensures.left refl) in
    let same = c.mesh-mesh.ensures.value ∙ answer_mesh c.args.at.now.point c.step_counted.new.self (event_of c.args.event) c.step_counted.new.answer c.step_counted.new.out.items is in
    subst (λ (m : Nodes). IsDoneInMesh m c.step_counted.new.answer c.step_counted.new.out.items) (sym same) is.in_mesh

pub say_if-requires-clause-echo : goal.say_if-requires-clause-echo
say_if-requires-clause-echo g c =
    let is = subst (λ (s : RunState). IsAnswer s (event_of c.args.event) c.step_counted.new.answer c.step_counted.new.self c.step_counted.new.out.items) c.point.view_is (c.in-Ok.ensures.left refl) in
    let same = c.mesh-mesh.ensures.value ∙ answer_mesh c.args.at.now.point c.step_counted.new.self (event_of c.args.event) c.step_counted.new.answer c.step_counted.new.out.items is in
    subst (λ (m : Nodes). IfSome c.args.bytes (λ b. IsLineOf m (Does (event_of c.args.event)) b.now)) (sym same) c.requires.echo

pub returns-in-Ok-say_if-clause-comes : goal.returns-in-Ok-say_if-clause-comes
returns-in-Ok-say_if-clause-comes g c =
    let e = event_of c.args.event in
    let is = subst (λ (s : RunState). IsAnswer s e c.step_counted.new.answer c.step_counted.new.self c.step_counted.new.out.items) c.point.view_is (c.in-Ok.ensures.left refl) in
    let same : c.mesh-mesh.result.now ≡ c.args.at.now.point.mesh = c.mesh-mesh.ensures.value ∙ answer_mesh c.args.at.now.point c.step_counted.new.self e c.step_counted.new.answer c.step_counted.new.out.items is in
    let n : RunState = c.step_counted.new.self in
    let text : Nodes → List ℕ = λ k. outcome_lines k e (outcome_in k (node_of e) (world_of n) c.step_counted.new.answer c.step_counted.new.out.items) in
    let before = g.O.Sink.held c.args.out.now in
    let now = g.O.Sink.held c.say_if.new.out in
    rw (sym c.says_lines-say.ensures) (answer_goes c.says_lines-say.result c.args.at.now.point n e c.step_counted.new.answer c.step_counted.new.out.items _ _ is
    (subst (λ (k : Nodes). Appends before now (output_if c.says_lines-say.result (text k))) same (c.in-Ok-say_if.ensures.text (world_of n))))

pub returns-in-Ok-say_if-clause-answer : goal.returns-in-Ok-say_if-clause-answer
returns-in-Ok-say_if-clause-answer g c =
    let e = event_of c.args.event in
    let is = subst (λ (s : RunState). IsAnswer s e c.step_counted.new.answer c.step_counted.new.self c.step_counted.new.out.items) c.point.view_is (c.in-Ok.ensures.left refl) in
    let same : c.step_counted.new.self.mesh ≡ c.args.at.now.point.mesh = answer_mesh c.args.at.now.point c.step_counted.new.self e c.step_counted.new.answer c.step_counted.new.out.items is in
    record {
      packet = c.step_counted.new.out.items;
      answer = is;
      nodes = subst (λ (k : Nodes). length k ≤ MOST_NODES) same c.mesh-mesh.ensures.is_mesh.few;
      steps = c.requires.few;
      copies = c.requires.copies;
    }

pub returns-in-Ok-say_if-clause-copies : goal.returns-in-Ok-say_if-clause-copies
returns-in-Ok-say_if-clause-copies g c =
    let e = event_of c.args.event in
    let is = subst (λ (s : RunState). IsAnswer s e c.step_counted.new.answer c.step_counted.new.self c.step_counted.new.out.items) c.point.view_is (c.in-Ok.ensures.left refl) in
    few_stepped c.args.at.now.point c.step_counted.new.self e is.run_state (subst (λ (m : RunState). length (world_of m).nodes ≤ MOST_NODES) c.point.view_is c.started-started.ensures.sized) c.requires.copies

pub returns-in-Err-clause-comes : goal.returns-in-Err-clause-comes
returns-in-Err-clause-comes g c =
    let e = event_of c.args.event in
    let is = subst (λ (s : RunState). IsAnswer s e c.step_counted.new.answer c.step_counted.new.self c.step_counted.new.out.items) c.point.view_is (c.in-Ok.ensures.left refl) in
    let same : c.mesh-mesh.result.now ≡ c.args.at.now.point.mesh = c.mesh-mesh.ensures.value ∙ answer_mesh c.args.at.now.point c.step_counted.new.self e c.step_counted.new.answer c.step_counted.new.out.items is in
    let n : RunState = c.step_counted.new.self in
    let text : Nodes → List ℕ = λ k. outcome_lines k e (outcome_in k (node_of e) (world_of n) c.step_counted.new.answer c.step_counted.new.out.items) in
    let before = g.O.Sink.held c.args.out.now in
    let now = g.O.Sink.held c.say_if.new.out in
    rw (sym c.says_lines-say.ensures) (answer_front c.says_lines-say.result c.args.at.now.point n e c.step_counted.new.answer c.step_counted.new.out.items _ _ is
    (subst (λ (k : Nodes). AppendsPrefix before now (output_if c.says_lines-say.result (text k))) same (c.in-Err.ensures.text (world_of n))))
