use Rattle.std.proofs.Common.{refl, sym, subst}
use Rattle.std.specs.Prelude.{IfSome, length}
use Rattle.std.proofs.lemmas.Result.{err_from_is_err_and}
use Rattle.mesh_base.specs.Meshes.{Nodes}
use Rattle.mesh_io.proofs.Writing.{AppendsPrefix-none}
use Rattle.mesh_model.specs.InMesh.{IsEvent}
use Rattle.mesh_meaning.specs.Events.{event_of}
use Rattle.mesh_meaning.specs.Answers.{IsDoneInMesh}
use Rattle.mesh_text.specs.Schedule.{RunState, Does}
use Rattle.mesh_script.specs.Seen.{IsPrintable}
use Rattle.mesh_script.specs.declared.line.Line.TheVariants as line
use Rattle.mesh_run.specs.RunStates.{IsAnswer}
use Rattle.mesh_run.specs.Runs.{IsLineOf}
use Rattle.mesh_run.proofs.Events.{answer_mesh, stepped_started}
use Rattle.mesh_blocks.specs.Lines.{IsKeptFor}
use Rattle.mesh_blocks.proofs.Events.{answer_goes}
use Rattle.mesh_blocks.proofs.event.do_event.Goals as goal

-- no memory for the block before
pub returns-in_err-keep_block-clause-comes : goal.returns-in_err-keep_block-clause-comes
returns-in_err-keep_block-clause-comes g c =
    let p = err_from_is_err_and c.from_residual.result c.from_residual.ensures.1 in
    rw (p.1, p.2) (AppendsPrefix-none (g.O.Sink.held c.args.out.now) _)

pub put_watched-requires-clause-started : goal.put_watched-requires-clause-started
put_watched-requires-clause-started g c =
    stepped_started c.at.inside.state c.step_counted.new.self (event_of c.args.event) (c.in-Ok.ensures.left refl).run_state

pub put_watched-requires-clause-event : goal.put_watched-requires-clause-event
put_watched-requires-clause-event g c =
    let is = subst (λ (s : RunState). IsAnswer s (event_of c.args.event) c.step_counted.new.answer c.step_counted.new.self c.step_counted.new.out.items) c.at.view_is (c.in-Ok.ensures.left refl) in
    subst (λ (m : Nodes). IsEvent (length m) (event_of c.args.event)) (sym (answer_mesh c.args.at.now c.step_counted.new.self (event_of c.args.event) c.step_counted.new.answer c.step_counted.new.out.items is)) c.requires.printable.1

pub put_watched-requires-clause-printable : goal.put_watched-requires-clause-printable
put_watched-requires-clause-printable g c =
    let is = subst (λ (s : RunState). IsAnswer s (event_of c.args.event) c.step_counted.new.answer c.step_counted.new.self c.step_counted.new.out.items) c.at.view_is (c.in-Ok.ensures.left refl) in
    subst (λ (m : Nodes). IsPrintable m (line.Step c.args.event)) (sym (answer_mesh c.args.at.now c.step_counted.new.self (event_of c.args.event) c.step_counted.new.answer c.step_counted.new.out.items is)) c.requires.printable

pub put_watched-requires-clause-in_mesh : goal.put_watched-requires-clause-in_mesh
put_watched-requires-clause-in_mesh g c =
    let is = subst (λ (s : RunState). IsAnswer s (event_of c.args.event) c.step_counted.new.answer c.step_counted.new.self c.step_counted.new.out.items) c.at.view_is (c.in-Ok.ensures.left refl) in
    subst (λ (m : Nodes). IsDoneInMesh m c.step_counted.new.answer c.step_counted.new.out.items) (sym (answer_mesh c.args.at.now c.step_counted.new.self (event_of c.args.event) c.step_counted.new.answer c.step_counted.new.out.items is)) is.in_mesh

pub put_watched-requires-clause-echo : goal.put_watched-requires-clause-echo
put_watched-requires-clause-echo g c =
    let is = subst (λ (s : RunState). IsAnswer s (event_of c.args.event) c.step_counted.new.answer c.step_counted.new.self c.step_counted.new.out.items) c.at.view_is (c.in-Ok.ensures.left refl) in
    subst (λ (m : Nodes). IfSome c.args.bytes (λ b. IsLineOf m (Does (event_of c.args.event)) b.now)) (sym (answer_mesh c.args.at.now c.step_counted.new.self (event_of c.args.event) c.step_counted.new.answer c.step_counted.new.out.items is)) c.requires.echo
