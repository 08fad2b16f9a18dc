use Rattle.std.proofs.Common.{◌∙◌, length, sym, subst}
use Rattle.std.proofs.lemmas.Result.{err_from_is_err_and}
use Rattle.mesh_base.specs.Meshes.{Nodes}
use Rattle.mesh_meaning.specs.Events.{event_of}
use Rattle.mesh_places.specs.RunStates.{IsChange}
use Rattle.mesh_places.proofs.ChangeLaws.{is_change, still, no_change, after_change, line_cut, line_whole}
use Rattle.mesh_places.proofs.changes.do_change.Goals as goal

pub returns-in_default-clause-run_state : goal.returns-in_default-clause-run_state
returns-in_default-clause-run_state g c = no_change _ _ (rw c.in_default.is at c.change_at.ensures.value)

pub step_change-requires-clause-change : goal.step_change-requires-clause-change
step_change-requires-clause-change g c =
    is_change (length c.args.at.now.point.mesh) c.args.at.now.reach c.args.at.now.places c.args.near.now c.args.new.now c.args.y (event_of c.in-Some.event) c.in-Some.ensures.value
    (c.in-Some.ensures.event (length c.args.at.now.point.mesh) c.requires.node c.requires.other)

pub put_change-requires : goal.put_change-requires
put_change-requires g c =
    subst (λ (k : Nodes). IsChange (length k) (event_of c.in-Some.event)) (sym (still c.args.at.now.point c.step_change.new.at (event_of c.in-Some.event) c.in_ok-step_change.ensures.run_state))
    (is_change (length c.args.at.now.point.mesh) c.args.at.now.reach c.args.at.now.places c.args.near.now c.args.new.now c.args.y (event_of c.in-Some.event) c.in-Some.ensures.value
    (c.in-Some.ensures.event (length c.args.at.now.point.mesh) c.requires.node c.requires.other))

pub returns-in_err-put_change-clause-text : goal.returns-in_err-put_change-clause-text
returns-in_err-put_change-clause-text g c =
    let p = err_from_is_err_and c.from_residual-in_err-put_change.result c.from_residual-in_err-put_change.ensures.1 in
    rw p.1
    (line_cut c.args.at.now.point.mesh c.step_change.new.at.mesh (event_of c.in-Some.event) _ (g.O.Sink.held c.args.out.now) (g.O.Sink.held c.put_change.new.out)
    (still c.args.at.now.point c.step_change.new.at (event_of c.in-Some.event) c.in_ok-step_change.ensures.run_state) c.in-Some.ensures.value c.in_err-put_change.ensures.text)

pub returns-clause-run_state : goal.returns-clause-run_state
returns-clause-run_state g c = after_change c.args.at.now.point c.step_change.new.at (event_of c.in-Some.event) _ c.in_ok-step_change.ensures.run_state c.in-Some.ensures.value

pub returns-clause-text : goal.returns-clause-text
returns-clause-text g c =
    line_whole c.args.at.now.point.mesh c.step_change.new.at.mesh (event_of c.in-Some.event) _ (g.O.Sink.held c.args.out.now) (g.O.Sink.held c.put_change.new.out)
    (still c.args.at.now.point c.step_change.new.at (event_of c.in-Some.event) c.in_ok-step_change.ensures.run_state) c.in-Some.ensures.value c.in_ok-put_change.ensures.text
