use Rattle.std.proofs.Common.{◌<◌, ◌≤◌, ◌∙◌, ℕ, List, length, refl, sym, ap, subst, arith}
use Rattle.std.proofs.lemmas.Result.{err_from_is_err_and}
use Rattle.mesh_base.specs.declared.limits.TheConstants.{MOST_NODES}
use Rattle.mesh_base.specs.Meshes.{Nodes}
use Rattle.mesh_io.specs.Puts.{AppendsPrefix}
use Rattle.mesh_io.proofs.Writing.{Appends-none}
use Rattle.mesh_model.specs.Worlds.{Event}
use Rattle.mesh_grid.specs.Links.{change_at}
use Rattle.mesh_grid.proofs.PlaceSteps.{after-none}
use Rattle.mesh_places.specs.RunStates.{run_state_of, change_lines}
use Rattle.mesh_places.specs.declared.placed.Placed.{Placed}
use Rattle.mesh_places.proofs.ChangeLaws.{state_more, same_mesh, few_steps, text_more, text_cut, all_changes, only_so}
use Rattle.mesh_places.proofs.changes.do_changes.Goals as goal

pub loop-y-init : goal.loop-y-init
loop-y-init g c = record { point = sym (after-none _); only = refl; text = Appends-none _; faults = refl }

pub do_change-requires-clause-node : goal.do_change-requires-clause-node
do_change-requires-clause-node g c =
    subst (λ (k : Nodes). c.args.new.now.node < length k) (sym (same_mesh c.args.at.now.reach c.args.at.now.places c.range_of-near.result c.args.new.now c.args.at.now.point c.loop-y.at.point c.loop-y.y c.loop-y.invariant.point)) c.requires.node

pub do_change-requires-clause-other : goal.do_change-requires-clause-other
do_change-requires-clause-other g c =
    let same = same_mesh c.args.at.now.reach c.args.at.now.places c.range_of-near.result c.args.new.now c.args.at.now.point c.loop-y.at.point c.loop-y.y c.loop-y.invariant.point in
    subst (λ (n : ℕ). c.loop-y.y < n) (c.len-y-end.ensures.value ∙ ap length (c.mesh.ensures.value ∙ sym same)) c.loop-y-test.true

pub do_change-requires-clause-nodes : goal.do_change-requires-clause-nodes
do_change-requires-clause-nodes g c =
    subst (λ (k : Nodes). length k ≤ MOST_NODES) (sym (same_mesh c.args.at.now.reach c.args.at.now.places c.range_of-near.result c.args.new.now c.args.at.now.point c.loop-y.at.point c.loop-y.y c.loop-y.invariant.point)) c.requires.nodes

pub do_change-requires-clause-few : goal.do_change-requires-clause-few
do_change-requires-clause-few g c =
    let steps = few_steps c.args.at.now.reach c.args.at.now.places c.range_of-near.result c.args.new.now c.args.at.now.point c.loop-y.at.point c.loop-y.y c.loop-y.invariant.point in
    let lt : c.loop-y.y < length c.args.at.now.point.mesh = subst (λ (n : ℕ). c.loop-y.y < n) (c.len-y-end.ensures.value ∙ ap length c.mesh.ensures.value) c.loop-y-test.true in
    omega (arith, c.requires.few, c.requires.nodes)

pub returns-in_err-do_change-clause-only : goal.returns-in_err-do_change-clause-only
returns-in_err-do_change-clause-only g c = only_so c.args.at.now c.loop-y.at c.do_change.new.at c.loop-y.invariant.only c.do_change.ensures.only

pub returns-in_err-do_change-clause-text : goal.returns-in_err-do_change-clause-text
returns-in_err-do_change-clause-text g c =
    let same = same_mesh c.args.at.now.reach c.args.at.now.places c.range_of-near.result c.args.new.now c.args.at.now.point c.loop-y.at.point c.loop-y.y c.loop-y.invariant.point in
    let there = ap (λ (p : Placed). change_at p.reach p.places c.range_of-near.result c.args.new.now c.loop-y.y) c.loop-y.invariant.only in
    let p = err_from_is_err_and c.from_residual.result c.from_residual.ensures.1 in
    let lt : c.loop-y.y < length c.args.at.now.point.mesh = subst (λ (n : ℕ). c.loop-y.y < n) (c.len-y-end.ensures.value ∙ ap length c.mesh.ensures.value) c.loop-y-test.true in
    rw p.1
    (subst (λ (es : List Event). AppendsPrefix (g.O.Sink.held c.args.out.now) (g.O.Sink.held c.do_change.new.out) (change_lines c.args.at.now.point.mesh es))
    (all_changes c.args.at.now.reach (run_state_of c.args.at.now) c.range_of-near.result c.args.new.now (length c.args.at.now.point.mesh) c.range_of-near.ensures refl)
    (text_cut c.args.at.now.reach c.args.at.now.places c.range_of-near.result c.args.new.now c.args.at.now.point.mesh c.loop-y.at.point.mesh _ c.loop-y.y (length c.args.at.now.point.mesh)
    (g.O.Sink.held c.args.out.now) (g.O.Sink.held c.loop-y.out) (g.O.Sink.held c.do_change.new.out) same there lt c.loop-y.invariant.text c.in_err-do_change.ensures.text))

pub loop-y-preserved : goal.loop-y-preserved
loop-y-preserved g c =
    let same = same_mesh c.args.at.now.reach c.args.at.now.places c.range_of-near.result c.args.new.now c.args.at.now.point c.loop-y.at.point c.loop-y.y c.loop-y.invariant.point in
    let there = ap (λ (p : Placed). change_at p.reach p.places c.range_of-near.result c.args.new.now c.loop-y.y) c.loop-y.invariant.only in
    record {
      point = state_more c.args.at.now.reach c.args.at.now.places c.range_of-near.result c.args.new.now c.args.at.now.point c.loop-y.at.point c.do_change.new.at.point _ c.loop-y.y there c.loop-y.invariant.point c.in_ok-do_change.ensures.run_state;
      only = only_so c.args.at.now c.loop-y.at c.do_change.new.at c.loop-y.invariant.only c.do_change.ensures.only;
      text = text_more c.args.at.now.reach c.args.at.now.places c.range_of-near.result c.args.new.now c.args.at.now.point.mesh c.loop-y.at.point.mesh _ c.loop-y.y
          (g.O.Sink.held c.args.out.now) (g.O.Sink.held c.loop-y.out) (g.O.Sink.held c.do_change.new.out) same there c.loop-y.invariant.text c.in_ok-do_change.ensures.text;
      faults = c.in_ok-do_change.ensures.cause.none (λ e. cc) ∙ c.loop-y.invariant.faults;
    }
