use Rattle.std.proofs.Common.{◌<◌, ◌+◌, ◌++◌, ℕ, List, length, refl, sym, ap, subst, ◌∙◌, arith}
use Rattle.std.specs.Io.KnownBytes.{Appends}
use Rattle.mesh_base.proofs.Ranks.{members_few, members-one}
use Rattle.mesh_io.proofs.Writing.{Appends-none, Appends-join}
use Rattle.mesh_report.proofs.Pieces.{three-at-2}
use Rattle.mesh_report.proofs.Copies.{none_yet, next_copy, front_copies, all_copies}
use Rattle.mesh_report.proofs.casts.put_copies.Goals as goal

pub loop-to-init : goal.loop-to-init
loop-to-init g c = record {
  text =
      let P : List ℕ → Type 0 = λ l. Appends (g.O.Sink.held c.args.out.now) (g.O.Sink.held c.args.out.now) l in
      subst P (sym (none_yet c.args.mesh.now c.args.air.now.to c.args.air.now.first)) (Appends-none (g.O.Sink.held c.args.out.now));
  none = refl;
  id = let few = members_few 0 c.args.air.now.to in omega arith;
  within = omega arith;
}

pub returns-in_err-put_copy-clause-text : goal.returns-in_err-put_copy-clause-text
returns-in_err-put_copy-clause-text g c =
    let is = c.in-Some.ensures.least in
    let at = c.loop-to.invariant in
    let below : c.in-Some.to < length c.args.mesh.now = c.requires.receivers c.in-Some.to is.1 in
    let one = next_copy c.args.mesh.now c.args.air.now.to c.args.air.now.first c.in-Some.to c.loop-to.start c.loop-to.id is.0 is.1 is.2 at.id in
    let all = front_copies c.args.mesh.now c.args.air.now.to c.args.air.now.first (c.in-Some.to + 1) (omega arith) in
    three-at-2 (g.O.Sink.held c.args.out.now) (g.O.Sink.held c.loop-to.out) (g.O.Sink.held c.put_copy.new.out) _ _ all.0 _ _ c.from_residual.ensures.0 at.text c.in_err-put_copy.ensures.text
    (all.1 ∙ ap (λ (l : List ℕ). l ++ all.0) one)

pub overflow_add-id : goal.overflow_add-id
overflow_add-id g c =
    let is = c.in-Some.ensures.least in
    let below : c.in-Some.to < length c.args.mesh.now = c.requires.receivers c.in-Some.to is.1 in
    let few = members_few c.loop-to.start c.args.air.now.to in
    omega (arith, c.loop-to.invariant.id, c.loop-to.invariant.within, (c.len-nodes.ensures.is_mesh).few, c.requires.few)

pub loop-to-preserved : goal.loop-to-preserved
loop-to-preserved g c =
    let is = c.in-Some.ensures.least in
    let at = c.loop-to.invariant in
    let below : c.in-Some.to < length c.args.mesh.now = c.requires.receivers c.in-Some.to is.1 in
    let count = members-one c.in-Some.to c.loop-to.start c.args.air.now.to is.0 is.1 is.2 in
    let one = next_copy c.args.mesh.now c.args.air.now.to c.args.air.now.first c.in-Some.to c.loop-to.start c.loop-to.id is.0 is.1 is.2 at.id in
    record {
      text = Appends-join (g.O.Sink.held c.args.out.now) (g.O.Sink.held c.loop-to.out) (g.O.Sink.held c.put_copy.new.out) _ _ _ one at.text c.in_ok-put_copy.ensures.text;
      none = c.in_ok-put_copy.ensures.cause.none ∙ at.none;
      id = omega (arith, at.id, count);
      within = omega arith;
    }

pub returns-clause-text : goal.returns-clause-text
returns-clause-text g c =
    let P : List ℕ → Type 0 = λ l. Appends (g.O.Sink.held c.args.out.now) (g.O.Sink.held c.loop-to.out) l in
    subst P (sym (all_copies c.args.mesh.now c.args.air.now.to c.args.air.now.first c.loop-to.start c.loop-to.invariant.within c.in_default.ensures.least)) c.loop-to.invariant.text
