use Rattle.std.proofs.Common.{◌∙◌, ℕ, List, Ok, Err, refl, subst}
use Rattle.std.specs.Io.KnownBytes.{Appends}
use Rattle.mesh_io.specs.Puts.{AppendsPrefix}
use Rattle.mesh_report.proofs.Messages.{flying_is}
use Rattle.std.proofs.lemmas.Result.{err_from_is_err_and}
use Rattle.mesh_base.specs.Views.{flying_seen}
use Rattle.mesh_meaning.specs.Packets.{IsWrittenCopy}
use Rattle.mesh_run.proofs.Tables.{copies-start, copies-goes, copies-stops, copies-ends, copy_next}
use Rattle.mesh_run.proofs.show.put_copies.Goals as goal

pub loop-flying-init : goal.loop-flying-init
loop-flying-init g c = record { text = λ now r p. copies-start c.args.mesh.now c.args.radio.now.flying _ now r p; faults = refl }

pub returns-in_err-put_flying_view-clause-text : goal.returns-in_err-put_flying_view-clause-text
returns-in_err-put_flying_view-clause-text g c =
    let p = err_from_is_err_and c.from_residual.result c.from_residual.ensures.1 in
    let written = copy_next (IsWrittenCopy c.args.mesh.now) c.args.radio.now.flying c.loop-flying.start (flying_seen c.in-Some.flying) c.requires.written c.in-Some.ensures.some in
    let P : List ℕ → Type 0 = λ l. AppendsPrefix (g.O.Sink.held c.loop-flying.out) (g.O.Sink.held c.put_flying_view.new.out) l in
    rw p.1 (c.loop-flying.invariant.text (g.O.Sink.held c.put_flying_view.new.out) (Err p.0)
    (copies-stops c.args.mesh.now c.args.radio.now.flying c.loop-flying.start (flying_seen c.in-Some.flying) _ _ c.in-Some.ensures.some (subst P (flying_is c.args.mesh.now (flying_seen c.in-Some.flying) written) c.in_err-put_flying_view.ensures.text)))

pub loop-flying-preserved : goal.loop-flying-preserved
loop-flying-preserved g c =
    let written = copy_next (IsWrittenCopy c.args.mesh.now) c.args.radio.now.flying c.loop-flying.start (flying_seen c.in-Some.flying) c.requires.written c.in-Some.ensures.some in
    let P : List ℕ → Type 0 = λ l. Appends (g.O.Sink.held c.loop-flying.out) (g.O.Sink.held c.put_flying_view.new.out) l in
    record {
      text = λ now r p. c.loop-flying.invariant.text now r
          (copies-goes c.args.mesh.now c.args.radio.now.flying c.loop-flying.start (flying_seen c.in-Some.flying) (g.O.Sink.held c.loop-flying.out) (g.O.Sink.held c.put_flying_view.new.out) now r c.in-Some.ensures.some (subst P (flying_is c.args.mesh.now (flying_seen c.in-Some.flying) written) c.in_ok-put_flying_view.ensures.text) p);
      faults = c.in_ok-put_flying_view.ensures.cause.none ∙ c.loop-flying.invariant.faults;
    }

pub returns-clause-text : goal.returns-clause-text
returns-clause-text g c =
    c.loop-flying.invariant.text _ (Ok tt) (copies-ends c.args.mesh.now c.args.radio.now.flying c.loop-flying.start _ c.in_default.ensures.none)
