use Rattle.std.proofs.Common.{refl}
use Rattle.mesh_text.specs.Tables.{stuck_line}
use Rattle.mesh_report.proofs.Pieces.{three-at-1, three-at-2, three}
use Rattle.mesh_report.proofs.tables.put_stuck.Goals as goal

pub returns-in_err-put_one-clause-text : goal.returns-in_err-put_one-clause-text
unfolding stuck_line
returns-in_err-put_one-clause-text g c =
    three-at-1 (g.O.Sink.held c.args.out.now) (g.O.Sink.held c.put_one.new.out) _ _ _ _ _ c.from_residual.ensures.0 c.in_err-put_one.ensures.text refl

pub returns-in_err-put_labelled-clause-text : goal.returns-in_err-put_labelled-clause-text
unfolding stuck_line
returns-in_err-put_labelled-clause-text g c =
    three-at-2 (g.O.Sink.held c.args.out.now) (g.O.Sink.held c.put_one.new.out) (g.O.Sink.held c.put_labelled.new.out) _ _ _ _ _ c.from_residual-in_err-put_labelled.ensures.0 c.in_ok-put_one.ensures.text c.in_err-put_labelled.ensures.text refl

pub returns-clause-text : goal.returns-clause-text
unfolding stuck_line
returns-clause-text g c =
    three (g.O.Sink.held c.args.out.now) (g.O.Sink.held c.put_one.new.out) (g.O.Sink.held c.put_labelled.new.out) (g.O.Sink.held c.put_byte.new.out) _ _ _ _ _ c.in_ok-put_one.ensures.text c.in_ok-put_labelled.ensures.text c.put_byte.ensures.text refl
