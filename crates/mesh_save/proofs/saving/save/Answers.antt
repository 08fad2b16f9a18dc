use Rattle.std.proofs.Common.{refl, Err}
use Rattle.mesh_save.specs.declared.saving.SaveError.TheVariants as errors
use Rattle.mesh_save.proofs.Finished.{a_fault}
use Rattle.mesh_save.proofs.Whole.{is_written, is_cut}
use Rattle.mesh_save.proofs.saving.save.Goals as goal

pub returns-then-failed-clause-cause : goal.returns-then-failed-clause-cause
returns-then-failed-clause-cause g c =
    let put = rw c.if-failed.true at c.write_out-failed.ensures in
    a_fault (Err errors.WriteFault) errors.WriteFault _ _ refl put.1

pub returns-then-failed-clause-cut : goal.returns-then-failed-clause-cut
returns-then-failed-clause-cut g c = λ _.
    let put = rw c.if-failed.true at c.write_out-failed.ensures in
    is_cut c.args.point.now c.measure-length.result _ _ c.measure-length.ensures.fits c.measure-length.ensures.length c.if-length-gt-LONGEST_BODY.false put.0

pub returns-else-failed-clause-saved : goal.returns-else-failed-clause-saved
returns-else-failed-clause-saved g c =
    let put = rw c.if-failed.false at c.write_out-failed.ensures in
    is_written c.args.point.now c.measure-length.result _ _ c.measure-length.ensures.fits c.measure-length.ensures.length c.if-length-gt-LONGEST_BODY.false put.0
