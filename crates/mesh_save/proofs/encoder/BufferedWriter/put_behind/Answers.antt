use Rattle.std.proofs.Common.{false, []}
use Rattle.mesh_save.specs.EncoderLaws.{written_both}
use Rattle.mesh_save.proofs.encoder.BufferedWriter.put_behind.Goals as goal

pub returns-then-not-self : goal.returns-then-not-self
returns-then-not-self g c =
    written_both false c.flush.new.self.failed c.put_first.new.self.failed _ _ _ _ _ _ _ _ _ [] c.args.piece.now c.flush.ensures.written (rw c.if-not-self.true c.put_first.ensures)
