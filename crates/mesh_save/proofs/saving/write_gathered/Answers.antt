use Rattle.mesh_save.proofs.Finished.{flushed}
use Rattle.mesh_save.proofs.saving.write_gathered.Goals as goal

pub returns-then-not-writer : goal.returns-then-not-writer
returns-then-not-writer g c =
    let one = rw (c.requires.sound, c.requires.nothing, c.if-not-writer.true) at c.put_checkpoint.ensures in
    flushed c.flush.new.self.failed _ _ _ _ _ _ _ _ _ c.flush.ensures.all one c.flush.ensures.written

pub returns-else-not-writer : goal.returns-else-not-writer
returns-else-not-writer g c = rw c.if-not-writer.false (rw (c.requires.sound, c.requires.nothing, c.if-not-writer.false) at c.put_checkpoint.ensures)
