use Rattle.mesh_io.specs.Reading.{refusal_of}
use Rattle.mesh_io.proofs.Readers.{reader_stays}
use Rattle.mesh_io.proofs.lines.LinesWithin.advance.Goals as goal

pub returns-clause-stays : goal.returns-clause-stays
returns-clause-stays g c = reader_stays c.args.self.now c.advance.new.self _ c.advance.result (refusal_of c.args.self.now) c.advance.ensures.stays
