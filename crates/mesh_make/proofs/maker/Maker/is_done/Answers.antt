use Rattle.std.proofs.Common.{ap}
use Rattle.mesh_make.specs.Made.{mesh_of, text_in}
use Rattle.mesh_make.proofs.Stages.{none_at_end}
use Rattle.mesh_make.proofs.maker.Maker.is_done.Goals as goal

pub returns-in-End-clause-empty : goal.returns-in-End-clause-empty
returns-in-End-clause-empty c = λ _.
    let m = c.args.self.now in ap (text_in (mesh_of m.size.nodes)) (none_at_end m.size.nodes m.size.steps m.stage m.rng c.in-End.is)
