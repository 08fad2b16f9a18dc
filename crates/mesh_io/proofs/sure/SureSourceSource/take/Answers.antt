use Rattle.std.proofs.Common.{lit<}
use Rattle.std.proofs.lemmas.List.{take_rest}
use Rattle.mesh_io.proofs.Giving.{gives}
use Rattle.mesh_io.proofs.sure.SureSourceSource.take.Goals as goal

pub returns-clause-bytes : goal.returns-clause-bytes
returns-clause-bytes c =
    gives c.self.inside.bytes _ _ _ _ c.self.inside.at _ _ c.self.view_is (rw (take_rest, c.as_slice.ensures) c.self.view_is) (lit< tt) c.give-n.ensures.count c.give-n.ensures.copied
