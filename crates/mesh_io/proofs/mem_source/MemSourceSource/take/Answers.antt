use Rattle.std.proofs.Common.{ap}
use Rattle.std.proofs.lemmas.List.{take_rest}
use Rattle.mesh_io.proofs.Giving.{gives}
use Rattle.mesh_io.proofs.mem_source.MemSourceSource.take.Goals as goal

pub returns-clause-bytes : goal.returns-clause-bytes
returns-clause-bytes c =
    let here = ap (λ s. s.left) c.self.view_is in
    gives c.self.inside.bytes _ _ _ _ c.self.inside.at _ _ here (rw (take_rest, c.as_slice.ensures) here) c.self.invariant.1 c.give-n.ensures.count c.give-n.ensures.copied
