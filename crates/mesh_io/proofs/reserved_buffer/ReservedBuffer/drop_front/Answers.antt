use Rattle.std.proofs.Common.{◌≡◌, ◌∙◌, ◌≤◌, ap, length, drop, take, length-take, arith}
use Rattle.mesh_io.proofs.Shifting.{shifted}
use Rattle.mesh_io.proofs.reserved_buffer.ReservedBuffer.drop_front.Goals as goal

pub returns : goal.returns
returns c =
    let cells = c.self.inside.cells.items in
    let n = c.args.n in
    let len = c.self.inside.len in
    let seen : take len cells ≡ c.args.self.now = c.self.view_is in
    let within : n ≤ len = omega (arith, c.requires, length-take len cells, ap length seen) in
    let fits : len ≤ length cells = omega (arith, c.self.invariant.0, c.self.invariant.1) in
    shifted cells _ n len within fits c.copy_within.ensures.items
    ∙ ap (drop n) seen
