use Rattle.std.proofs.Common.{sym, arith}
use Rattle.mesh_show.proofs.node.put_entry_of.Goals as goal

pub put_entry-requires-clause-next : goal.put_entry-requires-clause-next
put_entry-requires-clause-next g c =
    let in_mesh = c.requires.sound.sound.table.in_mesh c.args.d c.in-Some.entry (sym c.in-Some.ensures) in
    omega (arith, in_mesh.near, c.requires.size)

pub put_entry-requires-clause-precursors : goal.put_entry-requires-clause-precursors
put_entry-requires-clause-precursors g c =
    let in_mesh = c.requires.sound.sound.table.in_mesh c.args.d c.in-Some.entry (sym c.in-Some.ensures) in
    λ p h. let lt = in_mesh.pre p h in omega (arith, lt, c.requires.size)
