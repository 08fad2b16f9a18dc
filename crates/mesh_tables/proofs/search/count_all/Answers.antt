use Rattle.std.proofs.Common.{ap, arith}
use Rattle.std.specs.Map.Iter.{deref_pair}
use Rattle.std.proofs.lemmas.Map.Iter.{rest_more}
use Rattle.mesh_tables.specs.Kept.{shown_in}
use Rattle.mesh_tables.specs.Printed.{edges_in}
use Rattle.mesh_tables.proofs.Kept.{edges_within}
use Rattle.mesh_tables.proofs.search.count_all.Goals as goal

pub overflow_add-edges : goal.overflow_add-edges
overflow_add-edges c =
    let is = rest_more deref_pair c.loop-x.x-iterator c.next.new.self c.next.result (c.in-Some.x, c.in-Some.rows) c.in-Some.is c.next.ensures.steps in
    let split = ap (λ es. edges_in (shown_in es)) is in
    let within = edges_within (shown_in c.args.closed.now.entries) in
    omega (arith, split, within, c.loop-x.invariant, c.count_edges.ensures, c.requires)
