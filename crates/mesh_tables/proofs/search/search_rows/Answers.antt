use Rattle.std.proofs.Common.{◌≡◌, Some, ap, ◌∙◌}
use Rattle.std.specs.Prelude.{option_and_then}
use Rattle.std.specs.Ordering.{nat_cmp}
use Rattle.std.specs.BTreeMap.{get}
use Rattle.std.specs.Map.Iter.{deref_pair}
use Rattle.std.proofs.lemmas.Map.Iter.{rest_more}
use Rattle.std.proofs.lemmas.Map.Views.{All-turn}
use Rattle.mesh_tables.specs.Kept.{shown_in}
use Rattle.mesh_tables.specs.Printed.{row_in, tables_of}
use Rattle.mesh_tables.proofs.Leasts.{search_more}
use Rattle.mesh_tables.proofs.search.search_rows.Goals as goal

pub loop-d-preserved : goal.loop-d-preserved
loop-d-preserved c =
    let t = tables_of (shown_in c.args.closed.now.entries) in
    let gives = c.into_iter-d-iterator.ensures.into_iter_gives in
    let row = All-turn deref_pair (λ e. get nat_cmp c.args.rows.now e.0 ≡ Some e.1) _ _ _ _ _ _ _ gives.6 gives.0 c.loop-d.yielded_by c.in-Some.is c.next.ensures.steps in
    let is = rest_more deref_pair c.loop-d.d-iterator c.next.new.self c.next.result (c.in-Some.d, c.in-Some.row) c.in-Some.is c.next.ensures.steps in
    let there = ap (λ o. option_and_then (λ rows. row_in rows c.in-Some.d.now) o) c.requires ∙ row in
    rw (c.lesser-best.ensures, c.failing_next-next.ensures)
    (search_more t c.args.x c.in-Some.d.now c.in-Some.row.now c.loop-d.d-iterator c.next.new.self c.loop-d.best _ is there c.loop-d.invariant)
