use Rattle.std.proofs.Common.{◌≡◌, ℕ, Some, ap, ◌∙◌, option_map}
use Rattle.std.specs.Ordering.{nat_cmp}
use Rattle.std.specs.BTreeMap.{BTreeMap, get}
use Rattle.std.specs.Map.Iter.{deref_pair}
use Rattle.std.proofs.lemmas.Map.Views.{All-turn}
use Rattle.mesh_tables.specs.declared.row.Row.{Row}
use Rattle.mesh_tables.proofs.Kept.{table_in_shown}
use Rattle.mesh_tables.proofs.search.least_in.Goals as goal

pub search_rows-best-requires : goal.search_rows-best-requires
search_rows-best-requires c =
    let gives = c.into_iter-x-iterator.ensures.into_iter_gives in
    let found = All-turn deref_pair (λ e. get nat_cmp c.args.closed.now e.0 ≡ Some e.1) _ _ _ _ _ _ _ gives.6 gives.0 c.loop-x.yielded_by c.in-Some.is c.next.ensures.steps in
    table_in_shown c.args.closed.now.entries c.in-Some.x.now ∙ ap (λ o. option_map (λ (m : BTreeMap ℕ Row). m.entries) o) found
