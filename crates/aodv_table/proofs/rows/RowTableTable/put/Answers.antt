use Rattle.std.proofs.Common.{◌≡◌, Option, List, ap, sym, subst, ◌∙◌, arith}
use Rattle.aodv_model.specs.declared.entry.Entry.{Entry}
use Rattle.aodv_table.specs.Calls.{with_entry}
use Rattle.aodv_table.specs.Seen.{TableSeen}
use Rattle.aodv_table.specs.Indexed.{entries_from, AreIndexed}
use Rattle.aodv_table.proofs.IndexLaws.{row_written, indexed_kept}
use Rattle.aodv_table.proofs.rows.RowTableTable.put.Goals as goal

pub invariant_of-self : goal.invariant_of-self
invariant_of-self c =
    let same : c.self.inside.nodes ≡ c.args.self.now.nodes = ap (λ (t : TableSeen). t.nodes) c.self.view_is in
    subst (λ (rows : List (Option Entry)). AreIndexed c.self.inside.nodes rows c.mark_valid.new.valid c.mark_neighbour.new.neighbours) (sym c.set.ensures)
    (indexed_kept c.self.inside.nodes c.self.inside.rows c.self.inside.valid c.mark_valid.new.valid c.self.inside.neighbours c.mark_neighbour.new.neighbours c.args.d c.args.e
    c.self.invariant (omega (arith, c.requires.below)) c.mark_valid.ensures c.mark_neighbour.ensures)

pub returns-clause-entries : goal.returns-clause-entries
returns-clause-entries c =
    let same : c.self.inside.nodes ≡ c.args.self.now.nodes = ap (λ (t : TableSeen). t.nodes) c.self.view_is in
    ap (entries_from 0) c.set.ensures
    ∙ row_written c.self.inside.rows c.args.d c.args.e (omega (arith, c.requires.below, c.self.invariant.each))
    ∙ ap (λ (t : TableSeen). with_entry t.entries c.args.d c.args.e) c.self.view_is
