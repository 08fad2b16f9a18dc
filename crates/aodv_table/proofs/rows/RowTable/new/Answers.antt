use Rattle.std.proofs.Common.{ap}
use Rattle.aodv_model.specs.Tables.{Table}
use Rattle.aodv_table.specs.Calls.{nodes_below}
use Rattle.aodv_table.proofs.IndexLaws.{new_indexed, empty_rows}
use Rattle.aodv_table.proofs.rows.RowTable.new.Goals as goal

pub invariant_of-result : goal.invariant_of-result
invariant_of-result c = new_indexed c.args.nodes c.in_ok-new.field-0 c.new-2.result c.new-3.result c.requires c.in_ok-new.ensures.each c.in_ok-new.ensures.none c.new-2.ensures c.new-3.ensures

pub returns : goal.returns
returns c = ap (λ (t : Table). record { entries = t; rooms = nodes_below c.args.nodes; nodes = c.args.nodes }) (empty_rows c.in_ok-new.field-0 c.in_ok-new.ensures.none)
