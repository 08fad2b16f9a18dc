use Rattle.aodv_model.proofs.RisingLaws.{empty_if, entries_if}
use Rattle.aodv_model.proofs.dests.Dests.clear.Goals as goal

pub returns-clause-map : goal.returns-clause-map
returns-clause-map c = empty_if _ c.clear.ensures

pub returns-clause-entries : goal.returns-clause-entries
returns-clause-entries c = entries_if _ c.clear.ensures
