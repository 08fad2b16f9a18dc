use Rattle.aodv_meaning.specs.Meaning.{dests_in}
use Rattle.aodv_handlers.specs.Shown.{core_of}
use Rattle.aodv_node.proofs.Readings.{error_heard}
use Rattle.aodv_node.proofs.heard.handle_error.Goals as goal

pub returns-clause-does : goal.returns-clause-does
returns-clause-does g c =
    error_heard c.args.mesh.now (core_of g.T.Table.entries c.args.core.now) (core_of g.T.Table.entries c.make_row.new.core) c.args.range.now c.args.from (dests_in c.args.mesh.now c.args.m.now) c.on_rerr.result (core_of g.T.Table.entries c.on_rerr.new.core) c.on_rerr.new.out.items
    c.make_row.ensures.shown c.on_rerr.ensures.does
