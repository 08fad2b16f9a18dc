use Rattle.aodv_handlers.specs.Shown.{core_of}
use Rattle.aodv_handlers.proofs.Unicasts.{new_free}
use Rattle.aodv_handlers.proofs.data.new_packet.Goals as goal

pub returns-then-dest-core-clause-free : goal.returns-then-dest-core-clause-free
returns-then-dest-core-clause-free g c = λ range. new_free (core_of g.T.Table.entries c.args.core.now) range c.args.body c.args.dest

pub returns-clause-free : goal.returns-clause-free
returns-clause-free g c = λ range. new_free (core_of g.T.Table.entries c.args.core.now) range c.args.body c.args.dest
