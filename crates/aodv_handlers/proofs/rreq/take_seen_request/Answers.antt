use Rattle.std.proofs.Common.{refl, subst, sym}
use Rattle.aodv_model.specs.Handlers.{key_of}
use Rattle.aodv_model.specs.Soundness.{IsSoundTable}
use Rattle.aodv_model.proofs.SoundTables.{neighbour_table}
use Rattle.aodv_handlers.specs.Shown.{core_of}
use Rattle.aodv_handlers.proofs.Order.{order_table}
use Rattle.aodv_handlers.proofs.Requests.{seen_made}
use Rattle.aodv_handlers.proofs.rreq.take_seen_request.Goals as goal

pub returns-clause-does : goal.returns-clause-does
returns-clause-does g c = λ mesh range m seen.
    let core = core_of g.T.Table.entries c.args.core.now in
    seen_made mesh core range c.args.from m (key_of core.variant m) (g.T.Table.entries c.note_neighbour.new.table) c.casting.result c.clear.new.self.items refl
    seen c.note_neighbour.ensures.entries c.casting.ensures c.clear.ensures

pub returns-clause-order : goal.returns-clause-order
returns-clause-order g c =
    let core = c.args.core.now in
    let rt = g.T.Table.entries core.table in
    let size = g.T.Table.nodes core.table in
    order_table g.T.Table.nodes g.T.Table.entries size core _ c.requires.order c.note_neighbour.ensures.nodes refl refl refl c.requires.order.sound.own
    (subst (IsSoundTable size core.me) (sym c.note_neighbour.ensures.entries) (neighbour_table size core.me rt c.args.from c.requires.from c.requires.other c.requires.order.sound.table))
