use Rattle.std.proofs.Common.{refl, ap, ◌∙◌, length}
use Rattle.aodv_asked.specs.Requests.{RoomySeen}
use Rattle.aodv_model.specs.Tables.{accepted_unreachable}
use Rattle.aodv_model.specs.Handlers.{retract}
use Rattle.aodv_meaning.specs.Meaning.{dests_in}
use Rattle.aodv_handlers.specs.Shown.{core_of}
use Rattle.aodv_handlers.proofs.Order.{order_after}
use Rattle.aodv_handlers.proofs.Delivered.{error_made, error_sound, retract_ip}
use Rattle.aodv_handlers.proofs.rerr.on_rerr.Goals as goal

pub returns-clause-does : goal.returns-clause-does
returns-clause-does g c =
    let core = core_of g.T.Table.entries c.args.core.now in
    let rt1 = g.T.Table.entries c.note_neighbour.new.table in
    let dests = dests_in c.args.mesh.now c.args.m.now in
    error_made c.args.mesh.now core (core_of g.T.Table.entries c.retract_stated.new.core) c.args.from dests (accepted_unreachable rt1 c.args.from dests) rt1 c.retract_stated.result c.casting.result c.retract_stated.new.out.items
    c.note_neighbour.ensures.entries refl c.retract_stated.ensures.core c.retract_stated.ensures.cast c.retract_stated.ensures.packet c.casting.ensures

pub returns-clause-order : goal.returns-clause-order
returns-clause-order g c =
    let core = core_of g.T.Table.entries c.args.core.now in
    let rt1 = g.T.Table.entries c.note_neighbour.new.table in
    let dests = dests_in c.args.mesh.now c.args.m.now in
    let accepted = accepted_unreachable rt1 c.args.from dests in
    order_after g.T.Table.nodes g.T.Table.entries (length c.args.mesh.now) c.args.core.now c.retract_stated.new.core (retract (record core { rt = rt1 }) accepted).core c.requires.order (c.retract_stated.ensures.nodes ∙ c.note_neighbour.ensures.nodes)
    (ap (λ (a : RoomySeen). length a.rooms) c.retract_stated.ensures.asked) (ap length c.retract_stated.ensures.waiting) c.retract_stated.ensures.core (retract_ip (record core { rt = rt1 }) accepted)
    (error_sound (length c.args.mesh.now) c.args.from core dests accepted rt1 c.requires.from c.requires.other c.requires.order.sound c.note_neighbour.ensures.entries refl)
