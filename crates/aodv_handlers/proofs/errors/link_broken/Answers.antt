use Rattle.std.proofs.Common.{◌≡◌, ℕ, subst, sym, length, refl, ◌∙◌, ap}
use Rattle.aodv_asked.specs.Requests.{RoomySeen}
use Rattle.aodv_model.specs.Tables.{Dests, unreachable_by}
use Rattle.aodv_model.specs.Cores.{Core}
use Rattle.aodv_model.specs.Handlers.{link_broken, retract}
use Rattle.aodv_model.specs.Soundness.{AreDestsBelow}
use Rattle.aodv_model.proofs.TablesInMesh.{unreachable_by_below}
use Rattle.aodv_handlers.specs.Shown.{core_of}
use Rattle.aodv_handlers.proofs.Order.{order_after, broken_sound}
use Rattle.aodv_handlers.proofs.Unicasts.{break_made, past_full}
use Rattle.aodv_handlers.proofs.errors.link_broken.Goals as goal

pub retract-requires-clause-below : goal.retract-requires-clause-below
retract-requires-clause-below g c =
    subst (λ (m : Dests). AreDestsBelow (length c.args.mesh.now) m) (sym c.in-Ok.ensures.1)
    (unreachable_by_below (length c.args.mesh.now) c.args.core.now.me (g.T.Table.entries c.args.core.now.table) c.args.next c.requires.order.sound.table.in_mesh)

pub returns-in-Ok-clause-does : goal.returns-in-Ok-clause-does
returns-in-Ok-clause-does g c =
    break_made c.args.mesh.now (core_of g.T.Table.entries c.args.core.now) (core_of g.T.Table.entries c.retract.new.core) c.args.next c.dests_via.new.out c.retract.result c.retract.new.out.items
    c.in-Ok.ensures.0 c.in-Ok.ensures.1 c.retract.ensures.core c.retract.ensures.cast c.retract.ensures.packet

after : (core : Core) (y : ℕ) (dests : Dests) → dests ≡ unreachable_by core.rt y → (retract core dests).core ≡ (link_broken core y).core
unfolding link_broken
after core y dests is = ap (λ (d : Dests). (retract core d).core) is

me : (core : Core) (y : ℕ) → (link_broken core y).core.ip ≡ core.ip
unfolding link_broken retract
me core y = refl

pub returns-in-Ok-clause-order : goal.returns-in-Ok-clause-order
returns-in-Ok-clause-order g c =
    let core = core_of g.T.Table.entries c.args.core.now in
    order_after g.T.Table.nodes g.T.Table.entries (length c.args.mesh.now) c.args.core.now c.retract.new.core (link_broken core c.args.next).core c.requires.order c.retract.ensures.nodes (ap (λ (a : RoomySeen). length a.rooms) c.retract.ensures.asked) (ap length c.retract.ensures.waiting)
    (c.retract.ensures.core ∙ after core c.args.next c.dests_via.new.out c.in-Ok.ensures.1) (me core c.args.next) (broken_sound (length c.args.mesh.now) core c.args.next c.requires.order.sound)

pub returns-in-Err-clause-does : goal.returns-in-Err-clause-does
returns-in-Err-clause-does g c = record {
  overfull = past_full (g.T.Table.entries c.args.core.now.table) c.args.next c.in-Err.ensures.past;
  same = refl;
}
