use Rattle.std.proofs.Common.{◌+◌, ◌≤◌, ◌∷◌, [], length, ap, sym, subst, ◌∙◌, arith}
use Rattle.std.proofs.lemmas.List.{length-append}
use Rattle.mesh_base.specs.declared.limits.TheConstants.{LONGEST_PACKET}
use Rattle.mesh_link.specs.Memory.{AreRooms}
use Rattle.mesh_link.proofs.Rooms.{all_push}
use Rattle.mesh_link.proofs.mem.rooms_for.Goals as goal

pub loop-init : goal.loop-init
loop-init c = record {
  count = ap length c.in_ok-rooms.ensures.items;
  each = subst AreRooms (sym c.in_ok-rooms.ensures.items) tt;
}

pub loop-preserved : goal.loop-preserved
loop-preserved c =
    let room : LONGEST_PACKET ≤ c.in_ok-new.field-0 = omega (arith, c.in_ok-new.ensures.room) in
    record {
      count = ap length c.in_ok-push.ensures.items ∙ length-append c.loop.rooms.items (c.in_ok-new.field-0 ∷ []) ∙ ap (λ n. n + 1) c.loop.invariant.count;
      each = subst AreRooms (sym c.in_ok-push.ensures.items) (all_push c.loop.rooms.items c.in_ok-new.field-0 c.loop.invariant.each room);
    }

pub returns-clause-count : goal.returns-clause-count
returns-clause-count c = c.loop.invariant.count ∙ omega (arith, c.loop.auto.counter-end, c.loop-test.false)

pub returns-clause-each : goal.returns-clause-each
returns-clause-each c = c.loop.invariant.each
