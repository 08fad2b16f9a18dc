-- What a schedule can count stays far below the ends of a checkpoint's numbers.
use Rattle.std.proofs.Common.{◌≡◌, ◌≤◌, ◌+◌, ◌*◌, subst, refl, arith}
use Rattle.mesh_base.specs.declared.events.Variant.TheVariants.{Base}
use Rattle.mesh_base.specs.declared.limits.TheConstants.{LONGEST_INPUT, MOST_EVENTS}
use Rattle.mesh_model.specs.Worlds.{start}
use Rattle.mesh_text.specs.Schedule.{RunState, opening, world_of}
use Rattle.mesh_run.specs.Sums.{IsGrown}
use Rattle.mesh_state.specs.Small.{IsSmall}

first_copy : (world_of (opening Base)).next_copy ≡ 1
unfolding start
first_copy = refl

pub small_end : (first at : RunState) → first ≡ opening Base → IsGrown first at → at.lines ≤ first.lines + LONGEST_INPUT → 4 * at.steps ≤ 4 * first.steps + MOST_EVENTS * LONGEST_INPUT → IsSmall at
small_end first at e grown lines steps =
    let g : IsGrown (opening Base) at = subst (λ m. IsGrown m at) e grown in
    let l : at.lines ≤ 0 + LONGEST_INPUT = subst (λ m. at.lines ≤ m.lines + LONGEST_INPUT) e lines in
    let s : 4 * at.steps ≤ 4 * 0 + MOST_EVENTS * LONGEST_INPUT = subst (λ m. 4 * at.steps ≤ 4 * m.steps + MOST_EVENTS * LONGEST_INPUT) e steps in
    let one = first_copy in
    let copies = g.copies in
    let events = g.events in
    let idle = g.idle in
    let given = g.given in
    let delivered = g.delivered in
    let lost = g.lost in
    let copied = g.copied in
    record {
      steps = omega arith;
      next = omega arith;
      lines = omega arith;
      events = omega arith;
      idle = omega arith;
      given = omega arith;
      delivered = omega arith;
      lost = omega arith;
      copied = omega arith;
    }
