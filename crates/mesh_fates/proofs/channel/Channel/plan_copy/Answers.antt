use Rattle.std.proofs.Common.{◌≡◌, ◌≤◌, ap, sym, subst, ◌∙◌}
use Rattle.mesh_fates.specs.declared.due.Due.{Due}
use Rattle.mesh_fates.specs.Plans.{Plan, with_due}
use Rattle.mesh_fates.specs.Left.{AreNumbered, events_left}
use Rattle.mesh_fates.specs.Channels.{Channel, due_at}
use Rattle.mesh_fates.specs.Steps.{planned_late}
use Rattle.mesh_fates.proofs.Planned.{insert_is, all_with}
use Rattle.mesh_fates.proofs.channel.Channel.plan_copy.Goals as goal

with_plan : Channel → Plan → Channel
with_plan c plan = record c { plan = plan }

pub invariant_of-self-2 : goal.invariant_of-self-2
invariant_of-self-2 c =
    let new = due_at c.self.inside.tick c.args.id c.args.delay in
    let keys : c.insert.new.self.keys ≡ with_due c.self.inside.plan.keys new = rw (← insert_is c.self.inside.plan.keys new, ← c.from.ensures) c.in_ok-insert.ensures.keys in
    (subst AreNumbered (sym keys) (all_with (λ (d : Due). 1 ≤ d.id) c.self.inside.plan.keys new c.self.invariant.0 c.requires.number), c.self.invariant.1)

pub returns : goal.returns
unfolding with_plan
returns c =
    let new = due_at c.self.inside.tick c.args.id c.args.delay in
    let keys : c.insert.new.self.keys ≡ with_due c.self.inside.plan.keys new = rw (← insert_is c.self.inside.plan.keys new, ← c.from.ensures) c.in_ok-insert.ensures.keys in
    let at : Channel = record { rng = c.self.inside.rng; tick = c.self.inside.tick; plan = c.self.inside.plan.keys; left = events_left c.self.inside.left.items } in
    record { planned = ap (with_plan at) keys ∙ ap (λ (w : Channel). planned_late w c.args.id c.args.delay) c.self.view_is }
