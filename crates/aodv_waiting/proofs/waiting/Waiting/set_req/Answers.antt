use Rattle.std.proofs.Common.{map, ap, ◌∙◌}
use Rattle.std.specs.FinSet as sets
use Rattle.mesh_base.specs.Members.{NodeIds}
use Rattle.aodv_model.specs.Cores.{Store, set}
use Rattle.aodv_waiting.specs.Rows.{bodies_in_row, store_of}
use Rattle.aodv_waiting.proofs.ChangeLaws.{set_is, set_kept}
use Rattle.aodv_waiting.proofs.waiting.Waiting.set_req.Goals as goal

pub invariant_of-self : goal.invariant_of-self
invariant_of-self c =
    rw (c.join.ensures, c.meet.ensures) (set_kept (map bodies_in_row c.self.inside.rows.items) c.self.inside.with_data c.self.inside.needing c.args.dests.now c.self.invariant)

pub returns-clause-store : goal.returns-clause-store
returns-clause-store c =
    ap (λ (s : NodeIds). store_of s (map bodies_in_row c.self.inside.rows.items)) (c.join.ensures ∙ ap (sets.union c.self.inside.needing) c.meet.ensures)
    ∙ set_is (map bodies_in_row c.self.inside.rows.items) c.self.inside.with_data c.self.inside.needing c.args.dests.now c.self.invariant
    ∙ ap (λ (s : Store). set s c.args.dests.now) (ap (λ s. s.store) c.self.view_is)
