use Rattle.std.proofs.Common.{map, sym, ap, subst, ◌∙◌}
use Rattle.aodv_model.specs.Cores.{Store, unset}
use Rattle.aodv_waiting.specs.Rows.{bodies_in_row, store_of, AreRows}
use Rattle.aodv_waiting.proofs.ChangeLaws.{unset_is, unset_kept}
use Rattle.aodv_waiting.proofs.waiting.Waiting.unset_req.Goals as goal

pub invariant_of-self : goal.invariant_of-self
invariant_of-self c = subst (AreRows (map bodies_in_row c.self.inside.rows.items) c.self.inside.with_data) (sym c.remove.ensures) (unset_kept (map bodies_in_row c.self.inside.rows.items) c.self.inside.with_data c.self.inside.needing c.args.d c.self.invariant)

pub returns-clause-store : goal.returns-clause-store
returns-clause-store c =
    ap (λ s. store_of s (map bodies_in_row c.self.inside.rows.items)) c.remove.ensures
    ∙ unset_is (map bodies_in_row c.self.inside.rows.items) c.self.inside.needing c.args.d
    ∙ ap (λ (s : Store). unset s c.args.d) (ap (λ s. s.store) c.self.view_is)
