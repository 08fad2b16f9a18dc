use Rattle.std.proofs.Common.{map, sym, ap, ◌∙◌}
use Rattle.std.proofs.lemmas.List.{length-map}
use Rattle.aodv_waiting.specs.Rows.{bodies_in_row}
use Rattle.aodv_waiting.proofs.StoreLaws.{data_shown, in_mesh, rings_len}
use Rattle.aodv_waiting.proofs.waiting.Waiting.dests.Goals as goal

pub returns-clause-value : goal.returns-clause-value
returns-clause-value c = λ d. sym (data_shown c.self.inside.with_data c.self.inside.needing (map bodies_in_row c.self.inside.rows.items) c.args.self.now.store d c.self.invariant (ap (λ s. s.store) c.self.view_is))

pub returns-clause-in_mesh : goal.returns-clause-in_mesh
returns-clause-in_mesh c =
    in_mesh c.self.inside.with_data c.self.inside.needing (map bodies_in_row c.self.inside.rows.items) c.args.self.now.store _ c.self.invariant (ap (λ s. s.store) c.self.view_is)
    (length-map c.self.inside.rows.items bodies_in_row ∙ rings_len _ c.self.inside.rows.items _ (ap (λ s. s.rooms) c.self.view_is))
