use Rattle.std.proofs.Common.{map, sym, ap}
use Rattle.aodv_waiting.specs.Rows.{bodies_in_row}
use Rattle.aodv_waiting.proofs.StoreLaws.{needs_shown}
use Rattle.aodv_waiting.proofs.waiting.Waiting.needing.Goals as goal

pub returns : goal.returns
returns c = λ d. sym (needs_shown c.self.inside.with_data c.self.inside.needing (map bodies_in_row c.self.inside.rows.items) c.args.self.now.store d c.self.invariant (ap (λ s. s.store) c.self.view_is))
