use Rattle.std.proofs.Common.{map, ◌<◌, sym, ap, ◌∙◌, length, arith}
use Rattle.aodv_waiting.specs.Rows.{bodies_in_row}
use Rattle.aodv_waiting.proofs.StoreLaws.{bodies_shown, row_read, rings_len}
use Rattle.aodv_waiting.proofs.waiting.Waiting.count.Goals as goal

pub returns : goal.returns
returns c =
    let rings = c.self.inside.rows.items in
    let rows = map bodies_in_row rings in
    let lt : c.args.d < length rings = omega (arith, c.requires, rings_len _ rings _ (ap (λ s. s.rooms) c.self.view_is)) in
    c.len.ensures ∙ ap length (sym (row_read bodies_in_row rings c.args.d _ lt c.index.ensures) ∙ sym (bodies_shown c.self.inside.needing rows c.args.self.now.store c.args.d (ap (λ s. s.store) c.self.view_is)))
