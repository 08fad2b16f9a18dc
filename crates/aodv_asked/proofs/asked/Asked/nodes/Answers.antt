use Rattle.std.proofs.Common.{◌≡◌, length, ap, sym, ◌∙◌, rules}
use Rattle.aodv_asked.specs.Tops.{rows_with_tops}
use Rattle.aodv_asked.proofs.RowLaws.{of_a_row}
use Rattle.aodv_asked.proofs.KeptLaws.{topped_len}
use Rattle.aodv_asked.proofs.asked.Asked.nodes.Goals as goal

pub returns-clause-within : goal.returns-clause-within
returns-clause-within c o id here =
    let rows = c.self.inside.rows.items in
    let tops = c.self.inside.tops.items in
    let count : c.len.result ≡ length rows = search rules in
    of_a_row (rows_with_tops rows tops) c.args.self.now.pairs c.len.result o id (ap (λ s. s.pairs) c.self.view_is) (count ∙ sym (topped_len rows tops)) here
