use Rattle.std.proofs.Common.{◌<◌, length, Some, ap, subst, ◌∙◌, arith}
use Rattle.aodv_asked.specs.Tops.{rows_with_tops, top_at, with_interval, IsBehind}
use Rattle.aodv_asked.proofs.RowLaws.{row_read, least_shown}
use Rattle.aodv_asked.proofs.TopLaws.{least_row, least_top}
use Rattle.aodv_asked.proofs.KeptLaws.{nodes_len, top_read, topped_at, ids_topped}
use Rattle.aodv_asked.proofs.asked.Asked.least_from.Goals as goal

pub returns-in-Some : goal.returns-in-Some
returns-in-Some c =
    let rows = c.self.inside.rows.items in
    let tops = c.self.inside.tops.items in
    let row = c.index.result.now in
    let v = top_at tops c.args.o in
    let lt : c.args.o < length rows = omega (arith, c.requires, nodes_len rows c.self.inside.tops.items _ (ap (λ s. s.rooms) c.self.view_is)) in
    let ids = row_read rows c.args.o row lt c.index.ensures in
    let behind = subst (λ s. IsBehind s v) ids (c.self.invariant.behind c.args.o) in
    least_shown (rows_with_tops rows tops) c.args.self.now.pairs c.args.o c.args.from (Some c.in-Some.id) (with_interval row.ids v) (ap (λ s. s.pairs) c.self.view_is)
    (topped_at rows tops c.args.o lt ∙ ap (λ s. with_interval s v) ids)
    (least_row row.ids v c.args.from c.in-Some.id behind c.in-Some.ensures)

pub returns-in-None : goal.returns-in-None
returns-in-None c =
    let rows = c.self.inside.rows.items in
    let tops = c.self.inside.tops.items in
    let row = c.index.result.now in
    let v = c.index-in-None.result.now in
    let lt : c.args.o < length rows = omega (arith, c.requires, nodes_len rows c.self.inside.tops.items _ (ap (λ s. s.rooms) c.self.view_is)) in
    let ids = row_read rows c.args.o row lt c.index.ensures in
    let top = top_read tops c.args.o v (omega (arith, c.self.invariant.each)) c.index-in-None.ensures in
    least_shown (rows_with_tops rows tops) c.args.self.now.pairs c.args.o c.args.from c.least_from-in-None.result (with_interval row.ids v) (ap (λ s. s.pairs) c.self.view_is)
    (ids_topped rows tops c.args.o v lt top ∙ ap (λ s. with_interval s v) ids)
    (least_top row.ids v c.args.from c.least_from-in-None.result c.in-None.ensures c.least_from-in-None.ensures)
