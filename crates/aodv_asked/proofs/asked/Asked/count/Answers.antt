use Rattle.std.proofs.Common.{◌<◌, ◌≤◌, ◌+◌, length, ap, subst, ◌∙◌, arith}
use Rattle.aodv_asked.specs.Tops.{rows_with_tops, with_interval, IsBehind}
use Rattle.aodv_asked.proofs.RowLaws.{row_read}
use Rattle.aodv_asked.proofs.TopLaws.{count_all, count_few}
use Rattle.aodv_asked.proofs.KeptLaws.{nodes_len, top_read, behind_topped, ids_topped}
use Rattle.aodv_asked.proofs.Counts.{count_beside}
use Rattle.aodv_asked.proofs.asked.Asked.count.Goals as goal

pub overflow_add-result : goal.overflow_add-result
overflow_add-result c =
    let rows = c.self.inside.rows.items in
    let tops = c.self.inside.tops.items in
    let v = c.index-2.result.now in
    let row = c.index.result.now in
    let lt : c.args.o < length rows = omega (arith, c.requires, nodes_len rows c.self.inside.tops.items _ (ap (λ s. s.rooms) c.self.view_is)) in
    let top = top_read tops c.args.o v (omega (arith, c.self.invariant.each)) c.index-2.ensures in
    let behind = subst (λ ids. IsBehind ids v) (row_read rows c.args.o row lt c.index.ensures) (behind_topped rows tops c.self.inside.roomy c.args.o v c.self.invariant top) in
    let few : c.count.result ≤ v.first = count_few row.ids v c.count.result behind c.count.ensures in
    omega (arith, c.count-2.ensures.few)

pub returns : goal.returns
returns c =
    let rows = c.self.inside.rows.items in
    let tops = c.self.inside.tops.items in
    let v = c.index-2.result.now in
    let row = c.index.result.now in
    let lt : c.args.o < length rows = omega (arith, c.requires, nodes_len rows c.self.inside.tops.items _ (ap (λ s. s.rooms) c.self.view_is)) in
    let top = top_read tops c.args.o v (omega (arith, c.self.invariant.each)) c.index-2.ensures in
    let ids = row_read rows c.args.o row lt c.index.ensures in
    let behind = subst (λ s. IsBehind s v) ids (behind_topped rows tops c.self.inside.roomy c.args.o v c.self.invariant top) in
    count_beside (rows_with_tops rows tops) c.args.self.now.pairs c.args.o (c.count.result + c.count-2.result) (with_interval row.ids v) (ap (λ s. s.pairs) c.self.view_is)
    (ids_topped rows tops c.args.o v lt top ∙ ap (λ s. with_interval s v) ids)
    (λ n below. ap (λ k. c.count.result + k) c.count-2.ensures.value ∙ count_all row.ids v c.count.result n behind c.count.ensures below)
