use Rattle.std.proofs.Common.{◌<◌, length, ap, sym, ◌∙◌, arith}
use Rattle.std.specs.FinSet as sets
use Rattle.aodv_asked.specs.Rows.{ids_at}
use Rattle.aodv_asked.proofs.RowLaws.{row_read}
use Rattle.aodv_asked.proofs.TopLaws.{from_top, below_top}
use Rattle.aodv_asked.proofs.KeptLaws.{nodes_len, top_read, behind_topped, shown_topped}
use Rattle.aodv_asked.proofs.asked.Asked.has.Goals as goal

pub returns-then-top-id : goal.returns-then-top-id
returns-then-top-id c =
    let rows = c.self.inside.rows.items in
    let tops = c.self.inside.tops.items in
    let v = c.index-top.result.now in
    let lt : c.args.o < length rows = omega (arith, c.requires, nodes_len rows c.self.inside.tops.items _ (ap (λ s. s.rooms) c.self.view_is)) in
    let top = top_read tops c.args.o v (omega (arith, c.self.invariant.each)) c.index-top.ensures in
    let behind = behind_topped rows tops c.self.inside.roomy c.args.o v c.self.invariant top in
    sym (shown_topped rows tops c.args.self.now.pairs c.args.o c.args.id v lt (ap (λ s. s.pairs) c.self.view_is) top ∙ from_top (ids_at rows c.args.o) v c.args.id behind c.if-top-id.true)

pub returns : goal.returns
returns c =
    let rows = c.self.inside.rows.items in
    let tops = c.self.inside.tops.items in
    let v = c.index-top.result.now in
    let lt : c.args.o < length rows = omega (arith, c.requires, nodes_len rows c.self.inside.tops.items _ (ap (λ s. s.rooms) c.self.view_is)) in
    let top = top_read tops c.args.o v (omega (arith, c.self.invariant.each)) c.index-top.ensures in
    c.has.ensures ∙ ap (λ ids. sets.contains ids c.args.id) (sym (row_read rows c.args.o c.index.result.now lt c.index.ensures))
    ∙ sym (shown_topped rows tops c.args.self.now.pairs c.args.o c.args.id v lt (ap (λ s. s.pairs) c.self.view_is) top ∙ below_top (ids_at rows c.args.o) v c.args.id c.if-top-id.false)
