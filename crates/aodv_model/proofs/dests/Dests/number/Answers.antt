use Rattle.std.proofs.Common.{arith, ap, sym, ◌∙◌, length}
use Rattle.std.specs.FinMap as maps
use Rattle.aodv_model.proofs.RisingLaws.{index_along, number_here, number_nowhere, dest_at}
use Rattle.aodv_model.proofs.dests.Dests.number.Goals as goal

pub returns-then-index-pairs : goal.returns-then-index-pairs
returns-then-index-pairs c =
    let same = c.as_slice-pairs.ensures.value in
    let at = c.count_below-index.ensures in
    let index = index_along _ _ c.args.d c.count_below-index.result same at.within at.below at.above in
    number_nowhere c.self.inside.pairs.items c.args.d c.count_below-index.result c.self.invariant index (λ lt. absurd (omega (arith, c.if-index-pairs.true, ap length same)))
    ∙ ap (λ m. maps.get m c.args.d) c.self.view_is

pub returns-then-pairs-index : goal.returns-then-pairs-index
returns-then-pairs-index c =
    let same = c.as_slice-pairs.ensures.value in
    let at = c.count_below-index.ensures in
    let index = index_along _ _ c.args.d c.count_below-index.result same at.within at.below at.above in
    let here = ap (λ es. dest_at (0, 0) es c.count_below-index.result) same in
    rw same (number_here c.self.inside.pairs.items c.args.d c.count_below-index.result c.self.invariant index (omega (arith, at.within, c.if-index-pairs.false, ap length same)) (sym here ∙ c.if-pairs-index.true)
    ∙ ap (λ m. maps.get m c.args.d) c.self.view_is)

pub returns-else-pairs-index : goal.returns-else-pairs-index
returns-else-pairs-index c =
    let same = c.as_slice-pairs.ensures.value in
    let at = c.count_below-index.ensures in
    let index = index_along _ _ c.args.d c.count_below-index.result same at.within at.below at.above in
    let here = ap (λ es. dest_at (0, 0) es c.count_below-index.result) same in
    number_nowhere c.self.inside.pairs.items c.args.d c.count_below-index.result c.self.invariant index (λ lt e. c.if-pairs-index.false (here ∙ e))
    ∙ ap (λ m. maps.get m c.args.d) c.self.view_is
