use Rattle.std.proofs.Common.{◌+◌, ap, sym, subst, ◌∙◌}
use Rattle.std.specs.List.{flat_map}
use Rattle.aodv_asked.specs.Intervals.{AreApart}
use Rattle.aodv_asked.specs.Spots.{total}
use Rattle.aodv_asked.proofs.ChunkLaws.{listed}
use Rattle.aodv_asked.proofs.ChunkFinds.{apart_from, counted_more, counted_whole}
use Rattle.aodv_asked.proofs.chunks.Chunks.count.Goals as goal

pub count_on-count-requires : goal.count_on-count-requires
count_on-count-requires c =
    let xs = c.deref-chunk-items.result.now in
    let k = c.loop-chunk.chunk-index in
    let x = c.chunk-item.result in
    let apart : AreApart 0 (flat_map listed xs) = subst (AreApart 0) (sym (ap (λ s. s.items) c.self.view_is) ∙ ap (λ ys. flat_map listed ys) (sym c.deref-chunk-items.ensures.value)) c.requires in
    subst (AreApart c.loop-chunk.count) (ap listed (sym c.chunk-item.is) ∙ sym c.as_slice.ensures.value)
    (apart_from listed xs k x c.loop-chunk.count apart c.loop-chunk-test.true c.loop-chunk.invariant)

pub loop-chunk-preserved : goal.loop-chunk-preserved
loop-chunk-preserved c =
    let xs = c.deref-chunk-items.result.now in
    let k = c.loop-chunk.chunk-index in
    let x = c.chunk-item.result in
    c.count_on-count.ensures
    ∙ ap (λ vs. c.loop-chunk.count + total vs) (c.as_slice.ensures.value ∙ ap listed c.chunk-item.is)
    ∙ counted_more listed xs k x c.loop-chunk.count c.loop-chunk-test.true c.loop-chunk.invariant

pub returns : goal.returns
returns c =
    let xs = c.deref-chunk-items.result.now in
    counted_whole listed xs c.loop-chunk.chunk-index c.loop-chunk.count c.loop-chunk-test.false c.loop-chunk.invariant
    ∙ ap (λ ys. total (flat_map listed ys)) c.deref-chunk-items.ensures.value
    ∙ ap (λ s. total s.items) c.self.view_is
