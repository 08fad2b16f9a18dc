use Rattle.std.proofs.Common.{◌<◌, length, set, ap, sym, subst, ◌∙◌, arith}
use Rattle.std.specs.Vec.{with_item}
use Rattle.aodv_asked.specs.Spots.{IsThere, position_of}
use Rattle.std.proofs.lemmas.List.{length-set}
use Rattle.aodv_asked.proofs.ChunkLaws.{listed, is_in_chunk, set_in, set_lengths}
use Rattle.aodv_asked.proofs.chunks.Chunks.set.Goals as goal

pub index_mut-chunk-requires : goal.index_mut-chunk-requires
index_mut-chunk-requires c =
    let there = is_in_chunk listed c.self.inside.chunks.items c.args.spot.chunk c.args.spot.offset (subst (λ s. IsThere s c.args.spot) (sym c.self.view_is) c.requires) in
    omega (arith, there.chunk, c.self.inside.chunks.ok)

pub index_mut-requires : goal.index_mut-requires
index_mut-requires c =
    let there = is_in_chunk listed c.self.inside.chunks.items c.args.spot.chunk c.args.spot.offset (subst (λ s. IsThere s c.args.spot) (sym c.self.view_is) c.requires) in
    let x = c.index_mut-chunk.result.now in
    let lt : c.args.spot.offset < length x.items = subst (λ y. c.args.spot.offset < length (listed y)) (sym c.index_mut-chunk.ensures.value) (there.offset x) in
    omega (arith, lt, x.ok)

pub returns-clause-items : goal.returns-clause-items
returns-clause-items c =
    let cs = c.self.inside.chunks.items in
    let k = c.args.spot.chunk in
    let o = c.args.spot.offset in
    let there = is_in_chunk listed cs k o (subst (λ s. IsThere s c.args.spot) (sym c.self.view_is) c.requires) in
    let x = c.index_mut-chunk.result.now in
    set_in listed cs k o x (with_item x o c.args.v) c.args.v there.chunk (there.offset x) (ap (λ y. set (listed y) o c.args.v) c.index_mut-chunk.ensures.value)
    ∙ ap (λ s. set s.items (position_of s c.args.spot) c.args.v) c.self.view_is

pub returns-clause-lengths : goal.returns-clause-lengths
returns-clause-lengths c =
    let cs = c.self.inside.chunks.items in
    let k = c.args.spot.chunk in
    let o = c.args.spot.offset in
    let x = c.index_mut-chunk.result.now in
    set_lengths listed cs k x (with_item x o c.args.v) (length-set x.items o c.args.v ∙ ap (λ y. length (listed y)) c.index_mut-chunk.ensures.value)
    ∙ ap (λ s. s.lengths) c.self.view_is
