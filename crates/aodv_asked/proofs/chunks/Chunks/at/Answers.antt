use Rattle.std.proofs.Common.{◌<◌, get_or, length, ap, sym, subst, ◌∙◌, arith}
use Rattle.std.proofs.lemmas.List.{get_or_read}
use Rattle.aodv_asked.specs.Insertions.{interval, interval_at}
use Rattle.aodv_asked.specs.Spots.{IsThere, position_of}
use Rattle.aodv_asked.proofs.ChunkLaws.{listed, is_in_chunk, at_position}
use Rattle.aodv_asked.proofs.chunks.Chunks.at.Goals as goal

pub index-requires : goal.index-requires
index-requires c =
    let there = is_in_chunk listed c.self.inside.chunks.items c.args.spot.chunk c.args.spot.offset (subst (λ s. IsThere s c.args.spot) (sym c.self.view_is) c.requires) in
    omega (arith, there.chunk, c.self.inside.chunks.ok)

pub index-requires-2 : goal.index-requires-2
index-requires-2 c =
    let there = is_in_chunk listed c.self.inside.chunks.items c.args.spot.chunk c.args.spot.offset (subst (λ s. IsThere s c.args.spot) (sym c.self.view_is) c.requires) in
    let x = c.index.result.now in
    let lt : c.args.spot.offset < length x.items = subst (λ y. c.args.spot.offset < length (listed y)) (sym c.index.ensures) (there.offset x) in
    omega (arith, lt, x.ok)

pub returns : goal.returns
returns c =
    let cs = c.self.inside.chunks.items in
    let k = c.args.spot.chunk in
    let o = c.args.spot.offset in
    let there = is_in_chunk listed cs k o (subst (λ s. IsThere s c.args.spot) (sym c.self.view_is) c.requires) in
    let x = c.index.result.now in
    let lt : o < length x.items = subst (λ y. o < length (listed y)) (sym c.index.ensures) (there.offset x) in
    get_or_read x.items o c.index-2.result.now lt c.index-2.ensures (interval 0 0)
    ∙ ap (λ y. get_or (listed y) o (interval 0 0)) c.index.ensures
    ∙ sym (at_position listed cs k o x (interval 0 0) there.chunk (there.offset x))
    ∙ ap (λ s. interval_at s.items (position_of s c.args.spot)) c.self.view_is
