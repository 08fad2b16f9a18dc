use Rattle.std.proofs.Common.{◌≡◌, ◌<◌, ◌+◌, get_or, length, refl, ap, sym, subst, ◌∙◌, arith, Some}
use Rattle.aodv_asked.specs.Spots.{IsThere, IsBehindSpot, position_of}
use Rattle.aodv_asked.proofs.ChunkLaws.{listed, is_in_chunk, position_within, position_next, position_next_chunk, position_last}
use Rattle.aodv_asked.proofs.chunks.Chunks.behind.Goals as goal

pub overflow_add-spot : goal.overflow_add-spot
overflow_add-spot c =
    let there = is_in_chunk listed c.self.inside.chunks.items c.args.spot.chunk c.args.spot.offset (subst (λ s. IsThere s c.args.spot) (sym c.self.view_is) c.requires) in
    let x = c.index.result.now in
    let lt : c.args.spot.offset < length x.items = subst (λ y. c.args.spot.offset < length (listed y)) (sym c.index.ensures) (there.offset x) in
    omega (arith, lt, x.ok, x.small)

pub index-requires : goal.index-requires
index-requires c =
    let there = is_in_chunk listed c.self.inside.chunks.items c.args.spot.chunk c.args.spot.offset (subst (λ s. IsThere s c.args.spot) (sym c.self.view_is) c.requires) in
    omega (arith, there.chunk, c.self.inside.chunks.ok)

pub overflow_add-spot-2 : goal.overflow_add-spot-2
overflow_add-spot-2 c =
    let there = is_in_chunk listed c.self.inside.chunks.items c.args.spot.chunk c.args.spot.offset (subst (λ s. IsThere s c.args.spot) (sym c.self.view_is) c.requires) in
    omega (arith, there.chunk, c.self.inside.chunks.ok, c.self.inside.chunks.small)

pub returns-then-spot-len : goal.returns-then-spot-len
returns-then-spot-len c =
    let cs = c.self.inside.chunks.items in
    let k = c.args.spot.chunk in
    let o = c.args.spot.offset in
    let there = is_in_chunk listed cs k o (subst (λ s. IsThere s c.args.spot) (sym c.self.view_is) c.requires) in
    let x = c.index.result.now in
    let inside : o + 1 < length x.items = omega (arith, c.if-spot-len.true, c.len-len.ensures, x.ok) in
    let inside2 : o + 1 < length (listed (get_or cs k x)) = subst (λ y. o + 1 < length (listed y)) c.index.ensures inside in
    let next = position_next listed cs k o x there.chunk inside2 in
    subst (λ s. IsBehindSpot s c.args.spot (Some (record { chunk = k; offset = o + 1 }))) c.self.view_is
    (next, position_within listed cs k (o + 1) x there.chunk inside2)

pub returns-then-spot-len-2 : goal.returns-then-spot-len-2
returns-then-spot-len-2 c =
    let cs = c.self.inside.chunks.items in
    let k = c.args.spot.chunk in
    let o = c.args.spot.offset in
    let there = is_in_chunk listed cs k o (subst (λ s. IsThere s c.args.spot) (sym c.self.view_is) c.requires) in
    let x = c.index.result.now in
    let lt : o < length x.items = subst (λ y. o < length (listed y)) (sym c.index.ensures) (there.offset x) in
    let len : length x.items ≡ o + 1 = omega (arith, lt, c.if-spot-len.false, c.len-len.ensures, x.ok) in
    let len2 : length (listed (get_or cs k x)) ≡ o + 1 = subst (λ y. length (listed y) ≡ o + 1) c.index.ensures len in
    let up : k + 1 < length cs = omega (arith, c.if-spot-len-2.true, c.len.ensures, c.self.inside.chunks.ok) in
    let some : 0 < length (listed (get_or cs (k + 1) x)) = c.self.invariant.0 (k + 1) x up in
    let next = position_next_chunk listed cs k (k + 1) o x refl up some len2 in
    subst (λ s. IsBehindSpot s c.args.spot (Some (record { chunk = k + 1; offset = 0 }))) c.self.view_is
    (next, position_within listed cs (k + 1) 0 x up some)

pub returns : goal.returns
returns c =
    let cs = c.self.inside.chunks.items in
    let k = c.args.spot.chunk in
    let o = c.args.spot.offset in
    let there = is_in_chunk listed cs k o (subst (λ s. IsThere s c.args.spot) (sym c.self.view_is) c.requires) in
    let x = c.index.result.now in
    let lt : o < length x.items = subst (λ y. o < length (listed y)) (sym c.index.ensures) (there.offset x) in
    let len : length x.items ≡ o + 1 = omega (arith, lt, c.if-spot-len.false, c.len-len.ensures, x.ok) in
    let len2 : length (listed (get_or cs k x)) ≡ o + 1 = subst (λ y. length (listed y) ≡ o + 1) c.index.ensures len in
    let last : k + 1 ≡ length cs = omega (arith, there.chunk, c.if-spot-len-2.false, c.len.ensures, c.self.inside.chunks.ok) in
    sym (ap (λ s. length s.items) c.self.view_is) ∙ sym (position_last listed cs k o x last len2) ∙ ap (λ s. position_of s c.args.spot + 1) c.self.view_is
