use Rattle.std.proofs.Common.{◌<◌, ◌+◌, length, set, ap, sym, subst, ◌∙◌, arith, rules}
use Rattle.std.specs.List.{insert, flat_map}
use Rattle.aodv_asked.specs.Spots.{IsThere, position_of}
use Rattle.std.proofs.lemmas.List.Elements.{All-set, All-same}
use Rattle.aodv_asked.proofs.ChunkLaws.{listed, is_in_chunk, insert_in, split_in, filled_insert}
use Rattle.aodv_asked.proofs.chunks.Chunks.insert.Goals as goal

pub index_mut-chunk-requires : goal.index_mut-chunk-requires
index_mut-chunk-requires c =
    let there = is_in_chunk listed c.self.inside.chunks.items c.args.spot.chunk c.args.spot.offset (subst (λ s. IsThere s c.args.spot) (sym c.self.view_is) c.requires.spot) in
    omega (arith, there.chunk, c.self.inside.chunks.ok)

pub put_at-requires-clause-offset : goal.put_at-requires-clause-offset
put_at-requires-clause-offset c =
    let there = is_in_chunk listed c.self.inside.chunks.items c.args.spot.chunk c.args.spot.offset (subst (λ s. IsThere s c.args.spot) (sym c.self.view_is) c.requires.spot) in
    let x = c.index_mut-chunk.result.now in
    let lt : c.args.spot.offset < length x.items = subst (λ y. c.args.spot.offset < length (listed y)) (sym c.index_mut-chunk.ensures.value) (there.offset x) in
    omega (arith, lt, x.ok)

pub returns-then-len-capacity-clause-items : goal.returns-then-len-capacity-clause-items
returns-then-len-capacity-clause-items c =
    let cs = c.self.inside.chunks.items in
    let k = c.args.spot.chunk in
    let o = c.args.spot.offset in
    let there = is_in_chunk listed cs k o (subst (λ s. IsThere s c.args.spot) (sym c.self.view_is) c.requires.spot) in
    let x = c.index_mut-chunk.result.now in
    insert_in listed cs k o x c.put_at.new.chunk c.args.v there.chunk (there.offset x) (c.put_at.ensures ∙ ap (λ y. insert (listed y) o c.args.v) c.index_mut-chunk.ensures.value)
    ∙ ap (λ s. insert s.items (position_of s c.args.spot) c.args.v) c.self.view_is

pub put_in_halves-upper-requires-clause-offset : goal.put_in_halves-upper-requires-clause-offset
put_in_halves-upper-requires-clause-offset c =
    let there = is_in_chunk listed c.self.inside.chunks.items c.args.spot.chunk c.args.spot.offset (subst (λ s. IsThere s c.args.spot) (sym c.self.view_is) c.requires.spot) in
    let x = c.index_mut-chunk.result.now in
    subst (λ y. c.args.spot.offset < length (listed y)) (sym c.index_mut-chunk.ensures.value) (there.offset x)

pub overflow_add-spot : goal.overflow_add-spot
overflow_add-spot c =
    let there = is_in_chunk listed c.self.inside.chunks.items c.args.spot.chunk c.args.spot.offset (subst (λ s. IsThere s c.args.spot) (sym c.self.view_is) c.requires.spot) in
    omega (arith, there.chunk, c.self.inside.chunks.ok, c.self.inside.chunks.small)

pub insert-requires : goal.insert-requires
insert-requires c =
    let there = is_in_chunk listed c.self.inside.chunks.items c.args.spot.chunk c.args.spot.offset (subst (λ s. IsThere s c.args.spot) (sym c.self.view_is) c.requires.spot) in
    omega (arith, there.chunk, c.self.inside.chunks.ok)

pub invariant_of-self-in-Ok : goal.invariant_of-self-in-Ok
invariant_of-self-in-Ok c =
    let cs = c.self.inside.chunks.items in
    let k = c.args.spot.chunk in
    let lower = c.put_in_halves-upper.new.chunk in
    let upper = c.put_in_halves-upper.result in
    let all = filled_insert listed (set cs k lower) (k + 1) upper (All-set (λ y. 0 < length (listed y)) cs k lower c.put_in_halves-upper.ensures.lower c.self.invariant.0) c.put_in_halves-upper.ensures.upper in (
      All-same (λ y. 0 < length (listed y)) c.insert.new.self.items (insert (set cs k lower) (k + 1) upper) c.in-Ok.ensures.items all,
      rw c.take.ensures.after (search rules),
    )

pub returns-clause-items : goal.returns-clause-items
returns-clause-items c =
    let cs = c.self.inside.chunks.items in
    let k = c.args.spot.chunk in
    let o = c.args.spot.offset in
    let there = is_in_chunk listed cs k o (subst (λ s. IsThere s c.args.spot) (sym c.self.view_is) c.requires.spot) in
    let x = c.index_mut-chunk.result.now in
    ap (λ ys. flat_map listed ys) c.in-Ok.ensures.items
    ∙ split_in listed cs k o x c.put_in_halves-upper.new.chunk c.put_in_halves-upper.result c.args.v there.chunk (there.offset x) (c.put_in_halves-upper.ensures.items ∙ ap (λ y. insert (listed y) o c.args.v) c.index_mut-chunk.ensures.value)
    ∙ ap (λ s. insert s.items (position_of s c.args.spot) c.args.v) c.self.view_is
