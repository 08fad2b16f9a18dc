use Rattle.std.proofs.Common.{◌≡◌, ◌<◌, get_or, length, set, ap, sym, subst, ◌∙◌, arith}
use Rattle.std.specs.List.{remove, flat_map}
use Rattle.aodv_asked.specs.Spots.{IsThere, position_of}
use Rattle.std.proofs.lemmas.List.{set-get_or}
use Rattle.aodv_asked.proofs.ChunkLaws.{listed, is_in_chunk, remove_in, remove_chunk}
use Rattle.aodv_asked.proofs.chunks.Chunks.remove.Goals as goal

pub index_mut-chunk-requires : goal.index_mut-chunk-requires
index_mut-chunk-requires c =
    let there = is_in_chunk listed c.self.inside.chunks.items c.args.spot.chunk c.args.spot.offset (subst (λ s. IsThere s c.args.spot) (sym c.self.view_is) c.requires) in
    omega (arith, there.chunk, c.self.inside.chunks.ok)

pub remove-requires : goal.remove-requires
remove-requires c =
    let there = is_in_chunk listed c.self.inside.chunks.items c.args.spot.chunk c.args.spot.offset (subst (λ s. IsThere s c.args.spot) (sym c.self.view_is) c.requires) in
    omega (arith, there.chunk, c.self.inside.chunks.ok)

pub returns-then-len-eq1-clause-items : goal.returns-then-len-eq1-clause-items
returns-then-len-eq1-clause-items c =
    let cs = c.self.inside.chunks.items in
    let k = c.args.spot.chunk in
    let o = c.args.spot.offset in
    let there = is_in_chunk listed cs k o (subst (λ s. IsThere s c.args.spot) (sym c.self.view_is) c.requires) in
    let x = c.index_mut-chunk.result.now in
    let one : length x.items ≡ 1 = omega (arith, c.len.ensures, c.if-len-eq1.true, x.ok) in
    let one2 : length (listed (get_or cs k x)) ≡ 1 = subst (λ y. length (listed y) ≡ 1) c.index_mut-chunk.ensures.value one in
    let back : set cs k x ≡ cs = ap (λ y. set cs k y) c.index_mut-chunk.ensures.value ∙ set-get_or cs k x in
    ap (λ ys. flat_map listed ys) (c.remove.ensures.items ∙ ap (λ ys. remove ys k) back)
    ∙ remove_chunk listed cs k o x there.chunk (there.offset x) one2
    ∙ ap (λ s. remove s.items (position_of s c.args.spot)) c.self.view_is

pub remove-requires-2 : goal.remove-requires-2
remove-requires-2 c =
    let there = is_in_chunk listed c.self.inside.chunks.items c.args.spot.chunk c.args.spot.offset (subst (λ s. IsThere s c.args.spot) (sym c.self.view_is) c.requires) in
    let x = c.index_mut-chunk.result.now in
    let lt : c.args.spot.offset < length x.items = subst (λ y. c.args.spot.offset < length (listed y)) (sym c.index_mut-chunk.ensures.value) (there.offset x) in
    omega (arith, lt, x.ok)

pub returns-clause-items : goal.returns-clause-items
returns-clause-items c =
    let cs = c.self.inside.chunks.items in
    let k = c.args.spot.chunk in
    let o = c.args.spot.offset in
    let there = is_in_chunk listed cs k o (subst (λ s. IsThere s c.args.spot) (sym c.self.view_is) c.requires) in
    let x = c.index_mut-chunk.result.now in
    remove_in listed cs k o x c.remove-2.new.self there.chunk (there.offset x) (c.remove-2.ensures.items ∙ ap (λ y. remove (listed y) o) c.index_mut-chunk.ensures.value)
    ∙ ap (λ s. remove s.items (position_of s c.args.spot)) c.self.view_is
