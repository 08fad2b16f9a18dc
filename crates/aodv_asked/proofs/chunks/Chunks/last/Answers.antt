use Rattle.std.proofs.Common.{◌≡◌, ◌<◌, ◌+◌, ◌-◌, get_or, length, ap, sym, subst, ◌∙◌, arith}
use Rattle.aodv_asked.specs.Spots.{position_of}
use Rattle.aodv_asked.proofs.ChunkLaws.{listed, position_last}
use Rattle.aodv_asked.proofs.chunks.Chunks.last.Goals as goal

pub returns : goal.returns
returns c =
    let cs = c.self.inside.chunks.items in
    let k = c.len-len.result - 1 in
    let x = c.index.result.now in
    let o = c.len.result - 1 in
    let here : k < length cs = omega (arith, c.len-len.ensures, c.if-len-eq0.false, c.self.inside.chunks.ok) in
    let some : 0 < length x.items = subst (λ y. 0 < length (listed y)) (sym c.index.ensures) (c.self.invariant.0 k x here) in
    let len : length x.items ≡ o + 1 = omega (arith, some, c.len.ensures, x.ok) in
    let len2 : length (listed (get_or cs k x)) ≡ o + 1 = subst (λ y. length (listed y) ≡ o + 1) c.index.ensures len in
    ap (λ s. position_of s (record { chunk = k; offset = o }) + 1) (sym c.self.view_is)
    ∙ position_last listed cs k o x (omega (arith, here, c.len-len.ensures, c.self.inside.chunks.ok)) len2
    ∙ ap (λ s. length s.items) c.self.view_is
