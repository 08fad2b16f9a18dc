use Rattle.std.proofs.Common.{◌≡◌, ◌≤◌, ◌-◌, ◌++◌, length, take, drop, ap, ◌∙◌, arith}
use Rattle.std.specs.List.{insert}
use Rattle.std.proofs.lemmas.List.{take_rest}
use Rattle.aodv_asked.proofs.ChunkLaws.{lower_put, upper_put}
use Rattle.aodv_asked.proofs.chunks.put_in_halves.Goals as goal

pub returns-then-offset-middle-clause-items : goal.returns-then-offset-middle-clause-items
returns-then-offset-middle-clause-items c =
    let m = c.len-len.result - c.min.result in
    let xs = c.args.chunk.now.items in
    let le : m ≤ length xs = omega (arith, c.len-len.ensures, c.args.chunk.now.ok) in
    let hi : c.extend_from_slice.new.self.items ≡ drop m xs =
    c.in-Ok.ensures.items
    ∙ ap (λ r. r ++ take (length c.as_slice.result.now - m) (drop m c.as_slice.result.now)) c.requires.empty
    ∙ take_rest c.as_slice.result.now m
    ∙ ap (λ ys. drop m ys) c.as_slice.ensures.value in
    ap (λ r. c.put_at.new.chunk.items ++ r) hi
    ∙ ap (λ r. r ++ drop m xs) (c.put_at.ensures ∙ ap (λ r. insert r c.args.offset c.args.v) c.truncate.ensures.items)
    ∙ lower_put xs m c.args.offset c.args.v c.if-offset-middle.true le

pub returns-else-offset-middle-clause-items : goal.returns-else-offset-middle-clause-items
returns-else-offset-middle-clause-items c =
    let m = c.len-len.result - c.min.result in
    let xs = c.args.chunk.now.items in
    let le : m ≤ length xs = omega (arith, c.len-len.ensures, c.args.chunk.now.ok) in
    let hi : c.extend_from_slice.new.self.items ≡ drop m xs =
    c.in-Ok.ensures.items
    ∙ ap (λ r. r ++ take (length c.as_slice.result.now - m) (drop m c.as_slice.result.now)) c.requires.empty
    ∙ take_rest c.as_slice.result.now m
    ∙ ap (λ ys. drop m ys) c.as_slice.ensures.value in
    ap (λ r. r ++ c.put_at-else-offset-middle.new.chunk.items) c.truncate.ensures.items
    ∙ ap (λ r. take m xs ++ r) (c.put_at-else-offset-middle.ensures ∙ ap (λ r. insert r (c.args.offset - m) c.args.v) hi)
    ∙ upper_put xs m c.args.offset c.args.v (omega (arith, c.if-offset-middle.false)) le
