use Rattle.std.proofs.Common.{◌-◌, ◌++◌, ◌∷◌, [], ap, ◌∙◌, arith}
use Rattle.aodv_asked.proofs.ChunkLaws.{listed, push_last}
use Rattle.aodv_asked.proofs.chunks.Chunks.push.Goals as goal

pub returns-then-len-capacity-clause-items : goal.returns-then-len-capacity-clause-items
returns-then-len-capacity-clause-items c =
    let cs = c.self.inside.chunks.items in
    let k = c.len-len.result - 1 in
    let x = c.index_mut.result.now in
    push_last listed cs k x c.push_reserved.new.self c.args.v (omega (arith, c.len-len.ensures, c.if-len-gt0.true, c.self.inside.chunks.ok)) (c.push_reserved.ensures.items ∙ ap (λ y. listed y ++ c.args.v ∷ []) c.index_mut.ensures.value)
    ∙ ap (λ s. s.items ++ c.args.v ∷ []) c.self.view_is
