use Rattle.std.proofs.Common.{◌≡◌, ◌+◌, ◌-◌, ◌≤◌, length, take, drop, sym, ap, arith, ◌∙◌}
use Rattle.std.proofs.lemmas.List.{drop-take, drop-drop, length-take}
use Rattle.mesh_io.proofs.read_buffer.ReadBuffer.drop_front.Goals as goal

pub returns : goal.returns
returns g c =
    let b = c.self.inside in
    let n = c.args.n in
    let len = length-take (b.end - b.at) (drop b.at b.store) in
    let seen = ap length c.self.view_is in
    let some : n ≤ b.end - b.at = omega (arith, c.requires) in
    let more : b.end - b.at ≡ n + (b.end - (b.at + n)) = omega arith in
    sym (
    ap (drop n) (sym c.self.view_is)
    ∙ ap (λ k. drop n (take k (drop b.at b.store))) more
    ∙ drop-take n (b.end - (b.at + n)) (drop b.at b.store)
    ∙ ap (take (b.end - (b.at + n))) (drop-drop n b.at b.store)
    )
