use Rattle.std.proofs.Common.{◌≡◌, ◌+◌, ◌++◌, ◌≤◌, ℕ, List, ◌∙◌, ap, length, length-take, take, arith}
use Rattle.mesh_base.specs.InlineBytes.{inline_bytes}
use Rattle.mesh_io.proofs.Shifting.{gathered_front}
use Rattle.mesh_io.proofs.reserved_buffer.ReservedBuffer.gather_short.Goals as goal

pub returns : goal.returns
returns c =
    let cells = c.deref_mut.result.now in
    let len = c.self.inside.len in
    let seen : take len cells ≡ c.args.self.now = ap (take len) c.deref_mut.ensures.value ∙ c.self.view_is in
    let gathered : length c.args.self.now ≡ len = omega (arith, c.self.invariant.0, c.self.invariant.1, ap length c.self.view_is, length-take len (c.self.inside.cells).items) in
    let room : len + 16 ≤ length cells = omega (arith, c.self.invariant.1, c.requires, ap length c.deref_mut.ensures.value) in
    let copied = c.copy_from_slice.ensures.after in
    let width = ap (λ w. take w c.whole.result.now) c.width.ensures.value ∙ c.whole.ensures.front in
    gathered_front cells _ _ _ _ _ len c.width.result (omega arith) (omega (arith, ap length copied, c.whole.ensures.long, c.width.ensures.short))
    (omega (arith, c.width.ensures.short, c.deref_mut.ensures.len)) (ap (take c.width.result) copied ∙ width)
    ∙ ap (λ (xs : List ℕ). xs ++ inline_bytes c.args.text.now) seen
