use Rattle.std.proofs.Common.{◌≡◌, ◌+◌, ◌-◌, ◌≤◌, ◌++◌, length, take, drop, ap, arith, ◌∙◌, rules}
use lib.Seq.{paste}
use Rattle.std.proofs.lemmas.List.{length-take-le, length-take, length-drop}
use Rattle.std.proofs.lemmas.List.Edits.{take-paste}
use Rattle.mesh_io.proofs.Ahead.{take_both}
use Rattle.mesh_io.proofs.read_buffer.ReadBuffer.read.Goals as goal

pub returns-clause-more : goal.returns-clause-more
returns-clause-more g c =
    let b = c.self.inside in
    let len = b.end - b.at in
    let n = c.in_ok-n.n in
    let new = c.read_behind.new.store in
    let all : length b.store ≡ g.row.CAPACITY = search rules in
    let size : length new ≡ g.row.CAPACITY = search rules in
    let size-drop : length (drop b.at b.store) ≡ length b.store - b.at = length-drop b.at b.store in
    let size-rest : length (drop len new) ≡ length new - len = length-drop len new in
    let size-seen : length (take len (drop b.at b.store)) ≡ _ = length-take len (drop b.at b.store) in
    let seen-size : length (take len (drop b.at b.store)) ≡ length c.args.self.now = ap length c.self.view_is in
    let few : len + 4096 ≤ g.row.CAPACITY = search rules in
    let most : n ≤ 4096 = search rules in
    let whole : len + n - 0 ≡ len + n = omega arith in
    let prefix : len ≡ 0 + len = omega arith in
    let seen : take len new ≡ c.args.self.now =
    c.read_behind.ensures.kept ∙ ap (take len) c.copy_within.ensures.after
    ∙ ap (λ k. take k (paste b.store 0 (drop b.at b.store) len)) prefix ∙ take-paste b.store 0 (drop b.at b.store) len (omega arith) (omega arith) ∙ c.self.view_is in (
      take n (drop len new),
      ap (λ k. take k new) whole ∙ take_both new len n ∙ ap (λ l. l ++ take n (drop len new)) seen,
      length-take-le n (drop len new) (omega arith),
      c.in_ok-n.ensures.taken,
      c.in_ok-n.ensures.end,
    )
