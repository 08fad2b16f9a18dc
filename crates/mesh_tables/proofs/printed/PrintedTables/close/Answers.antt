use Rattle.std.proofs.Common.{◌≡◌, ◌+◌, ◌≤◌, ap, sym, ◌∙◌, arith, length, option_map}
use Rattle.mesh_tables.specs.Kept.{block_in, block_size, shown_in, size_of}
use Rattle.mesh_tables.proofs.printed.PrintedTables.close.Goals as goal

pub invariant_of-self : goal.invariant_of-self
invariant_of-self c =
    let old : block_size (option_map block_in c.self.inside.block) ≡ length c.in-Some.block.rows.entries =
    ap (λ b. block_size (option_map block_in b)) (sym c.take.ensures.value ∙ c.in-Some.is) in
    let new : block_size (option_map block_in c.take.new.self) ≡ 0 = ap (λ b. block_size (option_map block_in b)) c.take.ensures.after in
    let size = c.put_table.ensures.size in
    let fits : size_of (shown_in c.put_table.new.closed.entries) + block_size (option_map block_in c.take.new.self) ≤ c.self.inside.lines =
    omega (arith, old, new, size, c.self.invariant.0) in
    (fits, c.self.invariant.1)
