use Rattle.std.proofs.Common.{◌≡◌, Some, None, ◌∙◌, sym, subst, option_map}
use Rattle.std.specs.Prelude.{OnOk, IsErrOf}
use Rattle.mesh_base.specs.Parts.{rest_parts}
use Rattle.mesh_tables.specs.declared.printed.ReadError.TheVariants.{BadLine}
use Rattle.mesh_tables.specs.Printed.{Reading, after_line}
use Rattle.mesh_tables.specs.Kept.{block_in, shown_in}
use Rattle.mesh_tables.proofs.Lines.{by_show}
use Rattle.mesh_tables.proofs.printed.PrintedTables.read.Goals as goal

pub returns-then-is_show-clause-done : goal.returns-then-is_show-clause-done
returns-then-is_show-clause-done c =
    let line = c.args.line.now in
    let seen : Reading =
    record { closed = shown_in c.self.inside.closed.entries; block = option_map block_in c.self.inside.block; lines = c.self.inside.lines } in
    let is = by_show seen line c.cut.result.0.now (rest_parts 32 c.cut.result.1) c.cut.ensures.parts (sym c.is_show.ensures ∙ c.if-is_show.true) in
    subst (λ (r : Reading). OnOk c.read_show.result (after_line r line ≡ Some c.read_show.new.self)) c.self.view_is (rw is c.read_show.ensures.done)

pub returns-then-is_show-clause-bad : goal.returns-then-is_show-clause-bad
returns-then-is_show-clause-bad c =
    let line = c.args.line.now in
    let seen : Reading =
    record { closed = shown_in c.self.inside.closed.entries; block = option_map block_in c.self.inside.block; lines = c.self.inside.lines } in
    let is = by_show seen line c.cut.result.0.now (rest_parts 32 c.cut.result.1) c.cut.ensures.parts (sym c.is_show.ensures ∙ c.if-is_show.true) in
    subst (λ (r : Reading). IsErrOf c.read_show.result BadLine → after_line r line ≡ None) c.self.view_is (rw is c.read_show.ensures.bad)
