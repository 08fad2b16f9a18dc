use Rattle.mesh_tables.proofs.Lines.{show_two}
use Rattle.mesh_tables.proofs.printed.PrintedTables.read_show.Goals as goal

pub returns-in_default-Some-clause-bad : goal.returns-in_default-Some-clause-bad
returns-in_default-Some-clause-bad c = λ _. rw (c.in-Some.is, c.cut.ensures.parts, c.in_default-Some.is-1) (show_two c.args.self.now _ c.in_default-Some.field-0-1.now)
