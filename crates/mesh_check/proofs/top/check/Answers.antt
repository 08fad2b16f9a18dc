use Rattle.std.proofs.Common.{Ok, ap, subst, ◌∙◌}
use Rattle.mesh_check.specs.Says.{Shows}
use Rattle.mesh_check.specs.Verdicts.{HasNoCycle}
use Rattle.mesh_check.proofs.Said.{no_cycle_said}
use Rattle.mesh_check.proofs.top.check.Goals as goal

pub returns-in-Ok-Read-clause-loop_free : goal.returns-in-Ok-Read-clause-loop_free
returns-in-Ok-Read-clause-loop_free g c =
    λ yes. no_cycle_said (g.I.Source.left c.args.input.now) (g.I.Source.left c.read_tables.new.input) c.read_tables.new.checking c.read_tables.result (c.in-Ok-Read.is ∙ ap Ok c.in-Ok-Read.field-0-is)
    c.read_tables.ensures.known c.read_tables.ensures.after
    (subst (λ r. HasNoCycle (Shows r.closed)) c.checking.view_is (c.tell.ensures.acyclic yes))
