use Rattle.mesh_state.proofs.Told.{gone_told, unloaded_told}
use Rattle.mesh_state.proofs.top.go.Goals as goal

pub returns-in-Ok-loaded-clause-known : goal.returns-in-Ok-loaded-clause-known
returns-in-Ok-loaded-clause-known g c =
    gone_told (g.I.Source.left c.args.input.now) (g.I.Source.left c.take_checkpoint_part.new.input) (g.I.Source.left c.go_on.new.input) _ _ c.in-Ok.checkpoint_part.items c.deref.result.now c.in-Ok-loaded.at c.go_on.result c.deref.ensures.value
    c.go_on.ensures.words c.in-Ok.ensures.taken c.in-Ok-loaded.ensures.exact c.in-Ok-loaded.ensures.plain c.in-Ok-loaded.ensures.unrefused c.go_on.ensures.known

pub returns-in-Err-clause-known : goal.returns-in-Err-clause-known
returns-in-Err-clause-known g c =
    unloaded_told (g.I.Source.left c.args.input.now) (g.I.Source.left c.take_checkpoint_part.new.input) _ c.in-Ok.checkpoint_part.items c.deref.result.now c.in-Err.why c.answer_by.result c.deref.ensures.value c.answer_by.ensures c.in-Ok.ensures.taken
    c.in-Err.ensures.exact
