use Rattle.mesh_run.proofs.Begun.{shows_unsaid, shows_whole_line, shows_part}
use Rattle.mesh_run.proofs.show.do_show.Goals as goal

pub returns-then-not-say-clause-comes : goal.returns-then-not-say-clause-comes
returns-then-not-say-clause-comes g c = shows_unsaid c.args.say c.args.at.now c.args.what _ c.if-not-say.true c.requires.started

pub returns-in-Ok-clause-comes : goal.returns-in-Ok-clause-comes
returns-in-Ok-clause-comes g c = shows_whole_line c.args.say c.args.at.now c.show.new.at c.args.what _ _ c.if-not-say.false c.requires.started c.show.ensures.same c.in-Ok.ensures.text

pub returns-in-Err-clause-comes : goal.returns-in-Err-clause-comes
returns-in-Err-clause-comes g c = shows_part c.args.say c.args.at.now c.args.what _ _ c.if-not-say.false c.in-Err.ensures.text
