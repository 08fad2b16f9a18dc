use Rattle.std.proofs.Common.{sym}
use Rattle.mesh_trail.proofs.Positions.{fly_later, none_fly}
use Rattle.mesh_trail.proofs.casts.flies.Goals as goal

pub returns-in_default : goal.returns-in_default
returns-in_default c = sym (none_fly c.args.radio.now.flying c.args.cast.now (sym c.in_default.ensures))

pub returns-then-cast-least : goal.returns-then-cast-least
returns-then-cast-least c = sym (fly_later c.args.radio.now.flying c.args.radio.now.next_copy c.in-Some.least c.args.cast.now c.count-copies.ensures.numbered c.in-Some.ensures c.if-cast-least.true)
