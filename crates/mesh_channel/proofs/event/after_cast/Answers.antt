use Rattle.std.proofs.Common.{◌∙◌, true, false, sym}
use Rattle.mesh_channel.proofs.Casting.{no_copies, cast_tick}
use Rattle.mesh_channel.proofs.event.after_cast.Goals as goal

pub returns-then-count-eq0-clause-decided : goal.returns-then-count-eq0-clause-decided
returns-then-count-eq0-clause-decided c = no_copies c.args.rates.now c.args.effect.now.cast c.args.air.now c.args.channel.now (sym c.count-count.ensures.value ∙ c.if-count-eq0.true)

pub returns-in-One-clause-tick : goal.returns-in-One-clause-tick
returns-in-One-clause-tick c = cast_tick c.decide.result _ _ _ _ _ _ _ c.decide.ensures.decided

pub returns-in_default-clause-tick : goal.returns-in_default-clause-tick
returns-in_default-clause-tick c = cast_tick c.decide-in_default.result _ _ _ _ _ _ _ c.decide-in_default.ensures.decided
