use Rattle.std.proofs.Common.{sym, ap, subst}
use Rattle.aodv_model.specs.Tables.{accepted_unreachable}
use Rattle.aodv_model.specs.Handlers.{Reaction}
use Rattle.aodv_meaning.specs.Effects.{cast_of}
use Rattle.aodv_meaning.specs.Meaning.{dests_in}
use Rattle.aodv_meaning.specs.Sent.{IsPacket}
use Rattle.aodv_handlers.specs.Shown.{core_of}
use Rattle.aodv_handlers.proofs.Refused.{nothing_gone}
use Rattle.aodv_handlers.proofs.rerr.retract_stated.Goals as goal

pub returns-clause-core : goal.returns-clause-core
returns-clause-core g c =
    let core = core_of g.T.Table.entries c.args.core.now in
    let accepted = accepted_unreachable core.rt c.args.from (dests_in c.args.mesh.now c.args.m.now) in
    sym (ap (λ (r : Reaction). r.core) (nothing_gone core accepted c.if-may_accept.ensures))

pub returns-clause-cast : goal.returns-clause-cast
returns-clause-cast g c =
    let core = core_of g.T.Table.entries c.args.core.now in
    let accepted = accepted_unreachable core.rt c.args.from (dests_in c.args.mesh.now c.args.m.now) in
    sym (ap (λ (r : Reaction). cast_of r.effect.cast) (nothing_gone core accepted c.if-may_accept.ensures))

pub returns-clause-packet : goal.returns-clause-packet
returns-clause-packet g c =
    let core = core_of g.T.Table.entries c.args.core.now in
    let accepted = accepted_unreachable core.rt c.args.from (dests_in c.args.mesh.now c.args.m.now) in
    subst (λ (r : Reaction). IsPacket c.args.mesh.now c.clear.new.self.items r.effect.cast) (sym (nothing_gone core accepted c.if-may_accept.ensures)) c.clear.ensures
