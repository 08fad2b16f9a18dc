use Rattle.std.proofs.Common.{arith}
use Rattle.mesh_base.proofs.Ranks.{members_few}
use Rattle.mesh_world.proofs.Receivers.{reached_near, reached_apart, reached_nobody, same_air}
use Rattle.mesh_world.proofs.parts.Parts.cast.Goals as goal

pub cast-requires-clause-below : goal.cast-requires-clause-below
cast-requires-clause-below c = λ q t.
    c.requires.within q (reached_near c.args.self.now.mesh c.args.range.now c.args.cast.now c.args.packet.now.items c.receivers-to.result (c.receivers-to.ensures c.args.self.now.mesh c.args.packet.now.items) q t)

pub cast-requires-clause-apart : goal.cast-requires-clause-apart
cast-requires-clause-apart c =
    reached_apart c.args.self.now.mesh c.args.range.now c.args.cast.now c.args.packet.now.items c.receivers-to.result c.args.x (c.receivers-to.ensures c.args.self.now.mesh c.args.packet.now.items) c.requires.apart

pub cast-requires-clause-room : goal.cast-requires-clause-room
cast-requires-clause-room c = let few = members_few c.args.self.now.radio.size c.receivers-to.result in let r = c.requires.room.0 in let n = c.requires.few in omega arith

pub returns-in-Nothing-clause-radio : goal.returns-in-Nothing-clause-radio
returns-in-Nothing-clause-radio c = same_air c.args.self.now.mesh c.args.self.now.radio c.args.x c.args.range.now c.args.cast.now c.args.packet.now.items c.in-Nothing.is

pub returns-in-Nothing-clause-air : goal.returns-in-Nothing-clause-air
returns-in-Nothing-clause-air c =
    let to = reached_nobody c.args.self.now.mesh c.args.range.now c.args.cast.now c.args.packet.now.items c.new.result c.in-Nothing.is c.new.ensures in
    (λ i. record { first = c.next_id.ensures i; to = to i })
