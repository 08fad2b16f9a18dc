use Rattle.std.proofs.lemmas.Result.{err_from_is_err_and}
use Rattle.mesh_meaning.specs.Events.{event_of, node_of}
use Rattle.mesh_text.specs.Schedule.{world_of}
use Rattle.mesh_blocks.proofs.Events.{watched_front, watched_whole, watched_alone}
use Rattle.mesh_blocks.proofs.event.put_watched.Goals as goal

pub returns-in_err-say_event-clause-text : goal.returns-in_err-say_event-clause-text
returns-in_err-say_event-clause-text g c = λ m is kept.
    let p = err_from_is_err_and c.from_residual.result c.from_residual.ensures.1 in
    rw p.1 (watched_front c.args.below m c.args.state.now (event_of c.args.event.now) c.args.done.now c.args.packet.now.items _ _ _ is c.mesh-mesh.ensures.value (c.in_err-say_event.ensures.text (world_of c.args.state.now)))

pub returns-in-Some-clause-text : goal.returns-in-Some-clause-text
returns-in-Some-clause-text g c = λ m is kept.
    watched_whole c.args.below m c.args.state.now (event_of c.args.event.now) c.args.done.now c.args.packet.now.items _ c.in-Some.node c.args.drafts.now.before.bytes.items _ (g.O.Sink.held c.say_event.new.out) _ c.put_below.result is c.mesh-mesh.ensures.value
    (c.in_ok-say_event.ensures.text (world_of c.args.state.now)) (c.in-Some.ensures.value m.mesh (node_of (event_of c.args.event.now)) (world_of c.args.state.now) c.args.packet.now.items) kept c.put_below.ensures.text

pub returns-in-None-clause-text : goal.returns-in-None-clause-text
returns-in-None-clause-text g c = λ m is kept.
    watched_alone c.args.below m c.args.state.now (event_of c.args.event.now) c.args.done.now c.args.packet.now.items _ _ _ is c.mesh-mesh.ensures.value
    (c.in_ok-say_event.ensures.text (world_of c.args.state.now)) (c.in-None.ensures.value m.mesh (node_of (event_of c.args.event.now)) (world_of c.args.state.now) c.args.packet.now.items)
