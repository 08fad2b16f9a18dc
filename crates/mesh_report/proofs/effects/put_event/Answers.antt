use Rattle.mesh_meaning.specs.Events.{event_of}
use Rattle.mesh_report.proofs.Messages.{done_is_legible, done_of_mesh, event_is}
use Rattle.mesh_report.proofs.Pieces.{three, three-at-1, three-at-2}
use Rattle.mesh_report.proofs.effects.put_event.Goals as goal

pub returns-in_err-put_words-clause-text : goal.returns-in_err-put_words-clause-text
returns-in_err-put_words-clause-text g c = λ w.
    let is = done_is_legible c.args.mesh.now c.args.done.now c.args.packet.now.items c.len-nodes.ensures.is_mesh c.requires.in_mesh in
    three-at-1 (g.O.Sink.held c.args.out.now) (g.O.Sink.held c.put_words.new.out) _ _ _ _ _ c.from_residual.ensures.0 c.in_err-put_words.ensures.text
    (event_is c.args.mesh.now (event_of c.args.e.now) w c.args.done.now c.args.packet.now.items is)

pub returns-in_err-put_byte-clause-text : goal.returns-in_err-put_byte-clause-text
returns-in_err-put_byte-clause-text g c = λ w.
    let is = done_is_legible c.args.mesh.now c.args.done.now c.args.packet.now.items c.len-nodes.ensures.is_mesh c.requires.in_mesh in
    three-at-2 (g.O.Sink.held c.args.out.now) (g.O.Sink.held c.put_words.new.out) (g.O.Sink.held c.put_byte.new.out) _ _ _ _ _ c.from_residual-in_err-put_byte.ensures.0 c.in_ok-put_words.ensures.text c.in_err-put_byte.ensures.text
    (event_is c.args.mesh.now (event_of c.args.e.now) w c.args.done.now c.args.packet.now.items is)

pub put_done-requires-clause-of_mesh : goal.put_done-requires-clause-of_mesh
put_done-requires-clause-of_mesh g c =
    done_of_mesh c.args.mesh.now c.args.done.now c.args.packet.now.items (done_is_legible c.args.mesh.now c.args.done.now c.args.packet.now.items c.len-nodes.ensures.is_mesh c.requires.in_mesh)

pub returns-clause-text : goal.returns-clause-text
returns-clause-text g c = λ w.
    let is = done_is_legible c.args.mesh.now c.args.done.now c.args.packet.now.items c.len-nodes.ensures.is_mesh c.requires.in_mesh in
    three (g.O.Sink.held c.args.out.now) (g.O.Sink.held c.put_words.new.out) (g.O.Sink.held c.put_byte.new.out) (g.O.Sink.held c.put_done.new.out) _ _ _ _ _ c.in_ok-put_words.ensures.text c.in_ok-put_byte.ensures.text c.put_done.ensures.text
    (event_is c.args.mesh.now (event_of c.args.e.now) w c.args.done.now c.args.packet.now.items is)
