use Rattle.std.proofs.Common.{ℕ, List, ◌++◌, sym, ap, ◌∙◌}
use Rattle.mesh_meaning.specs.Events.{event_of, node_of}
use Rattle.mesh_grammar.specs.Written.{line}
use Rattle.mesh_text.specs.Lines.{words_of}
use Rattle.mesh_report.specs.Packets.{done_lines}
use Rattle.mesh_report.proofs.Messages.{done_is_legible, done_of_mesh, event_is}
use Rattle.mesh_report.proofs.Pieces.{two, two-at-1}
use Rattle.mesh_report.proofs.effects.put_echoed_event.Goals as goal

pub returns-in_err-put_echo-clause-text : goal.returns-in_err-put_echo-clause-text
unfolding words_of
returns-in_err-put_echo-clause-text g c = λ w.
    let is = done_is_legible c.args.mesh.now c.args.done.now c.args.packet.now.items c.len-nodes.ensures.is_mesh c.requires.in_mesh in
    two-at-1 (g.O.Sink.held c.args.out.now) (g.O.Sink.held c.put_echo.new.out) _ _ _ _ c.from_residual.ensures.0 c.in_err-put_echo.ensures.text
    (event_is c.args.mesh.now (event_of c.args.e.now) w c.args.done.now c.args.packet.now.items is
    ∙ ap (λ (l : List ℕ). line l ++ done_lines c.args.mesh.now (node_of (event_of c.args.e.now)) c.args.done.now c.args.packet.now.items) (sym c.requires.echo))

pub put_done-requires-clause-of_mesh : goal.put_done-requires-clause-of_mesh
put_done-requires-clause-of_mesh g c =
    done_of_mesh c.args.mesh.now c.args.done.now c.args.packet.now.items (done_is_legible c.args.mesh.now c.args.done.now c.args.packet.now.items c.len-nodes.ensures.is_mesh c.requires.in_mesh)

pub returns-clause-text : goal.returns-clause-text
unfolding words_of
returns-clause-text g c = λ w.
    let is = done_is_legible c.args.mesh.now c.args.done.now c.args.packet.now.items c.len-nodes.ensures.is_mesh c.requires.in_mesh in
    two (g.O.Sink.held c.args.out.now) (g.O.Sink.held c.put_echo.new.out) (g.O.Sink.held c.put_done.new.out) _ _ _ _ c.in_ok-put_echo.ensures.text c.put_done.ensures.text
    (event_is c.args.mesh.now (event_of c.args.e.now) w c.args.done.now c.args.packet.now.items is
    ∙ ap (λ (l : List ℕ). line l ++ done_lines c.args.mesh.now (node_of (event_of c.args.e.now)) c.args.done.now c.args.packet.now.items) (sym c.requires.echo))
