use Rattle.std.proofs.Common.{None, refl}
use Rattle.mesh_grammar.specs.Written.{line}
use Rattle.mesh_script.specs.NodeLines.{words_of}
use Rattle.mesh_script.specs.NodeSeen.{accepted_of}
use Rattle.mesh_router.specs.Logs.{text_log}
use Rattle.mesh_router.specs.Peers.{code_log}
use Rattle.mesh_router.proofs.Logging.{says-fault, says-join, adds-text, prefix-text, prefix-more}
use Rattle.mesh_router.proofs.steps.tell_act.Goals as goal

pub returns-in_err-put_line-clause-says : goal.returns-in_err-put_line-clause-says
returns-in_err-put_line-clause-says g c =
    let p = c.args.peers.now in
    let words = words_of p.mesh (accepted_of c.args.line.now) in
    says-fault _ _ _ c.from_residual.result c.from_residual.ensures.0
    (prefix-more _ _ (text_log (line words)) (code_log p c.args.range.now c.args.me None c.args.effect c.args.scratch.now.packet.items)
    (prefix-text _ _ _ _ (line words) refl c.in_err-put_line.ensures.text))

pub returns-clause-says : goal.returns-clause-says
returns-clause-says g c =
    let p = c.args.peers.now in
    let words = words_of p.mesh (accepted_of c.args.line.now) in
    says-join _ (g.O.Sink.held c.put_line.new.out, g.L.Link.sent c.args.link.now) _ (text_log (line words)) (code_log p c.args.range.now c.args.me None c.args.effect c.args.scratch.now.packet.items) c.tell_effect.result
    (adds-text _ _ _ _ (line words) refl c.in_ok-put_line.ensures.text) c.tell_effect.ensures.says
