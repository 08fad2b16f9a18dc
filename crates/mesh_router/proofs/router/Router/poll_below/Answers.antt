use Rattle.std.proofs.Common.{refl, subst}
use Rattle.std.proofs.lemmas.Result.{err_from_is_err_and}
use Rattle.mesh_grammar.specs.Written.{line}
use Rattle.mesh_script.specs.NodeLines.{words_of}
use Rattle.mesh_script.specs.NodeSeen.{accepted_of}
use Rattle.mesh_router.specs.Routers.{Router}
use Rattle.mesh_router.proofs.Logging.{adds-text, prefix-text}
use Rattle.mesh_router.specs.Runs.{IsPollLine}
use Rattle.mesh_router.proofs.Polling.{poll_line_cut, poll_line}
use Rattle.mesh_router.proofs.router.Router.poll_below.Goals as goal

pub returns-in_err-put_line-clause-polls : goal.returns-in_err-put_line-clause-polls
returns-in_err-put_line-clause-polls g c =
    let p = c.self.inside.peers in
    let words = words_of p.mesh (accepted_of c.args.line.now) in
    let q = err_from_is_err_and c.from_residual.result c.from_residual.ensures.1 in
    let P : Router → Type 0 = λ r. IsPollLine c.args.count (words_of r.peers.mesh (accepted_of c.args.line.now)) c.args.self.now (g.L.Link.arrived c.args.link.now) (g.L.Link.arrived c.args.link.now) (g.O.Sink.held c.args.out.now, g.L.Link.sent c.args.link.now) (g.O.Sink.held c.put_line.new.out, g.L.Link.sent c.args.link.now) c.args.self.now c.from_residual.result in
    subst P c.self.view_is (poll_line_cut _ words _ _ _ _ _ c.from_residual.result q.0 q.1 q.2 (prefix-text _ _ _ _ (line words) refl c.in_err-put_line.ensures.text))

pub returns-clause-polls : goal.returns-clause-polls
returns-clause-polls g c =
    let p = c.self.inside.peers in
    let words = words_of p.mesh (accepted_of c.args.line.now) in
    let P : Router → Type 0 = λ r. IsPollLine c.args.count (words_of r.peers.mesh (accepted_of c.args.line.now)) c.args.self.now (g.L.Link.arrived c.args.link.now) (g.L.Link.arrived c.polls.new.link) (g.O.Sink.held c.args.out.now, g.L.Link.sent c.args.link.now) (g.O.Sink.held c.polls.new.out, g.L.Link.sent c.polls.new.link) c.polls.new.self c.polls.result in
    subst P c.self.view_is (poll_line c.args.count words c.args.self.now c.polls.new.self _ _ _ _ _ c.polls.result (adds-text _ _ _ _ (line words) refl c.in_ok-put_line.ensures.text) c.polls.ensures.polls c.polls.ensures.full)
