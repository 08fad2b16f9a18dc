use Rattle.std.proofs.Common.{◌≡◌, ℕ, List, refl, ap, ◌∙◌, sym, subst}
use Rattle.std.proofs.lemmas.Result.{err_from_is_err_and}
use Rattle.std.specs.Io.KnownBytes.{Appends}
use Rattle.mesh_io.specs.Puts.{AppendsPrefix}
use Rattle.mesh_grammar.specs.Written.{line}
use Rattle.mesh_script.specs.Peers.{PeersSeen, with_peer}
use Rattle.mesh_script.specs.NodeLines.{AcceptedLine, Peer, words_of}
use Rattle.mesh_script.specs.NodeSeen.{accepted_of}
use Rattle.mesh_router.specs.Routers.{Joining, RunState, peers_in, router_in, counted_at}
use Rattle.mesh_router.specs.Finds.{Find}
use Rattle.mesh_router.specs.Lines.{outcome_of_line, join_outcome, words_at, refused_words}
use Rattle.mesh_router.proofs.Logging.{adds-text, prefix-text}
use Rattle.mesh_router.proofs.Running.{outcome_peer, joined_cut, joined_done, grown_joined, counted_joined}
use Rattle.mesh_router.proofs.lines.do_peer.Goals as goal

pub returns-in_err-put_line-clause-line : goal.returns-in_err-put_line-clause-line
returns-in_err-put_line-clause-line g c =
    let m = c.args.at.now in
    let l = accepted_of c.args.line.now in
    let e : l ≡ Peer c.args.addr.0 c.args.port = ap accepted_of c.requires.line in
    let stage = Joining (with_peer (peers_in m.stage) c.args.addr.0 c.args.port) in
    let is : (finds : List Find) → outcome_of_line m l finds ≡ join_outcome m l stage finds =
    λ finds. subst (λ (k : AcceptedLine). outcome_of_line m k finds ≡ join_outcome m k stage finds) (sym e) (outcome_peer m c.args.addr.0 c.args.port finds) in
    let text : PeersSeen → List ℕ = λ p. line (words_of p.mesh l) in
    let q = err_from_is_err_and c.from_residual.result c.from_residual.ensures.1 in
    let put = subst (λ (t : List ℕ). AppendsPrefix (g.O.Sink.held c.args.out.now) (g.O.Sink.held c.put_line.new.out) t) (ap text c.peers.ensures) c.in_err-put_line.ensures.text in
    λ arrived sent. joined_cut m l stage _ _ arrived _ _ c.from_residual.result q.0 is q.1 q.2 (prefix-text _ _ _ _ (line (words_at m.stage l)) refl put)

pub returns-clause-line : goal.returns-clause-line
returns-clause-line g c =
    let m = c.args.at.now in
    let l = accepted_of c.args.line.now in
    let e : l ≡ Peer c.args.addr.0 c.args.port = ap accepted_of c.requires.line in
    let stage = Joining (with_peer (peers_in m.stage) c.args.addr.0 c.args.port) in
    let is : (finds : List Find) → outcome_of_line m l finds ≡ join_outcome m l stage finds =
    λ finds. subst (λ (k : AcceptedLine). outcome_of_line m k finds ≡ join_outcome m k stage finds) (sym e) (outcome_peer m c.args.addr.0 c.args.port finds) in
    let text : PeersSeen → List ℕ = λ p. line (words_of p.mesh l) in
    let put = subst (λ (t : List ℕ). Appends (g.O.Sink.held c.args.out.now) (g.O.Sink.held c.put_line.new.out) t) (ap text c.peers.ensures) c.in_ok-put_line.ensures.text in
    λ arrived sent. joined_done m l stage (refused_words m.stage l) c.count_line.new.self arrived _ _ is (counted_joined m c.add_peer.new.self c.count_line.new.self stage c.add_peer.ensures c.count_line.ensures)
    (adds-text _ _ _ _ (line (words_at m.stage l)) refl put)

pub returns-clause-grown : goal.returns-clause-grown
returns-clause-grown g c =
    let m = c.args.at.now in
    let p = with_peer (peers_in m.stage) c.args.addr.0 c.args.port in
    grown_joined (router_in m.stage) c.count_line.new.self.stage p (ap (λ (k : RunState). k.stage) (c.count_line.ensures ∙ ap (λ (k : RunState). counted_at k k.stage) c.add_peer.ensures))
