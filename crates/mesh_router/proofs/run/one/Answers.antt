use Rattle.std.proofs.Common.{◌≡◌, ℕ, ◌+◌, ◌∷◌, List, Ok, Err, refl, ◌∙◌, sym, subst}
use Rattle.std.specs.Io.KnownBytes.{Appends}
use Rattle.mesh_io.specs.Puts.{AppendsPrefix}
use Rattle.mesh_shell.specs.Pieces.{Whole}
use Rattle.mesh_grammar.specs.declared.fault.BadWhy.TheVariants.{Fault}
use Rattle.mesh_script.specs.Peers.{PeersSeen}
use Rattle.mesh_script.specs.NodeSeen.{accepted_of}
use Rattle.mesh_router.specs.declared.stop.Stop.{Stop}
use Rattle.mesh_router.specs.Lines.{outcome_of_line, refused_in, refused_words}
use Rattle.mesh_router.specs.declared.status.NodeStatus.TheVariants as status
use Rattle.mesh_router.specs.Routers.{peers_in}
use Rattle.mesh_router.specs.Output.{IsTold}
use Rattle.mesh_router.specs.Text.{full_line, run_from}
use Rattle.mesh_router.specs.Runs.{IsLineStopped}
use Rattle.mesh_router.proofs.Logging.{adds-text, prefix-text}
use Rattle.mesh_router.proofs.Script.{read_line, line_done, told_refused, told_full, told_full_cut, told_in_part}
use Rattle.mesh_router.proofs.run.one.Goals as goal

pub returns-in-Err-clause-stops : goal.returns-in-Err-clause-stops
returns-in-Err-clause-stops g c =
    let m = c.args.at.now in
    let bytes = c.args.bytes.now in
    let e = read_line m c.peers.result.now c.started.result bytes (Err c.in-Err.fault) c.peers.ensures c.started.ensures c.in-Err.ensures.value in
    λ pieces. told_refused m (Whole bytes) (Fault c.in-Err.fault) pieces _ _ _ c.refuse.result e (c.refuse.ensures.written _)

pub returns-in-Ok-do_line-clause-goes : goal.returns-in-Ok-do_line-clause-goes
returns-in-Ok-do_line-clause-goes g c =
    let m = c.args.at.now in
    let bytes = c.args.bytes.now in
    let l = accepted_of c.in-Ok.line in
    let e = read_line m c.peers.result.now c.started.result bytes (Ok l) c.peers.ensures c.started.ensures c.in-Ok.ensures.value in
    line_done m c.do_line.new.at (Whole bytes) l _ _ _ _ e c.in-Ok-do_line.ensures.line

pub returns-in-Ok-put_full-clause-stops : goal.returns-in-Ok-put_full-clause-stops
returns-in-Ok-put_full-clause-stops g c =
    let m = c.args.at.now in
    let bytes = c.args.bytes.now in
    let l = accepted_of c.in-Ok.line in
    let e = read_line m c.peers.result.now c.started.result bytes (Ok l) c.peers.ensures c.started.ensures c.in-Ok.ensures.value in
    let full = subst (λ (s : Stop). IsLineStopped (outcome_of_line m l) (refused_words m.stage l) (g.L.Link.arrived c.args.link.now) (g.L.Link.arrived c.do_line.new.link) (g.O.Sink.held c.args.out.now, g.L.Link.sent c.args.link.now) (g.O.Sink.held c.do_line.new.out, g.L.Link.sent c.do_line.new.link) s) c.in-Err-Full.field-0-is c.in-Err-Full.ensures.line in
    let text : ℕ → PeersSeen → List ℕ = λ n p. full_line (n + 1) (refused_in p.mesh l) c.in-Err-Full.field in
    let same : text c.lines-number.result c.peers-in-Err-Full.result.now ≡ text m.lines (peers_in m.stage) = λ i. text (c.lines-number.ensures i) ((c.peers-in-Err-Full.ensures ∙ c.in-Err-Full.ensures.peers) i) in
    let words = refused_words m.stage l in
    let put = subst (λ (t : List ℕ). Appends (g.O.Sink.held c.do_line.new.out) (g.O.Sink.held c.put_full.new.out) t) same c.in-Ok-put_full.ensures.text in
    λ pieces. subst (λ (n : ℕ). IsTold (run_from m (Whole bytes ∷ pieces)) (g.L.Link.arrived c.args.link.now) (g.L.Link.arrived c.do_line.new.link) (g.O.Sink.held c.args.out.now, g.L.Link.sent c.args.link.now) (g.O.Sink.held c.put_full.new.out, g.L.Link.sent c.do_line.new.link) (status.Full (n + 1))) (sym c.lines-number.ensures)
    (told_full m (Whole bytes) l words c.in-Err-Full.field pieces _ _ _ (g.O.Sink.held c.do_line.new.out, g.L.Link.sent c.do_line.new.link) _ e full (adds-text _ _ _ _ (full_line (m.lines + 1) words c.in-Err-Full.field) refl put))

pub returns-in-Err-put_full-clause-stops : goal.returns-in-Err-put_full-clause-stops
returns-in-Err-put_full-clause-stops g c =
    let m = c.args.at.now in
    let bytes = c.args.bytes.now in
    let l = accepted_of c.in-Ok.line in
    let e = read_line m c.peers.result.now c.started.result bytes (Ok l) c.peers.ensures c.started.ensures c.in-Ok.ensures.value in
    let full = subst (λ (s : Stop). IsLineStopped (outcome_of_line m l) (refused_words m.stage l) (g.L.Link.arrived c.args.link.now) (g.L.Link.arrived c.do_line.new.link) (g.O.Sink.held c.args.out.now, g.L.Link.sent c.args.link.now) (g.O.Sink.held c.do_line.new.out, g.L.Link.sent c.do_line.new.link) s) c.in-Err-Full.field-0-is c.in-Err-Full.ensures.line in
    let text : ℕ → PeersSeen → List ℕ = λ n p. full_line (n + 1) (refused_in p.mesh l) c.in-Err-Full.field in
    let same : text c.lines-number.result c.peers-in-Err-Full.result.now ≡ text m.lines (peers_in m.stage) = λ i. text (c.lines-number.ensures i) ((c.peers-in-Err-Full.ensures ∙ c.in-Err-Full.ensures.peers) i) in
    let words = refused_words m.stage l in
    let put = subst (λ (t : List ℕ). AppendsPrefix (g.O.Sink.held c.do_line.new.out) (g.O.Sink.held c.put_full.new.out) t) same c.in-Err-put_full.ensures.text in
    λ pieces. told_full_cut m (Whole bytes) l words c.in-Err-Full.field pieces _ _ _ (g.O.Sink.held c.do_line.new.out, g.L.Link.sent c.do_line.new.link) _ e full (prefix-text _ _ _ _ (full_line (m.lines + 1) words c.in-Err-Full.field) refl put)

pub returns-in-Err-WriteFault-clause-stops : goal.returns-in-Err-WriteFault-clause-stops
returns-in-Err-WriteFault-clause-stops g c =
    let m = c.args.at.now in
    let bytes = c.args.bytes.now in
    let l = accepted_of c.in-Ok.line in
    let e = read_line m c.peers.result.now c.started.result bytes (Ok l) c.peers.ensures c.started.ensures c.in-Ok.ensures.value in
    let part = subst (λ (s : Stop). IsLineStopped (outcome_of_line m l) (refused_words m.stage l) (g.L.Link.arrived c.args.link.now) (g.L.Link.arrived c.do_line.new.link) (g.O.Sink.held c.args.out.now, g.L.Link.sent c.args.link.now) (g.O.Sink.held c.do_line.new.out, g.L.Link.sent c.do_line.new.link) s) c.in-Err-WriteFault.field-0-is c.in-Err-WriteFault.ensures.line in
    λ pieces. told_in_part m (Whole bytes) l pieces _ _ _ _ status.WriteFault e (λ r p. p) part

pub returns-in-Err-LinkFault-clause-stops : goal.returns-in-Err-LinkFault-clause-stops
returns-in-Err-LinkFault-clause-stops g c =
    let m = c.args.at.now in
    let bytes = c.args.bytes.now in
    let l = accepted_of c.in-Ok.line in
    let e = read_line m c.peers.result.now c.started.result bytes (Ok l) c.peers.ensures c.started.ensures c.in-Ok.ensures.value in
    let part = subst (λ (s : Stop). IsLineStopped (outcome_of_line m l) (refused_words m.stage l) (g.L.Link.arrived c.args.link.now) (g.L.Link.arrived c.do_line.new.link) (g.O.Sink.held c.args.out.now, g.L.Link.sent c.args.link.now) (g.O.Sink.held c.do_line.new.out, g.L.Link.sent c.do_line.new.link) s) c.in-Err-LinkFault.field-0-is c.in-Err-LinkFault.ensures.line in
    λ pieces. told_in_part m (Whole bytes) l pieces _ _ _ _ status.LinkFault e (λ r p. p) part

pub returns-in-Err-NoMemory-clause-stops : goal.returns-in-Err-NoMemory-clause-stops
returns-in-Err-NoMemory-clause-stops g c =
    let m = c.args.at.now in
    let bytes = c.args.bytes.now in
    let l = accepted_of c.in-Ok.line in
    let e = read_line m c.peers.result.now c.started.result bytes (Ok l) c.peers.ensures c.started.ensures c.in-Ok.ensures.value in
    let part = subst (λ (s : Stop). IsLineStopped (outcome_of_line m l) (refused_words m.stage l) (g.L.Link.arrived c.args.link.now) (g.L.Link.arrived c.do_line.new.link) (g.O.Sink.held c.args.out.now, g.L.Link.sent c.args.link.now) (g.O.Sink.held c.do_line.new.out, g.L.Link.sent c.do_line.new.link) s) c.in-Err-NoMemory.field-0-is c.in-Err-NoMemory.ensures.line in
    λ pieces. told_in_part m (Whole bytes) l pieces _ _ _ _ status.NoMemory e (λ r p. p) part
