use Rattle.std.proofs.Common.{ℕ, ◌+◌, ◌++◌, Bool, Ok, Err, refl, ap, ◌∙◌, sym, subst}
use Rattle.std.proofs.lemmas.Result.{err_from_is_err_and}
use Rattle.mesh_base.specs.Meshes.{Nodes, IsMesh}
use Rattle.aodv_model.specs.Handlers.{may_ask, ask}
use Rattle.aodv_model.specs.Fullness.{ask_full}
use Rattle.aodv_node.specs.Discovered.{IsAsk, IsAskShort}
use Rattle.aodv_node.specs.declared.answers.AskError.{AskError}
use Rattle.mesh_grammar.specs.Written.{line}
use Rattle.mesh_script.specs.NodeLines.{words_of}
use Rattle.mesh_script.specs.NodeSeen.{accepted_of}
use Rattle.mesh_router.specs.Logs.{text_log}
use Rattle.mesh_router.specs.declared.stop.Stop.TheVariants.{Full}
use Rattle.mesh_router.specs.Routers.{Router}
use Rattle.mesh_router.specs.Turns.{StepDone, act_of, idle_line}
use Rattle.mesh_router.specs.Peers.{act_log}
use Rattle.mesh_router.specs.Outputs.{Outputs, IsFault}
use Rattle.mesh_router.specs.Runs.{IsStepRun}
use Rattle.mesh_router.proofs.Logging.{adds-text, prefix-text, prefix-none}
use Rattle.mesh_router.proofs.Turning.{router_as}
use Rattle.mesh_router.proofs.Acting.{ask_meant, act_idle, act_full, step_done, step_cut_in, not_full-fault, not_full-write}
use Rattle.mesh_router.proofs.router.Router.ask.Goals as goal

pub tell_act-requires-clause-broken : goal.tell_act-requires-clause-broken
tell_act-requires-clause-broken g c =
    let p = c.self.inside.peers in
    let node = c.self.inside.node in
    let near = c.self.inside.range in
    let l = accepted_of c.args.line.now in
    let words = words_of p.mesh l in
    let is = subst IsMesh c.mesh.ensures.mesh c.len-nodes.ensures.is_mesh in
    let does = subst (λ (m : Nodes). IsAsk m node.core c.args.dest (Ok c.in-Ok.effect) c.ask.new.self.core c.ask.new.out.items) c.mesh-2.ensures.mesh c.in-Ok.ensures.does in
    let meant = ask_meant p c.in-Some.me node c.ask.new.self near c.self.inside.heard c.self.inside.sent c.self.inside.dropped l c.args.dest c.in-Ok.effect c.ask.new.out.items is c.sn-number.ensures.sound c.self.invariant.size does.0 c.ask.ensures.others does.1 in
    meant.broken

pub tell_act-requires-clause-cast : goal.tell_act-requires-clause-cast
tell_act-requires-clause-cast g c =
    let p = c.self.inside.peers in
    let node = c.self.inside.node in
    let near = c.self.inside.range in
    let l = accepted_of c.args.line.now in
    let words = words_of p.mesh l in
    let is = subst IsMesh c.mesh.ensures.mesh c.len-nodes.ensures.is_mesh in
    let does = subst (λ (m : Nodes). IsAsk m node.core c.args.dest (Ok c.in-Ok.effect) c.ask.new.self.core c.ask.new.out.items) c.mesh-2.ensures.mesh c.in-Ok.ensures.does in
    let meant = ask_meant p c.in-Some.me node c.ask.new.self near c.self.inside.heard c.self.inside.sent c.self.inside.dropped l c.args.dest c.in-Ok.effect c.ask.new.out.items is c.sn-number.ensures.sound c.self.invariant.size does.0 c.ask.ensures.others does.1 in
    meant.cast

pub returns-in_err-self-inside-in-Ok-clause-step : goal.returns-in_err-self-inside-in-Ok-clause-step
returns-in_err-self-inside-in-Ok-clause-step g c =
    let p = c.self.inside.peers in
    let node = c.self.inside.node in
    let near = c.self.inside.range in
    let l = accepted_of c.args.line.now in
    let words = words_of p.mesh l in
    let is = subst IsMesh c.mesh.ensures.mesh c.len-nodes.ensures.is_mesh in
    let does = subst (λ (m : Nodes). IsAsk m node.core c.args.dest (Ok c.in-Ok.effect) c.ask.new.self.core c.ask.new.out.items) c.mesh-2.ensures.mesh c.in-Ok.ensures.does in
    let meant = ask_meant p c.in-Some.me node c.ask.new.self near c.self.inside.heard c.self.inside.sent c.self.inside.dropped l c.args.dest c.in-Ok.effect c.ask.new.out.items is c.sn-number.ensures.sound c.self.invariant.size does.0 c.ask.ensures.others does.1 in
    let q = err_from_is_err_and c.from_residual.result c.from_residual.ensures.1 in
    let P : Router → Type 0 = λ r. IsStepRun (act_of r (words_of r.peers.mesh l) (may_ask r.core c.args.dest) (ask_full r.core) (ask r.core c.args.dest)) (g.O.Sink.held c.args.out.now, g.L.Link.sent c.args.link.now) (g.O.Sink.held c.tell_act.new.out, g.L.Link.sent c.tell_act.new.link) (router_as p c.ask.new.self near c.self.inside.heard c.self.inside.sent c.self.inside.dropped) c.from_residual.result in
    subst P c.self.view_is (step_cut_in _ _ _ _ _ _ c.from_residual.result q.0 q.1 (not_full-fault q.0 (subst IsFault (sym q.2) c.in_err-self-inside-in-Ok.ensures.fault))
    (ap (λ (b : Bool). act_of (router_as p node near c.self.inside.heard c.self.inside.sent c.self.inside.dropped) words b (ask_full node.core) (ask node.core c.args.dest)) does.0 ∙ meant.is) c.in_err-self-inside-in-Ok.ensures.says)

pub returns-in_err-put_idle-in-Err-Idle-clause-step : goal.returns-in_err-put_idle-in-Err-Idle-clause-step
returns-in_err-put_idle-in-Err-Idle-clause-step g c =
    let p = c.self.inside.peers in
    let node = c.self.inside.node in
    let near = c.self.inside.range in
    let l = accepted_of c.args.line.now in
    let words = words_of p.mesh l in
    let q = err_from_is_err_and c.from_residual-in_err-put_idle-in-Err-Idle.result c.from_residual-in_err-put_idle-in-Err-Idle.ensures.1 in
    let may = (subst (λ (e : AskError). IsAsk c.mesh-2.result.now node.core c.args.dest (Err e) c.ask.new.self.core c.ask.new.out.items) c.in-Err-Idle.field-0-is c.in-Err-Idle.ensures.does).0 in
    let P : Router → Type 0 = λ r. IsStepRun (act_of r (words_of r.peers.mesh l) (may_ask r.core c.args.dest) (ask_full r.core) (ask r.core c.args.dest)) (g.O.Sink.held c.args.out.now, g.L.Link.sent c.args.link.now) (g.O.Sink.held c.put_idle.new.out, g.L.Link.sent c.args.link.now) (router_as p c.ask.new.self near c.self.inside.heard c.self.inside.sent c.self.inside.dropped) c.from_residual-in_err-put_idle-in-Err-Idle.result in
    subst P c.self.view_is (step_cut_in _ (router_as p node near c.self.inside.heard c.self.inside.sent c.self.inside.dropped) _ _ _ (text_log (line words ++ idle_line)) c.from_residual-in_err-put_idle-in-Err-Idle.result q.0 q.1 (not_full-write q.0 q.2)
    (ap (λ (b : Bool). act_of (router_as p node near c.self.inside.heard c.self.inside.sent c.self.inside.dropped) words b (ask_full node.core) (ask node.core c.args.dest)) may)
    (prefix-text _ _ _ _ (line words ++ idle_line) refl c.in_err-put_idle-in-Err-Idle.ensures.text))

pub returns-in-Err-NoMemory-clause-step : goal.returns-in-Err-NoMemory-clause-step
returns-in-Err-NoMemory-clause-step g c =
    prefix-none _ _

pub returns-in-Err-NoMemory-clause-memory : goal.returns-in-Err-NoMemory-clause-memory
returns-in-Err-NoMemory-clause-memory g c =
    let node = c.self.inside.node in
    let short = (subst (λ (e : AskError). IsAsk c.mesh-2.result.now node.core c.args.dest (Err e) c.ask.new.self.core c.ask.new.out.items) c.in-Err-NoMemory.field-0-is c.in-Err-NoMemory.ensures.does).0 in
    λ is. subst (λ (r : Router). IsAskShort r.core c.args.dest) c.self.view_is short

pub returns-in_ok-self-inside-in-Ok-clause-step : goal.returns-in_ok-self-inside-in-Ok-clause-step
returns-in_ok-self-inside-in-Ok-clause-step g c =
    let p = c.self.inside.peers in
    let node = c.self.inside.node in
    let near = c.self.inside.range in
    let l = accepted_of c.args.line.now in
    let words = words_of p.mesh l in
    let is = subst IsMesh c.mesh.ensures.mesh c.len-nodes.ensures.is_mesh in
    let does = subst (λ (m : Nodes). IsAsk m node.core c.args.dest (Ok c.in-Ok.effect) c.ask.new.self.core c.ask.new.out.items) c.mesh-2.ensures.mesh c.in-Ok.ensures.does in
    let meant = ask_meant p c.in-Some.me node c.ask.new.self near c.self.inside.heard c.self.inside.sent c.self.inside.dropped l c.args.dest c.in-Ok.effect c.ask.new.out.items is c.sn-number.ensures.sound c.self.invariant.size does.0 c.ask.ensures.others does.1 in
    let P : Router → Type 0 = λ r. IsStepRun (act_of r (words_of r.peers.mesh l) (may_ask r.core c.args.dest) (ask_full r.core) (ask r.core c.args.dest)) (g.O.Sink.held c.args.out.now, g.L.Link.sent c.args.link.now) (g.O.Sink.held c.tell_act.new.out, g.L.Link.sent c.tell_act.new.link) (router_as p c.ask.new.self near c.self.inside.heard (c.self.inside.sent + c.in_ok-self-inside-in-Ok.field-0) c.self.inside.dropped) (Ok tt) in
    let count = ap (λ (n : ℕ). router_as p c.ask.new.self near c.self.inside.heard (c.self.inside.sent + n) c.self.inside.dropped) c.in_ok-self-inside-in-Ok.ensures.count in
    subst P c.self.view_is (step_done _ _ _ _ _ ((ap (λ (b : Bool). act_of (router_as p node near c.self.inside.heard c.self.inside.sent c.self.inside.dropped) words b (ask_full node.core) (ask node.core c.args.dest)) does.0 ∙ meant.is) ∙ ap (λ (r : Router). StepDone (act_log p near c.in-Some.me l c.in-Ok.effect c.ask.new.out.items) r) (sym count)) c.in_ok-self-inside-in-Ok.ensures.says)

pub returns-in_ok-put_idle-in-Err-Idle-clause-step : goal.returns-in_ok-put_idle-in-Err-Idle-clause-step
returns-in_ok-put_idle-in-Err-Idle-clause-step g c =
    let p = c.self.inside.peers in
    let node = c.self.inside.node in
    let near = c.self.inside.range in
    let l = accepted_of c.args.line.now in
    let words = words_of p.mesh l in
    let does = subst (λ (e : AskError). IsAsk c.mesh-2.result.now node.core c.args.dest (Err e) c.ask.new.self.core c.ask.new.out.items) c.in-Err-Idle.field-0-is c.in-Err-Idle.ensures.does in
    let P : Router → Type 0 = λ r. IsStepRun (act_of r (words_of r.peers.mesh l) (may_ask r.core c.args.dest) (ask_full r.core) (ask r.core c.args.dest)) (g.O.Sink.held c.args.out.now, g.L.Link.sent c.args.link.now) (g.O.Sink.held c.put_idle.new.out, g.L.Link.sent c.args.link.now) (router_as p c.ask.new.self near c.self.inside.heard c.self.inside.sent c.self.inside.dropped) (Ok tt) in
    subst P c.self.view_is (act_idle p node c.ask.new.self near c.self.inside.heard c.self.inside.sent c.self.inside.dropped words (may_ask node.core c.args.dest) (ask_full node.core) (ask node.core c.args.dest) _ _ does.0 does.1 c.ask.ensures.others
    (adds-text _ _ _ _ (line words ++ idle_line) refl c.in_ok-put_idle-in-Err-Idle.ensures.text))

pub returns-in-Err-Full-clause-step : goal.returns-in-Err-Full-clause-step
returns-in-Err-Full-clause-step g c =
    let p = c.self.inside.peers in
    let node = c.self.inside.node in
    let near = c.self.inside.range in
    let l = accepted_of c.args.line.now in
    let does = subst (λ (e : AskError). IsAsk c.mesh-2.result.now node.core c.args.dest (Err e) c.ask.new.self.core c.ask.new.out.items) c.in-Err-Full.field-0-is c.in-Err-Full.ensures.does in
    let a : Outputs = (g.O.Sink.held c.args.out.now, g.L.Link.sent c.args.link.now) in
    let P : Router → Type 0 = λ r. IsStepRun (act_of r (words_of r.peers.mesh l) (may_ask r.core c.args.dest) (ask_full r.core) (ask r.core c.args.dest)) a a (router_as p c.ask.new.self near c.self.inside.heard c.self.inside.sent c.self.inside.dropped) (Err (Full c.in-Err-Full.field)) in
    subst P c.self.view_is (act_full (router_as p node near c.self.inside.heard c.self.inside.sent c.self.inside.dropped) (router_as p c.ask.new.self near c.self.inside.heard c.self.inside.sent c.self.inside.dropped) (words_of p.mesh l) (may_ask node.core c.args.dest) (ask_full node.core) (ask node.core c.args.dest) c.in-Err-Full.field a does.0 does.1.overfull)
