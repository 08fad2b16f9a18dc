use Rattle.std.proofs.Common.{◌≡◌, ℕ, true, false, Ok, Err, refl, ap, ◌∙◌, sym, subst}
use Rattle.std.proofs.lemmas.Result.{err_from_is_err_and}
use Rattle.mesh_base.specs.Meshes.{Nodes, IsMesh}
use Rattle.mesh_router.specs.Turns.{next_turn, idle_line, drop_line, refusal_words, stranger_words}
use Rattle.mesh_router.specs.Routers.{Router}
use Rattle.aodv_wire.specs.Encodes.{refusal, message_in_fields}
use Rattle.aodv_meaning.specs.Meaning.{stranger}
use Rattle.std.proofs.Common.{List, Some, None, ◌+◌}
use Rattle.std.specs.Io.KnownBytes.{Appends}
use Rattle.mesh_io.specs.Puts.{AppendsPrefix}
use Rattle.aodv_node.specs.Seen.{NodeSeen}
use Rattle.mesh_router.specs.declared.stop.Stop.TheVariants.{Full}
use Rattle.mesh_router.specs.Turns.{TurnOutcome, Done}
use Rattle.mesh_router.specs.Peers.{code_log}
use Rattle.aodv_node.specs.Turned.{IsTaken, IsFullAt, IsDropped, IsShort, IsTurn}
use Rattle.aodv_node.specs.declared.answers.TurnError.{TurnError}
use Rattle.mesh_router.specs.Outputs.{IsFault, AddsPrefix}
use Rattle.mesh_router.specs.Runs.{IsTurnRun, log_by}
use Rattle.mesh_router.specs.Short.{IsTurnShort}
use Rattle.mesh_router.proofs.Logging.{adds-text, prefix-text, prefix-none}
use Rattle.mesh_router.proofs.Turning.{router_as, turn_meant, turn_refused, turn_strange, turn_idle, turn_full_at, router_short, told_in_part, told_fault, told_done, same_me}
use Rattle.mesh_router.proofs.router.Router.turn.Goals as goal

pub tell_turn-requires-clause-broken : goal.tell_turn-requires-clause-broken
tell_turn-requires-clause-broken g c =
    let p = c.self.inside.peers in
    let node = c.self.inside.node in
    let near = c.self.inside.range in
    let is = subst IsMesh c.mesh.ensures.mesh c.len-nodes.ensures.is_mesh in
    let took = subst (λ (m : Nodes). IsTaken m near node c.in-Ok.done c.turn.new.self c.turn.new.out.items) c.mesh-2.ensures.mesh c.in-Ok.ensures.turn in
    let mine = same_me p c.in-Some.me node.core.ip c.me.result c.me.ensures.value c.in-Some.is c.self.invariant.me in
    let meant = turn_meant p c.in-Some.me node c.turn.new.self near c.self.inside.heard c.self.inside.sent c.self.inside.dropped c.in-Ok.done c.in-Ok.done.took c.turn.new.out.items is mine c.sn-number.ensures.sound c.self.invariant.size took refl in
    meant.broken

pub tell_turn-requires-clause-cast : goal.tell_turn-requires-clause-cast
tell_turn-requires-clause-cast g c =
    let p = c.self.inside.peers in
    let node = c.self.inside.node in
    let near = c.self.inside.range in
    let is = subst IsMesh c.mesh.ensures.mesh c.len-nodes.ensures.is_mesh in
    let took = subst (λ (m : Nodes). IsTaken m near node c.in-Ok.done c.turn.new.self c.turn.new.out.items) c.mesh-2.ensures.mesh c.in-Ok.ensures.turn in
    let mine = same_me p c.in-Some.me node.core.ip c.me.result c.me.ensures.value c.in-Some.is c.self.invariant.me in
    let meant = turn_meant p c.in-Some.me node c.turn.new.self near c.self.inside.heard c.self.inside.sent c.self.inside.dropped c.in-Ok.done c.in-Ok.done.took c.turn.new.out.items is mine c.sn-number.ensures.sound c.self.invariant.size took refl in
    meant.cast

pub returns-in_err-self-inside-in-Ok-clause-turn : goal.returns-in_err-self-inside-in-Ok-clause-turn
returns-in_err-self-inside-in-Ok-clause-turn g c =
    let p = c.self.inside.peers in
    let node = c.self.inside.node in
    let near = c.self.inside.range in
    let is = subst IsMesh c.mesh.ensures.mesh c.len-nodes.ensures.is_mesh in
    let took = subst (λ (m : Nodes). IsTaken m near node c.in-Ok.done c.turn.new.self c.turn.new.out.items) c.mesh-2.ensures.mesh c.in-Ok.ensures.turn in
    let mine = same_me p c.in-Some.me node.core.ip c.me.result c.me.ensures.value c.in-Some.is c.self.invariant.me in
    let meant = turn_meant p c.in-Some.me node c.turn.new.self near c.self.inside.heard c.self.inside.sent c.self.inside.dropped c.in-Ok.done c.in-Ok.done.took c.turn.new.out.items is mine c.sn-number.ensures.sound c.self.invariant.size took refl in
    let q = err_from_is_err_and c.from_residual.result c.from_residual.ensures.1 in
    let P : Router → Type 0 = λ r. IsTurnRun (next_turn r) r (g.O.Sink.held c.args.out.now, g.L.Link.sent c.args.link.now) (g.O.Sink.held c.tell_turn.new.out, g.L.Link.sent c.tell_turn.new.link) (router_as p c.turn.new.self near c.self.inside.heard c.self.inside.sent c.self.inside.dropped) c.from_residual.result in
    subst P c.self.view_is (told_in_part _ _ _ _ _ _ _ c.from_residual.result q.0 meant.is c.in_err-self-inside-in-Ok.ensures.says q.1 (subst IsFault (sym q.2) c.in_err-self-inside-in-Ok.ensures.fault))

pub returns-in_err-put_all-in-Err-Idle-clause-turn : goal.returns-in_err-put_all-in-Err-Idle-clause-turn
returns-in_err-put_all-in-Err-Idle-clause-turn g c =
    let p = c.self.inside.peers in
    let node = c.self.inside.node in
    let near = c.self.inside.range in
    let q = err_from_is_err_and c.from_residual-in_err-put_all-in-Err-Idle.result c.from_residual-in_err-put_all-in-Err-Idle.ensures.1 in
    let is = turn_idle p node near c.self.inside.heard c.self.inside.sent c.self.inside.dropped ((subst (λ (e : TurnError). IsTurn c.mesh-2.result.now near node (Err e) c.turn.new.self c.turn.new.out.items) c.in-Err-Idle.field-0-is c.in-Err-Idle.ensures.turn)).0 in
    let P : Router → Type 0 = λ r. IsTurnRun (next_turn r) r (g.O.Sink.held c.args.out.now, g.L.Link.sent c.args.link.now) (g.O.Sink.held c.put_all.new.out, g.L.Link.sent c.args.link.now) (router_as p c.turn.new.self near c.self.inside.heard c.self.inside.sent c.self.inside.dropped) c.from_residual-in_err-put_all-in-Err-Idle.result in
    subst P c.self.view_is (told_fault _ _ _ _ _ c.from_residual-in_err-put_all-in-Err-Idle.result q.0 q.1 (subst IsFault (sym q.2) tt) (subst (λ (t : TurnOutcome). AddsPrefix (g.O.Sink.held c.args.out.now, g.L.Link.sent c.args.link.now) (g.O.Sink.held c.put_all.new.out, g.L.Link.sent c.args.link.now) (log_by t)) (sym is) (prefix-text _ _ _ _ idle_line refl c.in_err-put_all-in-Err-Idle.ensures.text)))

pub returns-in_err-put_malformed-in-Err-Refused-clause-turn : goal.returns-in_err-put_malformed-in-Err-Refused-clause-turn
returns-in_err-put_malformed-in-Err-Refused-clause-turn g c =
    let p = c.self.inside.peers in
    let node = c.self.inside.node in
    let near = c.self.inside.range in
    let is = turn_refused p node c.turn.new.self near c.self.inside.heard c.self.inside.sent c.self.inside.dropped c.in-Err-Refused.from c.in-Err-Refused.why (subst (λ (e : TurnError). IsTurn c.mesh-2.result.now near node (Err e) c.turn.new.self c.turn.new.out.items) c.in-Err-Refused.field-0-is c.in-Err-Refused.ensures.turn) in
    let text : Nodes → List ℕ = λ m. drop_line m c.in-Err-Refused.from (refusal_words c.in-Err-Refused.why) in
    let q = err_from_is_err_and c.from_residual-in_err-put_malformed-in-Err-Refused.result c.from_residual-in_err-put_malformed-in-Err-Refused.ensures.1 in
    let P : Router → Type 0 = λ r. IsTurnRun (next_turn r) r (g.O.Sink.held c.args.out.now, g.L.Link.sent c.args.link.now) (g.O.Sink.held c.put_malformed.new.out, g.L.Link.sent c.args.link.now) (router_as p c.turn.new.self near c.self.inside.heard c.self.inside.sent (c.self.inside.dropped + 1)) c.from_residual-in_err-put_malformed-in-Err-Refused.result in
    let put = subst (λ (l : List ℕ). AppendsPrefix (g.O.Sink.held c.args.out.now) (g.O.Sink.held c.put_malformed.new.out) l) (ap text c.mesh-in-Err-Refused.ensures.mesh) c.in_err-put_malformed-in-Err-Refused.ensures.text in
    subst P c.self.view_is (told_in_part _ _ _ _ _ _ _ c.from_residual-in_err-put_malformed-in-Err-Refused.result q.0 is (prefix-text _ _ _ _ (text p.mesh) refl put) q.1 (subst IsFault (sym q.2) tt))

pub returns-in_err-put_stranger-in-Err-Stranger-clause-turn : goal.returns-in_err-put_stranger-in-Err-Stranger-clause-turn
returns-in_err-put_stranger-in-Err-Stranger-clause-turn g c =
    let p = c.self.inside.peers in
    let node = c.self.inside.node in
    let near = c.self.inside.range in
    let is = turn_strange p node c.turn.new.self near c.self.inside.heard c.self.inside.sent c.self.inside.dropped c.in-Err-Stranger.from c.in-Err-Stranger.who (subst (λ (m : Nodes). (bytes : List ℕ) × (refusal bytes ≡ None) × (stranger m (message_in_fields bytes) ≡ Some c.in-Err-Stranger.who) × IsDropped node c.in-Err-Stranger.from bytes c.turn.new.self) c.mesh-2.ensures.mesh (subst (λ (e : TurnError). IsTurn c.mesh-2.result.now near node (Err e) c.turn.new.self c.turn.new.out.items) c.in-Err-Stranger.field-0-is c.in-Err-Stranger.ensures.turn)) in
    let text : Nodes → List ℕ = λ m. drop_line m c.in-Err-Stranger.from (stranger_words c.in-Err-Stranger.who) in
    let q = err_from_is_err_and c.from_residual-in_err-put_stranger-in-Err-Stranger.result c.from_residual-in_err-put_stranger-in-Err-Stranger.ensures.1 in
    let P : Router → Type 0 = λ r. IsTurnRun (next_turn r) r (g.O.Sink.held c.args.out.now, g.L.Link.sent c.args.link.now) (g.O.Sink.held c.put_stranger.new.out, g.L.Link.sent c.args.link.now) (router_as p c.turn.new.self near c.self.inside.heard c.self.inside.sent (c.self.inside.dropped + 1)) c.from_residual-in_err-put_stranger-in-Err-Stranger.result in
    let put = subst (λ (l : List ℕ). AppendsPrefix (g.O.Sink.held c.args.out.now) (g.O.Sink.held c.put_stranger.new.out) l) (ap text c.mesh-in-Err-Stranger.ensures.mesh) c.in_err-put_stranger-in-Err-Stranger.ensures.text in
    subst P c.self.view_is (told_in_part _ _ _ _ _ _ _ c.from_residual-in_err-put_stranger-in-Err-Stranger.result q.0 is (prefix-text _ _ _ _ (text p.mesh) refl put) q.1 (subst IsFault (sym q.2) tt))

pub returns-in_ok-self-inside-in-Ok-clause-turn : goal.returns-in_ok-self-inside-in-Ok-clause-turn
returns-in_ok-self-inside-in-Ok-clause-turn g c =
    let p = c.self.inside.peers in
    let node = c.self.inside.node in
    let near = c.self.inside.range in
    let is = subst IsMesh c.mesh.ensures.mesh c.len-nodes.ensures.is_mesh in
    let took = subst (λ (m : Nodes). IsTaken m near node c.in-Ok.done c.turn.new.self c.turn.new.out.items) c.mesh-2.ensures.mesh c.in-Ok.ensures.turn in
    let mine = same_me p c.in-Some.me node.core.ip c.me.result c.me.ensures.value c.in-Some.is c.self.invariant.me in
    let meant = turn_meant p c.in-Some.me node c.turn.new.self near c.self.inside.heard c.self.inside.sent c.self.inside.dropped c.in-Ok.done c.in-Ok.done.took c.turn.new.out.items is mine c.sn-number.ensures.sound c.self.invariant.size took refl in
    let P : Router → Type 0 = λ r. IsTurnRun (next_turn r) r (g.O.Sink.held c.args.out.now, g.L.Link.sent c.args.link.now) (g.O.Sink.held c.tell_turn.new.out, g.L.Link.sent c.tell_turn.new.link) (router_as p c.turn.new.self near c.self.inside.heard (c.self.inside.sent + c.in_ok-self-inside-in-Ok.field-0) c.self.inside.dropped) (Ok true) in
    let count = ap (λ (n : ℕ). router_as p c.turn.new.self near c.self.inside.heard (c.self.inside.sent + n) c.self.inside.dropped) c.in_ok-self-inside-in-Ok.ensures.count in
    subst P c.self.view_is (told_done _ (router_as p node near c.self.inside.heard c.self.inside.sent c.self.inside.dropped) _ _ _ _ (meant.is ∙ ap (λ (r : Router). Done (code_log p near c.in-Some.me (Some c.in-Ok.done.took) c.in-Ok.done.effect c.turn.new.out.items) r) (sym count)) c.in_ok-self-inside-in-Ok.ensures.says)

pub returns-in_ok-put_all-in-Err-Idle-clause-turn : goal.returns-in_ok-put_all-in-Err-Idle-clause-turn
returns-in_ok-put_all-in-Err-Idle-clause-turn g c =
    let p = c.self.inside.peers in
    let node = c.self.inside.node in
    let near = c.self.inside.range in
    let is = turn_idle p node near c.self.inside.heard c.self.inside.sent c.self.inside.dropped ((subst (λ (e : TurnError). IsTurn c.mesh-2.result.now near node (Err e) c.turn.new.self c.turn.new.out.items) c.in-Err-Idle.field-0-is c.in-Err-Idle.ensures.turn)).0 in
    let P : Router → Type 0 = λ r. IsTurnRun (next_turn r) r (g.O.Sink.held c.args.out.now, g.L.Link.sent c.args.link.now) (g.O.Sink.held c.put_all.new.out, g.L.Link.sent c.args.link.now) (router_as p c.turn.new.self near c.self.inside.heard c.self.inside.sent c.self.inside.dropped) (Ok false) in
    subst P c.self.view_is (record {
      is = is;
      same = ap (λ (n : NodeSeen). router_as p n near c.self.inside.heard c.self.inside.sent c.self.inside.dropped) ((subst (λ (e : TurnError). IsTurn c.mesh-2.result.now near node (Err e) c.turn.new.self c.turn.new.out.items) c.in-Err-Idle.field-0-is c.in-Err-Idle.ensures.turn)).1;
      adds = adds-text _ _ _ _ idle_line refl c.in_ok-put_all-in-Err-Idle.ensures.text;
    })

pub returns-in_ok-put_malformed-in-Err-Refused-clause-turn : goal.returns-in_ok-put_malformed-in-Err-Refused-clause-turn
returns-in_ok-put_malformed-in-Err-Refused-clause-turn g c =
    let p = c.self.inside.peers in
    let node = c.self.inside.node in
    let near = c.self.inside.range in
    let is = turn_refused p node c.turn.new.self near c.self.inside.heard c.self.inside.sent c.self.inside.dropped c.in-Err-Refused.from c.in-Err-Refused.why (subst (λ (e : TurnError). IsTurn c.mesh-2.result.now near node (Err e) c.turn.new.self c.turn.new.out.items) c.in-Err-Refused.field-0-is c.in-Err-Refused.ensures.turn) in
    let text : Nodes → List ℕ = λ m. drop_line m c.in-Err-Refused.from (refusal_words c.in-Err-Refused.why) in
    let P : Router → Type 0 = λ r. IsTurnRun (next_turn r) r (g.O.Sink.held c.args.out.now, g.L.Link.sent c.args.link.now) (g.O.Sink.held c.put_malformed.new.out, g.L.Link.sent c.args.link.now) (router_as p c.turn.new.self near c.self.inside.heard c.self.inside.sent (c.self.inside.dropped + 1)) (Ok true) in
    let put = subst (λ (l : List ℕ). Appends (g.O.Sink.held c.args.out.now) (g.O.Sink.held c.put_malformed.new.out) l) (ap text c.mesh-in-Err-Refused.ensures.mesh) c.in_ok-put_malformed-in-Err-Refused.ensures.text in
    subst P c.self.view_is (told_done _ (router_as p node near c.self.inside.heard c.self.inside.sent c.self.inside.dropped) _ _ _ _ is (adds-text _ _ _ _ (text p.mesh) refl put))

pub returns-in_ok-put_stranger-in-Err-Stranger-clause-turn : goal.returns-in_ok-put_stranger-in-Err-Stranger-clause-turn
returns-in_ok-put_stranger-in-Err-Stranger-clause-turn g c =
    let p = c.self.inside.peers in
    let node = c.self.inside.node in
    let near = c.self.inside.range in
    let is = turn_strange p node c.turn.new.self near c.self.inside.heard c.self.inside.sent c.self.inside.dropped c.in-Err-Stranger.from c.in-Err-Stranger.who (subst (λ (m : Nodes). (bytes : List ℕ) × (refusal bytes ≡ None) × (stranger m (message_in_fields bytes) ≡ Some c.in-Err-Stranger.who) × IsDropped node c.in-Err-Stranger.from bytes c.turn.new.self) c.mesh-2.ensures.mesh (subst (λ (e : TurnError). IsTurn c.mesh-2.result.now near node (Err e) c.turn.new.self c.turn.new.out.items) c.in-Err-Stranger.field-0-is c.in-Err-Stranger.ensures.turn)) in
    let text : Nodes → List ℕ = λ m. drop_line m c.in-Err-Stranger.from (stranger_words c.in-Err-Stranger.who) in
    let P : Router → Type 0 = λ r. IsTurnRun (next_turn r) r (g.O.Sink.held c.args.out.now, g.L.Link.sent c.args.link.now) (g.O.Sink.held c.put_stranger.new.out, g.L.Link.sent c.args.link.now) (router_as p c.turn.new.self near c.self.inside.heard c.self.inside.sent (c.self.inside.dropped + 1)) (Ok true) in
    let put = subst (λ (l : List ℕ). Appends (g.O.Sink.held c.args.out.now) (g.O.Sink.held c.put_stranger.new.out) l) (ap text c.mesh-in-Err-Stranger.ensures.mesh) c.in_ok-put_stranger-in-Err-Stranger.ensures.text in
    subst P c.self.view_is (told_done _ (router_as p node near c.self.inside.heard c.self.inside.sent c.self.inside.dropped) _ _ _ _ is (adds-text _ _ _ _ (text p.mesh) refl put))

pub returns-in-Err-Full-clause-turn : goal.returns-in-Err-Full-clause-turn
returns-in-Err-Full-clause-turn g c =
    let p = c.self.inside.peers in
    let node = c.self.inside.node in
    let near = c.self.inside.range in
    let full = subst (λ (m : Nodes). IsFullAt m near node c.in-Err-Full.field) c.mesh-2.ensures.mesh ((subst (λ (e : TurnError). IsTurn c.mesh-2.result.now near node (Err e) c.turn.new.self c.turn.new.out.items) c.in-Err-Full.field-0-is c.in-Err-Full.ensures.turn)).0 in
    let is = turn_full_at p node near c.self.inside.heard c.self.inside.sent c.self.inside.dropped c.in-Err-Full.field full in
    let P : Router → Type 0 = λ r. IsTurnRun (next_turn r) r (g.O.Sink.held c.args.out.now, g.L.Link.sent c.args.link.now) (g.O.Sink.held c.args.out.now, g.L.Link.sent c.args.link.now) (router_as p c.turn.new.self near c.self.inside.heard c.self.inside.sent c.self.inside.dropped) (Err (Full c.in-Err-Full.field)) in
    subst P c.self.view_is (record { is = is; same = refl })

pub returns-in-Err-NoMemory-clause-turn : goal.returns-in-Err-NoMemory-clause-turn
returns-in-Err-NoMemory-clause-turn g c =
    prefix-none _ _

pub returns-in-Err-NoMemory-clause-memory : goal.returns-in-Err-NoMemory-clause-memory
returns-in-Err-NoMemory-clause-memory g c =
    let p = c.self.inside.peers in
    let node = c.self.inside.node in
    let near = c.self.inside.range in
    let short = subst (λ (m : Nodes). IsShort m node) c.mesh-2.ensures.mesh ((subst (λ (e : TurnError). IsTurn c.mesh-2.result.now near node (Err e) c.turn.new.self c.turn.new.out.items) c.in-Err-NoMemory.field-0-is c.in-Err-NoMemory.ensures.turn)).0 in
    λ is. subst IsTurnShort c.self.view_is (router_short p node near c.self.inside.heard c.self.inside.sent c.self.inside.dropped short)
