-- What a node does of its own accord is the router's, with what it casts sent to those in range.
use Rattle.std.proofs.Common.{◌≡◌, ℕ, ◌<◌, ◌+◌, ◌++◌, Bool, true, false, List, Option, Some, None, Result, Ok, Err, length, refl, sym, ap, ◌∙◌, subst, arith}
use Rattle.std.specs.Prelude.{IfSome, ⊤}
use Rattle.mesh_base.specs.Members.{NodeIds}
use Rattle.mesh_base.specs.Meshes.{IsMesh}
use Rattle.mesh_base.specs.declared.events.Full.{Full as Counter}
use Rattle.mesh_base.specs.declared.events.Effect as effects
use Rattle.aodv_model.specs.Handlers.{Reaction, Effect, may_send, send, may_ask, ask}
use Rattle.aodv_model.specs.Fullness.{send_full, ask_full}
use Rattle.aodv_model.specs.Soundness.{IsCastInMesh, IsEffectInMesh}
use Rattle.aodv_model.proofs.SoundTurns.{send_keeps_core, ask_keeps_core}
use Rattle.aodv_model.proofs.MeshNames.{send_names_the_mesh, ask_names_the_mesh}
use Rattle.aodv_handlers.specs.Made.{IsMade}
use Rattle.aodv_node.specs.Seen.{NodeSeen, IsSoundNode}
use Rattle.mesh_meaning.specs.Answers.{IsCastWritten}
use Rattle.mesh_grammar.specs.Written.{line}
use Rattle.mesh_script.specs.Peers.{PeersSeen}
use Rattle.mesh_script.specs.NodeLines.{AcceptedLine, Nothing, Own, Peer, Up, Down, Give, Polls, Turns, Sends, Asks, Shows, words_of}
use Rattle.mesh_router.specs.declared.stop.Stop.{Stop}
use Rattle.mesh_router.specs.declared.stop.Stop.TheVariants as stop
use Rattle.mesh_router.specs.Logs.{Log, nothing, text_log, followed_by}
use Rattle.mesh_router.specs.Routers.{Router}
use Rattle.mesh_router.specs.Casts.{effect_log}
use Rattle.mesh_router.specs.Turns.{StepOutcome, StepDone, log_before, act_of, idle_line}
use Rattle.mesh_router.specs.Lines.{step_of}
use Rattle.mesh_router.specs.Outputs.{Outputs, Adds, AddsPrefix, IsFault, HasCauses, HasSinkCause}
use Rattle.mesh_router.specs.Peers.{receivers_of, code_log, act_log}
use Rattle.mesh_router.specs.Runs.{log_in, IsStepRun}
use Rattle.mesh_router.specs.Joins.{adds-join, adds-none}
use Rattle.mesh_router.proofs.Turning.{router_as, IsEffectMeant, effect_meant, log_effect, reached_is, after-log, err_is}

-- ---- a send or a request

pub record IsActMeant (p : PeersSeen) (me : ℕ) (node new : NodeSeen) (near : NodeIds) (heard sent dropped : ℕ) (l : AcceptedLine) (full : Option Counter) (reaction : Reaction) (e : effects.Effect) (out : List ℕ) : Type 0 where
  pub is : act_of (router_as p node near heard sent dropped) (words_of p.mesh l) true full reaction
      ≡ StepDone (act_log p near me l e out) (router_as p new near heard (sent + length (receivers_of p near e.cast out)) dropped)
  pub cast : IsCastWritten p.mesh e.cast out
  pub broken : IfSome e.broken (λ y. y < length p.mesh)

effect_told : (r : Router) (x : ℕ) (e : effects.Effect) (effect : Effect) (out : List ℕ) → IsEffectMeant (r.peers).mesh e effect out → code_log r.peers r.range x None e out ≡ effect_log r effect
effect_told r x e effect out m = log_effect r e out m.packet ∙ ap (effect_log r) (sym m.means)

pub act_meant : (p : PeersSeen) (me : ℕ) (node new : NodeSeen) (near : NodeIds) (heard sent dropped : ℕ) (l : AcceptedLine) (full : Option Counter) (reaction : Reaction) (e : effects.Effect) (out : List ℕ)
    → IsMesh p.mesh → IsCastInMesh (length p.mesh) (reaction.effect).cast → IsEffectInMesh (length p.mesh) reaction.effect → new ≡ record node { core = new.core } → IsMade p.mesh full reaction e new.core out
    → IsActMeant p me node new near heard sent dropped l full reaction e out
act_meant p me node new near heard sent dropped l full reaction e out is in_mesh names others made =
    let r = router_as p node near heard sent dropped in
    let m = effect_meant p.mesh e reaction.effect out is in_mesh names made.did made.packet in
    let words = words_of p.mesh l in
    let queue : new.items ≡ node.items = ap (λ (n : NodeSeen). n.items) others in
    record {
      is = ap (λ (o : Option Counter). act_of r words true o reaction) made.free
          ∙ (λ k. StepDone (followed_by (text_log (line words)) (sym (effect_told r me e reaction.effect out m) k))
          (record { peers = p; core = sym made.core k; queue = sym queue k; range = near; heard = heard; sent = sent + length (sym (reached_is r e reaction.effect out m) k); dropped = dropped }));
      cast = m.cast;
      broken = m.broken;
    }

pub send_meant : (p : PeersSeen) (me : ℕ) (node new : NodeSeen) (near : NodeIds) (heard sent dropped : ℕ) (l : AcceptedLine) (d : ℕ) (e : effects.Effect) (out : List ℕ)
    → IsMesh p.mesh → IsSoundNode node → node.size ≡ length p.mesh → may_send node.core d ≡ true → new ≡ record node { core = new.core } → IsMade p.mesh (send_full node.core near d) (send node.core near d) e new.core out
    → IsActMeant p me node new near heard sent dropped l (send_full node.core near d) (send node.core near d) e out
send_meant p me node new near heard sent dropped l d e out is sound size may others made =
    let reacts = send_keeps_core node.size node.core near d sound.sound sound.store sound.mine may in
    let names = send_names_the_mesh node.size node.core near d sound.mine sound.sound may in
    act_meant p me node new near heard sent dropped l (send_full node.core near d) (send node.core near d) e out is
    (subst (λ (n : ℕ). IsCastInMesh n ((send node.core near d).effect).cast) size reacts.cast) (subst (λ (n : ℕ). IsEffectInMesh n (send node.core near d).effect) size names) others made

pub ask_meant : (p : PeersSeen) (me : ℕ) (node new : NodeSeen) (near : NodeIds) (heard sent dropped : ℕ) (l : AcceptedLine) (d : ℕ) (e : effects.Effect) (out : List ℕ)
    → IsMesh p.mesh → IsSoundNode node → node.size ≡ length p.mesh → may_ask node.core d ≡ true → new ≡ record node { core = new.core } → IsMade p.mesh (ask_full node.core) (ask node.core d) e new.core out
    → IsActMeant p me node new near heard sent dropped l (ask_full node.core) (ask node.core d) e out
ask_meant p me node new near heard sent dropped l d e out is sound size may others made =
    let reacts = ask_keeps_core node.size node.core d sound.sound sound.store sound.mine may in
    act_meant p me node new near heard sent dropped l (ask_full node.core) (ask node.core d) e out is
    (subst (λ (n : ℕ). IsCastInMesh n ((ask node.core d).effect).cast) size reacts.cast) (ask_names_the_mesh (length p.mesh) node.core d) others made

-- ---- what is told of a step

pub step_done : (s : StepOutcome) (new : Router) (a b : Outputs) (log : Log) → s ≡ StepDone log new → Adds a b log → IsStepRun s a b new (Ok tt)
step_done s new a b log is adds = record { log = log; is = is; adds = adds }

-- a fault, or want of memory
pub step_cut : (s : StepOutcome) (new : Router) (a b : Outputs) (r : Result (Unit {0}) Stop) (e : Stop) → r ≡ Err e → ((field : Counter) → e ≡ stop.Full field → ⊥) → AddsPrefix a b (log_in s) → IsStepRun s a b new r
step_cut s new a b (Ok u) e was other p = absurd cc
step_cut s new a b (Err (stop.Full field)) e was other p = absurd (other field (sym (err_is (stop.Full field) e was)))
step_cut s new a b (Err stop.WriteFault) e was other p = p
step_cut s new a b (Err stop.LinkFault) e was other p = p
step_cut s new a b (Err stop.NoMemory) e was other p = p

pub not_full-fault : (e : Stop) → IsFault e → (field : Counter) → e ≡ stop.Full field → ⊥
not_full-fault e is field same = subst IsFault same is

pub not_full-write : (e : Stop) → e ≡ stop.WriteFault → (field : Counter) → e ≡ stop.Full field → ⊥
not_full-write e is field same = cc

pub not_full-memory : (e : Stop) → e ≡ stop.NoMemory → (field : Counter) → e ≡ stop.Full field → ⊥
not_full-memory e is field same = cc

-- a part of the log
pub step_cut_in : (s : StepOutcome) (next new : Router) (a b : Outputs) (log : Log) (r : Result (Unit {0}) Stop) (e : Stop) → r ≡ Err e → ((field : Counter) → e ≡ stop.Full field → ⊥) → s ≡ StepDone log next → AddsPrefix a b log → IsStepRun s a b new r
step_cut_in s next new a b log r e was other is p = step_cut s new a b r e was other (subst (λ (k : StepOutcome). AddsPrefix a b (log_in k)) (sym is) p)

-- the log before it
pub step_after : (x : Log) (s : StepOutcome) (new : Router) (a b c : Outputs) (r : Result (Unit {0}) Stop) → Adds a b x → IsStepRun s b c new r → IsStepRun (log_before x s) a c new r
step_after x s new a b c (Ok u) p q = record { log = followed_by x q.log; is = ap (log_before x) q.is; adds = adds-join a b c x q.log p q.adds }
step_after x s new a b c (Err (stop.Full field)) p q = record { log = followed_by x q.log; is = ap (log_before x) q.is; adds = adds-join a b c x q.log p q.adds }
step_after x s new a b c (Err stop.WriteFault) p q = after-log x s a b c p q
step_after x s new a b c (Err stop.LinkFault) p q = after-log x s a b c p q
step_after x s new a b c (Err stop.NoMemory) p q = after-log x s a b c p q

-- what has nothing to do with the link
pub causes_of_sink : {T : Type 0} (a b c : ℕ) (r : Result T Stop) → HasSinkCause a b r → HasCauses a b c c r
causes_of_sink a b c r h = record {
  sink_later = h.later;
  link_later = omega arith;
  write = h.write;
  send = λ is. absurd (h.link is);
  no_write = h.none;
  no_send = λ is. refl;
}

-- ---- a send or a request that isn't done

-- the line is idle
pub act_idle : (p : PeersSeen) (node new : NodeSeen) (near : NodeIds) (heard sent dropped : ℕ) (words : List ℕ) (may : Bool) (full : Option Counter) (reaction : Reaction) (a b : Outputs)
    → may ≡ false → new.core ≡ node.core → new ≡ record node { core = new.core } → Adds a b (text_log (line words ++ idle_line))
    → IsStepRun (act_of (router_as p node near heard sent dropped) words may full reaction) a b (router_as p new near heard sent dropped) (Ok tt)
act_idle p node new near heard sent dropped words may full reaction a b idle same others adds =
    let r = router_as p node near heard sent dropped in
    let queue : new.items ≡ node.items = ap (λ (n : NodeSeen). n.items) others in
    let told = text_log (line words ++ idle_line) in
    step_done _ (router_as p new near heard sent dropped) a b told
    (ap (λ (k : Bool). act_of r words k full reaction) idle ∙ (λ i. StepDone told (record r { core = sym same i; queue = sym queue i }))) adds

-- a counter is full
pub act_full : (r new : Router) (words : List ℕ) (may : Bool) (full : Option Counter) (reaction : Reaction) (field : Counter) (a : Outputs)
    → may ≡ true → full ≡ Some field → IsStepRun (act_of r words may full reaction) a a new (Err (stop.Full field))
act_full r new words may full reaction field a is e = record {
  log = nothing;
  is = ap (λ (k : Bool). act_of r words k full reaction) is ∙ ap (λ (o : Option Counter). act_of r words true o reaction) e;
  adds = adds-none a;
}

-- ---- lines that are no commands

abbrev pub IsSkipped : AcceptedLine → Type 0
IsSkipped Nothing = ⊤
IsSkipped (Own a first) = ⊤
IsSkipped (Peer a port) = ⊤
IsSkipped (Polls count) = ⊤
IsSkipped others = ⊥

step_skips : (r : Router) (words : List ℕ) (l : AcceptedLine) → IsSkipped l → step_of r words l ≡ StepDone nothing r
unfolding step_of
step_skips r words Nothing is = refl
step_skips r words (Own a first) is = refl
step_skips r words (Peer a port) is = refl
step_skips r words (Polls count) is = refl
step_skips r words (Up x) is = absurd is
step_skips r words (Down x) is = absurd is
step_skips r words (Give dest body) is = absurd is
step_skips r words (Turns count) is = absurd is
step_skips r words (Sends d) is = absurd is
step_skips r words (Asks d) is = absurd is
step_skips r words Shows is = absurd is

pub skipped : (r : Router) (words : List ℕ) (l : AcceptedLine) (a : Outputs) → IsSkipped l → IsStepRun (step_of r words l) a a r (Ok tt)
skipped r words l a is = step_done _ r a a nothing (step_skips r words l is) (adds-none a)
