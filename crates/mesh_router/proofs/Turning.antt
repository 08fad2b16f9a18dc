-- A turn of the node is the router's, with what it casts sent to those in range.
use Rattle.std.proofs.Common.{◌≡◌, ℕ, suc, ◌<◌, ◌+◌, Bool, true, false, List, [], ◌∷◌, ◌++◌, Option, Some, None, Result, Ok, Err, length, refl, sym, ap, ◌∙◌, subst, inl, inr}
use Rattle.std.specs.Prelude.{IfSome, ◌==◌, if◌then◌else◌}
use Rattle.std.specs.List.{AllByRecursion}
use Rattle.mesh_base.specs.Members.{NodeIds}
use Rattle.mesh_base.specs.Meshes.{Nodes, IsMesh}
use Rattle.mesh_base.specs.declared.addr.Addr.{Addr}
use Rattle.mesh_base.specs.declared.events.Full.{Full as Counter}
use Rattle.mesh_base.specs.declared.events.Effect as effects
use Rattle.mesh_base.specs.declared.events.Item as items
use Rattle.mesh_base.specs.declared.events.Item.TheVariants as item
use Rattle.mesh_base.specs.declared.events.Took as taken
use Rattle.aodv_wire.specs.declared.error.WireError.{WireError}
use Rattle.aodv_wire.specs.Encodes.{refusal, message_in_fields}
use Rattle.aodv_model.specs.Cores.{Body, Core, Message}
use Rattle.aodv_model.specs.Handlers.{Cast, Nothing, One, Many, All, Effect, Took, Own, Stored, turn, took}
use Rattle.aodv_model.specs.Soundness.{IsDatum, IsMessageInMesh, IsCastInMesh, IsAimed, IsItemInMesh, IsEffectInMesh}
use Rattle.aodv_model.proofs.SoundTurns.{turn_keeps_core}
use Rattle.aodv_model.proofs.MeshNames.{turn_names_the_mesh}
use Rattle.aodv_meaning.specs.Meaning.{meaning, stranger}
use Rattle.aodv_meaning.specs.Effects.{item_in, cast_of, effect_of}
use Rattle.aodv_meaning.specs.Sent.{IsSent, IsPacket}
use Rattle.aodv_meaning.proofs.Means.{sent_means}
use Rattle.aodv_node.specs.Seen.{NodeSeen, IsItemAt, IsSoundNode}
use Rattle.aodv_node.specs.Turned.{IsReadableItem, IsTaken, IsDropped, IsFullAt, IsShort, taken_of}
use Rattle.aodv_node.specs.declared.answers.TurnDone as done
use Rattle.aodv_node.proofs.Keeps.{item_is_in_mesh}
use Rattle.mesh_meaning.specs.Packets.{packet_of}
use Rattle.mesh_meaning.specs.Answers.{cast_in, effect_in, took_in, IsCastWritten, IsPacketInMesh}
use Rattle.mesh_text.specs.Effects.{took_text, datum_fate, broken_text, cast_text}
use Rattle.mesh_report.specs.Messages.{IsTookLegible}
use Rattle.mesh_script.specs.Peers.{PeersSeen}
use Rattle.mesh_router.specs.declared.stop.Stop.{Stop}
use Rattle.mesh_router.specs.declared.stop.Stop.TheVariants as stop
use Rattle.mesh_router.specs.Logs.{Log, nothing, text_log, followed_by}
use Rattle.mesh_router.specs.Routers.{Router}
use Rattle.mesh_router.specs.Casts.{sent_to_each, reached_by, cast_packet, effect_log}
use Rattle.mesh_router.specs.Turns as turns
use Rattle.mesh_router.specs.Turns.{TurnOutcome, StepOutcome, StepDone, StepFull, log_before, with_others, turns_of, turn_on, next_turn, front_outcome, handled_turn, packet_turn, dropped_turn, turn_log, drop_line, refusal_words, stranger_words, idle_line}
use Rattle.mesh_router.specs.Outputs.{Outputs, Adds, AddsPrefix, IsFault}
use Rattle.mesh_router.specs.Peers.{receivers_of, code_log}
use Rattle.mesh_router.specs.Runs.{log_by, log_in, IsTurnDone, IsTurnIdle, IsTurnFull, IsTurnRun, IsStepDone, IsStepFull, IsStepRun}
use Rattle.mesh_router.specs.Short.{IsTurnShort, HoldsAfter, AreTurnsShort}
use Rattle.mesh_router.specs.Joins.{adds-join, adds-none}
use Rattle.mesh_router.proofs.Logging.{log-assoc, log-nil, written-append, prefix-join, prefix-more}

-- what is seen of a router of these parts
abbrev pub router_as : PeersSeen → NodeSeen → NodeIds → ℕ → ℕ → ℕ → Router
router_as p node near heard sent dropped = record {
  peers = p;
  core = node.core;
  queue = node.items;
  range = near;
  heard = heard;
  sent = sent;
  dropped = dropped;
}

-- ---- what is cast

pub record IsMeant (mesh : Nodes) (c : Cast) (out : List ℕ) : Type 0 where
  pub means : cast_in mesh (cast_of c) out ≡ c
  pub in_mesh : IsCastWritten mesh (cast_of c) out
  pub packet : cast_packet mesh c ≡ out

packet_in : (mesh : Nodes) (m : Message) (out : List ℕ) → IsMesh mesh → IsMessageInMesh (length mesh) m → IsSent mesh out m → IsPacketInMesh mesh out
packet_in mesh m out is in_mesh sent =
    let means : meaning mesh out ≡ m = (sent_means mesh out m is in_mesh sent).0 in
    record { written = subst (IsSent mesh out) (sym means) sent; in_mesh = subst (IsMessageInMesh (length mesh)) (sym means) in_mesh }

packet_is : (mesh : Nodes) (m : Message) (out : List ℕ) → IsSent mesh out m → packet_of mesh m ≡ out
unfolding packet_of
packet_is mesh m out sent = sym sent.written

pub meant : (mesh : Nodes) (c : Cast) (out : List ℕ) → IsMesh mesh → IsCastInMesh (length mesh) c → IsAimed (length mesh) c → IsPacket mesh out c → IsMeant mesh c out
meant mesh Nothing out is in_mesh aimed sent = record { means = refl; in_mesh = sent; packet = sym sent }
meant mesh (One y m) out is in_mesh aimed sent = record {
  means = ap (λ (k : Message). One y k) (sent_means mesh out m is in_mesh sent).0;
  in_mesh = (aimed, packet_in mesh m out is in_mesh sent);
  packet = packet_is mesh m out sent;
}
meant mesh (Many s m) out is in_mesh aimed sent = record {
  means = ap (λ (k : Message). Many s k) (sent_means mesh out m is in_mesh sent).0;
  in_mesh = (aimed, packet_in mesh m out is in_mesh sent);
  packet = packet_is mesh m out sent;
}
meant mesh (All m) out is in_mesh aimed sent = record {
  means = ap (λ (k : Message). All k) (sent_means mesh out m is in_mesh sent).0;
  in_mesh = packet_in mesh m out is in_mesh sent;
  packet = packet_is mesh m out sent;
}

-- what an effect of the code, with the packet beside it, says of the model's
pub record IsEffectMeant (mesh : Nodes) (e : effects.Effect) (effect : Effect) (out : List ℕ) : Type 0 where
  pub means : effect ≡ effect_in mesh e out
  pub cast : IsCastWritten mesh e.cast out
  pub broken : IfSome e.broken (λ y. y < length mesh)
  pub packet : cast_packet mesh (cast_in mesh e.cast out) ≡ out

pub effect_meant : (mesh : Nodes) (e : effects.Effect) (effect : Effect) (out : List ℕ) → IsMesh mesh → IsCastInMesh (length mesh) effect.cast → IsEffectInMesh (length mesh) effect → e ≡ effect_of effect → IsPacket mesh out effect.cast → IsEffectMeant mesh e effect out
effect_meant mesh e effect out is in_mesh named did sent =
    let m = meant mesh effect.cast out is in_mesh named.cast sent in
    let casts : cast_in mesh e.cast out ≡ effect.cast = ap (λ (k : effects.Effect). cast_in mesh k.cast out) did ∙ m.means in
    record {
      means = λ i. record { deliver = (sym did i).deliver; lost = (sym did i).lost; broken = (sym did i).broken; cast = sym casts i };
      cast = subst (λ (k : effects.Effect). IsCastWritten mesh k.cast out) (sym did) m.in_mesh;
      broken = subst (λ (k : effects.Effect). IfSome k.broken (λ y. y < length mesh)) (sym did) named.broken;
      packet = ap (cast_packet mesh) casts ∙ m.packet;
    }

-- ---- its log

pub log_effect : (r : Router) (e : effects.Effect) (out : List ℕ) → cast_packet (r.peers).mesh (cast_in (r.peers).mesh e.cast out) ≡ out
    → followed_by (text_log (broken_text (r.peers).mesh e.broken ++ cast_text (r.peers).mesh (cast_in (r.peers).mesh e.cast out))) (sent_to_each r.peers out (receivers_of r.peers r.range e.cast out))
    ≡ effect_log r (effect_in (r.peers).mesh e out)
log_effect r e out packet =
    ap (λ (l : List ℕ). followed_by (text_log (broken_text (r.peers).mesh e.broken ++ cast_text (r.peers).mesh (cast_in (r.peers).mesh e.cast out))) (sent_to_each r.peers l (receivers_of r.peers r.range e.cast out))) (sym packet)

-- of a turn
pub log_turn : (r : Router) (t : taken.Took) (e : effects.Effect) (effect : Effect) (took : Took) (out : List ℕ) → IsEffectMeant (r.peers).mesh e effect out → took_in (r.peers).mesh t ≡ took
    → code_log r.peers r.range (r.core).ip (Some t) e out ≡ turn_log r took effect
log_turn r t e effect took out m is =
    let mesh = (r.peers).mesh in
    let front : List ℕ = took_text mesh (r.core).ip (took_in mesh t) ++ datum_fate mesh (r.core).ip (took_in mesh t) (effect_in mesh e out) in
    let others : List ℕ = broken_text mesh e.broken ++ cast_text mesh (cast_in mesh e.cast out) in
    let each = sent_to_each r.peers out (receivers_of r.peers r.range e.cast out) in
    ap (λ (s : Log). followed_by s each) (written-append front others)
    ∙ log-assoc (text_log front) (text_log others) each
    ∙ ap (followed_by (text_log front)) (log_effect r e out m.packet)
    ∙ (λ i. turn_log r (is i) (sym m.means i))

-- how many they are
pub reached_is : (r : Router) (e : effects.Effect) (effect : Effect) (out : List ℕ) → IsEffectMeant (r.peers).mesh e effect out → receivers_of r.peers r.range e.cast out ≡ reached_by r effect.cast
reached_is r e effect out m = ap (λ (k : Effect). reached_by r k.cast) (sym m.means)

-- ---- what was taken

took_back : (mesh : Nodes) (b : Bool) (body : Body) (dest : ℕ) → took_in mesh (taken_of (item.New dest body) (if b then Own body else Stored dest)) ≡ (if b then Own body else Stored dest)
took_back mesh true body dest = refl
took_back mesh false body dest = refl

took_means : (mesh : Nodes) (core : Core) (front : items.Item) → took_in mesh (taken_of front (took core (item_in mesh front))) ≡ took core (item_in mesh front)
took_means mesh core (item.New dest body) = took_back mesh (dest == core.ip) body dest
took_means mesh core (item.Heard from bytes) = refl

datum_legible : (mesh : Nodes) (b : Bool) (body : Body) (dest : ℕ) → dest < length mesh → IsDatum body → IsTookLegible mesh (taken_of (item.New dest body) (if b then Own body else Stored dest))
datum_legible mesh true body dest below is = is
datum_legible mesh false body dest below is = below

took_legible : (mesh : Nodes) (me : ℕ) (core : Core) (front : items.Item) → IsItemAt (length mesh) me front → IsReadableItem mesh front → IsTookLegible mesh (taken_of front (took core (item_in mesh front)))
took_legible mesh me core (item.New dest body) at ok = datum_legible mesh (dest == core.ip) body dest at.0 at.1
took_legible mesh me core (item.Heard from bytes) at ok = (at.0, refl, record { allowed = ok.allowed; known = ok.known })

-- ---- the next turn

on-empty : (r : Router) → turn_on r [] ≡ turns.Idle
unfolding turn_on
on-empty r = refl

on-readable : (r : Router) (front : items.Item) (rest : List items.Item) → IsReadableItem (r.peers).mesh front → turn_on r (front ∷ rest) ≡ handled_turn r rest front
unfolding turn_on
on-readable r (item.New dest body) rest ok = refl
on-readable r (item.Heard from bytes) rest ok = λ i. packet_turn r rest from bytes (ok.allowed i) (ok.known i)

on-refused : (r : Router) (from : ℕ) (bytes : List ℕ) (rest : List items.Item) (why : WireError) → refusal bytes ≡ Some why → turn_on r (item.Heard from bytes ∷ rest) ≡ dropped_turn r rest from (refusal_words why)
unfolding turn_on
on-refused r from bytes rest why e = ap (λ (o : Option WireError). packet_turn r rest from bytes o (stranger (r.peers).mesh (message_in_fields bytes))) e

on-strange : (r : Router) (from : ℕ) (bytes : List ℕ) (rest : List items.Item) (who : Addr) → refusal bytes ≡ None → stranger (r.peers).mesh (message_in_fields bytes) ≡ Some who → turn_on r (item.Heard from bytes ∷ rest) ≡ dropped_turn r rest from (stranger_words who)
unfolding turn_on
on-strange r from bytes rest who e s = λ i. packet_turn r rest from bytes (e i) (s i)

-- a front item that can be read is taken
pub record IsTurnMeant (p : PeersSeen) (me : ℕ) (node new : NodeSeen) (near : NodeIds) (heard sent dropped : ℕ) (t : taken.Took) (e : effects.Effect) (out : List ℕ) : Type 0 where
  pub is : next_turn (router_as p node near heard sent dropped) ≡ turns.Done (code_log p near me (Some t) e out)
      (router_as p new near heard (sent + length (receivers_of p near e.cast out)) dropped)
  pub legible : IsTookLegible p.mesh t
  pub cast : IsCastWritten p.mesh e.cast out
  pub broken : IfSome e.broken (λ y. y < length p.mesh)

pub turn_meant : (p : PeersSeen) (me : ℕ) (node new : NodeSeen) (near : NodeIds) (heard sent dropped : ℕ) (d : done.TurnDone) (t : taken.Took) (out : List ℕ) → IsMesh p.mesh → me ≡ (node.core).ip → IsSoundNode node → node.size ≡ length p.mesh
    → IsTaken p.mesh near node d new out → t ≡ d.took → IsTurnMeant p me node new near heard sent dropped t d.effect out
turn_meant p me node new near heard sent dropped d t out is mine sound size h took_is =
    let mesh = p.mesh in
    let r = router_as p node near heard sent dropped in
    let i = item_in mesh h.front in
    let reaction = turn node.core near i in
    let all : AllByRecursion (IsItemAt node.size (node.core).ip) (h.front ∷ new.items) = subst (λ (xs : List items.Item). AllByRecursion (IsItemAt node.size (node.core).ip) xs) h.was sound.each in
    let at : IsItemAt (length mesh) (node.core).ip h.front = subst (λ (n : ℕ). IsItemAt n (node.core).ip h.front) size all.0 in
    let here : IsItemInMesh node.size (node.core).ip i = subst (λ (n : ℕ). IsItemInMesh n (node.core).ip i) (sym size) (item_is_in_mesh mesh (node.core).ip h.front h.readable at) in
    let reacts = turn_keeps_core node.size node.core near i sound.sound sound.store here in
    let names = turn_names_the_mesh node.size node.core near i sound.mine sound.sound here in
    let m : IsEffectMeant mesh d.effect reaction.effect out =
    effect_meant mesh d.effect reaction.effect out is (subst (λ (n : ℕ). IsCastInMesh n (reaction.effect).cast) size reacts.cast) (subst (λ (n : ℕ). IsEffectInMesh n reaction.effect) size names) (h.made).did (h.made).packet in
    let took_in_is : took_in mesh t ≡ took node.core i = ap (took_in mesh) (took_is ∙ h.took) ∙ took_means mesh node.core h.front in
    record {
      is = ap (turn_on r) h.was ∙ on-readable r h.front new.items h.readable
          ∙ ap (λ (o : Option Counter). front_outcome r new.items (took node.core i) o reaction) (h.made).free
          ∙ (λ k. turns.Done (sym (log_turn r t d.effect reaction.effect (took node.core i) out m took_in_is) k)
          (record { peers = p; core = sym (h.made).core k; queue = new.items; range = near; heard = heard; sent = sent + length (sym (reached_is r d.effect reaction.effect out m) k); dropped = dropped }))
          ∙ ap (λ (x : ℕ). turns.Done (code_log p near x (Some t) d.effect out) (router_as p new near heard (sent + length (receivers_of p near d.effect.cast out)) dropped)) (sym mine);
      legible = subst (IsTookLegible mesh) (sym (took_is ∙ h.took)) (took_legible mesh (node.core).ip node.core h.front at h.readable);
      cast = m.cast;
      broken = m.broken;
    }

-- a front packet that can't be read, or names a stranger, is dropped
pub turn_refused : (p : PeersSeen) (node new : NodeSeen) (near : NodeIds) (heard sent dropped from : ℕ) (why : WireError) → (bytes : List ℕ) × (refusal bytes ≡ Some why) × IsDropped node from bytes new
    → next_turn (router_as p node near heard sent dropped) ≡ turns.Done (text_log (drop_line p.mesh from (refusal_words why))) (router_as p new near heard sent (dropped + 1))
turn_refused p node new near heard sent dropped from why h =
    let r = router_as p node near heard sent dropped in
    let gone = h.2 in
    ap (turn_on r) gone.was ∙ on-refused r from h.0 new.items why h.1
    ∙ (λ k. turns.Done (text_log (drop_line p.mesh from (refusal_words why))) (record { peers = p; core = sym gone.core k; queue = new.items; range = near; heard = heard; sent = sent; dropped = dropped + 1 }))

pub turn_strange : (p : PeersSeen) (node new : NodeSeen) (near : NodeIds) (heard sent dropped from : ℕ) (who : Addr) → (bytes : List ℕ) × (refusal bytes ≡ None) × (stranger p.mesh (message_in_fields bytes) ≡ Some who) × IsDropped node from bytes new
    → next_turn (router_as p node near heard sent dropped) ≡ turns.Done (text_log (drop_line p.mesh from (stranger_words who))) (router_as p new near heard sent (dropped + 1))
turn_strange p node new near heard sent dropped from who h =
    let r = router_as p node near heard sent dropped in
    let gone = h.3 in
    ap (turn_on r) gone.was ∙ on-strange r from h.0 new.items who h.1 h.2
    ∙ (λ k. turns.Done (text_log (drop_line p.mesh from (stranger_words who))) (record { peers = p; core = sym gone.core k; queue = new.items; range = near; heard = heard; sent = sent; dropped = dropped + 1 }))

-- the sender of a packet that was taken is in the mesh
pub sender_below : (p : PeersSeen) (node new : NodeSeen) (from : ℕ) (bytes : List ℕ) → IsSoundNode node → node.size ≡ length p.mesh → IsDropped node from bytes new → from < length p.mesh
sender_below p node new from bytes sound size gone =
    let all : AllByRecursion (IsItemAt node.size (node.core).ip) (item.Heard from bytes ∷ new.items) = subst (λ (xs : List items.Item). AllByRecursion (IsItemAt node.size (node.core).ip) xs) gone.was sound.each in
    subst (λ (n : ℕ). from < n) size (all.0).0

pub turn_idle : (p : PeersSeen) (node : NodeSeen) (near : NodeIds) (heard sent dropped : ℕ) → node.items ≡ [] → next_turn (router_as p node near heard sent dropped) ≡ turns.Idle
turn_idle p node near heard sent dropped none =
    let r = router_as p node near heard sent dropped in
    ap (turn_on r) none ∙ on-empty r

pub turn_full_at : (p : PeersSeen) (node : NodeSeen) (near : NodeIds) (heard sent dropped : ℕ) (field : Counter) → IsFullAt p.mesh near node field → next_turn (router_as p node near heard sent dropped) ≡ turns.Full field
turn_full_at p node near heard sent dropped field h =
    let r = router_as p node near heard sent dropped in
    let i = item_in p.mesh h.front in
    ap (turn_on r) h.was ∙ on-readable r h.front h.rest h.readable
    ∙ ap (λ (o : Option Counter). front_outcome r h.rest (took node.core i) o (turn node.core near i)) h.full

-- ---- what is told of a turn

pub err_is : {T : Type 0} (x y : Stop) → ◌≡◌ {A = Result T Stop} (Err x) (Err y) → x ≡ y
err_is x y e = cc

pub told_done : (t : TurnOutcome) (old new : Router) (a b : Outputs) (log : Log) → t ≡ turns.Done log new → Adds a b log → IsTurnRun t old a b new (Ok true)
told_done t old new a b log is adds = record { log = log; is = is; adds = adds }

pub told_fault : (t : TurnOutcome) (old new : Router) (a b : Outputs) (r : Result Bool Stop) (e : Stop) → r ≡ Err e → IsFault e → AddsPrefix a b (log_by t) → IsTurnRun t old a b new r
told_fault t old new a b (Ok more) e was fault p = absurd cc
told_fault t old new a b (Err (stop.Full field)) e was fault p = absurd (subst IsFault (sym (err_is (stop.Full field) e was)) fault)
told_fault t old new a b (Err stop.WriteFault) e was fault p = p
told_fault t old new a b (Err stop.LinkFault) e was fault p = p
told_fault t old new a b (Err stop.NoMemory) e was fault p = p

-- it was told in part
pub told_in_part : (t : TurnOutcome) (old new next : Router) (a b : Outputs) (log : Log) (r : Result Bool Stop) (e : Stop) → t ≡ turns.Done log next → AddsPrefix a b log → r ≡ Err e → IsFault e → IsTurnRun t old a b new r
told_in_part t old new next a b log r e is p was fault =
    told_fault t old new a b r e was fault (subst (λ (k : TurnOutcome). AddsPrefix a b (log_by k)) (sym is) p)

pub same_me : (p : PeersSeen) (me ip : ℕ) (o : Option ℕ) → o ≡ p.me → o ≡ Some me → p.me ≡ Some ip → me ≡ ip
same_me p me ip o value is mine = cc

-- ---- some turns, one after another

turns-zero : (r : Router) → turns_of 0 r ≡ StepDone nothing r
unfolding turns_of
turns-zero r = refl

turns-suc : (most : ℕ) (r : Router) → turns_of (suc most) r ≡ with_others r (next_turn r) (λ next. turns_of most next)
unfolding turns_of
turns-suc most r = refl

turns-by : (most : ℕ) (r : Router) (t : TurnOutcome) → next_turn r ≡ t → turns_of (suc most) r ≡ with_others r t (λ next. turns_of most next)
turns-by most r t e = turns-suc most r ∙ ap (λ (k : TurnOutcome). with_others r k (λ next. turns_of most next)) e

before-join : (x y : Log) (s : StepOutcome) → log_before x (log_before y s) ≡ log_before (followed_by x y) s
before-join x y (StepDone log next) = ap (λ (k : Log). StepDone k next) (sym (log-assoc x y log))
before-join x y (StepFull log field) = ap (λ (k : Log). StepFull k field) (sym (log-assoc x y log))

before-none : (s : StepOutcome) → s ≡ log_before nothing s
before-none (StepDone log next) = refl
before-none (StepFull log field) = refl

pub after-log : (x : Log) (s : StepOutcome) (a b c : Outputs) → Adds a b x → AddsPrefix b c (log_in s) → AddsPrefix a c (log_in (log_before x s))
after-log x (StepDone log next) a b c p q = prefix-join a b c x log p q
after-log x (StepFull log field) a b c p q = prefix-join a b c x log p q

pub first-more : (x : Log) (s : StepOutcome) (a b : Outputs) → AddsPrefix a b x → AddsPrefix a b (log_in (log_before x s))
first-more x (StepDone log next) a b p = prefix-more a b x log p
first-more x (StepFull log field) a b p = prefix-more a b x log p

-- they were done and told so far, with so many left
pub record AreDone (count rest : ℕ) (old now : Router) (a b : Outputs) : Type 0 where
  pub log : Log
  pub adds : Adds a b log
  pub goes : turns_of count old ≡ log_before log (turns_of rest now)

pub turns_begin : (count : ℕ) (old : Router) (a : Outputs) → AreDone count count old old a a
turns_begin count old a = record { log = nothing; adds = adds-none a; goes = before-none (turns_of count old) }

pub turns_next : (count rest : ℕ) (old mid new : Router) (a b c : Outputs) → AreDone count (suc rest) old mid a b → IsTurnDone (next_turn mid) new b c → AreDone count rest old new a c
turns_next count rest old mid new a b c p q = record {
  log = followed_by p.log q.log;
  adds = adds-join a b c p.log q.log p.adds q.adds;
  goes = p.goes ∙ ap (log_before p.log) (turns-by rest mid (turns.Done q.log new) q.is) ∙ before-join p.log q.log (turns_of rest new);
}

pub turns_stop : (count rest : ℕ) (old mid new : Router) (a b c : Outputs) → AreDone count (suc rest) old mid a b → IsTurnIdle (next_turn mid) mid new b c → IsStepDone (turns_of count old) new a c
turns_stop count rest old mid new a b c p q = record {
  log = followed_by p.log (text_log idle_line);
  adds = adds-join a b c p.log (text_log idle_line) p.adds q.adds;
  is = p.goes ∙ ap (log_before p.log) (turns-by rest mid turns.Idle q.is) ∙ ap (λ (r : Router). StepDone (followed_by p.log (text_log idle_line)) r) (sym q.same);
}

pub turns_end : (count : ℕ) (old now : Router) (a b : Outputs) → AreDone count 0 old now a b → IsStepDone (turns_of count old) now a b
turns_end count old now a b p = record {
  log = p.log;
  adds = p.adds;
  is = p.goes ∙ ap (log_before p.log) (turns-zero now) ∙ ap (λ (s : Log). StepDone s now) (log-nil p.log);
}

turns_full : (count rest : ℕ) (old mid : Router) (field : Counter) (a b c : Outputs) → AreDone count (suc rest) old mid a b → IsTurnFull (next_turn mid) field b c → IsStepFull (turns_of count old) field a c
turns_full count rest old mid field a b c p q = record {
  log = p.log;
  adds = subst (λ (k : Outputs). Adds a k p.log) (sym q.same) p.adds;
  is = p.goes ∙ ap (log_before p.log) (turns-by rest mid (turns.Full field) q.is) ∙ ap (λ (s : Log). StepFull s field) (log-nil p.log);
}

-- the log of one turn comes first
first-log : (rest : ℕ) (mid : Router) (t : TurnOutcome) (a b : Outputs) → AddsPrefix a b (log_by t) → AddsPrefix a b (log_in (with_others mid t (λ next. turns_of rest next)))
first-log rest mid turns.Idle a b p = p
first-log rest mid (turns.Done log next) a b p = first-more log (turns_of rest next) a b p
first-log rest mid (turns.Full field) a b p = p

turns_in_part : (count rest : ℕ) (old mid : Router) (a b c : Outputs) → AreDone count (suc rest) old mid a b → AddsPrefix b c (log_by (next_turn mid)) → AddsPrefix a c (log_in (turns_of count old))
turns_in_part count rest old mid a b c p q =
    let e : turns_of count old ≡ log_before p.log (with_others mid (next_turn mid) (λ next. turns_of rest next)) = p.goes ∙ ap (log_before p.log) (turns-suc rest mid) in
    subst (λ (s : StepOutcome). AddsPrefix a c (log_in s)) (sym e)
    (after-log p.log (with_others mid (next_turn mid) (λ next. turns_of rest next)) a b c p.adds (first-log rest mid (next_turn mid) b c q))

pub turns_failed : (count rest : ℕ) (old mid new last : Router) (a b c : Outputs) (r : Result (Unit {0}) Stop) (e : Stop) → AreDone count (suc rest) old mid a b → r ≡ Err e → IsTurnRun (next_turn mid) mid b c new (Err e) → IsStepRun (turns_of count old) a c last r
turns_failed count rest old mid new last a b c r (stop.Full field) p was q = subst (IsStepRun (turns_of count old) a c last) (sym was) (turns_full count rest old mid field a b c p q)
turns_failed count rest old mid new last a b c r stop.WriteFault p was q = subst (IsStepRun (turns_of count old) a c last) (sym was) (turns_in_part count rest old mid a b c p q)
turns_failed count rest old mid new last a b c r stop.LinkFault p was q = subst (IsStepRun (turns_of count old) a c last) (sym was) (turns_in_part count rest old mid a b c p q)
turns_failed count rest old mid new last a b c r stop.NoMemory p was q = subst (IsStepRun (turns_of count old) a c last) (sym was) (turns_in_part count rest old mid a b c p q)

pub turns_at : (count n rest : ℕ) (old now : Router) (a b : Outputs) → AreDone count n old now a b → n ≡ rest → AreDone count rest old now a b
turns_at count n rest old now a b p e = subst (λ (k : ℕ). AreDone count k old now a b) e p

pub turn_was_done : (t : TurnOutcome) (old new : Router) (a b : Outputs) (more : Bool) → more ≡ true → IsTurnRun t old a b new (Ok more) → IsTurnDone t new a b
turn_was_done t old new a b more e p = subst (λ (k : Bool). IsTurnRun t old a b new (Ok k)) e p

pub turn_was_idle : (t : TurnOutcome) (old new : Router) (a b : Outputs) (more : Bool) → more ≡ false → IsTurnRun t old a b new (Ok more) → IsTurnIdle t old new a b
turn_was_idle t old new a b more e p = subst (λ (k : Bool). IsTurnRun t old a b new (Ok k)) e p

-- ---- where memory is short

pub router_short : (p : PeersSeen) (node : NodeSeen) (near : NodeIds) (heard sent dropped : ℕ) → IsShort p.mesh node → IsTurnShort (router_as p node near heard sent dropped)
router_short p node near heard sent dropped h = record { front = h.front; rest = h.rest; was = h.was; readable = h.readable; needs = h.needs }

pub turns_short_here : (rest : ℕ) (mid : Router) → IsTurnShort mid → AreTurnsShort (suc rest) mid
turns_short_here rest mid h = inl h

pub turns_short_later : (rest : ℕ) (mid new : Router) (a b : Outputs) → IsTurnDone (next_turn mid) new a b → AreTurnsShort rest new → AreTurnsShort (suc rest) mid
turns_short_later rest mid new a b q h = inr (subst (λ (t : TurnOutcome). HoldsAfter t (λ next. AreTurnsShort rest next)) (sym q.is) h)

pub turns_short_at : (n k : ℕ) (r : Router) → AreTurnsShort k r → k ≡ n → AreTurnsShort n r
turns_short_at n k r h e = subst (λ (m : ℕ). AreTurnsShort m r) e h
