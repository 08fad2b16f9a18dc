-- An act of a node is the model's step of the world.
use Rattle.std.proofs.Common.{◌≡◌, ◌==◌, ℕ, ◌<◌, ◌≤◌, ◌+◌, ◌^◌, Bool, true, false, List, [], ◌∷◌, map, length, Some, None, Option, Result, Ok, Err, refl, ap, sym, ◌∙◌, subst, arith}
use Rattle.std.specs.Prelude.{slice_get, slice_set, slice_index_or, if◌then◌else◌}
use Rattle.std.specs.List.{AllByRecursion}
use Rattle.std.proofs.lemmas.Option.{same_Some, none-some}
use Rattle.mesh_base.specs.Members.{NodeIds}
use Rattle.mesh_base.specs.Meshes.{Nodes}
use Rattle.mesh_base.specs.declared.addr.Addr.{Addr}
use Rattle.mesh_base.specs.declared.events.Full.{Full as Counter}
use Rattle.mesh_base.specs.declared.events.Air.{Air}
use Rattle.mesh_base.specs.declared.events.Effect as code
use Rattle.mesh_base.specs.declared.events.Item as items
use Rattle.mesh_base.specs.declared.events.Item.TheVariants as item
use Rattle.mesh_base.specs.declared.events.Took.{Took}
use Rattle.mesh_base.specs.declared.events.Done.{Done}
use Rattle.mesh_base.specs.declared.events.Done.TheVariants as done
use Rattle.mesh_base.proofs.Lemmas.Lists.{each_at}
use Rattle.aodv_model.specs.Cores.{Body, Core}
use Rattle.aodv_model.specs.Handlers as handlers
use Rattle.aodv_model.specs.Handlers.{Own, Stored, took, may_send, may_ask}
use Rattle.aodv_model.specs.Fullness.{turn_full}
use Rattle.aodv_model.specs.Soundness.{IsItemInMesh, IsDatum, IsSoundReaction}
use Rattle.aodv_model.specs.Soundness as sound
use Rattle.aodv_model.proofs.SoundTurns.{turn_keeps_core, send_keeps_core, ask_keeps_core}
use Rattle.aodv_model.proofs.MeshNames.{turn_names_the_mesh, send_names_the_mesh, ask_names_the_mesh}
use Rattle.aodv_wire.specs.declared.error.WireError.{WireError}
use Rattle.aodv_wire.specs.Encodes.{refusal, message_in_fields}
use Rattle.aodv_meaning.specs.Meaning.{meaning, stranger}
use Rattle.aodv_meaning.specs.Effects.{item_in}
use Rattle.aodv_meaning.proofs.Means.{sent_means}
use Rattle.aodv_handlers.specs.Made.{IsMade, IsFull}
use Rattle.aodv_node.specs.Seen.{NodeSeen, IsSoundNode}
use Rattle.aodv_node.specs.Turned.{IsReadableItem, IsTaken, IsDropped, IsFullAt, taken_of}
use Rattle.aodv_node.specs.declared.answers.TurnDone.{TurnDone}
use Rattle.mesh_world.specs.declared.steps.StepError.{StepError}
use Rattle.mesh_world.specs.declared.steps.StepError.TheVariants as errors
use Rattle.mesh_model.specs.Worlds as worlds
use Rattle.mesh_model.specs.Worlds.{World, Copy, WorldEffect, Outcome, Idle, Next, step, range, linked_below, turn_of, send_of, ask_of, unless_full, at_node, done_by, copies}
use Rattle.mesh_model.specs.InMesh.{IsNodeInMesh, IsEvent}
use Rattle.mesh_model.specs.Accounts.{any, given_data, doubled_data}
use Rattle.mesh_radio.specs.Radios.{RadioState}
use Rattle.mesh_meaning.specs.Events.{node_of}
use Rattle.mesh_meaning.specs.Packets.{IsWrittenItem}
use Rattle.mesh_meaning.specs.Answers.{took_in, IsTookInMesh, IsEffectInMesh, IsDoneInMesh, outcome_in, effect_in, copies_in}
use Rattle.mesh_world.specs.Acts.{Act, Turn, Send, Ask, IsFor, event_at, ActResult, act_result_of, turn_result, sent_result, IsActResult, IsActed, done_of}
use Rattle.mesh_world.specs.declared.act.Unacted.{Unacted}
use Rattle.mesh_world.specs.declared.act.Unacted.TheVariants as refused
use Rattle.mesh_world.specs.Seen.{node_in}
use Rattle.mesh_world.specs.Kept.{Ready, IsKept, IsKeptNode, world_in}
use Rattle.mesh_world.specs.Noted.{ready_with}
use Rattle.mesh_world.proofs.Frames.{Ends, Beside, ends_done, ends_idle, ends_full, ends_no_memory, beside, shown_at, set_back, noted_beside, later, with_same, roomed, began, node_at}
use Rattle.std.specs.Vec.{with_item}
use Rattle.mesh_world.specs.Parts.{AreKept, IsDoneTo}
use Rattle.mesh_world.specs.declared.parts.Parts.{Parts}
use Rattle.mesh_world.proofs.Moves.{of_ends, changed}
use Rattle.mesh_world.proofs.Reactions.{near_is, Acts, Sends, Comes, comes}

-- ---- the node in the world

-- what the world keeps of node x
pub stands : (mesh : Nodes) (nodes : List NodeSeen) (radio : RadioState) (ready : Ready) (steps x : ℕ) (n : NodeSeen) → IsKept mesh nodes radio ready steps → slice_get nodes x ≡ Some n → IsNodeInMesh (length mesh) x (node_in mesh n)
stands mesh nodes radio ready steps x n k at =
    subst (λ (size : ℕ). IsNodeInMesh size x (node_in mesh n)) (k.sound).count (((k.sound).invariant).in_mesh.nodes x (node_in mesh n) (shown_at mesh nodes radio x n at))

pub kept_node : (mesh : Nodes) (nodes : List NodeSeen) (radio : RadioState) (ready : Ready) (steps x : ℕ) (n : NodeSeen) → IsKept mesh nodes radio ready steps → slice_get nodes x ≡ Some n → IsKeptNode mesh n
kept_node mesh nodes radio ready steps x n k at = each_at (IsKeptNode mesh) nodes x n k.each at

-- no packet of a world is refused, or names a stranger
pub readable : (mesh : Nodes) (nodes : List NodeSeen) (radio : RadioState) (ready : Ready) (steps x : ℕ) (n : NodeSeen) → IsKept mesh nodes radio ready steps → slice_get nodes x ≡ Some n → AllByRecursion (IsReadableItem mesh) n.items
readable mesh nodes radio ready steps x n k at =
    all n.items (kept_node mesh nodes radio ready steps x n k at).items (stands mesh nodes radio ready steps x n k at).queue
  where
    one : (i : items.Item) → IsWrittenItem mesh i → IsItemInMesh (length mesh) x (item_in mesh i) → IsReadableItem mesh i
    one (item.New dest body) written is = tt
    one (item.Heard from bytes) written is = record { allowed = written.encodes.allowed; known = (sent_means mesh bytes (meaning mesh bytes) (k.sound).mesh is.2 written).1 }

    all : (is : List items.Item) → AllByRecursion (IsWrittenItem mesh) is → AllByRecursion (IsItemInMesh (length mesh) x) (map (item_in mesh) is) → AllByRecursion (IsReadableItem mesh) is
    all [] written is = tt
    all (i ∷ rest) written is = (one i written.0 is.0, all rest written.1 is.1)

-- ---- what was taken

took_back : (mesh : Nodes) (b : Bool) (body : Body) (dest : ℕ) → took_in mesh (taken_of (item.New dest body) (if b then Own body else Stored dest)) ≡ (if b then Own body else Stored dest)
took_back mesh true body dest = refl
took_back mesh false body dest = refl

took_means : (mesh : Nodes) (core : Core) (front : items.Item) → took_in mesh (taken_of front (took core (item_in mesh front))) ≡ took core (item_in mesh front)
took_means mesh core (item.New dest body) = took_back mesh (dest == core.ip) body dest
took_means mesh core (item.Heard from bytes) = refl

datum_in : (mesh : Nodes) (b : Bool) (body : Body) (dest : ℕ) → dest < length mesh → IsDatum body → IsTookInMesh mesh (taken_of (item.New dest body) (if b then Own body else Stored dest))
datum_in mesh true body dest below is = is
datum_in mesh false body dest below is = below

took_in_mesh : (mesh : Nodes) (core : Core) (front : items.Item) → IsItemInMesh (length mesh) core.ip (item_in mesh front) → IsWrittenItem mesh front → IsTookInMesh mesh (taken_of front (took core (item_in mesh front)))
took_in_mesh mesh core (item.New dest body) item_is_in_mesh written = datum_in mesh (dest == core.ip) body dest item_is_in_mesh.0 item_is_in_mesh.1
took_in_mesh mesh core (item.Heard from bytes) item_is_in_mesh written = (item_is_in_mesh.0, refl, record { written = written; in_mesh = item_is_in_mesh.2 })

-- ---- the step

-- what came of it, by what was taken
abbrev pub effect_by : Nodes → Option Took → handlers.Effect → List Copy → WorldEffect
effect_by mesh (Some t) effect flying = worlds.Taken (took_in mesh t) effect flying
effect_by mesh None effect flying = worlds.Sent effect flying

-- the outcome of what comes of an act of node x
abbrev pub outcome_of : Nodes → World → ℕ → Option ActResult → Outcome
outcome_of mesh w x None = Idle
outcome_of mesh w x (Some d) =
    let effect = (d.reaction).effect in
    unless_full x d.full
    (Next (done_by w x d.reaction (map (item_in mesh) d.left))
    (effect_by mesh d.took effect (copies w x effect.cast)))

may_step : (mesh : Nodes) (w : World) (x : ℕ) (b : Bool) (d : ActResult) → (if b then outcome_of mesh w x (Some d) else Idle) ≡ outcome_of mesh w x (if b then Some d else None)
may_step mesh w x true d = refl
may_step mesh w x false d = refl

turn_step : (mesh : Nodes) (w : World) (x : ℕ) (core : Core) (is : List items.Item) → turn_of w x core (map (item_in mesh) is) ≡ outcome_of mesh w x (turn_result mesh (range w x) core is)
turn_step mesh w x core [] = refl
turn_step mesh w x core (front ∷ rest) =
    let i = item_in mesh front in
    let reaction = handlers.turn core (range w x) i in
    ap (λ (t : handlers.Took). unless_full x (turn_full core (range w x) i) (Next (done_by w x reaction (map (item_in mesh) rest)) (worlds.Taken t reaction.effect (copies w x (reaction.effect).cast)))) (sym (took_means mesh core front))

pub act_at : (mesh : Nodes) (nodes : List NodeSeen) (radio : RadioState) (x : ℕ) (n : NodeSeen) (near : NodeIds) (act : Act) → slice_get nodes x ≡ Some n → near ≡ range (world_in mesh nodes radio) x
    → step (world_in mesh nodes radio) (event_at x act) ≡ outcome_of mesh (world_in mesh nodes radio) x (act_result_of mesh near n act)
unfolding step
act_at mesh nodes radio x n near act at near_is =
    by act ∙ ap (λ (r : NodeIds). outcome_of mesh (world_in mesh nodes radio) x (act_result_of mesh r n act)) (sym near_is)
  where
    by : (a : Act) → step (world_in mesh nodes radio) (event_at x a) ≡ outcome_of mesh (world_in mesh nodes radio) x (act_result_of mesh (range (world_in mesh nodes radio) x) n a)
    by Turn = ap (λ o. at_node o (turn_of (world_in mesh nodes radio) x)) (shown_at mesh nodes radio x n at) ∙ turn_step mesh (world_in mesh nodes radio) x n.core n.items
    by (Send d) = ap (λ o. at_node o (send_of (world_in mesh nodes radio) x d)) (shown_at mesh nodes radio x n at) ∙ may_step mesh (world_in mesh nodes radio) x (may_send n.core d) _
    by (Ask d) = ap (λ o. at_node o (ask_of (world_in mesh nodes radio) x d)) (shown_at mesh nodes radio x n at) ∙ may_step mesh (world_in mesh nodes radio) x (may_ask n.core d) _

-- ---- what an act keeps

-- what comes of an act that is enabled
pub record Sound (mesh : Nodes) (ip : ℕ) (d : ActResult) : Type 0 where
  pub reacted : IsSoundReaction (length mesh) ip d.reaction
  pub aimed : sound.IsEffectInMesh (length mesh) (d.reaction).effect
  pub items : AllByRecursion (IsWrittenItem mesh) d.left
  pub took : (effect : code.Effect) (air : Air) (out : List ℕ) → IsEffectInMesh mesh effect air out → IsDoneInMesh mesh (done_of d.took effect air) out

given : (b : Bool) (made d : ActResult) → (if b then Some made else None) ≡ Some d → (b ≡ true) × (made ≡ d)
given true made d e = (refl, same_Some made d e)
given false made d e = absurd (none-some d e)

sound_act_result : (mesh : Nodes) (x : ℕ) (n : NodeSeen) (near : NodeIds) (act : Act) (d : ActResult) → x < length mesh → IsNodeInMesh (length mesh) x (node_in mesh n) → IsKeptNode mesh n → act_result_of mesh near n act ≡ Some d → Sound mesh (n.core).ip d
sound_act_result mesh x n near act d l s had is = by act is
  where
    mine : (n.core).ip < length mesh
    mine = subst (λ (me : ℕ). me < length mesh) (sym s.named) l

    turned : (is : List items.Item) → AllByRecursion (IsWrittenItem mesh) is → AllByRecursion (IsItemInMesh (length mesh) x) (map (item_in mesh) is) → turn_result mesh near n.core is ≡ Some d → Sound mesh (n.core).ip d
    turned [] written inside e = absurd (none-some d e)
    turned (front ∷ rest) written inside e =
        let here = subst (λ (me : ℕ). IsItemInMesh (length mesh) me (item_in mesh front)) (sym s.named) inside.0 in
        subst (Sound mesh (n.core).ip) (same_Some _ d e) (record {
          reacted = turn_keeps_core (length mesh) n.core near (item_in mesh front) s.core s.store here;
          aimed = turn_names_the_mesh (length mesh) n.core near (item_in mesh front) mine s.core here;
          items = written.1;
          took = λ effect air out h. (took_in_mesh mesh n.core front here written.0, h);
        })

    by : (a : Act) → act_result_of mesh near n a ≡ Some d → Sound mesh (n.core).ip d
    by Turn e = turned n.items had.items s.queue e
    by (Send q) e =
        let g = given (may_send n.core q) _ d e in
        subst (Sound mesh (n.core).ip) g.1 (record {
          reacted = send_keeps_core (length mesh) n.core near q s.core s.store mine g.0;
          aimed = send_names_the_mesh (length mesh) n.core near q mine s.core g.0;
          items = had.items;
          took = λ effect air out h. h;
        })
    by (Ask q) e =
        let g = given (may_ask n.core q) _ d e in
        subst (Sound mesh (n.core).ip) g.1 (record {
          reacted = ask_keeps_core (length mesh) n.core q s.core s.store mine g.0;
          aimed = ask_names_the_mesh (length mesh) n.core q;
          items = had.items;
          took = λ effect air out h. h;
        })

-- ---- each end of an act

-- the outcome, unless a counter is full
pub stops : (x : ℕ) (o : Option Counter) (f : Counter) (k : Outcome) → o ≡ Some f → unless_full x o k ≡ worlds.Full x f
stops x None f k e = absurd (none-some f e)
stops x (Some g) f k e = ap (λ (h : Counter). worlds.Full x h) (same_Some g f e)

pub goes : (x : ℕ) (o : Option Counter) (k : Outcome) → o ≡ None → unless_full x o k ≡ k
goes x None k e = refl
goes x (Some f) k e = absurd (none-some f (sym e))

told : (mesh : Nodes) (x : ℕ) (w w' : World) (t : Option Took) (did : handlers.Effect) (flying : List Copy) (effect : code.Effect) (air : Air) (out : List ℕ) → w ≡ w' → did ≡ effect_in mesh effect out → flying ≡ copies_in mesh x effect.cast air out
    → Next w (effect_by mesh t did flying) ≡ outcome_in mesh x w' (done_of t effect air) out
told mesh x w w' None did flying effect air out world means are = λ j. Next (world j) (worlds.Sent (means j) (are j))
told mesh x w w' (Some t) did flying effect air out world means are = λ j. Next (world j) (worlds.Taken (took_in mesh t) (means j) (are j))

at_node_x : (x : ℕ) (act : Act) → x ≡ node_of (event_at x act)
at_node_x x Turn = refl
at_node_x x (Send d) = refl
at_node_x x (Ask d) = refl

in_the_mesh : (size x : ℕ) (act : Act) → x < size → IsFor size act → IsEvent size (event_at x act)
in_the_mesh size x Turn l is = l
in_the_mesh size x (Send d) l is = (l, is)
in_the_mesh size x (Ask d) l is = (l, is)

gains : (x : ℕ) (act : Act) (o : Outcome) (w : World) → given_data any (event_at x act) o + doubled_data any w (event_at x act) ≤ 1
gains x Turn o w = omega arith
gains x (Send d) o w = omega arith
gains x (Ask d) o w = omega arith

pub act_done : (mesh : Nodes) (nodes : List NodeSeen) (radio radio' : RadioState) (ready ready' : Ready) (steps x : ℕ) (near : NodeIds) (n new : NodeSeen) (act : Act) (took : Option Took) (effect : code.Effect) (out : List ℕ) (air : Air)
    → IsKept mesh nodes radio ready steps → steps < 2 ^ 48 → x < length mesh → IsFor (length mesh) act → slice_get nodes x ≡ Some n → near ≡ linked_below radio.links x radio.size → IsSoundNode new → IsActResult mesh near act n took effect new out
    → Sends mesh x near effect out air radio radio' → ready' ≡ ready_with ready x new (length mesh)
    → Ends (event_at x act) mesh nodes radio steps (Ok (done_of took effect air)) (slice_set nodes x new) radio' ready' (steps + 1) out
act_done mesh nodes radio radio' ready ready' steps x near n new act took effect out air k few l for at linked sound t sends noted_is =
    let w = world_in mesh nodes radio in
    let d = t.act_result in
    let near_at : near ≡ range w x = near_is mesh nodes radio ready steps x near k linked in
    let had = kept_node mesh nodes radio ready steps x n k at in
    let made = sound_act_result mesh x n near act d l (stands mesh nodes radio ready steps x n k at) had t.is in
    let acts : Acts mesh x new d.reaction effect out = record {
      core = (t.made).core;
      did = (t.made).did;
      packet = (t.made).packet;
      cast = (made.reacted).cast;
      aimed = made.aimed;
      kept = record { items = subst (AllByRecursion (IsWrittenItem mesh)) (sym t.left) made.items; size = t.size ∙ had.size; sound = sound };
    } in
    let c : Comes mesh nodes radio ready steps x new d.reaction effect out air radio' = comes mesh nodes radio radio' ready steps x near new d.reaction effect out air k few l near_at acts sends in
    let next = Next (done_by w x d.reaction (map (item_in mesh) d.left)) (effect_by mesh d.took (d.reaction).effect (copies w x ((d.reaction).effect).cast)) in
    let world : done_by w x d.reaction (map (item_in mesh) d.left) ≡ world_in mesh (slice_set nodes x new) radio' = ap (λ (is : List items.Item). done_by w x d.reaction (map (item_in mesh) is)) (sym t.left) ∙ c.world in
    subst (λ (t : Option Took). Ends (event_at x act) mesh nodes radio steps (Ok (done_of t effect air)) (slice_set nodes x new) radio' ready' (steps + 1) out) (sym t.taken)
    (ends_done (event_at x act) mesh nodes radio ready steps (done_of d.took effect air) (slice_set nodes x new) radio' ready' out next
    k few (in_the_mesh (length mesh) x act l for)
    (act_at mesh nodes radio x n near act at near_at ∙ ap (outcome_of mesh w x) t.is ∙ goes x d.full next (t.made).free)
    (gains x act next w) world
    (told mesh x _ (world_in mesh (slice_set nodes x new) radio') d.took _ _ effect air out world c.means c.copies
    ∙ ap (λ (y : ℕ). outcome_in mesh y (world_in mesh (slice_set nodes x new) radio') (done_of d.took effect air) out) (at_node_x x act))
    (made.took effect air out c.in_mesh)
    (noted_beside mesh (slice_set nodes x new) radio' ready' (ready_with ready x new (length mesh)) (steps + 1) noted_is c.beside))

-- what is answered of an act of node x that was refused, or wasn't enabled, and the steps after it
abbrev pub refusal_of : ℕ → Unacted → Result Done StepError
refusal_of x refused.Idle = Ok done.Idle
refusal_of x (refused.Full field) = Err (errors.Full x field)
refusal_of x refused.NoMemory = Err errors.NoMemory

abbrev pub steps_after : ℕ → Unacted → ℕ
steps_after steps refused.Idle = steps + 1
steps_after steps (refused.Full field) = steps
steps_after steps refused.NoMemory = steps

pub act_refused : {T : Type 0} (seen : T → Option Took) (old : Parts) (radio : RadioState) (x : ℕ) (near : NodeIds) (n new : NodeSeen) (act : Act) (why : Unacted) (out : List ℕ)
    → AreKept old → radio ≡ record old.radio { room = radio.room; most = radio.most } → old.steps < 2 ^ 48 → x < length old.mesh → n ≡ slice_index_or (old.nodes).items x n → near ≡ linked_below radio.links x radio.size
    → IsActed seen old.mesh near act n (Err why) new out → IsDoneTo (event_at x act) old (refusal_of x why) (record (changed old x new radio) { steps = steps_after old.steps why }) out
act_refused seen old radio x near n new act why out k rooms few l is linked t =
    of_ends (event_at x act) old (with_item old.nodes x new) radio old.ready (steps_after old.steps why) (refusal_of x why) out
    (began (event_at x act) old.mesh (old.nodes).items old.radio radio old.steps (refusal_of x why) (slice_set (old.nodes).items x new) radio old.ready (steps_after old.steps why) out rooms (by why t))
  where
    r : IsKept old.mesh (old.nodes).items radio old.ready old.steps
    r = roomed old.mesh (old.nodes).items old.radio radio old.ready old.steps rooms k

    at : slice_get (old.nodes).items x ≡ Some n
    at = node_at old.mesh (old.nodes).items old.radio old.ready old.steps x n k l is

    does : step (world_in old.mesh (old.nodes).items radio) (event_at x act) ≡ outcome_of old.mesh (world_in old.mesh (old.nodes).items radio) x (act_result_of old.mesh near n act)
    does = act_at old.mesh (old.nodes).items radio x n near act at (near_is old.mesh (old.nodes).items radio old.ready old.steps x near r linked)

    back : new ≡ n → slice_set (old.nodes).items x new ≡ (old.nodes).items
    back same = set_back (old.nodes).items x n new at same

    shown : new ≡ n → world_in old.mesh (slice_set (old.nodes).items x new) radio ≡ world_in old.mesh (old.nodes).items radio
    shown same = ap (λ (ns : List NodeSeen). world_in old.mesh ns radio) (back same)

    still : new ≡ n → Beside old.mesh (slice_set (old.nodes).items x new) radio old.ready old.steps
    still same = with_same old.mesh (old.nodes).items (slice_set (old.nodes).items x new) radio old.ready old.steps (back same) (beside old.mesh (old.nodes).items radio old.ready old.steps r)

    by : (w : Unacted) → IsActed seen old.mesh near act n (Err w) new out → Ends (event_at x act) old.mesh (old.nodes).items radio old.steps (refusal_of x w) (slice_set (old.nodes).items x new) radio old.ready (steps_after old.steps w) out
    by refused.Idle t =
        ends_idle (event_at x act) old.mesh (old.nodes).items radio old.ready old.steps (slice_set (old.nodes).items x new) radio out r few (does ∙ ap (outcome_of old.mesh (world_in old.mesh (old.nodes).items radio) x) t.0) (shown t.1)
        (later old.mesh (slice_set (old.nodes).items x new) radio old.ready old.steps (still t.1))
    by (refused.Full field) t =
        ends_full (event_at x act) old.mesh (old.nodes).items radio old.ready old.steps x field (slice_set (old.nodes).items x new) radio out r
        (does ∙ ap (outcome_of old.mesh (world_in old.mesh (old.nodes).items radio) x) t.1 ∙ stops x (t.0).full field _ t.2) (shown t.3) (still t.3)
    by refused.NoMemory t = ends_no_memory (event_at x act) old.mesh (old.nodes).items radio old.ready old.steps (slice_set (old.nodes).items x new) radio out r (shown t.1) (still t.1)

-- ---- what the code of a node answers is that of an act

pub taken_act_result : (mesh : Nodes) (near : NodeIds) (n new : NodeSeen) (d : TurnDone) (out : List ℕ) → IsTaken mesh near n d new out → IsActResult mesh near Turn n (Some d.took) d.effect new out
taken_act_result mesh near n new d out t = record { act_result = _; is = ap (turn_result mesh near n.core) t.was; made = t.made; left = refl; taken = ap Some t.took; size = t.size }

pub full_act_result : (mesh : Nodes) (near : NodeIds) (n new : NodeSeen) (field : Counter) → IsFullAt mesh near n field × (new ≡ n) → (act_result : ActResult) × (act_result_of mesh near n Turn ≡ Some act_result) × (act_result.full ≡ Some field) × (new ≡ n)
full_act_result mesh near n new field t = (_, ap (turn_result mesh near n.core) t.0.was, t.0.full, t.1)

-- a node that takes nothing from its inbox
pub sent_done : (mesh : Nodes) (near : NodeIds) (act : Act) (n new : NodeSeen) (b : Bool) (full : Option Counter) (reaction : handlers.Reaction) (effect : code.Effect) (out : List ℕ) → act_result_of mesh near n act ≡ sent_result n b full reaction → b ≡ true
    → new ≡ record n { core = new.core } → IsMade mesh full reaction effect new.core out → IsActResult mesh near act n None effect new out
sent_done mesh near act n new b full reaction effect out is may others made = record {
  act_result = record { full = full; reaction = reaction; left = n.items; took = None };
  is = is ∙ ap (λ (c : Bool). sent_result n c full reaction) may;
  made = made;
  left = ap (λ (m : NodeSeen). m.items) others;
  taken = refl;
  size = ap (λ (m : NodeSeen). m.size) others;
}

pub sent_full : (n new : NodeSeen) (b : Bool) (full : Option Counter) (reaction : handlers.Reaction) (field : Counter) → b ≡ true → new ≡ record n { core = new.core } → IsFull full n.core field new.core
    → (act_result : ActResult) × (sent_result n b full reaction ≡ Some act_result) × (act_result.full ≡ Some field) × (new ≡ n)
sent_full n new b full reaction field may others t = (_, ap (λ (c : Bool). sent_result n c full reaction) may, t.overfull, others ∙ (λ i. record n { core = t.same i }))

pub no_refusal : (mesh : Nodes) (n new : NodeSeen) (from : ℕ) (why : WireError) → AllByRecursion (IsReadableItem mesh) n.items → (bytes : List ℕ) × (refusal bytes ≡ Some why) × IsDropped n from bytes new → ⊥
no_refusal mesh n new from why all d = none-some why (sym ((subst (AllByRecursion (IsReadableItem mesh)) (d.2).was all).0).allowed ∙ d.1)

pub no_stranger : (mesh : Nodes) (n new : NodeSeen) (from : ℕ) (who : Addr) → AllByRecursion (IsReadableItem mesh) n.items
    → (bytes : List ℕ) × (refusal bytes ≡ None) × (stranger mesh (message_in_fields bytes) ≡ Some who) × IsDropped n from bytes new → ⊥
no_stranger mesh n new from who all d = none-some who (sym ((subst (AllByRecursion (IsReadableItem mesh)) (d.3).was all).0).known ∙ d.2)
