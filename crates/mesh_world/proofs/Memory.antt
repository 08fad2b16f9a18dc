-- Which events may ask for memory: what is read of a node or of the radio decides it.
use Rattle.std.proofs.Common.{◌≡◌, ◌<◌, ◌+◌, ◌^◌, ℕ, zero, suc, length, arith, Bool, true, false, not, List, [], ◌∷◌, map, Option, Some, None, Ok, refl, ap, sym, subst, ◌∙◌}
use Rattle.std.specs.Prelude.{slice_get, is_some, option_map}
use Rattle.mesh_base.specs.Members.{NodeIds}
use Rattle.mesh_base.specs.Meshes.{Nodes}
use Rattle.mesh_base.specs.declared.events.Full.{Full as Counter}
use Rattle.mesh_base.specs.declared.events.Done.TheVariants as done
use Rattle.mesh_base.specs.declared.events.Flying.{Flying}
use Rattle.aodv_model.specs.Cores.{Body}
use Rattle.aodv_meaning.specs.Effects.{item_in}
use Rattle.aodv_node.specs.Seen.{NodeSeen}
use Rattle.mesh_model.specs.Worlds.{World, Event, Give, Deliver, Lose, Double, Outcome, Idle, Next, Full, unless_full, done_by, copies, range, linked_below, step}
use Rattle.mesh_radio.specs.Copies.{held_seen, find_copy}
use Rattle.mesh_radio.specs.Radios.{RadioState}
use Rattle.mesh_radio.specs.declared.copies.Held.{Held}
use Rattle.mesh_meaning.specs.Packets.{copy_in}
use Rattle.mesh_world.specs.Seen.{node_in}
use Rattle.mesh_world.specs.Kept.{Ready, IsKept, world_in}
use Rattle.mesh_world.specs.Acts.{Act, Turn, Send, Ask, ActResult, act_result_of, event_at}
use Rattle.mesh_world.specs.Parts.{AreKept, IsDoneTo, seen_in}
use Rattle.mesh_world.specs.Steps.{is_idle, may_need_memory}
use Rattle.mesh_world.specs.declared.parts.Parts.{Parts}
use Rattle.mesh_world.proofs.Frames.{shown_at, beside, later, ends_idle, roomed, roomed_shown}
use Rattle.mesh_world.proofs.Reactions.{near_is}
use Rattle.mesh_world.proofs.Moves.{of_ends}
use Rattle.mesh_world.proofs.Acts.{act_at, effect_by, outcome_of}
use Rattle.mesh_world.proofs.Arrivals.{shown_found, shown_none, give_at, deliver_at, lose_at}
use Rattle.mesh_world.proofs.Doublings.{double_at}

abbrev pub is_busy : Outcome → Bool
is_busy o = not (is_idle o)

-- what comes of an act isn't idle
busy_with : (mesh : Nodes) (w : World) (x : ℕ) (o : Option ActResult) → is_busy (outcome_of mesh w x o) ≡ is_some o
busy_with mesh w x None = refl
busy_with mesh w x (Some d) = unless d.full
  where
    unless : (f : Option Counter) → is_busy (unless_full x f (Next (done_by w x d.reaction (map (item_in mesh) d.left)) (effect_by mesh d.took (d.reaction).effect (copies w x ((d.reaction).effect).cast)))) ≡ true
    unless None = refl
    unless (Some f) = refl

-- ---- by the kind of the event

there : (nodes : List NodeSeen) (x : ℕ) → x < length nodes → (n : NodeSeen) × (slice_get nodes x ≡ Some n)
there [] x l = absurd (let m = l in omega arith)
there (n ∷ nodes) zero l = (n, refl)
there (n ∷ nodes) (suc x) l = there nodes x (let m = l in omega arith)

pub needs_give : (mesh : Nodes) (nodes : List NodeSeen) (radio : RadioState) (x d : ℕ) (b : Body) → x < length nodes
    → true ≡ may_need_memory (world_in mesh nodes radio) (Give x d b)
needs_give mesh nodes radio x d b l =
    let n = there nodes x l in
    sym (ap is_busy (give_at (world_in mesh nodes radio) x d b (node_in mesh n.0) (shown_at mesh nodes radio x n.0 n.1)))

pub busy_act : (mesh : Nodes) (nodes : List NodeSeen) (radio : RadioState) (x : ℕ) (n : NodeSeen) (act : Act) → slice_get nodes x ≡ Some n
    → is_some (act_result_of mesh (range (world_in mesh nodes radio) x) n act) ≡ is_busy (step (world_in mesh nodes radio) (event_at x act))
busy_act mesh nodes radio x n act at =
    sym (ap is_busy (act_at mesh nodes radio x n (range (world_in mesh nodes radio) x) act at refl) ∙ busy_with mesh (world_in mesh nodes radio) x (act_result_of mesh (range (world_in mesh nodes radio) x) n act))

pub needs_act : (w : World) (x : ℕ) (act : Act) → is_busy (step w (event_at x act)) ≡ may_need_memory w (event_at x act)
needs_act w x Turn = refl
needs_act w x (Send d) = refl
needs_act w x (Ask d) = refl

-- the same, with rooms made in the radio, by the nodes that are in range then
pub short_act : (mesh : Nodes) (nodes : List NodeSeen) (old radio : RadioState) (ready : Ready) (steps x : ℕ) (near : NodeIds) (n : NodeSeen) (act : Act)
    → IsKept mesh nodes old ready steps → radio ≡ record old { room = radio.room; most = radio.most } → slice_get nodes x ≡ Some n → near ≡ linked_below radio.links x radio.size
    → is_some (act_result_of mesh near n act) ≡ true → may_need_memory (world_in mesh nodes old) (event_at x act) ≡ true
short_act mesh nodes old radio ready steps x near n act k rooms at linked enabled =
    sym (needs_act (world_in mesh nodes old) x act)
    ∙ ap (λ (w : World). is_busy (step w (event_at x act))) (sym (roomed_shown mesh nodes old radio rooms))
    ∙ sym (busy_act mesh nodes radio x n act at)
    ∙ ap (λ (r : NodeIds). is_some (act_result_of mesh r n act)) (sym (near_is mesh nodes radio ready steps x near (roomed mesh nodes old radio ready steps rooms k) linked))
    ∙ enabled

-- whether there is a copy is told by its receiver, and by what is seen of it
pub receiver_is_some : (o : Option ℕ) (p : Option Flying) → o ≡ option_map (λ f. f.to) p → is_some o ≡ is_some p
receiver_is_some o None is = ap is_some is
receiver_is_some o (Some f) is = ap is_some is

pub found_is_some : (o : Option Held) (p : Option Flying) → option_map held_seen o ≡ p → is_some o ≡ is_some p
found_is_some None p is = ap is_some is
found_is_some (Some seen) p is = ap is_some is

pub needs_deliver : (mesh : Nodes) (nodes : List NodeSeen) (radio : RadioState) (id : ℕ) (p : Option Flying) → find_copy radio.flying id ≡ p
    → is_some p ≡ may_need_memory (world_in mesh nodes radio) (Deliver id)
needs_deliver mesh nodes radio id None found =
    sym (ap is_busy (deliver_at (world_in mesh nodes radio) id None (shown_none mesh nodes radio id found)))
needs_deliver mesh nodes radio id (Some f) found =
    sym (ap is_busy (deliver_at (world_in mesh nodes radio) id (Some (copy_in mesh f)) (shown_found mesh nodes radio id f found)))

pub needs_lose : (mesh : Nodes) (nodes : List NodeSeen) (radio : RadioState) (id : ℕ) (p : Option Flying) → find_copy radio.flying id ≡ p
    → is_some p ≡ may_need_memory (world_in mesh nodes radio) (Lose id)
needs_lose mesh nodes radio id None found =
    sym (ap is_busy (lose_at (world_in mesh nodes radio) id None (shown_none mesh nodes radio id found)))
needs_lose mesh nodes radio id (Some f) found =
    sym (ap is_busy (lose_at (world_in mesh nodes radio) id (Some (copy_in mesh f)) (shown_found mesh nodes radio id f found)))

pub needs_double : (mesh : Nodes) (nodes : List NodeSeen) (radio : RadioState) (id : ℕ) (p : Option Flying) → find_copy radio.flying id ≡ p
    → is_some p ≡ may_need_memory (world_in mesh nodes radio) (Double id)
needs_double mesh nodes radio id None found =
    sym (ap is_busy (double_at (world_in mesh nodes radio) id None (shown_none mesh nodes radio id found)))
needs_double mesh nodes radio id (Some f) found =
    sym (ap is_busy (double_at (world_in mesh nodes radio) id (Some (copy_in mesh f)) (shown_found mesh nodes radio id f found)))

-- ---- room that was refused leaves the radio as it was

unneeded : (o : Outcome) → false ≡ not (is_idle o) → o ≡ Idle
unneeded Idle e = refl
unneeded (Full x f) e = absurd cc
unneeded (Next w h) e = absurd cc

-- an event for which none is needed is idle
pub idle_end_unneeded : (e : Event) (old : Parts) (radio : RadioState) (packet : List ℕ) → radio ≡ old.radio → AreKept old → old.steps < 2 ^ 48
    → false ≡ not (is_idle (step (seen_in (record old { radio = radio })).world e))
    → IsDoneTo e old (Ok done.Idle) (record old { radio = radio; steps = old.steps + 1 }) packet
idle_end_unneeded e old radio packet same kept few none =
    let none_then = subst (λ (r : RadioState). false ≡ not (is_idle (step (seen_in (record old { radio = r })).world e))) same none in
    let later_on = later old.mesh old.nodes.items old.radio old.ready old.steps (beside old.mesh old.nodes.items old.radio old.ready old.steps kept) in
    subst (λ (r : RadioState). IsDoneTo e old (Ok done.Idle) (record old { radio = r; steps = old.steps + 1 }) packet) (sym same)
    (of_ends e old old.nodes old.radio old.ready (old.steps + 1) (Ok done.Idle) packet
    (ends_idle e old.mesh old.nodes.items old.radio old.ready old.steps old.nodes.items old.radio packet kept few (unneeded (step (seen_in old).world e) none_then) refl later_on))
