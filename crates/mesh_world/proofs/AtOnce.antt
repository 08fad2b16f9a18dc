-- A copy that is delivered where no node may take a turn, and is taken at once.
use Rattle.std.proofs.Common.{◌≡◌, ℕ, zero, suc, ◌<◌, ◌≤◌, ◌+◌, ◌^◌, Bool, true, false, List, [], ◌∷◌, ◌++◌, map, length, Some, None, Ok, refl, ap, sym, ◌∙◌, subst, arith, inl, inr}
use Rattle.std.specs.Prelude.{slice_get, slice_set, if◌then◌else◌, option_map}
use Rattle.std.specs.FinMap as maps
use Rattle.std.specs.FinSet as sets
use Rattle.std.specs.Cmp.{nat_cmp_total}
use Rattle.std.proofs.lemmas.Bool.{cases_eq}
use Rattle.std.proofs.lemmas.Option.{none-some, slice_get-map, slice_get_within}
use Rattle.std.proofs.lemmas.List.{length-map}
use Rattle.mesh_base.specs.Members.{NodeIds}
use Rattle.mesh_base.specs.Meshes.{Nodes}
use Rattle.mesh_base.specs.declared.events.Air.{Air}
use Rattle.mesh_base.specs.declared.events.Flying.{Flying}
use Rattle.mesh_base.specs.declared.events.Item as items
use Rattle.mesh_base.specs.declared.events.Item.TheVariants as item
use Rattle.mesh_base.specs.declared.events.Done.TheVariants as done
use Rattle.mesh_base.proofs.Lemmas.Lists.{set_again}
use Rattle.aodv_meaning.specs.Effects.{item_in}
use Rattle.aodv_node.specs.Seen.{NodeSeen, IsSoundNode}
use Rattle.aodv_node.specs.Turned.{IsTaken, hearing}
use Rattle.aodv_node.specs.declared.answers.TurnDone.{TurnDone}
use Rattle.aodv_node.proofs.Hearing.{hearing_is_sound}
use Rattle.mesh_model.specs.Worlds.{Deliver, Turn, linked_below}
use Rattle.mesh_model.specs.Choices.{least_from, waits, may_turn_in, first_turn}
use Rattle.mesh_radio.specs.Radios.{RadioState, without_copy}
use Rattle.mesh_world.specs.Seen.{node_in}
use Rattle.mesh_world.specs.Kept.{Ready, IsKept, world_in}
use Rattle.mesh_world.specs.Noted.{ready_with, with_turn, with_or_without, has_items}
use Rattle.mesh_world.proofs.ReadySets.{least_found, node_here, node_there, waits_in, at_it, at_other, follows}
use Rattle.mesh_world.proofs.Frames.{Ends, set_got}
use Rattle.mesh_world.proofs.Reactions.{Sends}
use Rattle.mesh_world.proofs.Acts.{kept_node, act_done, taken_act_result}
use Rattle.mesh_world.specs.Acts as acts
use Rattle.mesh_world.proofs.Arrivals.{Joined, Seen, deliver_done, may_hear, noted_joined}

-- ---- no node may take a turn

none_passes_there : (k i q : ℕ) (p : ℕ → Bool) → least_from k i p ≡ None → i ≤ q → q < i + k → p q ≡ false
none_passes_there zero i q p none above under = absurd (omega arith)
none_passes_there (suc k) i q p none above under = first (p i) refl none (λ rest later. none_passes_there k (i + 1) q p rest later (omega arith))
  where
    first : (b : Bool) → p i ≡ b → (if b then Some i else least_from k (i + 1) p) ≡ None → (least_from k (i + 1) p ≡ None → i + 1 ≤ q → p q ≡ false) → p q ≡ false
    first true e s rest = absurd (none-some i (sym s))
    first false e s rest = elim (cases_eq i q) [
      | inl same ↦ ap p (sym same) ∙ e
      | inr other ↦ rest s (omega arith)
    ]

no_items : (mesh : Nodes) (is : List items.Item) → waits (map (item_in mesh) is) ≡ false → is ≡ []
no_items mesh [] e = refl
no_items mesh (i ∷ is) e = absurd (let P : ⊥ = cc in P)

-- so the inbox of each is empty
pub empty_at : (mesh : Nodes) (nodes : List NodeSeen) (radio : RadioState) (x : ℕ) (n : NodeSeen) → first_turn (world_in mesh nodes radio) ≡ None → slice_get nodes x ≡ Some n → n.items ≡ []
unfolding first_turn world_in
empty_at mesh nodes radio x n none at =
    let shown : slice_get (map (node_in mesh) nodes) x ≡ Some (node_in mesh n) = slice_get-map (node_in mesh) nodes x ∙ ap (option_map (node_in mesh)) at in
    let l = slice_get_within (map (node_in mesh) nodes) x (node_in mesh n) shown in
    no_items mesh n.items
    (sym (ap may_turn_in shown) ∙ none_passes_there (length (map (node_in mesh) nodes)) 0 x (λ y. may_turn_in (slice_get (map (node_in mesh) nodes) y)) none (omega arith) (omega arith))

-- and where one item joins the inbox of node x, that is the one that may
pub next_is : (mesh : Nodes) (nodes : List NodeSeen) (radio radio' : RadioState) (x : ℕ) (n : NodeSeen) → first_turn (world_in mesh nodes radio) ≡ None → x < length nodes → has_items n.items ≡ true
    → first_turn (world_in mesh (slice_set nodes x n) radio') ≡ Some x
unfolding first_turn world_in
next_is mesh nodes radio radio' x n none l some =
    let here = node_here mesh nodes x n l in
    let under = slice_get_within (map (node_in mesh) (slice_set nodes x n)) x (node_in mesh n) here in
    let before = length-same in
    least_found (length (map (node_in mesh) (slice_set nodes x n))) 0 (length (map (node_in mesh) (slice_set nodes x n))) x (λ y. may_turn_in (slice_get (map (node_in mesh) (slice_set nodes x n)) y))
    (omega arith) (omega arith) under (ap may_turn_in here ∙ waits_in mesh n.items ∙ some)
    (λ q above lt. ap may_turn_in (node_there mesh nodes x q n (λ same. absurd (omega arith)))
    ∙ none_passes_there (length (map (node_in mesh) nodes)) 0 q (λ y. may_turn_in (slice_get (map (node_in mesh) nodes) y)) none (omega arith) (omega (arith, lt, l, before)))
  where
    length-same : length (map (node_in mesh) nodes) ≡ length nodes
    length-same = length-map nodes (node_in mesh)

-- ---- the sets

again : (s : NodeIds) (x : ℕ) (b : Bool) → with_or_without b (sets.insert s x) x ≡ with_or_without b s x
again s x b = sets.same_set nat_cmp_total maps.nat_cmp-IsAntisymmetric (with_or_without b (sets.insert s x) x) (with_or_without b s x)
    (follows (sets.insert s x) x b (sets.contains (sets.insert s x)) (sets.contains (with_or_without b s x)) (λ q. refl) (at_it b s x)
    (λ q apart. at_other b s x q apart ∙ sym (at_other true s x q apart)))

-- a node that had got an item, and is noted again, is noted as it is
noted_again : (r : Ready) (x : ℕ) (n : NodeSeen) (count : ℕ) → ready_with r x n count ≡ ready_with (with_turn r x) x n count
unfolding ready_with
noted_again r x n count = λ i. record {
  turns = sym (again r.turns x (has_items n.items)) i;
  sends = (ready_with r x n count).sends;
  asks = (ready_with r x n count).asks;
}

-- ---- both events

-- the receiver, once the copy has joined its inbox
joins : (mesh : Nodes) (nodes : List NodeSeen) (radio : RadioState) (ready : Ready) (steps id to : ℕ) (f : Flying) (n : NodeSeen) → IsKept mesh nodes radio ready steps → Seen mesh radio id to f → slice_get nodes to ≡ Some n → n.items ≡ []
    → Joined n (hearing n f.from f.bytes) (item.Heard f.from f.bytes)
joins mesh nodes radio ready steps id to f n k t at none =
    let may = may_hear mesh nodes radio ready steps id to f n n n k at t refl refl refl in
    record {
      core = refl;
      items = ap (λ (is : List items.Item). is ++ item.Heard f.from f.bytes ∷ []) (sym none);
      size = refl;
      sound = hearing_is_sound n f.from f.bytes may.0 may.1 (kept_node mesh nodes radio ready steps to n k at).sound;
    }

pub delivered : (mesh : Nodes) (nodes : List NodeSeen) (radio radio' : RadioState) (ready : Ready) (steps id to : ℕ) (f : Flying) (n : NodeSeen) (packet : List ℕ)
    → IsKept mesh nodes radio ready steps → steps < 2 ^ 48 → Seen mesh radio id to f → radio' ≡ without_copy radio id → slice_get nodes to ≡ Some n → n.items ≡ []
    → Ends (Deliver id) mesh nodes radio steps (Ok (done.Heard f.from to)) (slice_set nodes to (hearing n f.from f.bytes)) radio' (with_turn ready to) (steps + 1) packet
delivered mesh nodes radio radio' ready steps id to f n packet k few t gone at none =
    let h = hearing n f.from f.bytes in
    let j = joins mesh nodes radio ready steps id to f n k t at none in
    subst (λ (ns : List NodeSeen). Ends (Deliver id) mesh nodes radio steps (Ok (done.Heard f.from to)) ns radio' (with_turn ready to) (steps + 1) packet) (set_again nodes to n h)
    (deliver_done mesh nodes radio radio' ready (with_turn ready to) steps id to f n n h packet k few t gone at j
    (noted_joined mesh nodes radio ready (with_turn ready to) steps to n h (item.Heard f.from f.bytes) k at j refl))

pub taken : (mesh : Nodes) (nodes : List NodeSeen) (radio radio' : RadioState) (ready ready' : Ready) (steps to : ℕ) (near : NodeIds) (h new : NodeSeen) (d : TurnDone) (out : List ℕ) (air : Air)
    → IsKept mesh (slice_set nodes to h) radio (with_turn ready to) steps → steps < 2 ^ 48 → to < length mesh → to < length nodes → near ≡ linked_below radio.links to radio.size → IsSoundNode new → IsTaken mesh near h d new out
    → Sends mesh to near d.effect out air radio radio' → ready' ≡ ready_with ready to new (length mesh)
    → Ends (Turn to) mesh (slice_set nodes to h) radio steps (Ok (done.Taken d.took d.effect air)) (slice_set nodes to new) radio' ready' (steps + 1) out
taken mesh nodes radio radio' ready ready' steps to near h new d out air k few l there linked sound t sends noted_is =
    subst (λ (ns : List NodeSeen). Ends (Turn to) mesh (slice_set nodes to h) radio steps (Ok (done.Taken d.took d.effect air)) ns radio' ready' (steps + 1) out) (set_again nodes to h new)
    (act_done mesh (slice_set nodes to h) radio radio' (with_turn ready to) ready' steps to near h new acts.Turn (Some d.took) d.effect out air k few l tt (set_got nodes to h there) linked sound (taken_act_result mesh near h new d out t) sends
    (noted_is ∙ noted_again ready to new (length mesh)))
