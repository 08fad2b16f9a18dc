-- A body is of one run state: two states whose bodies are the same, and whose messages are what their packets mean, are the same.
use Rattle.std.proofs.Common.{◌≡◌, ℕ, suc, ◌+◌, Bool, true, false, List, [], ◌∷◌, map, length, Option, Some, None, refl, sym, ap, subst, ◌∙◌, arith}
use Rattle.std.specs.Prelude.{◌&&◌, ◌||◌, slice_get, unwrap_or, option_map}
use Rattle.std.specs.List.{AllByRecursion, list_any}
use Rattle.std.specs.Ordering.{eq_by_cmp}
use Rattle.std.specs.Cmp.{Equal-is}
use Rattle.std.specs.FinSet as sets
use Rattle.mesh_base.specs.declared.events.Item as items
use Rattle.mesh_base.specs.declared.events.Item.TheVariants as item
use Rattle.mesh_base.specs.declared.events.Flying.{Flying}
use Rattle.mesh_base.specs.declared.events.Variant.{Variant}
use Rattle.mesh_base.specs.Meshes.{Nodes}
use Rattle.mesh_base.proofs.Lemmas.Lists.{each_at}
use Rattle.aodv_model.specs.Pairs.{Pairs, pair_cmp, pairs_in}
use Rattle.aodv_model.specs.Cores.{Message, Item, New, Heard}
use Rattle.aodv_model.proofs.PairLaws.{pair_cmp_total, same_pair}
use Rattle.aodv_meaning.specs.Meaning.{meaning}
use Rattle.aodv_meaning.specs.Effects.{item_in}
use Rattle.mesh_model.specs.Worlds as model
use Rattle.aodv_node.specs.Seen.{NodeSeen}
use Rattle.mesh_meaning.specs.Packets.{packet_of, copy_in, IsWritten}
use Rattle.mesh_radio.specs.Radios.{RadioState}
use Rattle.mesh_sound.specs.Packets.{InItem}
use Rattle.mesh_sound.specs.Claims.{Holds}
use Rattle.mesh_sound.specs.declared.packets.Claim.TheVariants as claims
use Rattle.mesh_world.specs.Seen.{node_in}
use Rattle.mesh_world.specs.Kept.{world_in}
use Rattle.mesh_world.specs.Restored.{AreWritten}
use Rattle.mesh_checkpoint.specs.declared.body.Head.{Head}
use Rattle.mesh_checkpoint.specs.Checkpoint.{Node, Link, World, Body}
use Rattle.mesh_checkpoint.specs.Points.{item_of, node_of, links_of, copy_of, world_after, body_of}
use Rattle.mesh_checkpoint.specs.Laws.{OneBody}
use Rattle.mesh_load.specs.RunStates.{IsPlain, IsPlainItem, ArePlain, IsPlainWorld, HasPlainWorld, OneRunState, OneStart}
use Rattle.mesh_restore.specs.Nodes.{ArePrecursorsBelow}
use Rattle.mesh_load.proofs.Listed.{pairs-contains, one_pairs, below_more, one_core}

-- ---- queues and copies

item_again : (mesh : Nodes) (i : Item) → IsPlainItem mesh i → item_in mesh (item_of mesh i) ≡ i
item_again mesh (New body dest) plain = refl
item_again mesh (Heard from m) plain = ap (λ (n : Message). Heard from n) plain

pub queue_again : (mesh : Nodes) (is : List Item) → AllByRecursion (IsPlainItem mesh) is → map (item_in mesh) (map (item_of mesh) is) ≡ is
queue_again mesh [] plain = refl
queue_again mesh (i ∷ is) plain =
    let first : item_in mesh (item_of mesh i) ≡ i = item_again mesh i plain.0 in
    let others : map (item_in mesh) (map (item_of mesh) is) ≡ is = queue_again mesh is plain.1 in
    λ k. first k ∷ others k

one_queue : (mesh : Nodes) (is js : List Item) → AllByRecursion (IsPlainItem mesh) is → AllByRecursion (IsPlainItem mesh) js → map (item_of mesh) is ≡ map (item_of mesh) js → is ≡ js
one_queue mesh is js plain even same = sym (queue_again mesh is plain) ∙ ap (map (item_in mesh)) same ∙ queue_again mesh js even

pub copies_again : (mesh : Nodes) (cs : List model.Copy) → AllByRecursion (λ c. IsPlain mesh c.message) cs → map (copy_in mesh) (map (copy_of mesh) cs) ≡ cs
copies_again mesh [] plain = refl
copies_again mesh (c ∷ cs) plain =
    let first : meaning mesh (packet_of mesh c.message) ≡ c.message = plain.0 in
    let others : map (copy_in mesh) (map (copy_of mesh) cs) ≡ cs = copies_again mesh cs plain.1 in
    λ k. record { id = c.id; from = c.from; to = c.to; message = first k } ∷ others k

one_flight : (mesh : Nodes) (cs ds : List model.Copy) → AllByRecursion (λ c. IsPlain mesh c.message) cs → AllByRecursion (λ c. IsPlain mesh c.message) ds → map (copy_of mesh) cs ≡ map (copy_of mesh) ds → cs ≡ ds
one_flight mesh cs ds plain even same = sym (copies_again mesh cs plain) ∙ ap (map (copy_in mesh)) same ∙ copies_again mesh ds even

-- ---- nodes

-- node x, of this variant, with precursors that a set of nodes has room for
record IsPlainNode (variant : Variant) (mesh : Nodes) (x : ℕ) (n : model.Node) : Type 0 where
  named : (n.core).ip ≡ x
  variant_is : (n.core).variant ≡ variant
  precursors : ArePrecursorsBelow 256 (n.core).rt
  queue : AllByRecursion (IsPlainItem mesh) n.queue

plain_node : (variant : Variant) (mesh : Nodes) (w : model.World) (x : ℕ) (n : model.Node) → IsPlainWorld variant mesh w → slice_get w.nodes x ≡ Some n → IsPlainNode variant mesh x n
plain_node variant mesh w x n is at =
    let in_mesh = is.in_mesh.nodes x n at in
    record {
      named = in_mesh.named;
      variant_is = each_at (λ m. (m.core).variant ≡ variant) w.nodes x n is.variant_is at;
      precursors = below_more (length w.nodes) 256 (n.core).rt (omega (arith, is.few)) (λ d e there. (in_mesh.core.table.in_mesh d e there).pre);
      queue = each_at (λ m. AllByRecursion (IsPlainItem mesh) m.queue) w.nodes x n is.plain.waits at;
    }

one_model_node : (variant : Variant) (mesh : Nodes) (x : ℕ) (m n : model.Node) → IsPlainNode variant mesh x m → IsPlainNode variant mesh x n → node_of mesh m ≡ node_of mesh n → m ≡ n
one_model_node variant mesh x m n is it same =
    let cores : m.core ≡ n.core =
    one_core m.core n.core is.precursors it.precursors (is.named ∙ sym it.named) (is.variant_is ∙ sym it.variant_is)
    (ap (λ (k : Node). k.sn) same) (ap (λ (k : Node). k.routes) same) (ap (λ (k : Node). k.asked) same) (ap (λ (k : Node). k.store) same) in
    let queues : m.queue ≡ n.queue = one_queue mesh m.queue n.queue is.queue it.queue (ap (λ (k : Node). k.inbox) same) in
    λ i. record { core = cores i; queue = queues i }

abbrev first_of_list : {X : Type 0} → X → List X → X
first_of_list d [] = d
first_of_list d (x ∷ xs) = x

abbrev others_of_list : {X : Type 0} → List X → List X
others_of_list [] = []
others_of_list (x ∷ xs) = xs

-- P holds of each node and its index, the first of which is k
abbrev AllAt : (ℕ → model.Node → Type 0) → ℕ → List model.Node → Type 0
AllAt P k ns = (x : ℕ) (n : model.Node) → slice_get ns x ≡ Some n → P (k + x) n

first_at : (P : ℕ → model.Node → Type 0) (k : ℕ) (n : model.Node) (ns : List model.Node) → AllAt P k (n ∷ ns) → P k n
first_at P k n ns all = let here : k + 0 ≡ k = omega arith in subst (λ (x : ℕ). P x n) here (all 0 n refl)

others_at : (P : ℕ → model.Node → Type 0) (k : ℕ) (n : model.Node) (ns : List model.Node) → AllAt P k (n ∷ ns) → AllAt P (k + 1) ns
others_at P k n ns all x m at = let there : k + suc x ≡ k + 1 + x = omega arith in subst (λ (y : ℕ). P y m) there (all (suc x) m at)

one_list : (variant : Variant) (mesh : Nodes) (k : ℕ) (ns ms : List model.Node) → AllAt (IsPlainNode variant mesh) k ns → AllAt (IsPlainNode variant mesh) k ms → map (node_of mesh) ns ≡ map (node_of mesh) ms → ns ≡ ms
one_list variant mesh k [] [] all every same = refl
one_list variant mesh k [] (m ∷ ms) all every same = cc
one_list variant mesh k (n ∷ ns) [] all every same = cc
one_list variant mesh k (n ∷ ns) (m ∷ ms) all every same =
    let first : n ≡ m = one_model_node variant mesh k n m (first_at (IsPlainNode variant mesh) k n ns all) (first_at (IsPlainNode variant mesh) k m ms every) (ap (first_of_list (node_of mesh n)) same) in
    let others : ns ≡ ms = one_list variant mesh (k + 1) ns ms (others_at (IsPlainNode variant mesh) k n ns all) (others_at (IsPlainNode variant mesh) k m ms every) (ap others_of_list same) in
    λ i. first i ∷ others i

-- ---- links

-- the pair of a link
abbrev ends_of : Link → ℕ × ℕ
ends_of l = (l.a, l.b)

-- one of the links is this pair and stands
abbrev stands_in : ℕ × ℕ → List Link → Bool
stands_in q ls = list_any (λ l. eq_by_cmp pair_cmp q (ends_of l) && l.stands) ls

ends_again : (links : Pairs) (ps : List (ℕ × ℕ)) → map ends_of (map (λ p. record { a = p.0; b = p.1; stands = sets.contains links p }) ps) ≡ ps
ends_again links [] = refl
ends_again links (p ∷ ps) = ap (λ (qs : List (ℕ × ℕ)). p ∷ qs) (ends_again links ps)

either : (b c : Bool) → (c || (b && c)) ≡ c
either true true = refl
either true false = refl
either false true = refl
either false false = refl

stands_among : (links : Pairs) (q : ℕ × ℕ) (ps : List (ℕ × ℕ)) → stands_in q (map (λ p. record { a = p.0; b = p.1; stands = sets.contains links p }) ps) ≡ (list_any (eq_by_cmp pair_cmp q) ps && sets.contains links q)
stands_among links q [] = refl
stands_among links q (p ∷ ps) = at (eq_by_cmp pair_cmp q p) refl (stands_among links q ps)
  where
    at : (b : Bool) → eq_by_cmp pair_cmp q p ≡ b → stands_in q (map (λ p. record { a = p.0; b = p.1; stands = sets.contains links p }) ps) ≡ (list_any (eq_by_cmp pair_cmp q) ps && sets.contains links q)
        → ((b && sets.contains links p) || stands_in q (map (λ p. record { a = p.0; b = p.1; stands = sets.contains links p }) ps)) ≡ ((b || list_any (eq_by_cmp pair_cmp q) ps) && sets.contains links q)
    at true is others =
        let one : q ≡ p = same_pair q p ((Equal-is (pair_cmp q p)).0 is) in
        rw (← one, others) (either (list_any (eq_by_cmp pair_cmp q) ps) (sets.contains links q))
    at false is others = others

implied : (b c : Bool) → (c ≡ true → b ≡ true) → (b && c) ≡ c
implied true c gives = refl
implied false true gives = gives refl
implied false false gives = refl

stands_is : (ever links : Pairs) (q : ℕ × ℕ) → (sets.contains links q ≡ true → sets.contains ever q ≡ true) → stands_in q (links_of ever links) ≡ sets.contains links q
stands_is ever links q stood =
    stands_among links q (pairs_in ever)
    ∙ ap (λ (b : Bool). b && sets.contains links q) (sym (pairs-contains ever q))
    ∙ implied (sets.contains ever q) (sets.contains links q) stood

-- each link that stands has stood
abbrev HasStood : Pairs → Pairs → Type 0
HasStood ever links = (p : ℕ × ℕ) → sets.contains links p ≡ true → sets.contains ever p ≡ true

one_links : (ever links ever' links' : Pairs) → HasStood ever links → HasStood ever' links' → links_of ever links ≡ links_of ever' links' → (ever ≡ ever') × (links ≡ links')
one_links ever links ever' links' stood stood' same = (
  one_pairs ever ever' (sym (ends_again links (pairs_in ever)) ∙ ap (map ends_of) same ∙ ends_again links' (pairs_in ever')),
  sets.same_set pair_cmp_total same_pair links links' (λ q. sym (stands_is ever links q (stood q)) ∙ ap (stands_in q) same ∙ stands_is ever' links' q (stood' q)),
)

-- ---- worlds and states

one_world : (variant : Variant) (mesh : Nodes) (steps steps' : ℕ) (w v : model.World) → IsPlainWorld variant mesh w → IsPlainWorld variant mesh v → world_after steps mesh w ≡ world_after steps' mesh v → w ≡ v
one_world variant mesh steps steps' w v is it same =
    let nodes : w.nodes ≡ v.nodes = one_list variant mesh 0 w.nodes v.nodes (from_0 w is) (from_0 v it) (ap (λ (u : World). u.nodes) same) in
    let links = one_links w.ever w.links v.ever v.links is.in_mesh.stood it.in_mesh.stood (ap (λ (u : World). u.links) same) in
    let flying : w.flying ≡ v.flying = one_flight mesh w.flying v.flying is.plain.flies it.plain.flies (ap (λ (u : World). u.copies) same) in
    let next : w.next_copy ≡ v.next_copy = ap (λ (u : World). u.next) same in
    λ i. record { nodes = nodes i; links = links.1 i; ever = links.0 i; flying = flying i; next_copy = next i }
  where
    from_0 : (u : model.World) → IsPlainWorld variant mesh u → AllAt (IsPlainNode variant mesh) 0 u.nodes
    from_0 u plain x n at = let here : x ≡ 0 + x = omega arith in subst (λ (y : ℕ). IsPlainNode variant mesh y n) here (plain_node variant mesh u x n plain at)

one_or_none : (variant : Variant) (mesh : Nodes) (steps steps' : ℕ) (o p : Option model.World) → HasPlainWorld variant mesh steps o → HasPlainWorld variant mesh steps' p → option_map (world_after steps mesh) o ≡ option_map (world_after steps' mesh) p → (o ≡ p) × (steps ≡ steps')
one_or_none variant mesh steps steps' None None is it same = (refl, is ∙ sym it)
one_or_none variant mesh steps steps' None (Some v) is it same = cc
one_or_none variant mesh steps steps' (Some w) None is it same = cc
one_or_none variant mesh steps steps' (Some w) (Some v) is it same =
    let worlds : world_after steps mesh w ≡ world_after steps' mesh v = ap (λ (o : Option World). unwrap_or o (world_after steps mesh w)) same in
    (ap (λ (u : model.World). Some u) (one_world variant mesh steps steps' w v is it worlds), ap (λ (u : World). u.steps) worlds)

pub one_run_state : OneRunState
one_run_state m n is it same =
    let heads = ap (λ (x : Body). x.head) same in
    let meshes : m.mesh ≡ n.mesh = ap (λ (x : Body). x.mesh) same in
    let variants : m.variant ≡ n.variant = ap (λ (h : Head). h.variant) heads in
    let there : HasPlainWorld m.variant m.mesh n.steps n.world = subst (λ (v : Variant). HasPlainWorld v m.mesh n.steps n.world) (sym variants) (subst (λ (k : Nodes). HasPlainWorld n.variant k n.steps n.world) (sym meshes) it) in
    let worlds : option_map (world_after m.steps m.mesh) m.world ≡ option_map (world_after n.steps m.mesh) n.world =
    ap (λ (x : Body). x.world) same ∙ ap (λ (k : Nodes). option_map (world_after n.steps k) n.world) (sym meshes) in
    let both = one_or_none m.variant m.mesh m.steps n.steps m.world n.world is there worlds in
    λ i. record {
      variant = variants i;
      mesh = meshes i;
      world = both.0 i;
      sums = record {
        events = (heads i).events;
        idle = (heads i).idle;
        given = (heads i).given;
        delivered = (heads i).delivered;
        lost = (heads i).lost;
        copied = (heads i).copied;
      };
      lines = (heads i).lines;
      steps = both.1 i;
    }

-- a checkpoint has one body
pub one_start : OneBody → OneStart
one_start one b m n is it first second = one_run_state m n is it (one b (body_of m) (body_of n) first second)

-- ---- what was read of packets is plain

plain_meaning : (mesh : Nodes) (bytes : List ℕ) → IsWritten mesh bytes → IsPlain mesh (meaning mesh bytes)
unfolding packet_of
plain_meaning mesh bytes written = ap (meaning mesh) (sym written.written)

plain_items : (mesh : Nodes) (nodes : List NodeSeen) (is : List items.Item) → AllByRecursion (InItem (Holds claims.Written mesh nodes)) is → AllByRecursion (IsPlainItem mesh) (map (item_in mesh) is)
plain_items mesh nodes [] written = tt
plain_items mesh nodes (item.New dest body ∷ is) written = (tt, plain_items mesh nodes is written.1)
plain_items mesh nodes (item.Heard from bytes ∷ is) written = (plain_meaning mesh bytes written.0, plain_items mesh nodes is written.1)

plain_nodes : (mesh : Nodes) (nodes ns : List NodeSeen) → AllByRecursion (λ n. AllByRecursion (InItem (Holds claims.Written mesh nodes)) n.items) ns → AllByRecursion (λ n. AllByRecursion (IsPlainItem mesh) n.queue) (map (node_in mesh) ns)
plain_nodes mesh nodes [] written = tt
plain_nodes mesh nodes (n ∷ ns) written = (plain_items mesh nodes n.items written.0, plain_nodes mesh nodes ns written.1)

plain_flight : (mesh : Nodes) (fs : List Flying) → AllByRecursion (λ f. IsWritten mesh f.bytes) fs → AllByRecursion (λ c. IsPlain mesh c.message) (map (copy_in mesh) fs)
plain_flight mesh [] written = tt
plain_flight mesh (f ∷ fs) written = (plain_meaning mesh f.bytes written.0, plain_flight mesh fs written.1)

pub plain_in : (mesh : Nodes) (nodes : List NodeSeen) (radio : RadioState) → AreWritten mesh nodes radio.flying → ArePlain mesh (world_in mesh nodes radio)
unfolding world_in
plain_in mesh nodes radio written = record { waits = plain_nodes mesh nodes nodes written.waits; flies = plain_flight mesh radio.flying written.flies }
