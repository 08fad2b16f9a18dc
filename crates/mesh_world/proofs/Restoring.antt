-- Parts that are in order are those of a world.
use Rattle.std.proofs.Common.{◌≡◌, ℕ, ◌<◌, ◌≤◌, ◌+◌, ◌^◌, List, [], ◌∷◌, length, map, Option, Some, None, refl, ap, sym, subst, ◌∙◌, suc, arith}
use Rattle.std.specs.Prelude.{slice_get, option_map, IfSome}
use Rattle.std.specs.List.{AllByRecursion}
use Rattle.std.specs.FinMap as maps
use Rattle.std.proofs.lemmas.Option.{slice_get-map, same_Some, none-some}
use Rattle.std.proofs.lemmas.List.{length-map}
use Rattle.mesh_base.specs.Meshes.{Nodes, IsMesh}
use Rattle.mesh_base.specs.declared.events.Flying.{Flying}
use Rattle.mesh_base.specs.declared.events.Item as items
use Rattle.mesh_base.specs.declared.events.Item.TheVariants as item
use Rattle.mesh_base.specs.declared.events.Variant.{Variant}
use Rattle.mesh_base.proofs.Lemmas.Lists.{each_at}
use Rattle.aodv_model.specs.declared.entry.Entry.{Entry}
use Rattle.aodv_model.specs.Tables.{Table}
use Rattle.aodv_model.specs.Cores.{Message, Pkt, Rreq, Rrep, Rerr}
use Rattle.aodv_model.specs.Soundness.{IsItemInMesh, IsMessageInMesh, IsSoundCore, IsStoreInMesh}
use Rattle.aodv_meaning.specs.Meaning.{meaning}
use Rattle.aodv_meaning.specs.Effects.{item_in}
use Rattle.aodv_meaning.proofs.Means.{spelled_in}
use Rattle.aodv_meaning.proofs.Writings.{written_is_sent}
use Rattle.aodv_node.specs.Seen.{NodeSeen, IsSoundNode, IsItemAt}
use Rattle.mesh_model.specs.Worlds.{Node}
use Rattle.mesh_model.specs.Walks as walks
use Rattle.mesh_model.specs.Walks.{rt_in}
use Rattle.mesh_model.specs.InMesh as world_numbers
use Rattle.mesh_model.specs.InMesh.{AreLinks, IsCopyInMesh, IsInMesh, IsNodeInMesh}
use Rattle.mesh_model.specs.Invariants.{AllBacked, IsBacked, IsHonest, IsHonestCopy, IsHonestItem, IsInvariant, IsLoopSafe, IsLoopSafeNode}
use Rattle.mesh_model.proofs.Acyclic.{no_cycle, better_along}
use Rattle.mesh_radio.specs.Copies.{IsBetween, AreNumbered}
use Rattle.mesh_radio.specs.Radios.{RadioState, AreLinksOf}
use Rattle.mesh_meaning.specs.Packets.{IsWritten, IsWrittenItem, copy_in}
use Rattle.mesh_sound.specs.declared.packets.Claim.TheVariants as claims
use Rattle.mesh_sound.specs.Packets.{InItem}
use Rattle.mesh_sound.specs.Claims.{AreOf, Holds, IsHonestIfRequest, IsHonestIfReply, table, table_in}
use Rattle.mesh_sound.specs.Edges.{AreBacked}
use Rattle.mesh_world.specs.Seen.{IsSoundWorld, node_in, data_of}
use Rattle.mesh_world.specs.Kept.{Ready, IsKept, IsKeptNode, IsReadyFor, world_in, seen_of}
use Rattle.mesh_world.specs.Restored.{AreNodesOf, AreSoundParts, IsFirstPart}
use Rattle.mesh_world.specs.declared.restored.Part.{Part}
use Rattle.mesh_world.specs.declared.restored.Part.TheVariants as parts

-- ---- tables

in_option : (mesh : Nodes) (o : Option NodeSeen) → rt_in (option_map (node_in mesh) o) ≡ table_in o
in_option mesh None = refl
in_option mesh (Some n) = refl

table_same : (mesh : Nodes) (nodes : List NodeSeen) (radio : RadioState) (x : ℕ) → walks.table (world_in mesh nodes radio) x ≡ table nodes x
unfolding world_in
table_same mesh nodes radio x = ap rt_in (slice_get-map (node_in mesh) nodes x) ∙ in_option mesh (slice_get nodes x)

tables_same : (mesh : Nodes) (nodes : List NodeSeen) (radio : RadioState) → walks.table (world_in mesh nodes radio) ≡ table nodes
tables_same mesh nodes radio = λ i. λ x. table_same mesh nodes radio x i

-- ---- packets

written_in : (mesh : Nodes) (b : List ℕ) → IsMesh mesh → 1 ≤ length mesh → IsWritten mesh b → IsMessageInMesh (length mesh) (meaning mesh b)
written_in mesh b is some written = let w = (written_is_sent mesh b is some).1 written in spelled_in mesh b w.allowed w.known

honest_message : (rt : Table) (from : ℕ) (m : Message) → IsHonestIfRequest rt from m → IsHonestIfReply rt from m → IsHonest rt from m
honest_message rt from (Pkt b d o) request reply = tt
honest_message rt from (Rreq m) request reply = request
honest_message rt from (Rrep m) request reply = reply
honest_message rt from (Rerr dests) request reply = tt

items_in : (mesh : Nodes) (nodes : List NodeSeen) (me : ℕ) (is : List items.Item) → IsMesh mesh → 1 ≤ length mesh → AllByRecursion (IsItemAt (length mesh) me) is → AllByRecursion (InItem (Holds claims.Written mesh nodes)) is
    → AllByRecursion (IsItemInMesh (length mesh) me) (map (item_in mesh) is)
items_in mesh nodes me [] is_mesh some at written = tt
items_in mesh nodes me (item.New dest body ∷ is) is_mesh some at written = (at.0, items_in mesh nodes me is is_mesh some at.1 written.1)
items_in mesh nodes me (item.Heard from bytes ∷ is) is_mesh some at written =
    ((at.0.0, at.0.1, written_in mesh bytes is_mesh some written.0), items_in mesh nodes me is is_mesh some at.1 written.1)

pub written_items : (mesh : Nodes) (nodes : List NodeSeen) (is : List items.Item) → AllByRecursion (InItem (Holds claims.Written mesh nodes)) is → AllByRecursion (IsWrittenItem mesh) is
written_items mesh nodes [] written = tt
written_items mesh nodes (item.New dest body ∷ is) written = (tt, written_items mesh nodes is written.1)
written_items mesh nodes (item.Heard from bytes ∷ is) written = (written.0, written_items mesh nodes is written.1)

honest_items : (mesh : Nodes) (nodes : List NodeSeen) (is : List items.Item) → AllByRecursion (InItem (Holds claims.Request mesh nodes)) is → AllByRecursion (InItem (Holds claims.Reply mesh nodes)) is
    → AllByRecursion (IsHonestItem (table nodes)) (map (item_in mesh) is)
honest_items mesh nodes [] requests replies = tt
honest_items mesh nodes (item.New dest body ∷ is) requests replies = (tt, honest_items mesh nodes is requests.1 replies.1)
honest_items mesh nodes (item.Heard from bytes ∷ is) requests replies =
    (honest_message (table nodes from) from (meaning mesh bytes) requests.0 replies.0, honest_items mesh nodes is requests.1 replies.1)

copies_in : (mesh : Nodes) (nodes : List NodeSeen) (fs : List Flying) → IsMesh mesh → 1 ≤ length mesh → AllByRecursion (IsBetween (length mesh)) fs → AllByRecursion (λ f. Holds claims.Written mesh nodes f.from f.bytes) fs
    → AllByRecursion (IsCopyInMesh (length mesh)) (map (copy_in mesh) fs)
copies_in mesh nodes [] is some between written = tt
copies_in mesh nodes (f ∷ fs) is some between written =
    ((between.0.0, between.0.1, between.0.2, written_in mesh f.bytes is some written.0), copies_in mesh nodes fs is some between.1 written.1)

honest_copies : (mesh : Nodes) (nodes : List NodeSeen) (fs : List Flying) → AllByRecursion (λ f. Holds claims.Request mesh nodes f.from f.bytes) fs → AllByRecursion (λ f. Holds claims.Reply mesh nodes f.from f.bytes) fs
    → AllByRecursion (IsHonestCopy (table nodes)) (map (copy_in mesh) fs)
honest_copies mesh nodes [] requests replies = tt
honest_copies mesh nodes (f ∷ fs) requests replies =
    (honest_message (table nodes f.from) f.from (meaning mesh f.bytes) requests.0 replies.0, honest_copies mesh nodes fs requests.1 replies.1)

numbered_in : (mesh : Nodes) (low : ℕ) (fs : List Flying) (next : ℕ) → AreNumbered low fs next → world_numbers.AreNumbered low (map (copy_in mesh) fs) next
numbered_in mesh low [] next are = are
numbered_in mesh low (f ∷ fs) next are = (are.0, numbered_in mesh (f.id + 1) fs next are.1)

-- ---- nodes

some_seen : (mesh : Nodes) (o : Option NodeSeen) (m : Node) → option_map (node_in mesh) o ≡ Some m → (n : NodeSeen) × (o ≡ Some n) × (node_in mesh n ≡ m)
some_seen mesh None m is = absurd (none-some m is)
some_seen mesh (Some n) m is = (n, refl, same_Some (node_in mesh n) m is)

node_seen : (mesh : Nodes) (nodes : List NodeSeen) (x : ℕ) (m : Node) → slice_get (map (node_in mesh) nodes) x ≡ Some m → (n : NodeSeen) × (slice_get nodes x ≡ Some n) × (node_in mesh n ≡ m)
node_seen mesh nodes x m is = some_seen mesh (slice_get nodes x) m (sym (slice_get-map (node_in mesh) nodes x) ∙ is)

all_backed : (nodes : List NodeSeen) (x : ℕ) (n : NodeSeen) → AreBacked nodes → slice_get nodes x ≡ Some n → AllBacked (table nodes) (n.core).rt
all_backed nodes x n backed at d e there =
    subst (λ (o : Option Entry). IfSome o (IsBacked (table nodes) d)) (ap (λ (o : Option NodeSeen). maps.get (table_in o) d) at ∙ there) (backed x d)

-- all that is known of the parts
pub record Given (mesh : Nodes) (v : Variant) (nodes : List NodeSeen) (radio : RadioState) : Type 0 where
  pub is_mesh : IsMesh mesh
  pub some : 1 ≤ length mesh
  pub are : AreNodesOf mesh v nodes
  pub each : AllByRecursion IsSoundNode nodes
  pub size : radio.size ≡ length mesh
  pub between : AllByRecursion (IsBetween radio.size) radio.flying
  pub numbered : AreNumbered 1 radio.flying radio.next_copy
  pub linked : AreLinksOf radio.size radio.links radio.ever
  pub parts : AreSoundParts mesh nodes radio.flying

sound_at : (mesh : Nodes) (v : Variant) (nodes : List NodeSeen) (radio : RadioState) (x : ℕ) (n : NodeSeen) → Given mesh v nodes radio → slice_get nodes x ≡ Some n → IsSoundCore (length mesh) n.core
sound_at mesh v nodes radio x n g at = subst (λ (k : ℕ). IsSoundCore k n.core) (g.are.each x n at).size (each_at IsSoundNode nodes x n g.each at).sound

safe_node : (mesh : Nodes) (v : Variant) (nodes : List NodeSeen) (radio : RadioState) (x : ℕ) (n : NodeSeen) → Given mesh v nodes radio → slice_get nodes x ≡ Some n → IsLoopSafeNode (table nodes) (node_in mesh n)
safe_node mesh v nodes radio x n g at =
    let core = sound_at mesh v nodes radio x n g at in
    record {
      numbers = record { own = core.own; entries = core.table.numbers };
      entries = all_backed nodes x n g.parts.backed at;
      queue = honest_items mesh nodes n.items
          (each_at (λ m. AllByRecursion (InItem (Holds claims.Request mesh nodes)) m.items) nodes x n g.parts.requests.waits at)
          (each_at (λ m. AllByRecursion (InItem (Holds claims.Reply mesh nodes)) m.items) nodes x n g.parts.replies.waits at);
    }

node_is_in_mesh : (mesh : Nodes) (v : Variant) (nodes : List NodeSeen) (radio : RadioState) (x : ℕ) (n : NodeSeen) → Given mesh v nodes radio → slice_get nodes x ≡ Some n → IsNodeInMesh (length mesh) x (node_in mesh n)
node_is_in_mesh mesh v nodes radio x n g at =
    let is = g.are.each x n at in
    let node = each_at IsSoundNode nodes x n g.each at in
    record {
      named = is.named;
      core = sound_at mesh v nodes radio x n g at;
      store = subst (λ (k : ℕ). IsStoreInMesh k (n.core).store) is.size node.store;
      queue = items_in mesh nodes x n.items g.is_mesh g.some
          (subst (λ (me : ℕ). AllByRecursion (IsItemAt (length mesh) me) n.items) is.named (subst (λ (k : ℕ). AllByRecursion (IsItemAt k (n.core).ip) n.items) is.size node.each))
          (each_at (λ m. AllByRecursion (InItem (Holds claims.Written mesh nodes)) m.items) nodes x n g.parts.written.waits at);
    }

-- ---- the world

size_in : (mesh : Nodes) (v : Variant) (nodes : List NodeSeen) (radio : RadioState) → Given mesh v nodes radio → length (world_in mesh nodes radio).nodes ≡ length mesh
unfolding world_in
size_in mesh v nodes radio g = length-map nodes (node_in mesh) ∙ g.are.count

loop_safe : (mesh : Nodes) (v : Variant) (nodes : List NodeSeen) (radio : RadioState) → Given mesh v nodes radio → IsLoopSafe (world_in mesh nodes radio)
unfolding world_in
loop_safe mesh v nodes radio g =
    let same = sym (tables_same mesh nodes radio) in
    record {
      nodes = λ x m is. let s = node_seen mesh nodes x m is in
          subst (IsLoopSafeNode (walks.table (world_in mesh nodes radio))) s.2 (subst (λ (t : ℕ → Table). IsLoopSafeNode t (node_in mesh s.0)) same (safe_node mesh v nodes radio x s.0 g s.1));
      flying = subst (λ (t : ℕ → Table). AllByRecursion (IsHonestCopy t) (map (copy_in mesh) radio.flying)) same (honest_copies mesh nodes radio.flying g.parts.requests.flies g.parts.replies.flies);
      named = λ x m is. let s = node_seen mesh nodes x m is in ap (λ (k : Node). (k.core).ip) (sym s.2) ∙ (g.are.each x s.0 s.1).named;
    }

world_is_in_mesh : (mesh : Nodes) (v : Variant) (nodes : List NodeSeen) (radio : RadioState) → Given mesh v nodes radio → IsInMesh (world_in mesh nodes radio)
unfolding world_in
world_is_in_mesh mesh v nodes radio g =
    let size : length mesh ≡ length (map (node_in mesh) nodes) = sym (size_in mesh v nodes radio g) in
    let linked : AreLinksOf (length mesh) radio.links radio.ever = subst (λ (k : ℕ). AreLinksOf k radio.links radio.ever) g.size g.linked in
    record {
      nodes = λ x m is. let s = node_seen mesh nodes x m is in
          subst (IsNodeInMesh (length (map (node_in mesh) nodes)) x) s.2 (subst (λ (k : ℕ). IsNodeInMesh k x (node_in mesh s.0)) size (node_is_in_mesh mesh v nodes radio x s.0 g s.1));
      flying = subst (λ (k : ℕ). AllByRecursion (IsCopyInMesh k) (map (copy_in mesh) radio.flying)) size
          (copies_in mesh nodes radio.flying g.is_mesh g.some (subst (λ (k : ℕ). AllByRecursion (IsBetween k) radio.flying) g.size g.between) g.parts.written.flies);
      numbered = numbered_in mesh 1 radio.flying radio.next_copy g.numbered;
      links = subst (λ (k : ℕ). AreLinks k radio.links) size linked.standing;
      ever = subst (λ (k : ℕ). AreLinks k radio.ever) size linked.earlier;
      stood = linked.stood;
    }

invariant : (mesh : Nodes) (v : Variant) (nodes : List NodeSeen) (radio : RadioState) → Given mesh v nodes radio → IsInvariant (world_in mesh nodes radio)
invariant mesh v nodes radio g = record { loop_safe = loop_safe mesh v nodes radio g; in_mesh = world_is_in_mesh mesh v nodes radio g }

sound_world : (mesh : Nodes) (v : Variant) (nodes : List NodeSeen) (radio : RadioState) (steps : ℕ) → Given mesh v nodes radio → data_of (world_in mesh nodes radio) < 2 ^ 60 → steps ≤ 2 ^ 45 → IsSoundWorld (seen_of mesh nodes radio steps)
sound_world mesh v nodes radio steps g few most =
    let safe = loop_safe mesh v nodes radio g in
    record {
      mesh = g.is_mesh;
      some = g.some;
      count = size_in mesh v nodes radio g;
      invariant = invariant mesh v nodes radio g;
      acyclic = λ d. no_cycle (world_in mesh nodes radio) d safe;
      better = λ d x y edge e apart there valid. better_along (world_in mesh nodes radio) d x y edge e safe apart there valid;
      few = omega arith;
      steps = omega arith;
    }

each_kept : (mesh : Nodes) (nodes ns : List NodeSeen) → AllByRecursion (λ n. AllByRecursion (InItem (Holds claims.Written mesh nodes)) n.items) ns → AllByRecursion (λ n. n.size ≡ length mesh) ns → AllByRecursion IsSoundNode ns → AllByRecursion (IsKeptNode mesh) ns
each_kept mesh nodes [] written sizes sound = tt
each_kept mesh nodes (n ∷ ns) written sizes sound =
    (record { items = written_items mesh nodes n.items written.0; size = sizes.0; sound = sound.0 }, each_kept mesh nodes ns written.1 sizes.1 sound.1)

-- each node is of a mesh of this size
all_sized : (size x : ℕ) (all ns : List NodeSeen) → ((k : ℕ) (n : NodeSeen) → slice_get ns k ≡ Some n → slice_get all (x + k) ≡ Some n) → ((k : ℕ) (n : NodeSeen) → slice_get all k ≡ Some n → n.size ≡ size) → AllByRecursion (λ n. n.size ≡ size) ns
all_sized size x all [] at sizes = tt
all_sized size x all (n ∷ ns) at sizes =
    (sizes (x + 0) n (at 0 n refl), all_sized size (x + 1) all ns (λ k m is. let e : x + suc k ≡ x + 1 + k = omega arith in ap (slice_get all) (sym e) ∙ at (suc k) m is) sizes)

sized : (size : ℕ) (nodes : List NodeSeen) → ((k : ℕ) (n : NodeSeen) → slice_get nodes k ≡ Some n → n.size ≡ size) → AllByRecursion (λ n. n.size ≡ size) nodes
sized size nodes sizes = all_sized size 0 nodes nodes (λ k n is. let e : 0 + k ≡ k = omega arith in ap (slice_get nodes) e ∙ is) sizes

pub are_of : (mesh : Nodes) (v : Variant) (nodes : List NodeSeen) → AreNodesOf mesh v nodes → AreOf mesh nodes
are_of mesh v nodes are = record { count = are.count; sizes = sized (length nodes) nodes (λ k n is. (are.each k n is).size ∙ sym are.count) }

pub restored : (mesh : Nodes) (v : Variant) (nodes : List NodeSeen) (radio : RadioState) (ready : Ready) (steps : ℕ) → Given mesh v nodes radio → data_of (world_in mesh nodes radio) < 2 ^ 60 → steps ≤ 2 ^ 45 → radio.next_copy ≤ 2 ^ 60 → IsReadyFor mesh nodes ready
    → IsKept mesh nodes radio ready steps
restored mesh v nodes radio ready steps g few most next sets = record {
  sound = sound_world mesh v nodes radio steps g few most;
  each = each_kept mesh nodes nodes g.parts.written.waits (sized (length mesh) nodes (λ k n is. (g.are.each k n is).size)) g.each;
  flying = g.parts.written.flies;
  size = g.size;
  numbers = omega arith;
  sets = sets;
}

-- the same with a copy of the mesh, and with the nodes as they were handed over
pub remade : (mesh copy : Nodes) (v : Variant) (seen nodes : List NodeSeen) (radio : RadioState) (ready : Ready) (steps : ℕ) → copy ≡ mesh → nodes ≡ seen → Given mesh v seen radio → data_of (world_in mesh seen radio) < 2 ^ 60 → steps ≤ 2 ^ 45 → radio.next_copy ≤ 2 ^ 60
    → IsReadyFor mesh seen ready → IsKept copy nodes radio ready steps
remade mesh copy v seen nodes radio ready steps same is g few most next sets =
    subst (λ (m : Nodes). IsKept m nodes radio ready steps) (sym same) (subst (λ (ns : List NodeSeen). IsKept mesh ns radio ready steps) (sym is) (restored mesh v seen radio ready steps g few most next sets))

pub remade_seen : (mesh copy : Nodes) (seen nodes : List NodeSeen) (radio : RadioState) (steps : ℕ) → copy ≡ mesh → nodes ≡ seen → seen_of copy nodes radio steps ≡ seen_of mesh seen radio steps
remade_seen mesh copy seen nodes radio steps same is = λ i. seen_of (same i) (is i) radio steps

-- where a part isn't in order, the parts aren't
pub not_sound : (mesh : Nodes) (nodes : List NodeSeen) (flying : List Flying) (p : Part) → IsFirstPart mesh nodes flying p → AreSoundParts mesh nodes flying → ⊥
not_sound mesh nodes flying (parts.Node x) is sound = is
not_sound mesh nodes flying parts.Item is sound = is sound.written
not_sound mesh nodes flying parts.Request is sound = is.1 sound.requests
not_sound mesh nodes flying parts.Reply is sound = is.2 sound.replies
not_sound mesh nodes flying (parts.Edge x d) is sound = is.3.fails (sound.backed x d)
