-- What is read of a world.
use Rattle.std.proofs.Common.{◌≡◌, ℕ, ◌<◌, ◌≤◌, ◌+◌, ◌^◌, List, [], ◌∷◌, length, map, Some, refl, ap, sym, subst, ◌∙◌, arith}
use Rattle.std.specs.Prelude.{slice_get, slice_index_or}
use Rattle.std.specs.List.{AllByRecursion}
use Rattle.mesh_base.specs.Meshes.{Nodes}
use Rattle.aodv_node.specs.Seen.{NodeSeen}
use Rattle.mesh_model.specs.Accounts.{waiting, queued_data, in_flight}
use Rattle.mesh_radio.specs.Radios.{RadioState}
use Rattle.mesh_meaning.specs.Packets.{IsWrittenItem, copy_in}
use Rattle.mesh_world.specs.Seen.{WorldSeen, node_in}
use Rattle.mesh_model.specs.Accounts.{any}
use Rattle.mesh_world.specs.Kept.{Ready, IsKept, IsKeptNode, world_in, seen_of}
use Rattle.mesh_world.specs.Noted.{AreReadyIn}
use Rattle.mesh_world.specs.Ends.{AreOfWorld}
use Rattle.mesh_world.specs.Counted.{AreCounted}
use Rattle.mesh_world.proofs.Frames.{count_of, node_at, shown_at, size_at}
use Rattle.mesh_world.proofs.Acts.{kept_node}

pub ready_in : (mesh : Nodes) (nodes : List NodeSeen) (radio : RadioState) (ready : Ready) (steps : ℕ) → IsKept mesh nodes radio ready steps → AreReadyIn mesh nodes ready
ready_in mesh nodes radio ready steps k = record { count = count_of mesh nodes radio ready steps k; sets = k.sets }

each_by : {A : Type 0} (P Q : A → Type 0) (xs : List A) → ((x : A) → P x → Q x) → AllByRecursion P xs → AllByRecursion Q xs
each_by P Q [] h all = tt
each_by P Q (x ∷ xs) h all = (h x all.0, each_by P Q xs h all.1)

sizes : (mesh : Nodes) (nodes : List NodeSeen) (radio : RadioState) (ready : Ready) (steps : ℕ) → IsKept mesh nodes radio ready steps → AllByRecursion (λ n. n.size ≡ length nodes) nodes
sizes mesh nodes radio ready steps k = each_by (IsKeptNode mesh) (λ n. n.size ≡ length nodes) nodes (λ n h. h.size ∙ sym (count_of mesh nodes radio ready steps k)) k.each

pub of_world : (mesh : Nodes) (nodes : List NodeSeen) (radio : RadioState) (ready : Ready) (steps : ℕ) → IsKept mesh nodes radio ready steps → AreOfWorld nodes
of_world mesh nodes radio ready steps k = record { mesh = mesh; radio = radio; invariant = (k.sound).invariant; sizes = sizes mesh nodes radio ready steps k }

pub counted : (mesh : Nodes) (nodes : List NodeSeen) (radio : RadioState) (ready : Ready) (steps : ℕ) → IsKept mesh nodes radio ready steps → AreCounted mesh nodes radio
counted mesh nodes radio ready steps k = record {
  items = each_by (IsKeptNode mesh) (λ n. AllByRecursion (IsWrittenItem mesh) n.items) nodes (λ n h. h.items) k.each;
  sizes = sizes mesh nodes radio ready steps k;
  flying = k.flying;
  few = few (waiting any (world_in mesh nodes radio)) (queued_data any (world_in mesh nodes radio)) (in_flight any (world_in mesh nodes radio)) steps (k.sound).few (k.sound).steps;
}
  where
    few : (a b c steps : ℕ) → a + b + c ≤ 2 ^ 60 + steps → steps ≤ 2 ^ 48 → a + b + c < 2 ^ 64
    few a b c steps le most = omega arith

-- a node of the world that is seen
pub below_count : (mesh : Nodes) (nodes : List NodeSeen) (radio : RadioState) (ready : Ready) (steps x : ℕ) (w : WorldSeen) → seen_of mesh nodes radio steps ≡ w → IsKept mesh nodes radio ready steps → x < length w.mesh → x < length nodes
below_count mesh nodes radio ready steps x w view k l =
    let c = count_of mesh nodes radio ready steps k in
    let here : x < length mesh = subst (λ (v : WorldSeen). x < length v.mesh) (sym view) l in
    omega arith

pub node_seen : (mesh : Nodes) (nodes : List NodeSeen) (radio : RadioState) (ready : Ready) (steps x : ℕ) (w : WorldSeen) (n : NodeSeen) → seen_of mesh nodes radio steps ≡ w → IsKept mesh nodes radio ready steps → x < length w.mesh → n ≡ slice_index_or nodes x n
    → slice_get (w.world).nodes x ≡ Some (node_in w.mesh n)
node_seen mesh nodes radio ready steps x w n view k l is =
    subst (λ (v : WorldSeen). slice_get (v.world).nodes x ≡ Some (node_in v.mesh n)) view
    (shown_at mesh nodes radio x n (node_at mesh nodes radio ready steps x n k (subst (λ (v : WorldSeen). x < length v.mesh) (sym view) l) is))

pub written_seen : (mesh : Nodes) (nodes : List NodeSeen) (radio : RadioState) (ready : Ready) (steps x : ℕ) (w : WorldSeen) (n : NodeSeen) → seen_of mesh nodes radio steps ≡ w → IsKept mesh nodes radio ready steps → x < length w.mesh → n ≡ slice_index_or nodes x n
    → AllByRecursion (IsWrittenItem w.mesh) n.items
written_seen mesh nodes radio ready steps x w n view k l is =
    subst (λ (v : WorldSeen). AllByRecursion (IsWrittenItem v.mesh) n.items) view
    (kept_node mesh nodes radio ready steps x n k (node_at mesh nodes radio ready steps x n k (subst (λ (v : WorldSeen). x < length v.mesh) (sym view) l) is)).items

pub size_seen : (mesh : Nodes) (nodes : List NodeSeen) (radio : RadioState) (ready : Ready) (steps x : ℕ) (w : WorldSeen) (n : NodeSeen) → seen_of mesh nodes radio steps ≡ w → IsKept mesh nodes radio ready steps → x < length w.mesh → n ≡ slice_index_or nodes x n
    → n.size ≡ length w.mesh
size_seen mesh nodes radio ready steps x w n view k l is =
    sym (size_at mesh nodes radio ready steps x n k (subst (λ (v : WorldSeen). x < length v.mesh) (sym view) l) is) ∙ ap (λ (v : WorldSeen). length v.mesh) view

pub count_seen : (mesh : Nodes) (nodes : List NodeSeen) (radio : RadioState) (ready : Ready) (steps : ℕ) (w : WorldSeen) → seen_of mesh nodes radio steps ≡ w → IsKept mesh nodes radio ready steps → length nodes ≡ length w.mesh
count_seen mesh nodes radio ready steps w view k = count_of mesh nodes radio ready steps k ∙ ap (λ (v : WorldSeen). length v.mesh) view

pub radio_seen : (mesh : Nodes) (nodes : List NodeSeen) (radio : RadioState) (steps : ℕ) (w : WorldSeen) → seen_of mesh nodes radio steps ≡ w
    → (map (copy_in w.mesh) radio.flying ≡ (w.world).flying) × ((radio.links ≡ (w.world).links) × (radio.ever ≡ (w.world).ever)) × (radio.next_copy ≡ (w.world).next_copy)
unfolding world_in
radio_seen mesh nodes radio steps w view =
    subst (λ (v : WorldSeen). (map (copy_in v.mesh) radio.flying ≡ (v.world).flying) × ((radio.links ≡ (v.world).links) × (radio.ever ≡ (v.world).ever)) × (radio.next_copy ≡ (v.world).next_copy)) view (refl, (refl, refl), refl)
