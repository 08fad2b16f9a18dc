-- What packets say, and what is at the front of a queue.
use Rattle.std.proofs.Common.{◌≡◌, ℕ, ◌<◌, List, [], ◌∷◌, map, Some, None, refl, sym, ap, subst, ◌∙◌}
use Rattle.std.specs.Prelude.{slice_get}
use Rattle.std.specs.List.{AllByRecursion}
use Rattle.std.proofs.lemmas.Option.{none-some, same_Some}
use Rattle.mesh_base.specs.Meshes.{Nodes}
use Rattle.mesh_base.specs.declared.events.Item as items
use Rattle.mesh_base.specs.declared.events.Item.TheVariants as item
use Rattle.aodv_wire.specs.declared.message.Message as wire
use Rattle.aodv_wire.specs.Encodes.{Encodes, refusal}
use Rattle.aodv_meaning.specs.Meaning.{in_mesh, meaning}
use Rattle.aodv_meaning.specs.Effects.{item_in}
use Rattle.aodv_model.specs.Soundness.{IsItemInMesh}
use Rattle.aodv_node.specs.Seen.{NodeSeen}
use Rattle.mesh_model.specs.Worlds.{Node}
use Rattle.mesh_meaning.specs.Packets.{IsWrittenItem}
use Rattle.mesh_world.specs.Seen.{node_in}
use Rattle.mesh_trail.specs.Said.{said_of}
use Rattle.mesh_trail.specs.Heard.{front_in, front_of}

pub says_as : (mesh : Nodes) (bytes : List ℕ) (msg m : wire.Message) → Encodes bytes msg → msg ≡ m → said_of (meaning mesh bytes) ≡ said_of (in_mesh mesh m)
unfolding meaning
says_as mesh bytes msg m s is = ap (λ (x : wire.Message). said_of (in_mesh mesh x)) (s.stands ∙ is)

first_in : (mesh : Nodes) (xs : List items.Item) (i : items.Item) → Some i ≡ slice_get xs 0 → front_in (map (item_in mesh) xs) ≡ front_in (item_in mesh i ∷ [])
first_in mesh [] i is = absurd (none-some i (sym is))
first_in mesh (x ∷ xs) i is = let same : i ≡ x = same_Some i x is in rest same
  where
    alone : (x : items.Item) → front_in (item_in mesh x ∷ map (item_in mesh) xs) ≡ front_in (item_in mesh x ∷ [])
    alone (item.New dest body) = refl
    alone (item.Heard from bytes) = refl

    rest : i ≡ x → front_in (item_in mesh x ∷ map (item_in mesh) xs) ≡ front_in (item_in mesh i ∷ [])
    rest same = alone x ∙ ap (λ (j : items.Item). front_in (item_in mesh j ∷ [])) (sym same)

pub front_is : (mesh : Nodes) (nodes : List Node) (x : ℕ) (n : NodeSeen) (xs : List items.Item) (i j : items.Item) → slice_get nodes x ≡ Some (node_in mesh n) → xs ≡ n.items → Some i ≡ slice_get xs 0 → i ≡ j
    → front_of (slice_get nodes x) ≡ front_in (item_in mesh j ∷ [])
front_is mesh nodes x n xs i j at same is form =
    ap front_of at ∙ first_in mesh n.items i (is ∙ ap (λ (ys : List items.Item). slice_get ys 0) same) ∙ ap (λ (k : items.Item). front_in (item_in mesh k ∷ [])) form

pub first_written : (mesh : Nodes) (n : NodeSeen) (xs : List items.Item) (i : items.Item) (from : ℕ) (bytes : List ℕ) → AllByRecursion (IsWrittenItem mesh) n.items → xs ≡ n.items → Some i ≡ slice_get xs 0 → i ≡ item.Heard from bytes → refusal bytes ≡ None
first_written mesh n xs i from bytes all same is form = by n.items all (is ∙ ap (λ (ys : List items.Item). slice_get ys 0) same)
  where
    by : (ys : List items.Item) → AllByRecursion (IsWrittenItem mesh) ys → Some i ≡ slice_get ys 0 → refusal bytes ≡ None
    by [] all is = absurd (none-some i (sym is))
    by (y ∷ ys) all is = let w = subst (IsWrittenItem mesh) (sym (same_Some i y is) ∙ form) all.0 in w.encodes.allowed

pub first_near : (mesh : Nodes) (size x : ℕ) (n : NodeSeen) (xs : List items.Item) (i : items.Item) (from : ℕ) (bytes : List ℕ) → AllByRecursion (IsItemInMesh size x) (map (item_in mesh) n.items) → xs ≡ n.items → Some i ≡ slice_get xs 0 → i ≡ item.Heard from bytes → from < size
first_near mesh size x n xs i from bytes all same is form = by n.items all (is ∙ ap (λ (ys : List items.Item). slice_get ys 0) same)
  where
    by : (ys : List items.Item) → AllByRecursion (IsItemInMesh size x) (map (item_in mesh) ys) → Some i ≡ slice_get ys 0 → from < size
    by [] all is = absurd (none-some i (sym is))
    by (y ∷ ys) all is = let w = subst (λ (j : items.Item). IsItemInMesh size x (item_in mesh j)) (sym (same_Some i y is) ∙ form) all.0 in w.0
