-- How the nodes that were read grow by one.
use Rattle.std.proofs.Common.{◌≡◌, ℕ, zero, suc, ◌+◌, ◌-◌, ◌<◌, ◌≤◌, Bool, true, false, List, [], ◌∷◌, ◌++◌, length, map, Option, Some, None, Result, Ok, Err, refl, sym, ap, subst, ◌∙◌, append_assoc, arith}
use Rattle.std.specs.Prelude.{slice_get, option_map, unwrap_or}
use Rattle.std.specs.List.{AllByRecursion}
use Rattle.std.proofs.lemmas.List.{map_push, length_push, length-map}
use Rattle.std.proofs.lemmas.Option.{slice_get-map}
use Rattle.std.proofs.lemmas.Bool.{true≢false}
use Rattle.mesh_base.specs.declared.events.Variant.{Variant}
use Rattle.mesh_base.proofs.Lemmas.Lists.{still_at}
use Rattle.aodv_node.specs.declared.answers.Unfit.{Unfit}
use Rattle.aodv_node.specs.declared.answers.Unfit.TheVariants as unfits
use Rattle.aodv_node.specs.Seen.{NodeSeen}
use Rattle.aodv_node.specs.Restored.{HasSoundCore, HasItemsAt, IsRestored}
use Rattle.mesh_world.specs.declared.restored.Part.TheVariants as parts
use Rattle.mesh_checkpoint.specs.Formats.{get_times}
use Rattle.mesh_checkpoint.specs.Checkpoint as model
use Rattle.mesh_checkpoint.specs.Checkpoint.{Node}
use Rattle.mesh_checkpoint.specs.Seen.{listed_node}
use Rattle.mesh_restore.specs.Nodes.{IsNodeAt, ArePrecursorsBelow}
use Rattle.mesh_restore.specs.Reading.{Refuses}
use Rattle.mesh_restore.specs.declared.error.ReadError.{ReadError}
use Rattle.mesh_restore.specs.declared.error.ReadError.TheVariants.{Spelling, NoMemory}
use Rattle.mesh_restore.proofs.Listings.{all_push}
use Rattle.mesh_checkpoint.proofs.Loop.{IsReadInTurn, with_front, begins, one_more, is_read}
use Rattle.mesh_restore.proofs.Loop.{stops_early}
use Rattle.mesh_load.specs.declared.error.StateError.TheVariants as errors
use Rattle.mesh_load.specs.Errors.{after_reading}
use Rattle.mesh_load.specs.Nodes.{AllFrom, IsSoundNodeAt, AreNodesRead}
use Rattle.mesh_load.specs.Parts.{IsRefusalOf, IsUnsoundNode}
use Rattle.mesh_load.proofs.Listed.{precursors_below}
use Rattle.mesh_restore.proofs.CopyLists.{all_but_last, at_last}

all_from_push : (P : ℕ → NodeSeen → Type 0) (x y : ℕ) (ns : List NodeSeen) (n : NodeSeen) → AllFrom P x ns → y ≡ x + length ns → P y n → AllFrom P x (ns ++ n ∷ [])
all_from_push P x y [] n all at one = (let same : y ≡ x = omega (arith, at) in subst (λ (k : ℕ). P k n) same one, tt)
all_from_push P x y (m ∷ ms) n all at one = (all.0, all_from_push P (x + 1) y ms n all.1 (omega (arith, at)) one)

-- the node at an index
pub at_index : (P : ℕ → NodeSeen → Type 0) (x : ℕ) (ns : List NodeSeen) (i : ℕ) → AllFrom P x ns → i < length ns → (n : NodeSeen) × (slice_get ns i ≡ Some n) × P (x + i) n
at_index P x [] i all lt = absurd (omega arith)
at_index P x (m ∷ ms) zero all lt = (m, refl, let same : x ≡ x + 0 = omega arith in subst (λ (k : ℕ). P k m) same all.0)
at_index P x (m ∷ ms) (suc i) all lt =
    let later = at_index P (x + 1) ms i all.1 (omega (arith, lt)) in
    (later.0, later.1, let same : x + 1 + i ≡ x + suc i = omega arith in subst (λ (k : ℕ). P k later.0) same later.2)

middle : {X : Type 0} (xs ys : List X) (x : X) (i : ℕ) → i ≡ length xs → slice_get (xs ++ x ∷ ys) i ≡ Some x
middle [] ys x zero at = refl
middle [] ys x (suc i) at = absurd (omega (arith, at))
middle (z ∷ zs) ys x zero at = absurd (omega (arith, at))
middle (z ∷ zs) ys x (suc i) at = middle zs ys x i (omega (arith, at))

-- i nodes were read
pub record AreReadSoFar (variant : Variant) (size i : ℕ) (bytes : List ℕ) (nodes : List NodeSeen) (in_place : Bool) (rest : List ℕ) : Type 0 where
  pub parts : List NodeSeen
  pub so_far : IsReadInTurn (model.node size).get size i bytes (map listed_node parts) rest
  pub count : length parts ≡ i
  pub each : AllFrom (IsSoundNodeAt variant size) 0 parts
  pub kept : in_place ≡ true → (nodes ≡ parts) × AllByRecursion HasItemsAt parts
  pub misplaced : in_place ≡ false → ¬ (AllByRecursion HasItemsAt parts)

pub none_read : (variant : Variant) (size : ℕ) (bytes : List ℕ) (nodes : List NodeSeen) → nodes ≡ [] → AreReadSoFar variant size 0 bytes nodes true bytes
none_read variant size bytes nodes none = record {
  parts = [];
  so_far = begins (model.node size).get size bytes;
  count = refl;
  each = tt;
  kept = λ t. (none, tt);
  misplaced = λ f. absurd (true≢false f);
}

-- what is answered of the parts that were read
pub restored_ok : (parts : NodeSeen) (answer : Result NodeSeen Unfit) (node : NodeSeen) → answer ≡ Ok node → IsRestored parts answer → (node ≡ parts) × HasSoundCore parts × HasItemsAt parts
restored_ok parts answer node is restored = subst (λ (r : Result NodeSeen Unfit). IsRestored parts r) is restored

pub restored_core : (parts : NodeSeen) (answer : Result NodeSeen Unfit) (why : Unfit) → answer ≡ Err why → why ≡ unfits.Core → IsRestored parts answer → ¬ (HasSoundCore parts)
restored_core parts answer why is core restored = subst (λ (r : Result NodeSeen Unfit). IsRestored parts r) (is ∙ ap (λ (u : Unfit). Err u) core) restored

pub restored_item : (parts : NodeSeen) (answer : Result NodeSeen Unfit) (why : Unfit) → answer ≡ Err why → why ≡ unfits.Item → IsRestored parts answer → HasSoundCore parts × (¬ (HasItemsAt parts))
restored_item parts answer why is item restored = subst (λ (r : Result NodeSeen Unfit). IsRestored parts r) (is ∙ ap (λ (u : Unfit). Err u) item) restored

-- one node more, each of whose items is in place
pub one_kept : (variant : Variant) (size i : ℕ) (bytes : List ℕ) (nodes after : List NodeSeen) (in_place : Bool) (rest : List ℕ) (n : NodeSeen) (behind : List ℕ) → i < size → (model.node size).get rest ≡ Some (listed_node n, behind) → IsNodeAt variant i size n → HasSoundCore n → HasItemsAt n → after ≡ nodes ++ n ∷ []
    → AreReadSoFar variant size i bytes nodes in_place rest → AreReadSoFar variant size (i + 1) bytes after in_place behind
one_kept variant size i bytes nodes after in_place rest n behind lt read mine sound items pushed a = record {
  parts = a.parts ++ n ∷ [];
  so_far = rw (map_push listed_node a.parts n) (one_more (model.node size).get size i bytes (map listed_node a.parts) rest (listed_node n) behind lt read a.so_far);
  count = length_push a.parts n ∙ ap (λ (k : ℕ). k + 1) a.count;
  each = all_from_push (IsSoundNodeAt variant size) 0 i a.parts n a.each (omega (arith, a.count)) (mine, sound);
  kept = λ t. let k = a.kept t in (pushed ∙ ap (λ (ns : List NodeSeen). ns ++ n ∷ []) k.0, all_push HasItemsAt a.parts n k.1 items);
  misplaced = λ f all. a.misplaced f (all_but_last HasItemsAt a.parts n all);
}

-- one node more, with an item that isn't in place
pub one_misplaced : (variant : Variant) (size i : ℕ) (bytes : List ℕ) (nodes : List NodeSeen) (in_place : Bool) (rest : List ℕ) (n : NodeSeen) (behind : List ℕ) → i < size → (model.node size).get rest ≡ Some (listed_node n, behind) → IsNodeAt variant i size n → HasSoundCore n → ¬ (HasItemsAt n)
    → AreReadSoFar variant size i bytes nodes in_place rest → AreReadSoFar variant size (i + 1) bytes nodes false behind
one_misplaced variant size i bytes nodes in_place rest n behind lt read mine sound items a = record {
  parts = a.parts ++ n ∷ [];
  so_far = rw (map_push listed_node a.parts n) (one_more (model.node size).get size i bytes (map listed_node a.parts) rest (listed_node n) behind lt read a.so_far);
  count = length_push a.parts n ∙ ap (λ (k : ℕ). k + 1) a.count;
  each = all_from_push (IsSoundNodeAt variant size) 0 i a.parts n a.each (omega (arith, a.count)) (mine, sound);
  kept = λ t. absurd (true≢false (sym t));
  misplaced = λ f all. items (at_last HasItemsAt a.parts n all);
}

pub nodes_refused : (variant : Variant) (size i : ℕ) (bytes : List ℕ) (nodes : List NodeSeen) (in_place : Bool) (rest : List ℕ) (e : ReadError) → i < size → Refuses e ((model.node size).get rest) → AreReadSoFar variant size i bytes nodes in_place rest
    → IsRefusalOf (IsUnsoundNode variant size) (get_times (model.node size).get size bytes) (after_reading e)
nodes_refused variant size i bytes nodes in_place rest Spelling lt refused a = stops_early (model.node size).get size i bytes (map listed_node a.parts) rest Spelling lt refused a.so_far
nodes_refused variant size i bytes nodes in_place rest NoMemory lt refused a = tt

pub all_read : (variant : Variant) (size i : ℕ) (bytes : List ℕ) (nodes : List NodeSeen) (in_place : Bool) (rest : List ℕ) → size ≤ i → AreReadSoFar variant size i bytes nodes in_place rest → AreNodesRead variant size (get_times (model.node size).get size bytes) nodes in_place rest
all_read variant size i bytes nodes in_place rest le a = record {
  lists = map listed_node a.parts;
  parts = a.parts;
  read_is = is_read (model.node size).get size i bytes (map listed_node a.parts) rest le a.so_far;
  listed_are = record { lists_are = refl; each = a.each };
  kept = a.kept;
  misplaced = a.misplaced;
}

found : (front : List Node) (l : Node) (lists : List Node) (end : List ℕ) (o : Option (List Node × List ℕ)) → with_front (front ++ l ∷ []) o ≡ Some (lists, end) → (more : List Node) × (lists ≡ front ++ l ∷ more)
found front l lists end None e = absurd cc
found front l lists end (Some x) e = (x.0, sym (ap (λ (o : Option (List Node × List ℕ)). (unwrap_or o ([], [])).0) e) ∙ simp append_assoc)

-- what is read begins with what was read, and then with the next
begins_so : (size i : ℕ) (bytes : List ℕ) (front : List Node) (rest : List ℕ) (l : Node) (behind : List ℕ) (lists : List Node) (end : List ℕ) → i < size → (model.node size).get rest ≡ Some (l, behind) → IsReadInTurn (model.node size).get size i bytes front rest → get_times (model.node size).get size bytes ≡ Some (lists, end)
    → (more : List Node) × (lists ≡ front ++ l ∷ more)
begins_so size i bytes front rest l behind lists end lt read so_far whole =
    let next = one_more (model.node size).get size i bytes front rest l behind lt read so_far in
    found front l lists end (get_times (model.node size).get (size - (i + 1)) behind) (next ∙ whole)

pub least_unsound : (variant : Variant) (size i : ℕ) (bytes : List ℕ) (nodes : List NodeSeen) (in_place : Bool) (rest : List ℕ) (n : NodeSeen) (behind : List ℕ) → i < size → (model.node size).get rest ≡ Some (listed_node n, behind) → IsNodeAt variant i size n → ArePrecursorsBelow size (n.core).rt → ¬ (HasSoundCore n)
    → AreReadSoFar variant size i bytes nodes in_place rest → IsRefusalOf (IsUnsoundNode variant size) (get_times (model.node size).get size bytes) (errors.Unsound (parts.Node i))
least_unsound variant size i bytes nodes in_place rest n behind lt read mine below unsound a lists end whole =
    let so = begins_so size i bytes (map listed_node a.parts) rest (listed_node n) behind lists end lt read a.so_far whole in
    let count : length (map listed_node a.parts) ≡ i = length-map a.parts listed_node ∙ a.count in
    let here : slice_get lists i ≡ Some (listed_node n) = ap (λ (ls : List Node). slice_get ls i) so.1 ∙ middle (map listed_node a.parts) so.0 (listed_node n) i (sym count) in (
      (n, record { mine = mine; below = below; listed_is = here }, unsound),
      λ y before.
          let at = at_index (IsSoundNodeAt variant size) 0 a.parts y a.each (omega (arith, before, a.count)) in
          let same : 0 + y ≡ y = omega arith in
          let p : IsSoundNodeAt variant size y at.0 = subst (λ (k : ℕ). IsSoundNodeAt variant size k at.0) same at.2 in
          let there : slice_get lists y ≡ Some (listed_node at.0) =
          ap (λ (ls : List Node). slice_get ls y) so.1 ∙ still_at (map listed_node a.parts) (listed_node n ∷ so.0) y (listed_node at.0) (slice_get-map listed_node a.parts y ∙ ap (option_map listed_node) at.1) in
          (at.0, record { mine = p.0; below = precursors_below at.0 size (p.0).size_is p.1; listed_is = there }, p.1),
    )
