-- A walk meets no node twice, so it is no longer than there are nodes.
use Rattle.std.proofs.Common.{◌≡◌, ◌≢◌, ℕ, ◌<◌, ◌≤◌, ◌⊎◌, Bool, true, false, ◌||◌, List, [], ◌∷◌, length, eqb, refl, ap, sym, ◌∙◌, subst, arith, inl, inr}
use Rattle.std.specs.Prelude.{slice_get}
use Rattle.std.specs.List.{AllByRecursion, IsDistinct, list_any}
use Rattle.std.proofs.lemmas.Bool.{eqb-true}
use Rattle.std.proofs.lemmas.Option.{slice_get_within}
use Rattle.std.proofs.lemmas.Map.Steps.{length-le_from_distinct_below}
use Rattle.aodv_model.specs.declared.entry.Entry.{Entry}
use Rattle.mesh_model.proofs.Acyclic.{IsBetter, better_then, edge_better, node_in}
use Rattle.mesh_model.proofs.Lists.{each_map}
use Rattle.mesh_model.specs.Invariants.{IsLoopSafe, IsInvariant}
use Rattle.mesh_model.specs.InMesh.{IsInMesh}
use Rattle.mesh_model.specs.Walks.{Edge, IsWalk}
use Rattle.mesh_model.specs.Worlds.{World}

abbrev IsAsGood : Entry → Entry → Type 0
IsAsGood a b = (a ≡ b) ⊎ IsBetter a b

wrong : (a b : Entry) → IsBetter a b → IsAsGood b a → ⊥
wrong a b better (inl e) = let d = ap (λ (e : Entry). e.dsn) e in let h = ap (λ (e : Entry). e.hops) e in grind arith
wrong a b better (inr more) = grind arith

onward : (a b c : Entry) → IsBetter b a → IsAsGood a c → IsAsGood b c
onward a b c better (inl e) = inr (subst (IsBetter b) e better)
onward a b c better (inr good) = inr (better_then c a b good better)

-- a better edge does not lead back
not_back : (w : World) (d a b x y : ℕ) → IsLoopSafe w → (own : Edge w d a b) (first : Edge w d x y) → IsAsGood first.entry own.entry → a ≢ y
not_back w d a b x y inv own first good e =
    let to : Edge w d x a = record { apart = first.apart; entry = first.entry; there = first.there; valid = first.valid; next = first.next ∙ sym e } in
    wrong own.entry first.entry (edge_better w d x a b inv to own) good

-- a node with an edge is not met again on a walk from there on
not_again : (w : World) (d a b x y : ℕ) (ys : List ℕ) → IsLoopSafe w → (own : Edge w d a b) (first : Edge w d x y) → IsAsGood first.entry own.entry → IsWalk w d (y ∷ ys) → AllByRecursion (λ z. a ≢ z) (y ∷ ys)
not_again w d a b x y [] inv own first good walk = (not_back w d a b x y inv own first good, tt)
not_again w d a b x y (z ∷ zs) inv own first good walk = (
  not_back w d a b x y inv own first good,
  not_again w d a b y z zs inv own walk.0 (onward first.entry walk.0.entry own.entry (edge_better w d x y z inv first walk.0) good) walk.1,
)

pub apart : (a : ℕ) (zs : List ℕ) → AllByRecursion (λ z. a ≢ z) zs → AllByRecursion (λ z. eqb a z ≡ false) zs
apart a zs all = each_map (λ z. a ≢ z) (λ z. eqb a z ≡ false) (λ z differ. other (eqb a z) refl differ) zs all
  where
    other : {z : ℕ} (b : Bool) → eqb a z ≡ b → a ≢ z → b ≡ false
    other {z = z} true e differ = absurd (differ (eqb-true a z e))
    other false e differ = refl

distinct : (w : World) (d x : ℕ) (ys : List ℕ) → IsLoopSafe w → IsWalk w d (x ∷ ys) → IsDistinct eqb (x ∷ ys)
unfolding IsDistinct
distinct w d x [] inv walk = (tt, tt)
distinct w d x (y ∷ ys) inv walk = (apart x (y ∷ ys) (not_again w d x y x y ys inv walk.0 walk.0 (inl refl) walk.1), distinct w d y ys inv walk.1)

-- ---- each node of a walk is in the mesh

pub edge_within : (w : World) (d x y : ℕ) → IsInMesh w → Edge w d x y → (x < length w.nodes) × (y < length w.nodes)
edge_within w d x y in_mesh edge =
    let n = node_in w x d edge.entry (slice_get w.nodes x) refl edge.there in
    (slice_get_within w.nodes x n.0 n.1, subst (λ k. k < length w.nodes) edge.next ((in_mesh.nodes x n.0 n.1).core.table.in_mesh d edge.entry n.2).near)

pub either : (n q x : ℕ) (b c : Bool) → eqb q x ≡ b → x < n → (c ≡ true → q < n) → (b || c) ≡ true → q < n
either n q x true c e lx rest is = subst (λ k. k < n) (sym (eqb-true q x e)) lx
either n q x false c e lx rest is = rest is

within : (w : World) (d x : ℕ) (ys : List ℕ) → IsInMesh w → x < length w.nodes → IsWalk w d (x ∷ ys) → (q : ℕ) → list_any (eqb q) (x ∷ ys) ≡ true → q < length w.nodes
within w d x [] in_mesh lx walk q is = either (length w.nodes) q x (eqb q x) false refl lx (λ e. cc) is
within w d x (y ∷ ys) in_mesh lx walk q is =
    either (length w.nodes) q x (eqb q x) _ refl lx (within w d y ys in_mesh (edge_within w d x y in_mesh walk.0).1 walk.1 q) is

-- a walk is no longer than there are nodes
pub walk_short : (w : World) (d x : ℕ) (ys : List ℕ) → IsLoopSafe w → IsInMesh w → x < length w.nodes → IsWalk w d (x ∷ ys) → length (x ∷ ys) ≤ length w.nodes
walk_short w d x ys inv in_mesh lx walk =
    length-le_from_distinct_below (x ∷ ys) (length w.nodes) (distinct w d x ys inv walk) (within w d x ys in_mesh lx walk)

pub walk_is_short : (w : World) (d x : ℕ) (ys : List ℕ) → IsInvariant w → x < length w.nodes → IsWalk w d (x ∷ ys) → length (x ∷ ys) ≤ length w.nodes
walk_is_short w d x ys inv lx walk = walk_short w d x ys inv.loop_safe inv.in_mesh lx walk
