-- The nodes of a walk are nodes of the mesh.
use Rattle.std.proofs.Common.{◌≡◌, ◌<◌, IfSome, Option, Some, None, ℕ, zero, suc, true, List, [], ◌∷◌, length, get_or, subst, sym, arith}
use Rattle.std.specs.Borrow.{Bor}
use Rattle.std.specs.List.{All}
use Rattle.std.proofs.lemmas.List.Elements.{All-from_get_or}
use Rattle.aodv_model.specs.Pairs.{Pairs}
use Rattle.mesh_model.specs.InMesh.{AreLinks}
use Rattle.mesh_model.specs.Trails.{HaveStood, IsHonestWalk}
use Rattle.mesh_model.specs.Worlds.{World, are_linked, pair}
use Rattle.mesh_trail.specs.Walks.{IsRouteWalk}

second_in : (size a b : ℕ) (ever : Pairs) → AreLinks size ever → are_linked ever a b ≡ true → b < size
second_in size a b ever links e = let p = links (pair a b) e in let most = p.1 in omega arith

-- from a node of the mesh on
stood_in : (size : ℕ) (ever : Pairs) (x : ℕ) (xs : List ℕ) → AreLinks size ever → x < size → HaveStood ever (x ∷ xs) → (i : ℕ) → i < length (x ∷ xs) → get_or (x ∷ xs) i 0 < size
stood_in size ever x xs links here stood zero lt = here
stood_in size ever x [] links here stood (suc i) lt = absurd (omega arith)
stood_in size ever x (y ∷ ys) links here stood (suc i) lt = stood_in size ever y ys links (second_in size x y ever links stood.0) stood.1 i (omega arith)

honest_in : (size : ℕ) (ever : Pairs) (x d h : ℕ) (walk : List ℕ) → AreLinks size ever → d < size → IsHonestWalk ever x d h walk → All (λ y. y < size) walk
honest_in size ever x d h [] links dest honest = absurd honest
honest_in size ever x d h (first ∷ others) links dest honest =
    All-from_get_or (λ y. y < size) (first ∷ others) 0 (stood_in size ever first others links (subst (λ y. y < size) (sym honest.0) dest) honest.3)

pub route_in : (size : ℕ) (w : World) (x d : ℕ) (walk : List ℕ) → AreLinks size w.ever → d < size → IsRouteWalk w x d walk → All (λ y. y < size) walk
route_in size w x d walk links dest is = honest_in size w.ever x d _ walk links dest is.honest

pub route_in_known : (size : ℕ) (w : World) (x d : ℕ) (o : Option (Bor (List ℕ))) → AreLinks size w.ever → d < size → IfSome o (λ walk. IsRouteWalk w x d walk.now) → IfSome o (λ walk. All (λ y. y < size) walk.now)
route_in_known size w x d None links dest is = tt
route_in_known size w x d (Some walk) links dest is = route_in size w x d walk.now links dest is
