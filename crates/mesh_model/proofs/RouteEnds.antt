-- Whoever goes from valid next hop to next hop comes to the end of the route.
use Rattle.std.proofs.Common.{◌≡◌, ◌≢◌, ℕ, zero, suc, ◌+◌, ◌<◌, ◌≤◌, Bool, true, false, ◌==◌, List, [], ◌∷◌, ◌++◌, length, Some, None, Option, refl, ap, sym, ◌∙◌, subst, arith, eq-eqb}
use Rattle.std.specs.Prelude.{if◌then◌else◌}
use Rattle.std.proofs.lemmas.Bool.{eqb-true, eqb-false, ne_eqb}
use Rattle.std.proofs.lemmas.Option.{none-some, same_Some}
use Rattle.std.proofs.lemmas.List.{length_push}
use Rattle.std.specs.FinMap as maps
use Rattle.aodv_model.specs.declared.entry.Entry.{Entry}
use Rattle.aodv_model.specs.declared.entry.Flag.{Flag}
use Rattle.aodv_model.specs.declared.entry.Flag.TheVariants.{Val, Inv}
use Rattle.mesh_model.specs.Worlds.{World}
use Rattle.mesh_model.specs.Walks.{table, Edge, IsWalk, last}
use Rattle.mesh_model.specs.Invariants.{IsInvariant}
use Rattle.mesh_model.specs.Routes.{End, Arrived, Stuck, next_by, next_in, next_hop, end_at, end_from, route_end, Leads, IsRouteEnd}
use Rattle.mesh_model.proofs.Short.{walk_is_short, edge_within}

-- ---- a walk with one edge more

walk_on : (w : World) (d x : ℕ) (ys : List ℕ) (z : ℕ) → IsWalk w d (x ∷ ys) → Edge w d (last x ys) z → IsWalk w d (x ∷ (ys ++ z ∷ []))
walk_on w d x [] z walk edge = (edge, tt)
walk_on w d x (y ∷ ys) z walk edge = (walk.0, walk_on w d y ys z walk.1 edge)

last_on : (x : ℕ) (ys : List ℕ) (z : ℕ) → last x (ys ++ z ∷ []) ≡ z
last_on x [] z = refl
last_on x (y ∷ ys) z = last_on y ys z

last_within : (w : World) (d x : ℕ) (ys : List ℕ) → IsInvariant w → x < length w.nodes → IsWalk w d (x ∷ ys) → last x ys < length w.nodes
last_within w d x [] inv l walk = l
last_within w d x (y ∷ ys) inv l walk = last_within w d y ys inv (edge_within w d x y inv.in_mesh walk.0).1 walk.1

-- ---- edges are next hops

edge_of : (w : World) (d x y : ℕ) (o : Option Entry) → x ≢ d → maps.get (table w x) d ≡ o → next_in o ≡ Some y → Edge w d x y
edge_of w d x y None apart there is = absurd (none-some y is)
edge_of w d x y (Some e) apart there is = by_flag e.flag refl is
  where
    by_flag : (f : Flag) → e.flag ≡ f → next_by f e.next ≡ Some y → Edge w d x y
    by_flag Val valid next = record { apart = apart; entry = e; there = there; valid = valid; next = same_Some e.next y next }
    by_flag Inv valid next = absurd (none-some y next)

no_edge : (w : World) (d x : ℕ) → next_hop w x d ≡ None → (y : ℕ) → ¬ (Edge w d x y)
no_edge w d x none y edge = none-some edge.entry.next (sym none ∙ (ap next_in edge.there ∙ ap (λ f. next_by f edge.entry.next) edge.valid))

-- ---- on the way

-- on the way from x to d: y was come to by a walk of so many edges, and the end of the route is that from y on
pub record IsOn (w : World) (x d y hops : ℕ) : Type 0 where
  pub others : List ℕ
  pub walk : IsWalk w d (x ∷ others)
  pub ends : last x others ≡ y
  pub long : length others ≡ hops
  pub most : ℕ
  pub left : most + hops ≡ length w.nodes
  pub same : route_end w x d ≡ end_from most w d y hops

pub on_start : (w : World) (x d : ℕ) → IsOn w x d x 0
unfolding route_end
on_start w x d = record { others = []; walk = tt; ends = refl; long = refl; most = length w.nodes; left = omega arith; same = refl }

-- there are fewer hops than nodes
pub on_short : (w : World) (x d y hops : ℕ) → IsInvariant w → x < length w.nodes → IsOn w x d y hops → hops + 1 ≤ length w.nodes
on_short w x d y hops inv l on =
    let short : length (x ∷ on.others) ≤ length w.nodes = walk_is_short w d x on.others inv l on.walk in
    let long : length on.others ≡ hops = on.long in
    omega arith

pub on_below : (w : World) (x d y hops : ℕ) → IsInvariant w → x < length w.nodes → IsOn w x d y hops → y < length w.nodes
on_below w x d y hops inv l on = subst (λ k. k < length w.nodes) on.ends (last_within w d x on.others inv l on.walk)

leads_of : (w : World) (x d y hops : ℕ) → IsInvariant w → x < length w.nodes → IsOn w x d y hops → Leads w d x y hops
leads_of w x d y hops inv l on = record { others = on.others; walk = on.walk; ends = on.ends; long = on.long; short = on_short w x d y hops inv l on }

-- there is an end, and it is this one
pub record Ends (w : World) (x d : ℕ) (end : End) : Type 0 where
  pub same : end ≡ route_end w x d
  pub is : IsRouteEnd w x d end

one_more : (most : ℕ) (w : World) (d y hops : ℕ) → 1 ≤ most → (k : ℕ) × (most ≡ suc k)
one_more zero w d y hops some = absurd (omega arith)
one_more (suc k) w d y hops some = (k, refl)

pub on_arrived : (w : World) (x d hops : ℕ) → IsInvariant w → x < length w.nodes → IsOn w x d d hops → Ends w x d (Arrived hops)
on_arrived w x d hops inv l on =
    let short : hops + 1 ≤ length w.nodes = on_short w x d d hops inv l on in
    let left : on.most + hops ≡ length w.nodes = on.left in
    let more : (k : ℕ) × (on.most ≡ suc k) = one_more on.most w d d hops (omega arith) in
    record {
      same = sym (on.same ∙ (ap (λ m. end_from m w d d hops) more.1 ∙ ap (λ b. if b then Arrived hops else end_at d hops (next_hop w d d) (λ y. end_from more.0 w d y (hops + 1))) (eq-eqb d d refl)));
      is = leads_of w x d d hops inv l on;
    }

-- past a node that isn't d
past : (w : World) (x d y hops : ℕ) → IsInvariant w → x < length w.nodes → y ≢ d → (on : IsOn w x d y hops) → (k : ℕ) × ((k + 1) + hops ≡ length w.nodes) × (route_end w x d ≡ end_at y hops (next_hop w y d) (λ z. end_from k w d z (hops + 1)))
past w x d y hops inv l apart on =
    let short : hops + 1 ≤ length w.nodes = on_short w x d y hops inv l on in
    let left : on.most + hops ≡ length w.nodes = on.left in
    let more : (k : ℕ) × (on.most ≡ suc k) = one_more on.most w d y hops (omega arith) in
    let is : on.most ≡ suc more.0 = more.1 in
    (more.0, omega arith, on.same ∙ (ap (λ m. end_from m w d y hops) is ∙ ap (λ b. if b then Arrived hops else end_at y hops (next_hop w y d) (λ z. end_from more.0 w d z (hops + 1))) (ne_eqb y d apart)))

pub on_stuck : (w : World) (x d y hops : ℕ) → IsInvariant w → x < length w.nodes → y ≢ d → next_hop w y d ≡ None → IsOn w x d y hops → Ends w x d (Stuck y hops)
on_stuck w x d y hops inv l apart none on =
    let p = past w x d y hops inv l apart on in
    record {
      same = sym (p.2 ∙ ap (λ o. end_at y hops o (λ z. end_from p.0 w d z (hops + 1))) none);
      is = (leads_of w x d y hops inv l on, apart, no_edge w d y none);
    }

pub on_next : (w : World) (x d y z hops : ℕ) → IsInvariant w → x < length w.nodes → y ≢ d → next_hop w y d ≡ Some z → IsOn w x d y hops → IsOn w x d z (hops + 1)
on_next w x d y z hops inv l apart some on =
    let p = past w x d y hops inv l apart on in
    let left : (p.0 + 1) + hops ≡ length w.nodes = p.1 in
    let edge : Edge w d y z = edge_of w d y z (maps.get (table w y) d) apart refl some in
    record {
      others = on.others ++ z ∷ [];
      walk = walk_on w d x on.others z on.walk (subst (λ k. Edge w d k z) (sym on.ends) edge);
      ends = last_on x on.others z;
      long = length_push on.others z ∙ ap (λ k. k + 1) on.long;
      most = p.0;
      left = omega arith;
      same = p.2 ∙ ap (λ o. end_at y hops o (λ z. end_from p.0 w d z (hops + 1))) some;
    }

-- ---- the law

-- the end of what is left of the way, where the end past the next hop is found
end_past : (w : World) (x d y hops : ℕ) → IsInvariant w → x < length w.nodes → IsOn w x d y hops → ((z : ℕ) → IsOn w x d z (hops + 1) → (end : End) × Ends w x d end) → (end : End) × Ends w x d end
end_past w x d y hops inv l on deeper = at (y == d) refl
  where
    by_next : y ≢ d → (o : Option ℕ) → next_hop w y d ≡ o → (end : End) × Ends w x d end
    by_next apart None none = (Stuck y hops, on_stuck w x d y hops inv l apart none on)
    by_next apart (Some z) some = deeper z (on_next w x d y z hops inv l apart some on)

    at : (b : Bool) → (y == d) ≡ b → (end : End) × Ends w x d end
    at true e = (Arrived hops, on_arrived w x d hops inv l (subst (λ k. IsOn w x d k hops) (eqb-true y d e) on))
    at false e = by_next (eqb-false y d e) (next_hop w y d) refl

end_found : (fuel : ℕ) (w : World) (x d y hops : ℕ) → IsInvariant w → x < length w.nodes → fuel + hops ≡ length w.nodes → IsOn w x d y hops → (end : End) × Ends w x d end
end_found zero w x d y hops inv l all on = absurd (let short : hops + 1 ≤ length w.nodes = on_short w x d y hops inv l on in omega arith)
end_found (suc fuel) w x d y hops inv l all on = end_past w x d y hops inv l on (λ z next. end_found fuel w x d z (hops + 1) inv l (omega arith) next)

pub route_ends : (w : World) (x d : ℕ) → IsInvariant w → x < length w.nodes → IsRouteEnd w x d (route_end w x d)
route_ends w x d inv l =
    let found : (end : End) × Ends w x d end = end_found (length w.nodes) w x d x 0 inv l (omega arith) (on_start w x d) in
    subst (IsRouteEnd w x d) found.1.same found.1.is
