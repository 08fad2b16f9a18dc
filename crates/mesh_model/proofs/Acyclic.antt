-- The invariant leaves no cycle.
use Rattle.std.proofs.Common.{◌≡◌, ℕ, ◌-◌, ◌<◌, ◌≤◌, ◌⊎◌, List, [], ◌∷◌, Some, None, Option, refl, ap, sym, ◌∙◌, subst, arith, ◌≢◌, true}
use Rattle.std.specs.Prelude.{slice_get}
use Rattle.std.specs.List.{AllByRecursion}
use Rattle.std.specs.Ordering.{nat_cmp}
use Rattle.std.proofs.lemmas.Option.{none-some, same_Some}
use Rattle.std.proofs.lemmas.Bool.Decides.{nat_tests}
use Rattle.std.specs.FinMap as maps
use Rattle.aodv_model.specs.Quality.{is_better}
use Rattle.aodv_model.specs.declared.entry.Entry.{Entry}
use Rattle.aodv_model.specs.declared.entry.Flag.TheVariants.{Val}
use Rattle.aodv_model.specs.Soundness.{HasSoundNumber}
use Rattle.mesh_base.specs.declared.events.Variant.{Variant}
use Rattle.mesh_model.proofs.Steps.{run_kept, start_kept}
use Rattle.mesh_model.specs.Invariants.{AtLeast, IsLoopSafe, IsLoopSafeNode}
use Rattle.mesh_model.specs.Walks.{Cycle, Edge, IsWalk, last, rt_in, table}
use Rattle.mesh_model.specs.Worlds.{Event, Node, World, run, start}

abbrev pub IsBetter : Entry → Entry → Type 0
IsBetter a b = (b.dsn < a.dsn) ⊎ ((a.dsn ≡ b.dsn) × (a.hops < b.hops))

pub better_then : (a b c : Entry) → IsBetter b a → IsBetter c b → IsBetter c a
better_then a b c x y = grind arith

pub not_better : (a b : Entry) → a ≡ b → IsBetter b a → ⊥
not_better a b e x = let d = ap (λ (e : Entry). e.dsn) e in let h = ap (λ (e : Entry). e.hops) e in grind arith

pub node_in : (w : World) (x d : ℕ) (e : Entry) (o : Option Node) → slice_get w.nodes x ≡ o → maps.get (rt_in o) d ≡ Some e → (n : Node) × (slice_get w.nodes x ≡ Some n) × (maps.get (n.core).rt d ≡ Some e)
node_in w x d e None is there = absurd (none-some e (sym (maps.get-empty nat_cmp d) ∙ there))
node_in w x d e (Some n) is there = (n, is, there)

reached : (x y : Entry) (n h : ℕ) → (n < y.dsn) ⊎ ((y.dsn ≡ n) × (y.flag ≡ Val) × (y.hops ≤ h)) → n ≡ x.dsn → h ≡ x.hops - 1 → 1 ≤ x.hops → IsBetter y x
reached x y n h enough e f one = grind arith

-- along an edge to a node that has an edge, the entries get better
pub edge_better : (w : World) (d x y z : ℕ) → IsLoopSafe w → (first : Edge w d x y) (second : Edge w d y z) → IsBetter second.entry first.entry
edge_better w d x y z inv first second =
    let n = node_in w x d first.entry (slice_get w.nodes x) refl first.there in
    let good : IsLoopSafeNode (table w) n.0 = inv.nodes x n.0 n.1 in
    let sound : HasSoundNumber d first.entry = good.numbers.entries d first.entry n.2 in
    let at : AtLeast (table w first.entry.next) d first.entry.dsn (first.entry.hops - 1) = good.entries d first.entry n.2 first.valid (λ e. second.apart (sym first.next ∙ e)) in
    let same : at.entry ≡ second.entry = same_Some _ _ (sym at.there ∙ (ap (λ k. maps.get (table w k) d) first.next ∙ second.there)) in
    reached first.entry second.entry first.entry.dsn (first.entry.hops - 1) (subst (λ (e : Entry). (first.entry.dsn < e.dsn) ⊎ ((e.dsn ≡ first.entry.dsn) × (e.flag ≡ Val) × (e.hops ≤ first.entry.hops - 1))) same at.enough) refl refl sound.hops

-- a walk that ends where an edge begins: the entry there is better than the first one
walk_better : (w : World) (d x y : ℕ) (ys : List ℕ) (a b : ℕ) → IsLoopSafe w → (first : Edge w d x y) → IsWalk w d (y ∷ ys) → last y ys ≡ a → (end : Edge w d a b) → IsBetter end.entry first.entry
walk_better w d x y [] a b inv first walk is end =
    edge_better w d x a b inv (subst (λ k. Edge w d x k) is first) end
walk_better w d x y (z ∷ zs) a b inv first walk is end =
    better_then first.entry walk.0.entry end.entry (edge_better w d x y z inv first walk.0) (walk_better w d y z zs a b inv walk.0 walk.1 is end)

pub no_cycle : (w : World) (d : ℕ) → IsLoopSafe w → ¬ (Cycle w d)
no_cycle w d inv c = not_better c.walk.0.entry c.walk.0.entry refl (walk_better w d c.first c.second c.others c.first c.second inv c.walk.0 c.walk.1 c.closed c.walk.0)

pub loop_free : (variant : Variant) (firsts : List ℕ) (events : List Event) (d : ℕ) → AllByRecursion (λ n. 1 ≤ n) firsts → ¬ (Cycle (run (start variant firsts) events) d)
loop_free variant firsts events d all = no_cycle _ d (run_kept (start variant firsts) events (start_kept variant firsts all))

better_said : (a b : Entry) → a.flag ≡ Val → b.flag ≡ Val → IsBetter a b → is_better a b ≡ true
better_said a b v w better = grind (arith, nat_tests)

-- the next node's valid entry is the better one
pub better_along : (w : World) (d x y : ℕ) (edge : Edge w d x y) (e : Entry) → IsLoopSafe w → y ≢ d → maps.get (table w y) d ≡ Some e → e.flag ≡ Val → is_better e edge.entry ≡ true
better_along w d x y edge e inv apart there valid =
    let onward : Edge w d y e.next = record { apart = apart; entry = e; there = there; valid = valid; next = refl } in
    better_said e edge.entry valid edge.valid (edge_better w d x y e.next inv edge onward)
