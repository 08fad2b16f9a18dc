-- Every valid entry of every run has an honest walk, so it has no more hops than there are nodes.
use Rattle.std.proofs.Common.{◌≡◌, ℕ, zero, suc, ◌+◌, ◌<◌, ◌≤◌, true, false, List, [], ◌∷◌, length, eqb, Some, refl, sym, ◌∙◌, subst, arith, ◌≢◌}
use Rattle.std.specs.Prelude.{slice_get, min, max, reverse}
use Rattle.std.specs.List.{AllByRecursion, IsDistinct, list_any}
use Rattle.std.specs.Ordering.{nat_cmp}
use Rattle.std.proofs.lemmas.Option.{none-some, same_Some, slice_get_within}
use Rattle.std.proofs.lemmas.Map.Steps.{length-le_from_distinct_below}
use Rattle.std.specs.FinMap as maps
use Rattle.std.specs.FinSet as sets
use Rattle.aodv_model.specs.declared.entry.Entry.{Entry}
use Rattle.aodv_model.specs.declared.entry.Flag.TheVariants.{Val}
use Rattle.aodv_model.specs.Pairs.{Pairs, pair_cmp}
use Rattle.mesh_base.specs.declared.events.Variant.{Variant}
use Rattle.mesh_model.proofs.Acyclic.{node_in}
use Rattle.mesh_model.proofs.Lists.{each_map}
use Rattle.mesh_model.proofs.Listed.{entry_listed, has_walks}
use Rattle.mesh_model.proofs.Short.{apart, either}
use Rattle.mesh_model.proofs.Steps.{start_kept, step_kept}
use Rattle.mesh_model.proofs.TrailSteps.{step_trails}
use Rattle.mesh_model.specs.Invariants.{AtLeast, IsLoopSafe}
use Rattle.mesh_model.specs.Held.{Holds, IsEntryWalk, NodeHolds}
use Rattle.mesh_model.specs.Kept.{KeptLists, nothing_kept}
use Rattle.mesh_model.specs.Trails.{Around, HasEntryWalk, HasWalks, HaveStood, HonestWalk, IsAbsent, IsBackedWalk, IsHonestWalk, around, front}
use Rattle.mesh_model.specs.Walks.{last, table}
use Rattle.mesh_model.specs.Worlds.{Event, Node, World, after, are_linked, openings, pair, run, start, step}

pub run_trails : (v : Variant) (w : World) (es : List Event) → IsLoopSafe w → HasWalks v w → IsLoopSafe (run w es) × HasWalks v (run w es)
unfolding run
run_trails v w [] inv trails = (inv, trails)
run_trails v w (e ∷ es) inv trails = run_trails v (after w (step w e)) es (step_kept w e inv) (step_trails v w e inv trails)

opening_holds : (a : Around) (v : Variant) (ip : ℕ) (firsts : List ℕ) → a.variant ≡ v → (x z : ℕ) (n : Node) → slice_get (openings v ip firsts) x ≡ Some n → NodeHolds a z n (λ d. []) []
opening_holds a v ip [] same x z n is = absurd (none-some n is)
opening_holds a v ip (first ∷ firsts) same zero z n is =
    subst (λ n. NodeHolds a z n (λ d. []) []) (same_Some _ n is) (record { variant = sym same; entries = λ d e there. absurd (none-some e (sym (maps.get-empty nat_cmp d) ∙ there)); queue = tt })
opening_holds a v ip (first ∷ firsts) same (suc x) z n is = opening_holds a v (ip + 1) firsts same x z n is

pub start_holds : (v : Variant) (firsts : List ℕ) → Holds v (start v firsts) nothing_kept
unfolding start
start_holds v firsts = record {
  nodes = λ x n is. opening_holds (around v (start v firsts)) v 0 firsts refl x x n is;
  flying = tt;
  stood = λ p e. absurd (wrong (sym (sets.contains-empty pair_cmp p) ∙ e));
}
  where
    wrong : false ≡ true → ⊥
    wrong e = cc

pub start_trails : (v : Variant) (firsts : List ℕ) → HasWalks v (start v firsts)
start_trails v firsts = has_walks v (start v firsts) nothing_kept (start_holds v firsts)

-- ---- the bound

pub front_distinct : (a : Around) (d n y : ℕ) (ys : List ℕ) → IsBackedWalk a d n (y ∷ ys) → IsDistinct eqb (front (y ∷ ys))
unfolding IsDistinct
front_distinct a d n y [] t = tt
front_distinct a d n y (z ∷ zs) t = (apart y (front (z ∷ zs)) t.3, front_distinct a d n z zs t.4)

here : (w : World) (x d n h : ℕ) → AtLeast (table w x) d n h → x < length w.nodes
here w x d n h at = let found = node_in w x d at.entry (slice_get w.nodes x) refl at.there in slice_get_within w.nodes x found.0 found.1

pub front_within : (v : Variant) (w : World) (d n y : ℕ) (ys : List ℕ) → IsBackedWalk (around v w) d n (y ∷ ys) → (q : ℕ) → list_any (eqb q) (front (y ∷ ys)) ≡ true → q < length w.nodes
front_within v w d n y [] t q is = cc
front_within v w d n y (z ∷ zs) t q is = either (length w.nodes) q y (eqb q y) _ refl (here w y d n (length (z ∷ zs)) t.2) (front_within v w d n z zs t.4 q) is

pub front_long : (y : ℕ) (ys : List ℕ) → length (front (y ∷ ys)) + 1 ≡ length (y ∷ ys)
front_long y [] = refl
front_long y (z ∷ zs) = let e = front_long z zs in omega arith

pub trace_short : (v : Variant) (w : World) (x d : ℕ) (e : Entry) → HasWalks v w → maps.get (table w x) d ≡ Some e → e.flag ≡ Val → HasEntryWalk (around v w) x d e.dsn e.hops e.next × (e.hops ≤ length w.nodes)
unfolding IsDistinct
trace_short v w x d e trails there valid =
    let found = node_in w x d e (slice_get w.nodes x) refl there in
    let t : HasEntryWalk (around v w) x d e.dsn e.hops e.next = (trails.nodes x found.0 found.1).entries d e found.2 valid in
    let lx : x < length w.nodes = slice_get_within w.nodes x found.0 found.1 in
    let bound : length (x ∷ front (e.next ∷ t.others)) ≤ length w.nodes = length-le_from_distinct_below (x ∷ front (e.next ∷ t.others)) (length w.nodes)
    (apart x (front (e.next ∷ t.others)) t.absent, front_distinct (around v w) d e.dsn e.next t.others t.walk)
    (λ q is. either (length w.nodes) q x (eqb q x) _ refl lx (front_within v w d e.dsn e.next t.others t.walk q) is) in
    (t, let l = front_long e.next t.others in let m = t.long in omega arith)

-- ---- the walk turned round, from its destination to its holder

has_stood : (ever : Pairs) (x y : ℕ) → are_linked ever y x ≡ true → are_linked ever x y ≡ true
has_stood ever x y is = subst (λ p. sets.contains ever p ≡ true) turned is
  where
    turned : pair y x ≡ pair x y
    turned = λ i. (low i, high i)
      where
        low : min y x ≡ min x y
        low = omega arith

        high : max y x ≡ max x y
        high = omega arith

-- k isn't on the front of the list, for each k of the others
abbrev AreAbsent : List ℕ → List ℕ → Type 0
AreAbsent ks zs = AllByRecursion (λ k. IsAbsent k (front zs)) ks

less_front : (ks : List ℕ) (y z : ℕ) (zs : List ℕ) → AreAbsent ks (y ∷ (z ∷ zs)) → AreAbsent ks (z ∷ zs)
less_front ks y z zs all = each_map (λ k. IsAbsent k (front (y ∷ (z ∷ zs)))) (λ k. IsAbsent k (front (z ∷ zs))) (λ k a. a.1) ks all

none_is : (ks : List ℕ) (y z : ℕ) (zs : List ℕ) → AreAbsent ks (y ∷ (z ∷ zs)) → AllByRecursion (λ k. y ≢ k) ks
none_is ks y z zs all = each_map (λ k. IsAbsent k (front (y ∷ (z ∷ zs)))) (λ k. y ≢ k) (λ k a e. a.0 (sym e)) ks all

-- the list turned round, onto what is turned round already
abbrev onto : List ℕ → List ℕ → List ℕ
onto [] done = done
onto (y ∷ ys) done = onto ys (y ∷ done)

-- `done` is the walk behind y, already turned round
turn_round : (a : Around) (d n x h : ℕ) (y : ℕ) (ys : List ℕ) (k : ℕ) (done : List ℕ) → IsBackedWalk a d n (y ∷ ys) → are_linked a.ever y k ≡ true → HaveStood a.ever (k ∷ done) → last k done ≡ x → IsDistinct eqb (k ∷ done) → AreAbsent (k ∷ done) (y ∷ ys)
    → length (k ∷ done) + length ys ≡ h → IsHonestWalk a.ever x d h (onto (y ∷ ys) (k ∷ done))
unfolding IsDistinct
turn_round a d n x h y [] k done walk link stood ends distinct absent long = (walk, ends, (let l = long in omega arith), (link, stood), distinct)
turn_round a d n x h y (z ∷ zs) k done walk link stood ends distinct absent long =
    turn_round a d n x h z zs y (k ∷ done) walk.4 walk.0 (link, stood) ends (apart y (k ∷ done) (none_is (k ∷ done) y z zs absent), distinct) (walk.3, less_front (k ∷ done) y z zs absent) (let l = long in omega arith)

turned_honest : (v : Variant) (w : World) (x d n h y : ℕ) (walk : List ℕ) → IsEntryWalk (around v w) x d n h y walk → IsHonestWalk w.ever x d h (reverse walk)
unfolding IsDistinct
turned_honest v w x d n h y walk t =
    let honest : IsHonestWalk w.ever x d h (onto (y ∷ t.others) (x ∷ [])) = turn_round (around v w) d n x h y t.others x [] t.backed t.linked tt refl (tt, tt) (t.absent, tt) (let l = t.long in omega arith) in
    subst (λ list. IsHonestWalk w.ever x d h (reverse list)) (sym t.is) honest

pub honest_walk : (v : Variant) (w : World) (x d n h y : ℕ) → HasEntryWalk (around v w) x d n h y → HonestWalk w x d h
honest_walk v w x d n h y t =
    let walk : List ℕ = x ∷ (y ∷ t.others) in
    record { walk = reverse walk; honest = turned_honest v w x d n h y walk (entry_listed (around v w) x d n h y t) }

pub honest_hops : (v : Variant) (firsts : List ℕ) (events : List Event) (x d : ℕ) (e : Entry) → AllByRecursion (λ n. 1 ≤ n) firsts → maps.get (table (run (start v firsts) events) x) d ≡ Some e → e.flag ≡ Val
    → HonestWalk (run (start v firsts) events) x d e.hops × (e.hops ≤ length (run (start v firsts) events).nodes)
honest_hops v firsts events x d e all there valid =
    let both = run_trails v (start v firsts) events (start_kept v firsts all) (start_trails v firsts) in
    let short = trace_short v (run (start v firsts) events) x d e both.1 there valid in
    (honest_walk v (run (start v firsts) events) x d e.dsn e.hops e.next short.0, short.1)

-- ---- of lists that are kept

pub held_is_honest : (v : Variant) (w : World) (k : KeptLists) (x d : ℕ) (e : Entry) → Holds v w k → maps.get (table w x) d ≡ Some e → e.flag ≡ Val → IsHonestWalk w.ever x d e.hops (reverse (k.entries x d)) × (e.hops ≤ length w.nodes)
held_is_honest v w k x d e holds there valid =
    let found = node_in w x d e (slice_get w.nodes x) refl there in
    let t : IsEntryWalk (around v w) x d e.dsn e.hops e.next (k.entries x d) = (holds.nodes x found.0 found.1).entries d e found.2 valid in
    (turned_honest v w x d e.dsn e.hops e.next (k.entries x d) t, (trace_short v w x d e (has_walks v w k holds) there valid).1)
