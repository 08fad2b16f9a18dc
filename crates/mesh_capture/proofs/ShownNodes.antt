-- At each state of a run what `show` writes of a node is read.
use Rattle.std.proofs.Common.{◌≡◌, ℕ, zero, suc, ◌<◌, ◌≤◌, inl, inr, List, [], ◌∷◌, Option, Some, None, length, refl, ap, arith}
use Rattle.std.specs.Prelude.{slice_get}
use Rattle.std.specs.FinMap as maps
use Rattle.std.proofs.lemmas.Bool.{cases_eq}
use Rattle.std.proofs.lemmas.Option.{same_Some, slice_get_within}
use Rattle.aodv_model.specs.Cores.{Waiting, bodies_in}
use Rattle.mesh_io.specs.declared.limits.TheConstants.{LONGEST_TEXT}
use Rattle.mesh_model.specs.Accounts.{any, total, total_below, counts, in_store, waiting}
use Rattle.mesh_model.specs.Worlds.{World, Node}
use Rattle.mesh_model.proofs.Totals.{all_count}
use Rattle.mesh_text.specs.Schedule.{RunState, world_of}
use Rattle.mesh_text.specs.Tables.{node_text_in}
use Rattle.mesh_lines.specs.declared.below.Below.TheVariants as below
use Rattle.mesh_capture.proofs.Effects.{stand}
use Rattle.mesh_capture.proofs.NodeTexts.{IsNodeShown, node_reads}
use Rattle.mesh_capture.proofs.Steady.{IsSteady}
use Rattle.mesh_capture.proofs.Told.{Reads, reads_none}

-- ---- a part of a sum is no greater

total_part : {A : Type 0} (f : A → ℕ) (xs : List A) (i : ℕ) (x : A) → slice_get xs i ≡ Some x → f x ≤ total f xs
total_part f [] i x is = absurd (let lt = slice_get_within [] i x is in omega arith)
total_part f (y ∷ ys) zero x is = let same : f y ≡ f x = ap f (same_Some y x is) in omega arith
total_part f (y ∷ ys) (suc i) x is = let later = total_part f ys i x is in omega arith

below_part : (n : ℕ) (f : ℕ → ℕ) (d : ℕ) → d < n → f d ≤ total_below n f
below_part zero f d lt = absurd (omega arith)
below_part (suc n) f d lt = elim (cases_eq d n) [
  | inl same ↦ let here : f d ≡ f n = ap f same in omega arith
  | inr other ↦ let later = below_part n f d (omega arith) in omega arith
]

-- what waits for one destination at a node is no more than all that waits
waiting_part : (w : World) (x d : ℕ) (n : Node) (waits : Waiting) → slice_get w.nodes x ≡ Some n → d < length w.nodes → maps.get (n.core).store d ≡ Some waits → length waits.bodies ≤ waiting any w
unfolding waiting in_store
waiting_part w x d n waits is lt there =
    let store = total_part (λ (n : Node). in_store any (length w.nodes) (n.core).ip (n.core).store) w.nodes x n is in
    let one = below_part (length w.nodes) (λ (d : ℕ). total (counts any (n.core).ip d) (bodies_in (maps.get (n.core).store d))) d lt in
    let all = all_count (n.core).ip d (bodies_in (maps.get (n.core).store d)) in
    let same : length (bodies_in (maps.get (n.core).store d)) ≡ length waits.bodies = ap (λ o. length (bodies_in o)) there in
    omega arith

-- ---- a node

is_shown : (k : ℕ) (m : RunState) (x : ℕ) (n : Node) → k ≤ LONGEST_TEXT → IsSteady k m → slice_get (world_of m).nodes x ≡ Some n → IsNodeShown n.core (length n.queue)
is_shown k m x n short is at =
    let node = is.kept.invariant.in_mesh.nodes x n at in
    let numbers = is.within.nodes x n at in
    let fields = is.fits.nodes x n at in
    let events = is.events in
    let balanced = is.kept.balanced in
    let ordered = is.kept.ordered in
    let few = fields.few in
    record {
      some = node.core.own;
      sn = numbers.core.own;
      seen = fields.core.seen;
      entries = λ d e there. record { dsn = numbers.core.table d e there; some = (node.core.table.numbers d e there).hops; hops = fields.core.hops d e there };
      waits = λ d w there. let part = waiting_part (world_of m) x d n w at (node.store d w there).dest there in omega arith;
      inbox = omega arith;
    }

pub node_in_reads : (k : ℕ) (m : RunState) (x : ℕ) → k ≤ LONGEST_TEXT → IsSteady k m
    → Reads m.mesh (stand (world_of m).flying m.sums.events below.Node) (node_text_in m.mesh (slice_get (world_of m).nodes x)) [] (stand (world_of m).flying m.sums.events below.Node)
node_in_reads k m x short is = by_node (slice_get (world_of m).nodes x) refl
  where
    by_node : (o : Option Node) → slice_get (world_of m).nodes x ≡ o → Reads m.mesh (stand (world_of m).flying m.sums.events below.Node) (node_text_in m.mesh o) [] (stand (world_of m).flying m.sums.events below.Node)
    by_node None at = reads_none m.mesh (stand (world_of m).flying m.sums.events below.Node)
    by_node (Some n) at = node_reads m.mesh is.kept.mesh (world_of m).flying m.sums.events n.core (length n.queue) (is_shown k m x n short is at)
