-- The routes and the store of a node, as they are listed.
use Rattle.std.proofs.Common.{◌≡◌, ℕ, ◌+◌, ◌<◌, ◌≤◌, List, [], length, Option, Some, None, refl, sym, ap, subst, ◌∙◌, arith, inl, inr}
use Rattle.std.specs.Prelude.{is_some, IfSome}
use Rattle.std.specs.List.{flat_map}
use Rattle.std.specs.FinMap as maps
use Rattle.std.proofs.lemmas.Bool.{cases_lt}
use Rattle.std.proofs.lemmas.List.{length-map}
use Rattle.aodv_model.specs.declared.entry.Entry.{Entry}
use Rattle.aodv_model.specs.Tables.{Table}
use Rattle.aodv_model.specs.Cores.{Store, Waiting, has_data, bodies_in}
use Rattle.aodv_model.specs.Soundness.{IsSoundTable, IsStoreInMesh}
use Rattle.aodv_model.proofs.Keys.{below, below_all}
use Rattle.aodv_node.proofs.Choices.{has_some}
use Rattle.mesh_checkpoint.specs.Points.{route_of, routes_in, waits_of, waits_in}
use Rattle.mesh_save.specs.Bytes.{route_bytes, waits_bytes}
use Rattle.mesh_save.specs.Narrow.{IsNarrowEntry, AreEntriesNarrow}
use Rattle.mesh_save.proofs.Puts.{all_entries}

-- ---- routes

dests_below : (size ip : ℕ) (rt : Table) (n : ℕ) → IsSoundTable size ip rt → size ≤ n → (k : ℕ) (e : Entry) → maps.get rt k ≡ Some e → k < n
dests_below size ip rt n sound le k e there = omega (arith, (sound.in_mesh k e there).dest, le)

pub routes_count : (size ip : ℕ) (rt : Table) (n count : ℕ) → IsSoundTable size ip rt → size ≤ n → count ≡ length (below n rt) → count ≡ length (routes_in rt)
unfolding routes_in
routes_count size ip rt n count sound le is = is ∙ ap length (below_all rt n (dests_below size ip rt n sound le)) ∙ sym (length-map (maps.entries rt) route_of)

pub routes_put : {S : Type 0} (wrote : S → List ℕ → S → Type 0) (size ip : ℕ) (rt : Table) (n : ℕ) (p q : S) → IsSoundTable size ip rt → size ≤ n → wrote p (flat_map (λ e. route_bytes (route_of e)) (below n rt)) q → wrote p (flat_map route_bytes (routes_in rt)) q
unfolding routes_in
routes_put wrote size ip rt n p q sound le put = all_entries wrote route_bytes route_of rt n p q (dests_below size ip rt n sound le) put

pub narrow_next : (rt : Table) (d : ℕ) → ((k : ℕ) (e : Entry) → k < d → maps.get rt k ≡ Some e → IsNarrowEntry e) → IfSome (maps.get rt d) IsNarrowEntry → (k : ℕ) (e : Entry) → k < d + 1 → maps.get rt k ≡ Some e → IsNarrowEntry e
narrow_next rt d before here k e lt there = elim (cases_lt k d) [
  | inl less ↦ before k e less there
  | inr ge ↦
      let same : d ≡ k = omega (arith, lt, ge) in
      subst (λ (o : Option Entry). IfSome o IsNarrowEntry) (ap (maps.get rt) same ∙ there) here
]

pub all_narrow : (size ip : ℕ) (rt : Table) (n : ℕ) → IsSoundTable size ip rt → size ≤ n → ((k : ℕ) (e : Entry) → k < n → maps.get rt k ≡ Some e → IsNarrowEntry e) → AreEntriesNarrow rt
all_narrow size ip rt n sound le each k e there = each k e (dests_below size ip rt n sound le k e there) there

-- ---- the store

-- data wait for a destination that is there
pub waiting_there : (size : ℕ) (store : Store) (d : ℕ) → IsStoreInMesh size store → has_data (bodies_in (maps.get store d)) ≡ is_some (maps.get store d)
waiting_there size store d sound = go (maps.get store d) refl
  where
    go : (o : Option Waiting) → maps.get store d ≡ o → has_data (bodies_in o) ≡ is_some o
    go None is = refl
    go (Some w) is = has_some w.bodies (sound d w is).some

stored_below : (size : ℕ) (store : Store) (n : ℕ) → IsStoreInMesh size store → size ≤ n → (k : ℕ) (w : Waiting) → maps.get store k ≡ Some w → k < n
stored_below size store n sound le k w there = omega (arith, (sound k w there).dest, le)

pub waits_count : (size : ℕ) (store : Store) (n count : ℕ) → IsStoreInMesh size store → size ≤ n → count ≡ length (below n store) → count ≡ length (waits_in store)
unfolding waits_in
waits_count size store n count sound le is = is ∙ ap length (below_all store n (stored_below size store n sound le)) ∙ sym (length-map (maps.entries store) waits_of)

pub waits_put : {S : Type 0} (wrote : S → List ℕ → S → Type 0) (size : ℕ) (store : Store) (n : ℕ) (p q : S) → IsStoreInMesh size store → size ≤ n → wrote p (flat_map (λ e. waits_bytes (waits_of e)) (below n store)) q → wrote p (flat_map waits_bytes (waits_in store)) q
unfolding waits_in
waits_put wrote size store n p q sound le put = all_entries wrote waits_bytes waits_of store n p q (stored_below size store n sound le) put
