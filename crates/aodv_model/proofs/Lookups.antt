-- What a table answers after each change.
use Rattle.std.proofs.Common.{◌≡◌, ℕ, Bool, true, false, cond, ◌&&◌, ◌==◌, nat_lt, List, [], ◌∷◌, map, Some, None, Option, refl, ap, sym, ◌∙◌}
use Rattle.std.specs.Prelude.{is_some, option_map, unwrap_or, if◌then◌else◌}
use Rattle.std.specs.Ordering.{nat_cmp, eq_by_cmp}
use Rattle.std.specs.Cmp.{nat_cmp_total, unsigned_tied}
use Rattle.std.specs.FinMap.{FinMap, find, nat_cmp-IsAntisymmetric}
use borrow.Author.Tests.{eqb-true}
use Rattle.std.specs.FinMap as maps
use Rattle.std.specs.FinSet as sets
use Rattle.aodv_model.specs.Quality.{inc}
use Rattle.aodv_model.specs.declared.entry.Entry.{Entry}
use Rattle.aodv_model.specs.Tables.{Dests, Table, accepted_unreachable, add_pre, dests_of, entry_after, goes_by, invalidate, invalidated, add_pre_at, map_values, sqn, unreachable_by, update}
use Rattle.mesh_base.specs.Members.{NodeIds}

pub get-update : (rt : Table) (d : ℕ) (r : Entry) (q : ℕ) → maps.get (update rt d r) q ≡ (if q == d then Some (entry_after (maps.get rt d) r) else maps.get rt q)
unfolding update
get-update rt d r q =
    maps.get-insert nat_cmp_total rt d _ q ∙ ap (λ b. cond b (Some (entry_after (maps.get rt d) r)) (maps.get rt q)) (unsigned_tied q d)

tied_case : {V W : Type 0} (f : ℕ → V → W) (q k : ℕ) (v : V) (b : Bool) (x : Option W) (y : Option V) → (b ≡ true → q ≡ k) → x ≡ option_map (f q) y → cond b (Some (f k v)) x ≡ option_map (f q) (cond b (Some v) y)
tied_case f q k v true x y same rest = ap (λ j. Some (f j v)) (sym (same refl))
tied_case f q k v false x y same rest = rest

find-map : {V W : Type 0} (f : ℕ → V → W) (q : ℕ) (es : List (ℕ × V)) → find nat_cmp q (map (λ e. (e.0, f e.0 e.1)) es) ≡ option_map (f q) (find nat_cmp q es)
find-map f q [] = refl
find-map f q (e ∷ es) =
    tied_case f q e.0 e.1 (eq_by_cmp nat_cmp q e.0) _ _ (λ t. eqb-true q e.0 (sym (unsigned_tied q e.0) ∙ t)) (find-map f q es)

pub get-mapped : {V W : Type 0} (f : ℕ → V → W) (m : FinMap nat_cmp V) (q : ℕ) → maps.get (map_values f m) q ≡ option_map (f q) (maps.get m q)
unfolding map_values
get-mapped f m q =
    maps.get-from_entries nat_cmp_total _ q ∙ find-map f q (maps.entries m) ∙ ap (option_map (f q)) (sym (maps.get-entries m q))

pub get-kept : {V : Type 0} (m : FinMap nat_cmp V) (p : ℕ → Bool) (q : ℕ) → maps.get (maps.retain_keys m p) q ≡ (if p q then maps.get m q else None)
get-kept m p q = maps.get-retain_keys m p q (λ x e. ap p (sym (nat_cmp-IsAntisymmetric q x e)))

pub contains-dests_of : {V : Type 0} (m : FinMap nat_cmp V) (q : ℕ) → sets.contains (dests_of m) q ≡ is_some (maps.get m q)
contains-dests_of m q = sets.contains-from_list nat_cmp_total (maps.keys m) q ∙ sym (maps.contains_key-keys m q)

pub get-invalidate : (rt : Table) (dests : Dests) (q : ℕ) → maps.get (invalidate rt dests) q ≡ option_map (λ e. invalidated e (maps.get dests q)) (maps.get rt q)
unfolding invalidate
get-invalidate rt dests q = get-mapped (λ d e. invalidated e (maps.get dests d)) rt q

pub get-add_pre : (rt : Table) (d : ℕ) (nodes : NodeIds) (q : ℕ) → maps.get (add_pre rt d nodes) q ≡ option_map (add_pre_at d nodes q) (maps.get rt q)
unfolding add_pre
get-add_pre rt d nodes q = get-mapped (add_pre_at d nodes) rt q

pub get-unreachable_by : (rt : Table) (y q : ℕ) → maps.get (unreachable_by rt y) q ≡ option_map (λ e. inc e.dsn) (if goes_by (maps.get rt q) y then maps.get rt q else None)
unfolding unreachable_by
get-unreachable_by rt y q = get-mapped (λ d e. inc e.dsn) _ q ∙ ap (option_map (λ e. inc e.dsn)) (get-kept rt (λ d. goes_by (maps.get rt d) y) q)

pub get-accepted : (rt : Table) (y : ℕ) (dests : Dests) (q : ℕ) → maps.get (accepted_unreachable rt y dests) q ≡ (if goes_by (maps.get rt q) y && nat_lt (sqn rt q) (unwrap_or (maps.get dests q) 0) then maps.get dests q else None)
unfolding accepted_unreachable
get-accepted rt y dests q = get-kept dests (λ d. goes_by (maps.get rt d) y && nat_lt (sqn rt d) (unwrap_or (maps.get dests d) 0)) q
