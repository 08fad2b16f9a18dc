-- What the changes of a store keep.
use Rattle.std.proofs.Common.{◌≡◌, ◌≢◌, ℕ, ◌<◌, Bool, true, false, cond, not, ◌&&◌, ◌||◌, ◌==◌, List, [], ◌∷◌, ◌++◌, Some, None, Option, refl, ap, sym, ◌∙◌, subst}
use Rattle.std.specs.Prelude.{option_map}
use Rattle.std.specs.List.{AllByRecursion}
use Rattle.std.specs.Cmp.{nat_cmp_total, unsigned_tied}
use Rattle.std.proofs.lemmas.Bool.{eqb-true}
use Rattle.std.proofs.lemmas.Option.{none-some, same_Some}
use Rattle.std.specs.FinMap as maps
use Rattle.std.specs.FinSet as sets
use Rattle.mesh_base.specs.Members.{NodeIds}
use Rattle.aodv_model.specs.Cores.{Body, Waiting, Store, bodies_in, needs_in, with_body, add, drop, drop_first, rest, unset, set, has_data, in_qD}
use Rattle.aodv_model.specs.Handlers.{first_body}
use Rattle.aodv_model.specs.Soundness.{IsDatum, IsWaitingInMesh, IsStoreInMesh}
use Rattle.aodv_model.proofs.Lookups.{get-mapped}

-- data that need a request where they did and b doesn't hold
abbrev pub need_unless : Bool → Waiting → Waiting
need_unless b w = record w { needs_request = w.needs_request && not b }

-- data that need a request where they did or b holds
abbrev pub need_if : Bool → Waiting → Waiting
need_if b w = record w { needs_request = w.needs_request || b }

pub get-unset : (store : Store) (d q : ℕ) → maps.get (unset store d) q ≡ option_map (need_unless (q == d)) (maps.get store q)
unfolding unset
get-unset store d q = get-mapped (λ k w. need_unless (k == d) w) store q

pub get-set : (store : Store) (dests : NodeIds) (q : ℕ) → maps.get (set store dests) q ≡ option_map (need_if (sets.contains dests q)) (maps.get store q)
unfolding set
get-set store dests q = get-mapped (λ d w. need_if (sets.contains dests d) w) store q

module _ (size : ℕ) where
  put_case : (store : Store) (d : ℕ) (v : Waiting) (q : ℕ) (w : Waiting) (b : Bool) → (q == d) ≡ b → IsWaitingInMesh size d v → IsStoreInMesh size store → cond b (Some v) (maps.get store q) ≡ Some w → IsWaitingInMesh size q w
  put_case store d v q w true e new kept is = subst (λ k. IsWaitingInMesh size k w) (sym (eqb-true q d e)) (subst (IsWaitingInMesh size d) (same_Some v w is) new)
  put_case store d v q w false e new kept is = kept q w is

  put_kept : (store : Store) (d : ℕ) (v : Waiting) → IsWaitingInMesh size d v → IsStoreInMesh size store → IsStoreInMesh size (maps.insert store d v)
  put_kept store d v new kept q w is =
      put_case store d v q w (q == d) refl new kept (sym (maps.get-insert nat_cmp_total store d v q ∙ ap (λ b. cond b (Some v) (maps.get store q)) (unsigned_tied q d)) ∙ is)

  gone_case : (store : Store) (q : ℕ) (w : Waiting) (b : Bool) → IsStoreInMesh size store → cond b None (maps.get store q) ≡ Some w → IsWaitingInMesh size q w
  gone_case store q w true kept is = absurd (none-some w is)
  gone_case store q w false kept is = kept q w is

  gone_kept : (store : Store) (d : ℕ) → IsStoreInMesh size store → IsStoreInMesh size (maps.remove store d)
  gone_kept store d kept q w is =
      gone_case store q w (q == d) kept (sym (maps.get-remove nat_cmp_total store d q ∙ ap (λ b. cond b None (maps.get store q)) (unsigned_tied q d)) ∙ is)

  joined : (bs : List Body) (b : Body) → AllByRecursion IsDatum bs → IsDatum b → AllByRecursion IsDatum (bs ++ b ∷ [])
  joined [] b all new = (new, tt)
  joined (c ∷ cs) b all new = (all.0, joined cs b all.1 new)

  not_empty : (bs : List Body) (b : Body) → (bs ++ b ∷ []) ≢ []
  not_empty [] b = λ e. cc
  not_empty (c ∷ cs) b = λ e. cc

  pub add_kept : (store : Store) (d : ℕ) (b : Body) → d < size → IsDatum b → IsStoreInMesh size store → IsStoreInMesh size (add store d b)
  unfolding add
  add_kept store d b l datum kept = put_kept store d (with_body (maps.get store d) b) (more (maps.get store d) refl) kept
    where
      more : (o : Option Waiting) → maps.get store d ≡ o → IsWaitingInMesh size d (with_body o b)
      more None is = record { dest = l; some = λ e. cc; bodies = (datum, tt) }
      more (Some s) is = let old : IsWaitingInMesh size d s = kept d s is in record { dest = l; some = not_empty s.bodies b; bodies = joined s.bodies b old.bodies datum }

  drop_case : (store : Store) (d : ℕ) (bs : List Body) (needs : Bool) → AllByRecursion IsDatum bs → (bs ≢ [] → d < size) → IsStoreInMesh size store → IsStoreInMesh size (drop_first store d bs needs)
  drop_case store d [] needs all l kept = gone_kept store d kept
  drop_case store d (b ∷ bs) needs all l kept = put_kept store d (record { needs_request = needs; bodies = b ∷ bs }) (record { dest = l (λ e. cc); some = λ e. cc; bodies = all }) kept

  pub drop_kept : (store : Store) (d : ℕ) → IsStoreInMesh size store → IsStoreInMesh size (drop store d)
  unfolding drop
  drop_kept store d kept = drop_case store d (rest (bodies_in (maps.get store d))) (needs_in (maps.get store d)) (left (maps.get store d) refl) (inside (maps.get store d) refl) kept
    where
      behind : (bs : List Body) → AllByRecursion IsDatum bs → AllByRecursion IsDatum (rest bs)
      behind [] all = tt
      behind (b ∷ bs) all = all.1

      left : (o : Option Waiting) → maps.get store d ≡ o → AllByRecursion IsDatum (rest (bodies_in o))
      left None is = tt
      left (Some s) is = behind s.bodies (kept d s is).bodies

      inside : (o : Option Waiting) → maps.get store d ≡ o → rest (bodies_in o) ≢ [] → d < size
      inside None is some = absurd (some refl)
      inside (Some s) is some = (kept d s is).dest

  -- where the data that wait stay as they are
  bodies_kept : (store new : Store) (flags : ℕ → Waiting → Bool) → ((q : ℕ) → maps.get new q ≡ option_map (λ (w : Waiting). record w { needs_request = flags q w }) (maps.get store q)) → IsStoreInMesh size store → IsStoreInMesh size new
  bodies_kept store new flags each kept q w is = by (maps.get store q) refl (sym (each q) ∙ is)
    where
      by : (o : Option Waiting) → maps.get store q ≡ o → option_map (λ (w : Waiting). record w { needs_request = flags q w }) o ≡ Some w → IsWaitingInMesh size q w
      by None there e = absurd (none-some w e)
      by (Some s) there e =
          let old : IsWaitingInMesh size q s = kept q s there in
          subst (IsWaitingInMesh size q) (same_Some (record s { needs_request = flags q s }) w e) (record { dest = old.dest; some = old.some; bodies = old.bodies })

  pub unset_kept : (store : Store) (d : ℕ) → IsStoreInMesh size store → IsStoreInMesh size (unset store d)
  unset_kept store d = bodies_kept store (unset store d) (λ q w. w.needs_request && not (q == d)) (get-unset store d)

  pub set_kept : (store : Store) (dests : NodeIds) → IsStoreInMesh size store → IsStoreInMesh size (set store dests)
  set_kept store dests = bodies_kept store (set store dests) (λ q w. w.needs_request || sets.contains dests q) (get-set store dests)

  -- the first datum that waits
  pub first_datum : (store : Store) (d : ℕ) → IsStoreInMesh size store → in_qD store d ≡ true → (d < size) × IsDatum (first_body (bodies_in (maps.get store d)))
  first_datum store d kept has = first (maps.get store d) refl has
    where
      of : (bs : List Body) → AllByRecursion IsDatum bs → has_data bs ≡ true → IsDatum (first_body bs)
      of [] all e = cc
      of (b ∷ bs) all e = all.0

      first : (o : Option Waiting) → maps.get store d ≡ o → has_data (bodies_in o) ≡ true → (d < size) × IsDatum (first_body (bodies_in o))
      first None is e = cc
      first (Some s) is e = ((kept d s is).dest, of s.bodies (kept d s is).bodies e)
