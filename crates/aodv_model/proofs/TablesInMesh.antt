-- What the changes of a table keep: its entries name nodes of the mesh.
use Rattle.std.proofs.Common.{◌≡◌, ◌≢◌, ℕ, ◌<◌, Bool, true, false, ◌||◌, ◌==◌, Some, None, Option, refl, ap, sym, ◌∙◌, subst, arith, inl, inr}
use Rattle.std.specs.Prelude.{option_map, if◌then◌else◌}
use Rattle.std.specs.Ordering.{nat_cmp}
use Rattle.std.specs.Cmp.{nat_cmp_total, unsigned_tied}
use Rattle.std.proofs.lemmas.Bool.{eqb-true, eqb-false}
use Rattle.std.proofs.lemmas.Bool.Decides.{nat_tests}
use Rattle.std.proofs.lemmas.Option.{none-some}
use Rattle.std.specs.FinMap as maps
use Rattle.std.specs.FinSet as sets
use Rattle.aodv_model.specs.Quality.{inc}
use Rattle.aodv_model.specs.declared.entry.Entry.{Entry}
use Rattle.aodv_model.proofs.Changes.{after_by, mapped_each, update_each}
use Rattle.aodv_model.proofs.Entries.{if_case, merged_shape}
use Rattle.aodv_model.proofs.Lookups.{get-accepted, get-add_pre, get-invalidate, get-unreachable_by, get-update}
use Rattle.aodv_model.specs.Handlers.{one}
use Rattle.aodv_model.specs.Soundness.{AreEntriesInMesh, AreBelow, AreDestsBelow, IsEntryInMesh}
use Rattle.aodv_model.specs.Tables.{Dests, Table, accepted_unreachable, add_pre, entry_after, goes_by, in_kD, invalidate, invalidated, is_some_in, add_pre_at, merge, unreachable_by, update}
use Rattle.mesh_base.specs.Members.{NodeIds}

pub record Wider (rt rt' : Table) : Type 0 where
  pub has : (q : ℕ) → in_kD rt q ≡ true → in_kD rt' q ≡ true

pub below_union : (size : ℕ) (s t : NodeIds) → AreBelow size s → AreBelow size t → AreBelow size (sets.union s t)
below_union size s t a b p is = either (sets.contains s p) (sets.contains t p) refl refl (sym (sets.contains-union nat_cmp_total s t p) ∙ is)
  where
    either : (x y : Bool) → sets.contains s p ≡ x → sets.contains t p ≡ y → (x || y) ≡ true → p < size
    either true y e f o = a p e
    either false true e f o = b p f
    either false false e f o = cc

pub below_one : (size y : ℕ) → y < size → AreBelow size (one y)
below_one size y l p is = either (p == y) refl (sym (sets.contains-insert nat_cmp_total sets.empty y p ∙ ap (λ b. b || sets.contains {R = nat_cmp} sets.empty p) (unsigned_tied p y) ∙ ap (λ c. (p == y) || c) (sets.contains-empty nat_cmp p)) ∙ is)
  where
    either : (b : Bool) → (p == y) ≡ b → (b || false) ≡ true → p < size
    either true e o = subst (λ k. k < size) (sym (eqb-true p y e)) l
    either false e o = cc

pub below_empty : (size : ℕ) → AreBelow size sets.empty
below_empty size p is = let e = sets.contains-empty nat_cmp p in cc

-- ---- updates

pub update_wider : (rt : Table) (d : ℕ) (r : Entry) → Wider rt (update rt d r)
update_wider rt d r = record { has = λ q is. ap is_some_in (get-update rt d r q) ∙ either (q == d) q is }
  where
    either : (b : Bool) (q : ℕ) → in_kD rt q ≡ true → is_some_in (if b then Some (entry_after (maps.get rt d) r) else maps.get rt q) ≡ true
    either true q is = refl
    either false q is = is

pub update_has : (rt : Table) (d : ℕ) (r : Entry) → in_kD (update rt d r) d ≡ true
update_has rt d r = ap is_some_in (get-update rt d r d) ∙ same (d == d) refl
  where
    same : (b : Bool) → (d == d) ≡ b → is_some_in (if b then Some (entry_after (maps.get rt d) r) else maps.get rt d) ≡ true
    same true e = refl
    same false e = absurd (eqb-false d d e refl)

merged_pre : (s r : Entry) → (merge s r).pre ≡ sets.union s.pre r.pre
unfolding merge
merged_pre s r = grind (arith, nat_tests)

merged_next : (P : ℕ → Type 0) (s r : Entry) → P s.next → P r.next → P (merge s r).next
merged_next P s r a b =
    elim (merged_shape s r) [
      | inl x ↦ elim x [ inl same ↦ subst P (sym same.next) a | inr same ↦ subst P (sym same.next) b ]
      | inr p ↦ subst P (sym p.1) b
    ]

wider_in_mesh : (size ip : ℕ) (rt rt' : Table) → Wider rt rt' → (d : ℕ) (e : Entry) → IsEntryInMesh size ip rt d e → IsEntryInMesh size ip rt' d e
wider_in_mesh size ip rt rt' wider d e in_mesh = record { dest = in_mesh.dest; near = in_mesh.near; other = in_mesh.other; has = wider.has e.next in_mesh.has; pre = in_mesh.pre }

merged_in_mesh : (size ip : ℕ) (rt : Table) (d : ℕ) (s r : Entry) → IsEntryInMesh size ip rt d s → IsEntryInMesh size ip rt d r → IsEntryInMesh size ip rt d (merge s r)
merged_in_mesh size ip rt d s r a b = record {
  dest = a.dest;
  near = merged_next (λ k. k < size) s r a.near b.near;
  other = merged_next (λ k. k ≢ ip) s r a.other b.other;
  has = merged_next (λ k. in_kD rt k ≡ true) s r a.has b.has;
  pre = subst (AreBelow size) (sym (merged_pre s r)) (below_union size s.pre r.pre a.pre b.pre);
}

-- a table of node ip comes to be another
pub record Moves (size ip : ℕ) (rt rt' : Table) : Type 0 where
  pub in_mesh : AreEntriesInMesh size ip rt'
  pub wider : Wider rt rt'

pub moves_then : {size ip : ℕ} {a b c : Table} → Moves size ip a b → Moves size ip b c → Moves size ip a c
moves_then x y = record { in_mesh = y.in_mesh; wider = record { has = λ q is. y.wider.has q (x.wider.has q is) } }

pub moves_none : {size ip : ℕ} {a : Table} → AreEntriesInMesh size ip a → Moves size ip a a
moves_none in_mesh = record { in_mesh = in_mesh; wider = record { has = λ q is. is } }

pub update_moves : (size ip : ℕ) (rt : Table) (d : ℕ) (r : Entry) → AreEntriesInMesh size ip rt → IsEntryInMesh size ip (update rt d r) d r → Moves size ip rt (update rt d r)
update_moves size ip rt d r in_mesh new =
    let wider : Wider rt (update rt d r) = update_wider rt d r in
    record {
      in_mesh = update_each (IsEntryInMesh size ip (update rt d r)) rt d r (λ q e is. wider_in_mesh size ip rt (update rt d r) wider q e (in_mesh q e is))
          (after_by (IsEntryInMesh size ip (update rt d r) d) (maps.get rt d) r new (λ s is. merged_in_mesh size ip (update rt d r) d s r (wider_in_mesh size ip rt (update rt d r) wider d s (in_mesh d s is)) new));
      wider = wider;
    }

-- ---- changes of each entry

mapped_wider : (rt rt' : Table) (g : ℕ → Entry → Entry) → ((q : ℕ) → maps.get rt' q ≡ option_map (g q) (maps.get rt q)) → Wider rt rt'
mapped_wider rt rt' g law = record { has = λ q is. ap is_some_in (law q) ∙ (mapped q (maps.get rt q) ∙ is) }
  where
    mapped : (q : ℕ) (o : Option Entry) → is_some_in (option_map (g q) o) ≡ is_some_in o
    mapped q None = refl
    mapped q (Some e) = refl

mapped_moves : (size ip : ℕ) (rt rt' : Table) (g : ℕ → Entry → Entry) → AreEntriesInMesh size ip rt → ((q : ℕ) → maps.get rt' q ≡ option_map (g q) (maps.get rt q))
    → ((q : ℕ) (e : Entry) → IsEntryInMesh size ip rt' q e → IsEntryInMesh size ip rt' q (g q e)) → Moves size ip rt rt'
mapped_moves size ip rt rt' g in_mesh law keeps =
    let wider : Wider rt rt' = mapped_wider rt rt' g law in
    record {
      in_mesh = λ q e is. mapped_each (IsEntryInMesh size ip rt') g q e (maps.get rt q) (sym (law q) ∙ is) (λ s here. keeps q s (wider_in_mesh size ip rt rt' wider q s (in_mesh q s here)));
      wider = wider;
    }

invalidated_in_mesh : (size ip : ℕ) (rt : Table) (d : ℕ) (e : Entry) (o : Option ℕ) → IsEntryInMesh size ip rt d e → IsEntryInMesh size ip rt d (invalidated e o)
invalidated_in_mesh size ip rt d e None in_mesh = in_mesh
invalidated_in_mesh size ip rt d e (Some n) in_mesh = record { dest = in_mesh.dest; near = in_mesh.near; other = in_mesh.other; has = in_mesh.has; pre = in_mesh.pre }

pub invalidate_moves : (size ip : ℕ) (rt : Table) (dests : Dests) → AreEntriesInMesh size ip rt → Moves size ip rt (invalidate rt dests)
invalidate_moves size ip rt dests in_mesh =
    mapped_moves size ip rt (invalidate rt dests) (λ d e. invalidated e (maps.get dests d)) in_mesh (get-invalidate rt dests) (λ q e p. invalidated_in_mesh size ip (invalidate rt dests) q e (maps.get dests q) p)

pub add_pre_moves : (size ip : ℕ) (rt : Table) (d : ℕ) (nodes : NodeIds) → AreEntriesInMesh size ip rt → AreBelow size nodes → Moves size ip rt (add_pre rt d nodes)
add_pre_moves size ip rt d nodes in_mesh below =
    mapped_moves size ip rt (add_pre rt d nodes) (add_pre_at d nodes) in_mesh (get-add_pre rt d nodes)
    (λ q e p. if_case (IsEntryInMesh size ip (add_pre rt d nodes) q) (q == d) (record e { pre = sets.union e.pre nodes }) e
    (λ _. record { dest = p.dest; near = p.near; other = p.other; has = p.has; pre = below_union size e.pre nodes p.pre below })
    (λ _. p))

-- ---- destinations

some_of : (o : Option Entry) (b : Bool) (n : ℕ) → option_map (λ (e : Entry). inc e.dsn) (if b then o else None) ≡ Some n → (e : Entry) × (o ≡ Some e)
some_of None true n is = absurd (none-some n is)
some_of None false n is = absurd (none-some n is)
some_of (Some e) b n is = (e, refl)

pub unreachable_by_below : (size ip : ℕ) (rt : Table) (y : ℕ) → AreEntriesInMesh size ip rt → AreDestsBelow size (unreachable_by rt y)
unreachable_by_below size ip rt y in_mesh d n is =
    let s = some_of (maps.get rt d) (goes_by (maps.get rt d) y) n (sym (get-unreachable_by rt y d) ∙ is) in
    (in_mesh d s.0 s.1).dest

pub kept_of : (o : Option ℕ) (b : Bool) (n : ℕ) → (if b then o else None) ≡ Some n → o ≡ Some n
kept_of o true n is = is
kept_of o false n is = absurd (none-some n is)

pub accepted_below : (size : ℕ) (rt : Table) (y : ℕ) (dests : Dests) → AreDestsBelow size dests → AreDestsBelow size (accepted_unreachable rt y dests)
accepted_below size rt y dests below d n is = below d n (kept_of (maps.get dests d) _ n (sym (get-accepted rt y dests d) ∙ is))
