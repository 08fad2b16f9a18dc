-- What the changes of a table keep.
use Rattle.std.proofs.Common.{◌≡◌, ◌≢◌, ℕ, ◌+◌, ◌-◌, ◌≤◌, Bool, true, false, ◌==◌, Some, refl, ap, sym, ◌∙◌, subst, arith, inr}
use Rattle.std.specs.Prelude.{option_map, if◌then◌else◌}
use Rattle.std.proofs.lemmas.Bool.{eqb-true}
use Rattle.std.proofs.lemmas.Bool.Decides.{nat_tests}
use Rattle.std.specs.FinMap as maps
use Rattle.aodv_model.specs.declared.entry.Entry.{Entry}
use Rattle.aodv_model.specs.declared.entry.Flag.TheVariants.{Val}
use Rattle.aodv_model.specs.declared.entry.Known.TheVariants.{Kno, Unk}
use Rattle.aodv_model.proofs.Changes.{Raises, after_by, mapped_each, update_each}
use Rattle.aodv_model.proofs.Entries.{invalidated_sound, joined_sound, merged_sound}
use Rattle.aodv_model.proofs.Lookups.{get-add_pre, get-invalidate, get-update}
use Rattle.aodv_model.specs.Handlers.{neighbour_entry, route_entry}
use Rattle.aodv_model.specs.Soundness.{AllSoundNumbers, HasSoundNumber}
use Rattle.aodv_model.specs.Tables.{Dests, Table, add_pre, entry_after, invalidate, invalidated, add_pre_at, merge, update}
use Rattle.mesh_base.specs.Members.{NodeIds}
use Rattle.mesh_model.proofs.Backing.{invalidated_backed, invalidated_keeps, joined_backed, joined_keeps, merged_backed, merged_keeps, merged_reaches}
use Rattle.mesh_model.specs.Invariants.{AllBacked, AtLeast, IsAtLeast, IsBacked}

-- a table whose entries are in order
pub record IsFine (tables : ℕ → Table) (rt : Table) : Type 0 where
  pub sound : AllSoundNumbers rt
  pub backed : AllBacked tables rt

-- what is known of one table is known of the other
pub record Grows (rt rt' : Table) : Type 0 where
  pub keeps : (d n h : ℕ) → 1 ≤ n → AtLeast rt d n h → AtLeast rt' d n h

-- a table comes to be another
pub record Leads (tables : ℕ → Table) (rt rt' : Table) : Type 0 where
  pub fine : IsFine tables rt'
  pub grows : Grows rt rt'

pub leads_then : {tables : ℕ → Table} {a b c : Table} → Leads tables a b → Leads tables b c → Leads tables a c
leads_then x y = record { fine = y.fine; grows = record { keeps = λ d n h one at. y.grows.keeps d n h one (x.grows.keeps d n h one at) } }

pub leads_none : {tables : ℕ → Table} {a : Table} → IsFine tables a → Leads tables a a
leads_none fine = record { fine = fine; grows = record { keeps = λ d n h one at. at } }

at_updated : (rt : Table) (d : ℕ) (r : Entry) (q n h : ℕ) (b : Bool) → (q == d) ≡ b → maps.get (update rt d r) q ≡ (if b then Some (entry_after (maps.get rt d) r) else maps.get rt q) → ((s : Entry) → maps.get rt d ≡ Some s → IsAtLeast s n h → IsAtLeast (merge s r) n h) → AtLeast rt q n h → AtLeast (update rt d r) q n h
at_updated rt d r q n h true same is over at =
    let here : maps.get rt d ≡ Some at.entry = ap (maps.get rt) (sym (eqb-true q d same)) ∙ at.there in
    record { entry = merge at.entry r; there = is ∙ ap (λ o. Some (entry_after o r)) here; enough = over at.entry here at.enough }
at_updated rt d r q n h false same is over at = record { entry = at.entry; there = is ∙ at.there; enough = at.enough }

update_grows : (rt : Table) (d : ℕ) (r : Entry) → AllSoundNumbers rt → r.flag ≡ Val → (r.dsk ≡ Unk → r.hops ≡ 1) → Grows rt (update rt d r)
update_grows rt d r sound valid near = record {
  keeps = λ q n h one at. at_updated rt d r q n h (q == d) refl (get-update rt d r q) (λ s is enough. merged_keeps s r n h valid near (sound d s is).hops enough) at;
}

update_leads : (tables : ℕ → Table) (rt : Table) (d : ℕ) (r : Entry) → IsFine tables rt → r.flag ≡ Val → (r.dsk ≡ Unk → (r.hops ≡ 1) × (r.next ≡ d)) → HasSoundNumber d r → IsBacked tables d r → Leads tables rt (update rt d r)
update_leads tables rt d r fine valid near sound backed = record {
  fine = record {
    sound = update_each HasSoundNumber rt d r fine.sound (after_by (HasSoundNumber d) (maps.get rt d) r sound (λ s is. merged_sound d s r (fine.sound d s is) sound near));
    backed = update_each (IsBacked tables) rt d r fine.backed (after_by (IsBacked tables d) (maps.get rt d) r backed (λ s is. merged_backed tables d s r (fine.backed d s is) backed (λ u. (near u).1)));
  };
  grows = update_grows rt d r fine.sound valid (λ u. (near u).0);
}

-- a neighbour_entry is after_hearing
pub neighbour_leads : (tables : ℕ → Table) (rt : Table) (from : ℕ) → IsFine tables rt → Leads tables rt (update rt from (neighbour_entry from))
neighbour_leads tables rt from fine =
    update_leads tables rt from (neighbour_entry from) fine refl (λ _. (refl, refl)) (record { hops = omega arith; known = λ e. absurd (wrong e); direct = λ _. (refl, refl) }) (λ valid apart. absurd (apart refl))
  where
    wrong : Unk ≡ Kno → ⊥
    wrong e = cc

-- a route_entry is offered by a node that has one
pub route_leads : (tables : ℕ → Table) (rt : Table) (d n h from : ℕ) → IsFine tables rt → 1 ≤ n → (from ≢ d → AtLeast (tables from) d n h) → Leads tables rt (update rt d (route_entry n h from))
route_leads tables rt d n h from fine one offered =
    update_leads tables rt d (route_entry n h from) fine refl (λ e. absurd (wrong e))
    (record { hops = omega arith; known = λ _. one; direct = λ zero. absurd (omega arith) })
    (λ valid apart. subst (AtLeast (tables from) d n) (less h) (offered apart))
  where
    wrong : Kno ≡ Unk → ⊥
    wrong e = cc

    less : (h : ℕ) → h ≡ h + 1 - 1
    less h = omega arith

-- and then the table has it, or a better one
pub route_reaches : (rt : Table) (d n h from : ℕ) → AtLeast (update rt d (route_entry n h from)) d n (h + 1)
route_reaches rt d n h from = record {
  entry = entry_after (maps.get rt d) (route_entry n h from);
  there = grind (arith, nat_tests, get-update rt d (route_entry n h from) d);
  enough = after_by (λ e. IsAtLeast e n (h + 1)) (maps.get rt d) (route_entry n h from) (inr (refl, refl, omega arith)) (λ s is. merged_reaches s (route_entry n h from) refl refl);
}

mapped_leads : (tables : ℕ → Table) (rt rt' : Table) (g : ℕ → Entry → Entry) → IsFine tables rt → ((q : ℕ) → maps.get rt' q ≡ option_map (g q) (maps.get rt q))
    → ((q : ℕ) (e : Entry) → maps.get rt q ≡ Some e → HasSoundNumber q e → HasSoundNumber q (g q e))
    → ((q : ℕ) (e : Entry) → IsBacked tables q e → IsBacked tables q (g q e))
    → ((q : ℕ) (e : Entry) (n h : ℕ) → maps.get rt q ≡ Some e → 1 ≤ n → IsAtLeast e n h → IsAtLeast (g q e) n h)
    → Leads tables rt rt'
mapped_leads tables rt rt' g fine law sounds backs keeps = record {
  fine = record {
    sound = λ q e is. mapped_each HasSoundNumber g q e (maps.get rt q) (sym (law q) ∙ is) (λ s here. sounds q s here (fine.sound q s here));
    backed = λ q e is. mapped_each (IsBacked tables) g q e (maps.get rt q) (sym (law q) ∙ is) (λ s here. backs q s (fine.backed q s here));
  };
  grows = record {
    keeps = λ q n h one at. record { entry = g q at.entry; there = law q ∙ ap (option_map (g q)) at.there; enough = keeps q at.entry n h at.there one at.enough };
  };
}

pub invalidate_leads : (tables : ℕ → Table) (rt : Table) (dests : Dests) → IsFine tables rt → Raises rt dests → Leads tables rt (invalidate rt dests)
invalidate_leads tables rt dests fine raises =
    mapped_leads tables rt (invalidate rt dests) (λ d e. invalidated e (maps.get dests d)) fine (get-invalidate rt dests)
    (λ q e here sound. invalidated_sound q e (maps.get dests q) (λ m is. raises.up q e m here is) sound)
    (λ q e backed. invalidated_backed tables q e (maps.get dests q) backed)
    (λ q e n h here one enough. invalidated_keeps e (maps.get dests q) n h one (λ m is. raises.up q e m here is) enough)

pub add_pre_leads : (tables : ℕ → Table) (rt : Table) (d : ℕ) (nodes : NodeIds) → IsFine tables rt → Leads tables rt (add_pre rt d nodes)
add_pre_leads tables rt d nodes fine =
    mapped_leads tables rt (add_pre rt d nodes) (add_pre_at d nodes) fine (get-add_pre rt d nodes)
    (λ q e here sound. joined_sound q d nodes e sound)
    (λ q e backed. joined_backed tables q d nodes e backed)
    (λ q e n h here one enough. joined_keeps q d nodes e n h enough)
