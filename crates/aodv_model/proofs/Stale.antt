-- A reply is stale exactly where its update leaves the table equal.
use Rattle.std.proofs.Common.{◌≡◌, ℕ, Bool, true, false, not, ◌&&◌, ◌||◌, ◌==◌, Some, None, Option, refl, ap, sym, ◌∙◌, arith}
use Rattle.std.specs.Prelude.{◌↔◌, if◌then◌else◌}
use Rattle.std.specs.Cmp.{nat_cmp_total}
use Rattle.std.proofs.lemmas.Bool.{eqb-true}
use Rattle.std.proofs.lemmas.Bool.Decides.{nat_tests}
use Rattle.std.proofs.lemmas.Option.{none-some, same_Some}
use Rattle.std.specs.Ordering.{nat_cmp}
use Rattle.std.specs.FinMap as maps
use Rattle.std.specs.FinSet as sets
use Rattle.mesh_base.specs.Members.{NodeIds}
use Rattle.aodv_model.specs.declared.entry.Entry.{Entry}
use Rattle.aodv_model.specs.declared.entry.Flag.TheVariants.{Val}
use Rattle.aodv_model.specs.declared.entry.Known.TheVariants.{Kno}
use Rattle.aodv_model.specs.Tables.{Table, entry_after, is_newer, is_shorter, merge, update}
use Rattle.aodv_model.specs.Handlers.{route_entry, is_stale_beside, is_stale}
use Rattle.aodv_model.proofs.Lookups.{get-update}

-- the union with no node
pub with_none : (s : NodeIds) → sets.union s sets.empty ≡ s
with_none s = sets.same_set nat_cmp_total maps.nat_cmp-IsAntisymmetric (sets.union s sets.empty) s (λ q. sets.contains-union nat_cmp_total s sets.empty q ∙ ap (λ b. sets.contains s q || b) (sets.contains-empty nat_cmp q) ∙ or_false (sets.contains s q))
  where
    or_false : (b : Bool) → (b || false) ≡ b
    or_false true = refl
    or_false false = refl

-- one that is neither newer nor shorter leaves the other
kept : (s r : Entry) → r.dsk ≡ Kno → (not (is_newer r s) && not (is_shorter r s)) ≡ true → merge s r ≡ record s { pre = sets.union s.pre r.pre }
unfolding merge
kept s r known e = grind (arith, nat_tests)

-- one that is newer or shorter puts its number, its hops or its flag in place of the other's
replaced : (s r : Entry) → r.flag ≡ Val → merge s r ≡ s → (not (is_newer r s) && not (is_shorter r s)) ≡ true
unfolding merge
replaced s r valid e = grind (arith, nat_tests)

same_table : (rt : Table) (d : ℕ) (r : Entry) → Some (entry_after (maps.get rt d) r) ≡ maps.get rt d → update rt d r ≡ rt
same_table rt d r is = maps.same_map nat_cmp_total maps.nat_cmp-IsAntisymmetric (update rt d r) rt (λ q. get-update rt d r q ∙ at q (q == d) refl)
  where
    at : (q : ℕ) (b : Bool) → (q == d) ≡ b → (if b then Some (entry_after (maps.get rt d) r) else maps.get rt q) ≡ maps.get rt q
    at q true e = is ∙ ap (maps.get rt) (sym (eqb-true q d e))
    at q false e = refl

here : (rt : Table) (d : ℕ) (r : Entry) → maps.get (update rt d r) d ≡ Some (entry_after (maps.get rt d) r)
here rt d r = get-update rt d r d ∙ ap (λ b. if b then Some (entry_after (maps.get rt d) r) else maps.get rt d) (same_number d)
  where
    same_number : (n : ℕ) → (n == n) ≡ true
    same_number n = grind (arith, nat_tests)

module _ (n hops from : ℕ) where
  abbrev r : Entry
  r = route_entry n hops from

  stays : (o : Option Entry) → is_stale_beside o r ≡ true → Some (entry_after o r) ≡ o
  stays None e = cc
  stays (Some s) e = ap Some (kept s r refl e ∙ ap (λ p. record s { pre = p }) (with_none s.pre))

  stale : (o : Option Entry) → Some (entry_after o r) ≡ o → is_stale_beside o r ≡ true
  stale None e = absurd (none-some r (sym e))
  stale (Some s) e = replaced s r refl (same_Some (merge s r) s e)

  pub stale_is_unchanged : (rt : Table) (d : ℕ) → (is_stale rt d r ≡ true) ↔ (update rt d r ≡ rt)
  unfolding is_stale
  stale_is_unchanged rt d = (
    λ e. same_table rt d r (stays (maps.get rt d) e),
    λ e. stale (maps.get rt d) (sym (here rt d r) ∙ ap (λ t. maps.get t d) e),
  )
