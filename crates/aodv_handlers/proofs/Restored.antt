-- Rows of a table that are put back.
use Rattle.std.proofs.Common.{◌≡◌, ℕ, Bool, cond, Option, Some, None, refl, ap, ◌∙◌, eq-eqb, inl, inr}
use Rattle.std.specs.Prelude.{if◌then◌else◌, ◌==◌}
use Rattle.std.proofs.lemmas.Bool.{ne_eqb, cases_eq}
use Rattle.std.proofs.lemmas.Cmp.{nat_cmp_total}
use Rattle.std.specs.Cmp.{unsigned_tied}
use Rattle.std.specs.FinMap as maps
use Rattle.std.specs.FinMap.{nat_cmp-IsAntisymmetric}
use Rattle.mesh_base.specs.Members.{NodeIds}
use Rattle.aodv_model.specs.declared.entry.Entry.{Entry}
use Rattle.aodv_model.specs.Tables.{Table, update, add_pre}
use Rattle.aodv_model.proofs.Lookups.{get-update, get-add_pre}
use Rattle.aodv_table.specs.Calls.{with_entry}
use Rattle.aodv_table.proofs.Changes.{unjoined}

pub get-with_entry : (rt : Table) (d : ℕ) (o : Option Entry) (q : ℕ) → maps.get (with_entry rt d o) q ≡ (if q == d then o else maps.get rt q)
get-with_entry rt d None q = maps.get-remove nat_cmp_total rt d q ∙ ap (λ (b : Bool). cond b None (maps.get rt q)) (unsigned_tied q d)
get-with_entry rt d (Some e) q = maps.get-insert nat_cmp_total rt d e q ∙ ap (λ (b : Bool). cond b (Some e) (maps.get rt q)) (unsigned_tied q d)

-- two tables that differ at most for two destinations
pub two_back : (rt rt' : Table) (a b : ℕ) → ((q : ℕ) → (q ≡ a → ⊥) → (q ≡ b → ⊥) → maps.get rt' q ≡ maps.get rt q) → with_entry (with_entry rt' b (maps.get rt b)) a (maps.get rt a) ≡ rt
two_back rt rt' a b same = maps.same_map nat_cmp_total nat_cmp-IsAntisymmetric _ rt (λ q.
    get-with_entry (with_entry rt' b (maps.get rt b)) a (maps.get rt a) q
    ∙ elim (cases_eq q a) [
      | inl at_a ↦ rw (eq-eqb q a at_a, at_a) refl
      | inr not_a ↦ rw (ne_eqb q a not_a) (get-with_entry rt' b (maps.get rt b) q ∙ elim (cases_eq q b) [
        | inl at_b ↦ rw (eq-eqb q b at_b, at_b) refl
        | inr not_b ↦ rw (ne_eqb q b not_b) (same q not_a not_b)
      ])
    ])

add_pre_other : (rt : Table) (d : ℕ) (nodes : NodeIds) (q : ℕ) → (q ≡ d → ⊥) → maps.get (add_pre rt d nodes) q ≡ maps.get rt q
add_pre_other rt d nodes q other = get-add_pre rt d nodes q ∙ unjoined d nodes q (maps.get rt q) other

-- the entries of a and b, put back after each got precursors
pub joins_back : (rt rt' : Table) (a b : ℕ) (s t : NodeIds) (kept_a kept_b : Option Entry) → rt' ≡ add_pre (add_pre rt a s) b t → kept_a ≡ maps.get rt a → kept_b ≡ maps.get rt b → with_entry (with_entry rt' b kept_b) a kept_a ≡ rt
joins_back rt rt' a b s t kept_a kept_b is a_is b_is =
    let all : with_entry (with_entry (add_pre (add_pre rt a s) b t) b (maps.get rt b)) a (maps.get rt a) ≡ rt =
    two_back rt (add_pre (add_pre rt a s) b t) a b (λ q not_a not_b. add_pre_other (add_pre rt a s) b t q not_b ∙ add_pre_other rt a s q not_a) in
    (λ i. with_entry (with_entry (is i) b (b_is i)) a (a_is i)) ∙ all

update_other : (rt : Table) (d : ℕ) (r : Entry) (q : ℕ) → (q ≡ d → ⊥) → maps.get (update rt d r) q ≡ maps.get rt q
update_other rt d r q other = get-update rt d r q ∙ rw (ne_eqb q d other) refl

-- the entries of a and b, put back after each was updated
pub updates_back : (rt rt' : Table) (a b : ℕ) (r s : Entry) (kept_a kept_b : Option Entry) → rt' ≡ update (update rt a r) b s → kept_a ≡ maps.get rt a → kept_b ≡ maps.get rt b → with_entry (with_entry rt' b kept_b) a kept_a ≡ rt
updates_back rt rt' a b r s kept_a kept_b is a_is b_is =
    let all : with_entry (with_entry (update (update rt a r) b s) b (maps.get rt b)) a (maps.get rt a) ≡ rt =
    two_back rt (update (update rt a r) b s) a b (λ q not_a not_b. update_other (update rt a r) b s q not_b ∙ update_other rt a r q not_a) in
    (λ i. with_entry (with_entry (is i) b (b_is i)) a (a_is i)) ∙ all

-- what two updates of the code make
pub updated_twice : (rt rt1 rt2 : Table) (a b : ℕ) (r s s' : Entry) → rt1 ≡ update rt a r → rt2 ≡ update rt1 b s → s ≡ s' → rt2 ≡ update (update rt a r) b s'
updated_twice rt rt1 rt2 a b r s s' h1 h2 h3 = h2 ∙ (λ i. update (h1 i) b (h3 i))
