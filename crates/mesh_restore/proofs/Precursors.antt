-- The precursors that were read are nodes of the mesh.
use Rattle.std.proofs.Common.{◌≡◌, ℕ, ◌<◌, ◌≤◌, Bool, true, false, cond, eqb, Some, sym, ap, subst, ◌∙◌, arith, inl, inr}
use Rattle.std.specs.Ordering.{nat_cmp}
use Rattle.std.specs.Cmp.{nat_cmp_total, unsigned_tied}
use Rattle.std.specs.FinMap as maps
use Rattle.std.specs.FinSet as sets
use Rattle.std.proofs.lemmas.Bool.{cases_lt, both_ways}
use Rattle.std.proofs.lemmas.Option.{none-some, same_Some}
use Rattle.mesh_base.specs.Members.{NodeIds}
use Rattle.aodv_model.specs.declared.entry.Entry.{Entry}
use Rattle.aodv_model.specs.Tables.{Table}
use Rattle.aodv_model.specs.Soundness.{AreBelow}
use Rattle.mesh_restore.specs.Nodes.{ArePrecursorsBelow}
use Rattle.mesh_restore.proofs.Listings.{AreMembersBelow}

pub below_end : (size low : ℕ) (s : NodeIds) → AreMembersBelow low s → low ≤ size → AreBelow size s
below_end size low s below le p has =
    elim (cases_lt p low) [
      | inl lt ↦ omega arith
      | inr past ↦ absurd (both_ways (sets.contains s p) (below p past) has)
    ]

pub no_precursors : (size : ℕ) → ArePrecursorsBelow size maps.empty
no_precursors size d e is = absurd (none-some e (sym (maps.get-empty nat_cmp d) ∙ is))

pub precursors_still_below : (size : ℕ) (rt : Table) (d : ℕ) (e : Entry) → ArePrecursorsBelow size rt → AreBelow size e.pre → ArePrecursorsBelow size (maps.insert rt d e)
precursors_still_below size rt d e below new q f is =
    at (eqb q d) (sym (maps.get-insert nat_cmp_total rt d e q ∙ ap (λ (b : Bool). cond b (Some e) (maps.get rt q)) (unsigned_tied q d)) ∙ is)
  where
    at : (b : Bool) → cond b (Some e) (maps.get rt q) ≡ Some f → AreBelow size f.pre
    at true here = subst (λ (x : Entry). AreBelow size x.pre) (same_Some e f here) new
    at false elsewhere = below q f elsewhere
