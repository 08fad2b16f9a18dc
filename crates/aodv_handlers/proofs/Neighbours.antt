-- The update by a neighbour that was heard, where it changes nothing.
use Rattle.std.proofs.Common.{◌≡◌, ℕ, Bool, true, Option, Some, None, refl, ap, sym, ◌∙◌, eq-eqb, inl, inr, arith}
use Rattle.std.proofs.lemmas.Bool.{ne_eqb, cases_eq}
use Rattle.std.proofs.lemmas.Bool.Decides.{nat_tests}
use Rattle.std.proofs.lemmas.Cmp.{nat_cmp_total}
use Rattle.std.specs.FinMap as maps
use Rattle.std.specs.FinMap.{nat_cmp-IsAntisymmetric}
use Rattle.mesh_base.specs.Members.{NodeIds}
use Rattle.aodv_model.specs.declared.entry.Entry.{Entry}
use Rattle.aodv_model.specs.declared.entry.Known.{Known}
use Rattle.aodv_model.specs.declared.entry.Known.TheVariants.{Kno, Unk}
use Rattle.aodv_model.specs.declared.entry.Flag.{Flag}
use Rattle.aodv_model.specs.declared.entry.Flag.TheVariants.{Val, Inv}
use Rattle.aodv_model.specs.Tables.{Table, entry_after, merge, update}
use Rattle.aodv_model.specs.Handlers.{neighbour_entry}
use Rattle.aodv_model.proofs.Lookups.{get-update}
use Rattle.aodv_model.proofs.Stale.{with_none}
use Rattle.aodv_table.specs.Calls.{is_neighbour_entry, is_neighbour_in}

-- the entry of a neighbour, whatever its number and its precursors
abbrev known_by : Entry → ℕ → Entry
known_by e from = record (neighbour_entry from) { dsn = e.dsn; pre = e.pre }

-- such an entry stays where the neighbour is heard
noted_stays : (e : Entry) (from : ℕ) → merge (known_by e from) (neighbour_entry from) ≡ known_by e from
unfolding merge
noted_stays e from = grind (arith, nat_tests, with_none e.pre)

-- an update that leaves the entry leaves the table
same_entry : (rt : Table) (d : ℕ) (e r : Entry) → Some e ≡ maps.get rt d → merge e r ≡ e → update rt d r ≡ rt
same_entry rt d e r had stays = maps.same_map nat_cmp_total nat_cmp-IsAntisymmetric (update rt d r) rt (λ q.
    get-update rt d r q
    ∙ elim (cases_eq q d) [
      | inl here ↦ rw (eq-eqb q d here, here) (ap (λ o. Some (entry_after o r)) (sym had) ∙ ap Some stays ∙ had)
      | inr other ↦ rw (ne_eqb q d other) refl
    ])

-- a neighbour is heard whose entry is such a one
noted : (rt : Table) (from : ℕ) (e : Entry) → Some e ≡ maps.get rt from → e ≡ known_by e from → rt ≡ update rt from (neighbour_entry from)
noted rt from e had is = sym (same_entry rt from e (neighbour_entry from) had (ap (λ (x : Entry). merge x (neighbour_entry from)) is ∙ noted_stays e from ∙ sym is))

-- an entry of these parts which a table takes for a neighbour's is such a one
known_parts : (from n : ℕ) (known : Known) (flag : Flag) (hops next : ℕ) (nodes : NodeIds) → let e : Entry = record { dsn = n; dsk = known; flag = flag; hops = hops; next = next; pre = nodes } in
    is_neighbour_entry from (Some e) ≡ true → e ≡ known_by e from
known_parts from n Unk Val hops next nodes is = grind (arith, nat_tests)
known_parts from n Kno Val hops next nodes is = cc
known_parts from n Unk Inv hops next nodes is = cc
known_parts from n Kno Inv hops next nodes is = cc

noted_at : (rt : Table) (from : ℕ) (o : Option Entry) → o ≡ maps.get rt from → is_neighbour_entry from o ≡ true → rt ≡ update rt from (neighbour_entry from)
noted_at rt from None had is = cc
noted_at rt from (Some e) had is = noted rt from e had (known_parts from e.dsn e.dsk e.flag e.hops e.next e.pre is)

-- a neighbour that was heard before is heard again
pub heard_again : (rt : Table) (from : ℕ) (b : Bool) → b ≡ is_neighbour_in rt from → b ≡ true → rt ≡ update rt from (neighbour_entry from)
heard_again rt from b read is = noted_at rt from (maps.get rt from) refl (sym read ∙ is)
