-- What a table says of a destination, whatever its precursors.
use Rattle.std.proofs.Common.{◌≡◌, ℕ, ◌≤◌, true, ◌==◌, Some, None, Option, refl, ap, ◌∙◌, arith}
use Rattle.std.specs.Prelude.{option_map}
use Rattle.std.specs.FinMap as maps
use Rattle.std.specs.FinSet as sets
use Rattle.aodv_model.specs.Quality.{is_kno, is_val}
use Rattle.aodv_model.specs.declared.entry.Entry.{Entry}
use Rattle.aodv_model.specs.declared.entry.Flag.{Flag}
use Rattle.aodv_model.specs.declared.entry.Flag.TheVariants.{Inv, Val}
use Rattle.aodv_model.specs.declared.entry.Known.{Known}
use Rattle.aodv_model.specs.declared.entry.Known.TheVariants.{Kno, Unk}
use Rattle.aodv_model.proofs.Entries.{if_case}
use Rattle.aodv_model.proofs.Lookups.{get-add_pre, get-update}
use Rattle.aodv_model.proofs.Changes.{after_by}
use Rattle.std.proofs.lemmas.Bool.Decides.{nat_tests}
use Rattle.aodv_model.specs.Handlers.{join_answer_precursors, join_reply_precursors, one, route_entry}
use Rattle.aodv_model.specs.Soundness.{AllSoundNumbers}
use Rattle.aodv_model.specs.Tables.{Table, add_pre, add_pre_at, nhop, number_in, status_in, sqn, update, entry_after, merge}
use Rattle.mesh_base.specs.Members.{NodeIds}

-- ---- what a table says of itself

pub valid_flag : (f : Flag) → is_val f ≡ true → f ≡ Val
valid_flag Val e = refl
valid_flag Inv e = cc

pub known_number : (rt : Table) (d : ℕ) (o : Option Entry) → AllSoundNumbers rt → maps.get rt d ≡ o → is_kno (status_in o) ≡ true → 1 ≤ number_in o
known_number rt d None sound is known = cc
known_number rt d (Some e) sound is known = (sound d e is).known (kno e.dsk known)
  where
    kno : (k : Known) → is_kno k ≡ true → k ≡ Kno
    kno Kno e = refl
    kno Unk e = cc

pub joined_alike : {X : Type 0} (f : Option Entry → X) (d : ℕ) (nodes : NodeIds) (q : ℕ) (o : Option Entry) → ((e : Entry) (pre : NodeIds) → f (Some (record e { pre = pre })) ≡ f (Some e)) → f (option_map (add_pre_at d nodes q) o) ≡ f o
joined_alike f d nodes q None same = refl
joined_alike f d nodes q (Some e) same = if_case (λ x. f (Some x) ≡ f (Some e)) (q == d) (record e { pre = sets.union e.pre nodes }) e (λ _. same e _) (λ _. refl)

-- precursors change nothing of what is read here
pub pre_alike : {X : Type 0} (f : Option Entry → X) (rt : Table) (d : ℕ) (nodes : NodeIds) (q : ℕ) → ((e : Entry) (pre : NodeIds) → f (Some (record e { pre = pre })) ≡ f (Some e)) → f (maps.get (add_pre rt d nodes) q) ≡ f (maps.get rt q)
pre_alike f rt d nodes q same = ap f (get-add_pre rt d nodes q) ∙ joined_alike f d nodes q (maps.get rt q) same

pub join_answer_alike : {X : Type 0} (f : Option Entry → X) (rt : Table) (d o from q : ℕ) → ((e : Entry) (pre : NodeIds) → f (Some (record e { pre = pre })) ≡ f (Some e)) → f (maps.get (join_answer_precursors rt d o from) q) ≡ f (maps.get rt q)
unfolding join_answer_precursors
join_answer_alike f rt d o from q same = pre_alike f (add_pre rt d (one from)) o (one (nhop (add_pre rt d (one from)) d)) q same ∙ pre_alike f rt d (one from) q same

pub join_reply_alike : {X : Type 0} (f : Option Entry → X) (rt : Table) (d o q : ℕ) → ((e : Entry) (pre : NodeIds) → f (Some (record e { pre = pre })) ≡ f (Some e)) → f (maps.get (join_reply_precursors rt d o) q) ≡ f (maps.get rt q)
unfolding join_reply_precursors
join_reply_alike f rt d o q same =
    let rt1 = add_pre rt d (one (nhop rt o)) in
    pre_alike f rt1 (nhop rt1 d) (one (nhop rt1 o)) q same ∙ pre_alike f rt d (one (nhop rt o)) q same

-- a route's number isn't 0, and so isn't the number that the table has then
pub route_above : (rt : Table) (d n h from : ℕ) → 1 ≤ n → 1 ≤ sqn (update rt d (route_entry n h from)) d
unfolding merge
route_above rt d n h from one = rw here (after_by (λ e. 1 ≤ e.dsn) (maps.get rt d) (route_entry n h from) one (λ s is. grind (arith, nat_tests)))
  where
    here : maps.get (update rt d (route_entry n h from)) d ≡ Some (entry_after (maps.get rt d) (route_entry n h from))
    here = grind (arith, nat_tests, get-update rt d (route_entry n h from) d)
