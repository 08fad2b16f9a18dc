-- How what is listed grows by what comes last.
use Rattle.std.proofs.Common.{◌≡◌, ℕ, zero, suc, ◌+◌, ◌<◌, ◌≤◌, false, List, [], ◌∷◌, ◌++◌, refl, sym, ap, ◌∙◌, arith}
use Rattle.std.specs.declared.cmp.Ordering.{Ordering}
use Rattle.std.specs.declared.cmp.Ordering.TheVariants.{Greater}
use Rattle.std.specs.Ordering.{nat_cmp}
use Rattle.std.specs.Cmp.{IsTotalOrder, nat_cmp_total}
use Rattle.std.specs.List.{AllByRecursion}
use Rattle.std.specs.FinMap as maps
use Rattle.std.specs.FinMap.{FinMap, put}
use Rattle.std.specs.FinSet as sets
use Rattle.std.proofs.lemmas.List.{nil_from_length, map_push}
use Rattle.aodv_model.specs.declared.entry.Entry.{Entry}
use Rattle.aodv_model.specs.Tables.{Table}
use Rattle.aodv_model.proofs.Keys.{greater}
use Rattle.mesh_checkpoint.specs.Points.{route_of, routes_in}
use Rattle.mesh_restore.specs.Stores.{AreBelow}
use Rattle.mesh_base.specs.Members.{NodeIds, members_below, member_list}
use Rattle.mesh_base.proofs.Ranks.{members-zero, members-none, members-next}
use Rattle.aodv_waiting.proofs.StoreLaws.{in_here, in_apart}

pub all_weaker : {X : Type 0} (P Q : X → Type 0) → ((x : X) → P x → Q x) → (xs : List X) → AllByRecursion P xs → AllByRecursion Q xs
all_weaker P Q gives [] all = tt
all_weaker P Q gives (x ∷ xs) all = (gives x all.0, all_weaker P Q gives xs all.1)

pub all_push : {X : Type 0} (P : X → Type 0) (xs : List X) (y : X) → AllByRecursion P xs → P y → AllByRecursion P (xs ++ y ∷ [])
all_push P [] y all one = (one, tt)
all_push P (x ∷ xs) y all one = (all.0, all_push P xs y all.1 one)

-- an entry whose key is above all others stands last
put_last : {K X : Type 0} (R : K → K → Ordering) (k : K) (v : X) (es : List (K × X)) → AllByRecursion (λ e. R k e.0 ≡ Greater) es → put R k v es ≡ es ++ (k, v) ∷ []
put_last R k v [] above = refl
put_last R k v (e ∷ es) above = rw above.0 (ap (λ fs. e ∷ fs) (put_last R k v es above.1))

pub entries_last : {K X : Type 0} {R : K → K → Ordering} (o : IsTotalOrder R) (m : FinMap R X) (k : K) (v : X) → AllByRecursion (λ e. R k e.0 ≡ Greater) (maps.entries m) → maps.entries (maps.insert m k v) ≡ maps.entries m ++ (k, v) ∷ []
entries_last {R = R} o m k v above = maps.entries-insert o m k v ∙ put_last R k v (maps.entries m) above

pub listed_last : {X : Type 0} (m : FinMap nat_cmp X) (low k : ℕ) (v : X) → AreBelow low m → low ≤ k → maps.entries (maps.insert m k v) ≡ maps.entries m ++ (k, v) ∷ []
listed_last m low k v below up =
    entries_last nat_cmp_total m k v (all_weaker (λ e. e.0 < low) (λ e. nat_cmp k e.0 ≡ Greater) (λ e lt. greater k e.0 (omega (arith, lt, up))) (maps.entries m) below)

pub still_below : {X : Type 0} (m : FinMap nat_cmp X) (low k : ℕ) (v : X) → AreBelow low m → low ≤ k → AreBelow (k + 1) (maps.insert m k v)
still_below m low k v below up =
    rw (listed_last m low k v below up)
    (all_push (λ e. e.0 < k + 1) (maps.entries m) (k, v) (all_weaker (λ e. e.0 < low) (λ e. e.0 < k + 1) (λ e lt. omega (arith, lt, up)) (maps.entries m) below) (omega arith))

-- ---- sets of nodes

-- the members are below a number
abbrev pub AreMembersBelow : ℕ → NodeIds → Type 0
AreMembersBelow low s = (q : ℕ) → low ≤ q → sets.contains s q ≡ false

pub members_still_below : (s : NodeIds) (low i : ℕ) → AreMembersBelow low s → low ≤ i → AreMembersBelow (i + 1) (sets.insert s i)
members_still_below s low i below up q past = in_apart s i q (λ same. absurd (omega (arith, same, past))) ∙ below q (omega (arith, up, past))

members_same : (s t : NodeIds) (n : ℕ) → ((q : ℕ) → q < n → sets.contains s q ≡ sets.contains t q) → members_below n s ≡ members_below n t
unfolding members_below
members_same s t zero same = refl
members_same s t (suc n) same =
    let before : members_below n s ≡ members_below n t = members_same s t n (λ q lt. same q (omega (arith, lt))) in
    rw (same n (omega arith), before) refl

pub members_last : (s : NodeIds) (low i : ℕ) → AreMembersBelow low s → low ≤ i → i < 256 → member_list (sets.insert s i) ≡ member_list s ++ i ∷ []
members_last s low i below up lt =
    let t = sets.insert s i in
    let none_t : (q : ℕ) → i + 1 ≤ q → q < 256 → sets.contains t q ≡ false = λ q past _. members_still_below s low i below up q past in
    let none_s : (q : ℕ) → i ≤ q → q < 256 → sets.contains s q ≡ false = λ q past _. below q (omega (arith, up, past)) in
    let front : members_below i t ≡ members_below i s = members_same t s i (λ q q_lt. in_apart s i q (λ same. absurd (omega (arith, same, q_lt)))) in
    members-none 256 (i + 1) t (omega (arith, lt)) none_t
    ∙ members-next i i t (omega arith) (in_here s i) (λ q up2 lt2. absurd (omega (arith, up2, lt2)))
    ∙ ap (λ (ms : List ℕ). ms ++ i ∷ []) (front ∙ sym (members-none 256 i s (omega (arith, lt)) none_s))

pub no_members : member_list sets.empty ≡ []
no_members = members-none 256 0 sets.empty (omega arith) (λ q up lt. sets.contains-empty nat_cmp q) ∙ members-zero sets.empty

pub none_below : AreMembersBelow 0 sets.empty
none_below q up = sets.contains-empty nat_cmp q

-- ---- listings of maps

pub no_entries : {K X : Type 0} (R : K → K → Ordering) → maps.entries (maps.empty {X = X} {R = R}) ≡ []
no_entries {X = X} R = nil_from_length (maps.entries (maps.empty {X = X} {R = R})) (sym (maps.len-entries (maps.empty {X = X} {R = R})) ∙ maps.len-empty R X)

pub none_listed : (X : Type 0) → AreBelow 0 (maps.empty {X = X} {R = nat_cmp})
none_listed X = rw (no_entries {X = X} nat_cmp) tt

pub no_routes : routes_in maps.empty ≡ []
unfolding routes_in
no_routes = rw (no_entries {X = Entry} nat_cmp) refl

pub routes_last : (rt : Table) (low d : ℕ) (e : Entry) → AreBelow low rt → low ≤ d → routes_in (maps.insert rt d e) ≡ routes_in rt ++ route_of (d, e) ∷ []
unfolding routes_in
routes_last rt low d e below up = rw (listed_last rt low d e below up) (map_push route_of (maps.entries rt) (d, e))
