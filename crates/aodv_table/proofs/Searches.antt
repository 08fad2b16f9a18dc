-- A table searched for the valid entries with one next hop, one valid destination after another.
use Rattle.std.proofs.Common.{◌≡◌, ◌<◌, ◌≤◌, ℕ, zero, suc, ◌+◌, Bool, true, false, cond, eqb, ltb, ◌&&◌, ◌||◌, List, [], ◌∷◌, map, length, get_or, Option, Some, None, refl, ap, sym, ◌∙◌, eq-eqb, inl, inr, arith}
use Rattle.std.specs.Prelude.{option_map, is_some}
use Rattle.std.specs.List.{list_any}
use Rattle.std.proofs.lemmas.Bool.{ne_eqb, cases_eq, cases_lt, le-ltb, lt-ltb, true≢false}
use Rattle.std.proofs.lemmas.Option.{none-some, same_Some}
use Rattle.std.proofs.lemmas.Cmp.{nat_cmp_total}
use Rattle.std.proofs.Math.Bool.{and-false}
use Rattle.std.specs.Ordering.{nat_cmp, eq_by_cmp}
use Rattle.std.specs.Cmp.{unsigned_tied}
use Rattle.std.specs.FinMap as maps
use Rattle.std.specs.FinMap.{find}
use Rattle.std.specs.FinSet as sets
use Rattle.mesh_base.specs.Members.{NodeIds}
use Rattle.aodv_model.specs.declared.entry.Entry.{Entry}
use Rattle.aodv_model.specs.Quality.{inc}
use Rattle.aodv_model.proofs.RisingLaws.{few_below, found_at, dest_at}
use Rattle.aodv_model.specs.Tables.{Table, Dests, unreachable_by, goes_by, is_valid_in}
use Rattle.aodv_model.specs.Fullness.{greatest}
use Rattle.aodv_table.specs.Calls.{IsBelow, valid_dests, dests_by, is_past, IsLeastPast}
use Rattle.aodv_model.proofs.Lookups.{get-unreachable_by}
use Rattle.aodv_table.proofs.Lookups.{contains-valid_dests, contains-dests_by, kept_if_by, same_nodes, same_table}
use Rattle.aodv_table.proofs.RowLaws.{contains-marked}

-- ---- one destination

-- what is looked for: the entry of d, where it goes by y
abbrev pub by : Table → ℕ → ℕ → Option Entry
by rt d y = cond (goes_by (maps.get rt d) y) (maps.get rt d) None

not_valid_not_by : (o : Option Entry) (y : ℕ) → is_valid_in o ≡ false → goes_by o y ≡ false
not_valid_not_by None y gone = refl
not_valid_not_by (Some e) y gone = ap (λ (b : Bool). b && eqb e.next y) gone

pub by_read : (rt : Table) (d y : ℕ) (o r : Option Entry) → o ≡ maps.get rt d → r ≡ cond (goes_by o y) o None → r ≡ by rt d y
by_read rt d y o r read is = is ∙ ap (λ x. cond (goes_by x y) x None) read

none_by : (rt : Table) (valid : NodeIds) (y q : ℕ) → valid ≡ valid_dests rt → sets.contains valid q ≡ false → goes_by (maps.get rt q) y ≡ false
none_by rt valid y q are gone = not_valid_not_by (maps.get rt q) y (sym (contains-valid_dests rt q) ∙ ap (λ (s : NodeIds). sets.contains s q) (sym are) ∙ gone)

-- a valid destination is a node of the mesh
pub valid_below : (rt : Table) (valid : NodeIds) (n d : ℕ) → IsBelow n rt → valid ≡ valid_dests rt → sets.contains valid d ≡ true → d < n
valid_below rt valid n d below are has =
    elim (cases_lt d n) [
      | inl lt ↦ lt
      | inr le ↦ absurd (true≢false (sym has ∙ ap (λ (s : NodeIds). sets.contains s d) are ∙ contains-valid_dests rt d ∙ ap is_valid_in (below d le)))
    ]

-- ---- the set of destinations

pub record Found (rt : Table) (y d : ℕ) (found : NodeIds) : Type 0 where
  pub so_far : (q : ℕ) → sets.contains found q ≡ (ltb q d && goes_by (maps.get rt q) y)

pub found_none : (rt : Table) (y : ℕ) (found : NodeIds) → found ≡ sets.empty → Found rt y 0 found
found_none rt y found none = record { so_far = λ q. ap (λ (s : NodeIds). sets.contains s q) none ∙ sets.contains-empty nat_cmp q ∙ ap (λ (b : Bool). b && goes_by (maps.get rt q) y) (sym (le-ltb q 0 (omega arith))) }

later : (q d : ℕ) → (q ≡ d → ⊥) → ltb q d ≡ ltb q (d + 1)
later q d other = elim (cases_lt q d) [ inl lt ↦ lt-ltb q d lt ∙ sym (lt-ltb q (d + 1) (omega arith)) | inr le ↦ le-ltb q d le ∙ sym (le-ltb q (d + 1) (omega arith)) ]

pub found_one : (rt : Table) (y d : ℕ) (found found' : NodeIds) → found' ≡ sets.insert found d → is_some (by rt d y) ≡ true → Found rt y d found → Found rt y (d + 1) found'
found_one rt y d found found' is hit was = record {
  so_far = λ q.
      ap (λ (s : NodeIds). sets.contains s q) is
      ∙ sets.contains-insert nat_cmp_total found d q
      ∙ ap (λ (b : Bool). b || sets.contains found q) (unsigned_tied q d)
      ∙ elim (cases_eq q d) [
        | inl same ↦
            ap (λ (b : Bool). b || sets.contains found q) (eq-eqb q d same)
            ∙ sym (ap (λ (b : Bool). b && goes_by (maps.get rt q) y) (lt-ltb q (d + 1) (omega arith)) ∙ ap (λ k. goes_by (maps.get rt k) y) same ∙ sym (kept_if_by (maps.get rt d) y) ∙ hit)
        | inr other ↦
            ap (λ (b : Bool). b || sets.contains found q) (ne_eqb q d other)
            ∙ was.so_far q
            ∙ ap (λ (b : Bool). b && goes_by (maps.get rt q) y) (later q d other)
      ];
}

pub found_other : (rt : Table) (y d : ℕ) (found : NodeIds) → is_some (by rt d y) ≡ false → Found rt y d found → Found rt y (d + 1) found
found_other rt y d found miss was = record {
  so_far = λ q.
      was.so_far q
      ∙ elim (cases_eq q d) [
        | inl same ↦
            let gone : goes_by (maps.get rt q) y ≡ false = ap (λ k. goes_by (maps.get rt k) y) same ∙ sym (kept_if_by (maps.get rt d) y) ∙ miss in
            ap (λ (b : Bool). ltb q d && b) gone ∙ and-false (ltb q d) ∙ sym (ap (λ (b : Bool). ltb q (d + 1) && b) gone ∙ and-false (ltb q (d + 1)))
        | inr other ↦ ap (λ (b : Bool). b && goes_by (maps.get rt q) y) (later q d other)
      ];
}

-- no destination from s to d is valid
pub found_to : (rt : Table) (y s d : ℕ) (found valid : NodeIds) → valid ≡ valid_dests rt → s ≤ d → ((q : ℕ) → s ≤ q → q < d → sets.contains valid q ≡ false) → Found rt y s found → Found rt y d found
found_to rt y s d found valid are le gap was = record {
  so_far = λ q.
      was.so_far q
      ∙ elim (cases_lt q s) [
        | inl lt ↦ ap (λ (b : Bool). b && goes_by (maps.get rt q) y) (lt-ltb q s lt ∙ sym (lt-ltb q d (omega arith)))
        | inr past ↦ elim (cases_lt q d) [
          | inl lt ↦
              let gone : goes_by (maps.get rt q) y ≡ false = none_by rt valid y q are (gap q past lt) in
              ap (λ (b : Bool). ltb q s && b) gone ∙ and-false (ltb q s) ∙ sym (ap (λ (b : Bool). ltb q d && b) gone ∙ and-false (ltb q d))
          | inr late ↦ ap (λ (b : Bool). b && goes_by (maps.get rt q) y) (le-ltb q s past ∙ sym (le-ltb q d late))
        ]
      ];
}

-- no destination from s on is valid
pub found_all : (rt : Table) (y s : ℕ) (found valid : NodeIds) → valid ≡ valid_dests rt → ((q : ℕ) → s ≤ q → sets.contains valid q ≡ false) → Found rt y s found → found ≡ dests_by rt y
found_all rt y s found valid are gap was = same_nodes found (dests_by rt y) (λ q.
    was.so_far q
    ∙ elim (cases_lt q s) [
      | inl lt ↦ ap (λ (b : Bool). b && goes_by (maps.get rt q) y) (lt-ltb q s lt)
      | inr past ↦ ap (λ (b : Bool). b && goes_by (maps.get rt q) y) (le-ltb q s past) ∙ sym (none_by rt valid y q are (gap q past))
    ]
    ∙ sym (contains-dests_by rt y q))

-- ---- the valid destinations

pub record ValidFound (rt : Table) (d : ℕ) (found : NodeIds) : Type 0 where
  pub so_far : (q : ℕ) → sets.contains found q ≡ (ltb q d && is_valid_in (maps.get rt q))

pub valid_none : (rt : Table) (found : NodeIds) → found ≡ sets.empty → ValidFound rt 0 found
valid_none rt found none = record { so_far = λ q. ap (λ (s : NodeIds). sets.contains s q) none ∙ sets.contains-empty nat_cmp q ∙ ap (λ (b : Bool). b && is_valid_in (maps.get rt q)) (sym (le-ltb q 0 (omega arith))) }

pub valid_one : (rt : Table) (d : ℕ) (o : Option Entry) (found found' : NodeIds) → o ≡ maps.get rt d → found' ≡ cond (is_valid_in o) (sets.insert found d) (sets.remove found d) → ValidFound rt d found → ValidFound rt (d + 1) found'
valid_one rt d o found found' read is was = record {
  so_far = λ q.
      ap (λ (s : NodeIds). sets.contains s q) is
      ∙ contains-marked (is_valid_in o) found d q
      ∙ elim (cases_eq q d) [
        | inl same ↦
            ap (λ (b : Bool). cond b (is_valid_in o) (sets.contains found q)) (eq-eqb q d same)
            ∙ ap is_valid_in (read ∙ ap (maps.get rt) (sym same))
            ∙ sym (ap (λ (b : Bool). b && is_valid_in (maps.get rt q)) (lt-ltb q (d + 1) (omega arith)))
        | inr other ↦
            ap (λ (b : Bool). cond b (is_valid_in o) (sets.contains found q)) (ne_eqb q d other)
            ∙ was.so_far q
            ∙ ap (λ (b : Bool). b && is_valid_in (maps.get rt q)) (later q d other)
      ];
}

-- no node from n on has an entry
pub valid_all : (rt : Table) (n d : ℕ) (found : NodeIds) → IsBelow n rt → n ≤ d → ValidFound rt d found → found ≡ valid_dests rt
valid_all rt n d found below le was = same_nodes found (valid_dests rt) (λ q.
    was.so_far q
    ∙ elim (cases_lt q d) [
      | inl lt ↦ ap (λ (b : Bool). b && is_valid_in (maps.get rt q)) (lt-ltb q d lt)
      | inr past ↦ ap (λ (b : Bool). b && is_valid_in (maps.get rt q)) (le-ltb q d past) ∙ sym (ap is_valid_in (below q (omega arith)))
    ]
    ∙ sym (contains-valid_dests rt q))

-- ---- the destinations with their numbers raised

pub record Raised (rt : Table) (y d : ℕ) (out : Dests) : Type 0 where
  pub so_far : (q : ℕ) → maps.get out q ≡ cond (ltb q d) (maps.get (unreachable_by rt y) q) None
  pub in_range : (q : ℕ) → q < d → maps.get (unreachable_by rt y) q ≡ Some (greatest + 1) → ⊥

pub raised_none : (rt : Table) (y : ℕ) (out : Dests) → out ≡ maps.empty → Raised rt y 0 out
raised_none rt y out none = record {
  so_far = λ q. ap (λ (m : Dests). maps.get m q) none ∙ maps.get-empty nat_cmp q ∙ ap (λ (b : Bool). cond b (maps.get (unreachable_by rt y) q) None) (sym (le-ltb q 0 (omega arith)));
  in_range = λ q lt. absurd (omega arith);
}

pub raised_above : (rt : Table) (y d : ℕ) (out : Dests) → Raised rt y d out → (q : ℕ) → d ≤ q → maps.get out q ≡ None
raised_above rt y d out was q le = was.so_far q ∙ ap (λ (b : Bool). cond b (maps.get (unreachable_by rt y) q) None) (le-ltb q d le)

pub raised_room : (rt : Table) (y d : ℕ) (out : Dests) → d < 200 → Raised rt y d out → length (maps.entries out) < 200
raised_room rt y d out lt was = let few = few_below out d (raised_above rt y d out was) in omega arith

raised_at : (rt : Table) (y d : ℕ) (o : Option Entry) → o ≡ by rt d y → maps.get (unreachable_by rt y) d ≡ option_map (λ e. inc e.dsn) o
raised_at rt y d o is = get-unreachable_by rt y d ∙ ap (option_map (λ e. inc e.dsn)) (sym is)

inc_past : (n : ℕ) → inc n ≡ greatest + 1 → n ≡ greatest
inc_past zero e = absurd (omega arith)
inc_past (suc m) e =
    let one_more : inc (suc m) ≡ suc m + 1 = ap (λ (b : Bool). cond b 0 (suc m + 1)) (ne_eqb (suc m) 0 (λ h. omega arith)) in
    omega arith

pub raised_one : (rt : Table) (y d n : ℕ) (e : Entry) (out out' : Dests) → Some e ≡ by rt d y → n ≡ inc e.dsn → (e.dsn ≡ greatest → ⊥) → out' ≡ maps.insert out d n → Raised rt y d out → Raised rt y (d + 1) out'
raised_one rt y d n e out out' hit is fits put was =
    let here : maps.get (unreachable_by rt y) d ≡ Some n = raised_at rt y d (Some e) hit ∙ ap Some (sym is) in
    record {
      so_far = λ q.
          ap (λ (m : Dests). maps.get m q) put
          ∙ maps.get-insert nat_cmp_total out d n q
          ∙ ap (λ (b : Bool). cond b (Some n) (maps.get out q)) (unsigned_tied q d)
          ∙ elim (cases_eq q d) [
            | inl same ↦ ap (λ (b : Bool). cond b (Some n) (maps.get out q)) (eq-eqb q d same) ∙ sym (ap (λ (b : Bool). cond b (maps.get (unreachable_by rt y) q) None) (lt-ltb q (d + 1) (omega arith)) ∙ ap (maps.get (unreachable_by rt y)) same ∙ here)
            | inr other ↦ ap (λ (b : Bool). cond b (Some n) (maps.get out q)) (ne_eqb q d other) ∙ was.so_far q ∙ ap (λ (b : Bool). cond b (maps.get (unreachable_by rt y) q) None) (later q d other)
          ];
      in_range = λ q lt past. elim (cases_eq q d) [
        | inl same ↦ let m : n ≡ greatest + 1 = same_Some n (greatest + 1) (sym here ∙ ap (maps.get (unreachable_by rt y)) (sym same) ∙ past) in fits (inc_past e.dsn (sym is ∙ m))
        | inr other ↦ was.in_range q (omega arith) past
      ];
    }

pub raised_other : (rt : Table) (y d : ℕ) (out : Dests) → None ≡ by rt d y → Raised rt y d out → Raised rt y (d + 1) out
raised_other rt y d out miss was =
    let here : maps.get (unreachable_by rt y) d ≡ None = raised_at rt y d None miss in
    record {
      so_far = λ q.
          was.so_far q
          ∙ elim (cases_eq q d) [
            | inl same ↦
                let none : maps.get (unreachable_by rt y) q ≡ None = ap (maps.get (unreachable_by rt y)) same ∙ here in
                either (ltb q d) (maps.get (unreachable_by rt y) q) none ∙ sym (either (ltb q (d + 1)) (maps.get (unreachable_by rt y) q) none)
            | inr other ↦ ap (λ (b : Bool). cond b (maps.get (unreachable_by rt y) q) None) (later q d other)
          ];
      in_range = λ q lt past. elim (cases_eq q d) [
        | inl same ↦ none-some (greatest + 1) (sym here ∙ ap (maps.get (unreachable_by rt y)) (sym same) ∙ past)
        | inr other ↦ was.in_range q (omega arith) past
      ];
    }
  where
    either : (b : Bool) (o : Option ℕ) → o ≡ None → cond b o None ≡ None
    either true o e = e
    either false o e = refl

none_raised : (rt : Table) (valid : NodeIds) (y q : ℕ) → valid ≡ valid_dests rt → sets.contains valid q ≡ false → maps.get (unreachable_by rt y) q ≡ None
none_raised rt valid y q are gone = raised_at rt y q None (sym (ap (λ (b : Bool). cond b (maps.get rt q) None) (none_by rt valid y q are gone)))

pub raised_to : (rt : Table) (y s d : ℕ) (out : Dests) (valid : NodeIds) → valid ≡ valid_dests rt → s ≤ d → ((q : ℕ) → s ≤ q → q < d → sets.contains valid q ≡ false) → Raised rt y s out → Raised rt y d out
raised_to rt y s d out valid are le gap was = record {
  so_far = λ q.
      was.so_far q
      ∙ elim (cases_lt q s) [
        | inl lt ↦ ap (λ (b : Bool). cond b (maps.get (unreachable_by rt y) q) None) (lt-ltb q s lt ∙ sym (lt-ltb q d (omega arith)))
        | inr past ↦ elim (cases_lt q d) [
          | inl lt ↦
              ap (λ (b : Bool). cond b (maps.get (unreachable_by rt y) q) None) (le-ltb q s past)
              ∙ sym (ap (λ (b : Bool). cond b (maps.get (unreachable_by rt y) q) None) (lt-ltb q d lt) ∙ none_raised rt valid y q are (gap q past lt))
          | inr late ↦ ap (λ (b : Bool). cond b (maps.get (unreachable_by rt y) q) None) (le-ltb q s past ∙ sym (le-ltb q d late))
        ]
      ];
  in_range = λ q lt past. elim (cases_lt q s) [
    | inl before ↦ was.in_range q before past
    | inr late ↦ none-some (greatest + 1) (sym (none_raised rt valid y q are (gap q late lt)) ∙ past)
  ];
}

-- ---- numbers past the greatest

any_at : (es : List (ℕ × ℕ)) (v : ℕ) → ((k : ℕ) → k < length es → (get_or es k (0, 0)).1 ≡ v → ⊥) → list_any (λ n. eqb n v) (map (λ e. e.1) es) ≡ false
any_at [] v none = refl
any_at (e ∷ es) v none =
    ap (λ (b : Bool). b || list_any (λ n. eqb n v) (map (λ e. e.1) es)) (ne_eqb e.1 v (none 0 (omega arith)))
    ∙ any_at es v (λ k lt. none (suc k) (omega arith))

any_found : (es : List (ℕ × ℕ)) (d v : ℕ) → find nat_cmp d es ≡ Some v → list_any (λ n. eqb n v) (map (λ e. e.1) es) ≡ true
any_found [] d v e = absurd (none-some v e)
any_found (x ∷ es) d v e = either (eq_by_cmp nat_cmp d x.0) (any_found es d v) e
  where
    or_true : (b c : Bool) → c ≡ true → (b || c) ≡ true
    or_true true c h = refl
    or_true false c h = h

    either : (b : Bool) → (find nat_cmp d es ≡ Some v → list_any (λ n. eqb n v) (map (λ e. e.1) es) ≡ true) → cond b (Some x.1) (find nat_cmp d es) ≡ Some v
        → (eqb x.1 v || list_any (λ n. eqb n v) (map (λ e. e.1) es)) ≡ true
    either true rest h = ap (λ (b : Bool). b || list_any (λ n. eqb n v) (map (λ e. e.1) es)) (eq-eqb x.1 v (same_Some x.1 v h))
    either false rest h = or_true (eqb x.1 v) _ (rest h)

none_past : (m : Dests) → ((q : ℕ) → maps.get m q ≡ Some (greatest + 1) → ⊥) → is_past m ≡ false
none_past m none = any_at (maps.entries m) (greatest + 1) (λ k lt e.
    none (dest_at (0, 0) (maps.entries m) k) (maps.get-entries m _ ∙ found_at (0, 0) (maps.entries m) k (maps.entries_sorted m) lt ∙ ap Some e))

one_past : (m : Dests) (d : ℕ) → maps.get m d ≡ Some (greatest + 1) → is_past m ≡ true
one_past m d e = any_found (maps.entries m) d (greatest + 1) (sym (maps.get-entries m d) ∙ e)

pub raised_all : (rt : Table) (y s : ℕ) (out : Dests) (valid : NodeIds) → valid ≡ valid_dests rt → ((q : ℕ) → s ≤ q → sets.contains valid q ≡ false) → Raised rt y s out → (is_past (unreachable_by rt y) ≡ false) × (out ≡ unreachable_by rt y)
raised_all rt y s out valid are gap was = (
  none_past (unreachable_by rt y) (λ q past. elim (cases_lt q s) [
    | inl lt ↦ was.in_range q lt past
    | inr late ↦ none-some (greatest + 1) (sym (none_raised rt valid y q are (gap q late)) ∙ past)
  ]),
  same_table out (unreachable_by rt y) (λ q.
      was.so_far q
      ∙ elim (cases_lt q s) [
        | inl lt ↦ ap (λ (b : Bool). cond b (maps.get (unreachable_by rt y) q) None) (lt-ltb q s lt)
        | inr late ↦ ap (λ (b : Bool). cond b (maps.get (unreachable_by rt y) q) None) (le-ltb q s late) ∙ sym (none_raised rt valid y q are (gap q late))
      ]),
)

pub least_past : (rt : Table) (y d : ℕ) (e : Entry) (out : Dests) → Some e ≡ by rt d y → e.dsn ≡ 4294967295 → Raised rt y d out → IsLeastPast (unreachable_by rt y) d
least_past rt y d e out hit full was =
    let here : maps.get (unreachable_by rt y) d ≡ Some (greatest + 1) = raised_at rt y d (Some e) hit ∙ ap (λ n. Some (inc n)) full in
    record { past = one_past (unreachable_by rt y) d here; here = here; least = was.in_range }
