-- Where the break of a link overfills a number.
use Rattle.std.proofs.Common.{◌≡◌, ℕ, suc, ◌+◌, Bool, true, false, cond, ◌&&◌, ◌||◌, ◌==◌, List, [], ◌∷◌, map, Some, None, Option, refl, ap, sym, ◌∙◌, arith}
use Rattle.std.specs.Prelude.{T, option_map, if◌then◌else◌, ◌↔◌}
use Rattle.std.specs.List.{list_any}
use Rattle.std.specs.declared.cmp.Ordering.{Ordering}
use Rattle.std.specs.declared.cmp.Ordering.TheVariants.{Less, Equal, Greater}
use Rattle.std.specs.Ordering.{nat_cmp, eq_by_cmp, is_lt, is_eq}
use Rattle.std.specs.Cmp.{nat_cmp_total, tied_itself, unsigned_tied}
use Rattle.std.proofs.lemmas.Bool.{eqb-true}
use Rattle.std.proofs.lemmas.Bool.Decides.{nat_tests}
use Rattle.std.proofs.lemmas.Option.{none-some, same_Some}
use Rattle.std.specs.FinMap as maps
use Rattle.std.specs.FinMap.{FinMap}
use Rattle.std.specs.FinMap.Entries.{find, is_sorted, below_all}
use Rattle.mesh_base.proofs.Lemmas.Bools.{left_of_both, right_of_both}
use Rattle.aodv_model.specs.declared.entry.Entry.{Entry}
use Rattle.aodv_model.specs.Quality.{inc}
use Rattle.aodv_model.specs.Tables.{Table, goes_by, number_in, unreachable_by}
use Rattle.aodv_model.specs.Handlers.{join_answer_precursors, join_reply_precursors}
use Rattle.aodv_model.specs.Fullness.{greatest, has_greatest_by, is_number_full}
use Rattle.aodv_model.proofs.Lookups.{get-unreachable_by}
use Rattle.aodv_model.proofs.Readings.{join_answer_alike, join_reply_alike}

-- ---- the values of a map

-- no key of a list above x is x
not_above : {V : Type 0} (x : ℕ) (es : List (ℕ × V)) → T (below_all nat_cmp x es) → find nat_cmp x es ≡ None
not_above x [] h = refl
not_above {V} x (e ∷ es) h = at (nat_cmp x e.0) (left_of_both _ _ h) (not_above x es (right_of_both _ _ h))
  where
    nothing : Option V
    nothing = None

    at : (o : Ordering) → T (is_lt o) → find nat_cmp x es ≡ nothing → cond (is_eq o) (Some e.1) (find nat_cmp x es) ≡ nothing
    at Less p rest = rest
    at Equal p rest = absurd p
    at Greater p rest = absurd p

-- a value of this kind that stands in a sorted list is found at a key
found : {V : Type 0} (p : V → Bool) (es : List (ℕ × V)) → T (is_sorted nat_cmp es) → list_any p (map (λ e. e.1) es) ≡ true → (d : ℕ) × (v : V) × (find nat_cmp d es ≡ Some v) × (p v ≡ true)
found p [] h is = cc
found {V} p (e ∷ es) h is = at (p e.1) refl is (found p es (right_of_both _ _ h))
  where
    later : (d : ℕ) (v : V) (b : Bool) → eq_by_cmp nat_cmp d e.0 ≡ b → find nat_cmp d es ≡ Some v → cond b (Some e.1) (find nat_cmp d es) ≡ Some v
    later d v true t there =
        let same : d ≡ e.0 = eqb-true d e.0 (sym (unsigned_tied d e.0) ∙ t) in
        absurd (none-some v (sym (not_above e.0 es (left_of_both _ _ h)) ∙ (ap (λ k. find nat_cmp k es) (sym same) ∙ there)))
    later d v false t there = there

    at : (b : Bool) → p e.1 ≡ b → (b || list_any p (map (λ e. e.1) es)) ≡ true → (list_any p (map (λ e. e.1) es) ≡ true → (d : ℕ) × (v : V) × (find nat_cmp d es ≡ Some v) × (p v ≡ true)) → (d : ℕ) × (v : V) × (find nat_cmp d (e ∷ es) ≡ Some v) × (p v ≡ true)
    at true t o more = (e.0, e.1, ap (λ b. cond b (Some e.1) (find nat_cmp e.0 es)) (ap is_eq (tied_itself nat_cmp_total e.0)), t)
    at false t o more = let rest = more o in (rest.0, rest.1, later rest.0 rest.1 (eq_by_cmp nat_cmp rest.0 e.0) refl rest.2, rest.3)

-- a value found at a key stands in the list
stands : {V : Type 0} (p : V → Bool) (d : ℕ) (v : V) (es : List (ℕ × V)) → find nat_cmp d es ≡ Some v → p v ≡ true → list_any p (map (λ e. e.1) es) ≡ true
stands p d v [] is holds = absurd (none-some v is)
stands p d v (e ∷ es) is holds = at (eq_by_cmp nat_cmp d e.0) is (λ i. stands p d v es i holds)
  where
    or_true : (b : Bool) → (b || true) ≡ true
    or_true true = refl
    or_true false = refl

    at : (b : Bool) → cond b (Some e.1) (find nat_cmp d es) ≡ Some v → (find nat_cmp d es ≡ Some v → list_any p (map (λ e. e.1) es) ≡ true) → (p e.1 || list_any p (map (λ e. e.1) es)) ≡ true
    at true i more = ap (λ b. b || list_any p (map (λ e. e.1) es)) (ap p (same_Some e.1 v i) ∙ holds)
    at false i more = ap (λ b. p e.1 || b) (more i) ∙ or_true (p e.1)

has_value : {V : Type 0} (m : FinMap nat_cmp V) (p : V → Bool) → (list_any p (maps.values m) ≡ true) ↔ ((d : ℕ) × (v : V) × (maps.get m d ≡ Some v) × (p v ≡ true))
has_value m p = (
  λ is. let f = found p (maps.entries m) (maps.entries_sorted m) is in (f.0, f.1, maps.get-entries m f.0 ∙ f.2, f.3),
  λ f. stands p f.0 f.1 (maps.entries m) (sym (maps.get-entries m f.0) ∙ f.2) f.3,
)

-- ---- entries by a next hop with a number

-- there is a valid entry with next hop y, and its number is g
abbrev pub has_number : ℕ → ℕ → Option Entry → Bool
has_number g y o = goes_by o y && (number_in o == g)

-- some entry of the table is such a one: for the greatest number this is has_greatest_by
abbrev pub has_number_by : ℕ → Table → ℕ → Bool
has_number_by g rt y = list_any (λ e. goes_by (Some e) y && (e.dsn == g)) (maps.values rt)

pub number_at : (g : ℕ) (rt : Table) (y : ℕ) → (has_number_by g rt y ≡ true) ↔ ((d : ℕ) × (has_number g y (maps.get rt d) ≡ true))
number_at g rt y = (
  λ is. let f = (has_value rt (λ e. goes_by (Some e) y && (e.dsn == g))).0 is in (f.0, ap (has_number g y) f.2 ∙ f.3),
  λ f. some f.0 (maps.get rt f.0) refl f.1,
)
  where
    some : (d : ℕ) (o : Option Entry) → maps.get rt d ≡ o → has_number g y o ≡ true → has_number_by g rt y ≡ true
    some d None is holds = cc
    some d (Some e) is holds = (has_value rt (λ e. goes_by (Some e) y && (e.dsn == g))).1 (d, e, is, holds)

same_truth : (a b : Bool) → (a ≡ true → b ≡ true) → (b ≡ true → a ≡ true) → a ≡ b
same_truth true b f g = sym (f refl)
same_truth false true f g = g refl
same_truth false false f g = refl

-- two tables that say the same of this say it of all entries
number_alike : (g : ℕ) (rt rt' : Table) (y : ℕ) → ((d : ℕ) → has_number g y (maps.get rt d) ≡ has_number g y (maps.get rt' d)) → has_number_by g rt y ≡ has_number_by g rt' y
number_alike g rt rt' y each =
    same_truth (has_number_by g rt y) (has_number_by g rt' y)
    (λ is. let f = (number_at g rt y).0 is in (number_at g rt' y).1 (f.0, sym (each f.0) ∙ f.1))
    (λ is. let f = (number_at g rt' y).0 is in (number_at g rt y).1 (f.0, each f.0 ∙ f.1))

-- the link that broke, if one did, is one that such an entry goes by: for the greatest number this
-- is is_number_full
abbrev pub is_full_at : ℕ → Table → Option ℕ → Bool
is_full_at g rt None = false
is_full_at g rt (Some y) = has_number_by g rt y

pub full_at_greatest : (rt : Table) (broken : Option ℕ) → is_full_at greatest rt broken ≡ is_number_full rt broken
full_at_greatest rt None = refl
full_at_greatest rt (Some y) = refl

-- precursors change nothing of it
pub full_after_answer : (g : ℕ) (rt : Table) (d o from : ℕ) (broken : Option ℕ) → is_full_at g (join_answer_precursors rt d o from) broken ≡ is_full_at g rt broken
full_after_answer g rt d o from None = refl
full_after_answer g rt d o from (Some y) = number_alike g (join_answer_precursors rt d o from) rt y (λ q. join_answer_alike (has_number g y) rt d o from q (λ e pre. refl))

pub full_after_reply : (g : ℕ) (rt : Table) (d o : ℕ) (broken : Option ℕ) → is_full_at g (join_reply_precursors rt d o) broken ≡ is_full_at g rt broken
full_after_reply g rt d o None = refl
full_after_reply g rt d o (Some y) = number_alike g (join_reply_precursors rt d o) rt y (λ q. join_reply_alike (has_number g y) rt d o q (λ e pre. refl))

pub number_full_after_answer : (rt : Table) (d o from : ℕ) (broken : Option ℕ) → is_number_full (join_answer_precursors rt d o from) broken ≡ is_number_full rt broken
number_full_after_answer rt d o from broken =
    sym (full_at_greatest (join_answer_precursors rt d o from) broken) ∙ full_after_answer greatest rt d o from broken ∙ full_at_greatest rt broken

pub number_full_after_reply : (rt : Table) (d o : ℕ) (broken : Option ℕ) → is_number_full (join_reply_precursors rt d o) broken ≡ is_number_full rt broken
number_full_after_reply rt d o broken =
    sym (full_at_greatest (join_reply_precursors rt d o) broken) ∙ full_after_reply greatest rt d o broken ∙ full_at_greatest rt broken

-- ---- the break of a link

raised_from : (o : Option Entry) (y g : ℕ) → option_map (λ (e : Entry). inc e.dsn) (if goes_by o y then o else None) ≡ Some (g + 1) → has_number g y o ≡ true
raised_from None y g is = absurd (none-some (g + 1) is)
raised_from (Some e) y g is = grind (arith, nat_tests)

raised_to : (o : Option Entry) (y g : ℕ) → has_number (suc g) y o ≡ true → option_map (λ (e : Entry). inc e.dsn) (if goes_by o y then o else None) ≡ Some (suc g + 1)
raised_to None y g is = cc
raised_to (Some e) y g is = grind (arith, nat_tests)

pub full_number : (rt : Table) (y : ℕ) → (has_greatest_by rt y ≡ true) ↔ ((d : ℕ) × (maps.get (unreachable_by rt y) d ≡ Some (greatest + 1)))
full_number rt y = (
  λ is. let f = (number_at greatest rt y).0 is in (f.0, get-unreachable_by rt y f.0 ∙ raised_to (maps.get rt f.0) y 4294967294 f.1),
  λ f. (number_at greatest rt y).1 (f.0, raised_from (maps.get rt f.0) y greatest (sym (get-unreachable_by rt y f.0) ∙ f.1)),
)

-- the same of the list of the new numbers
pub raised_past : (rt : Table) (y : ℕ) → has_greatest_by rt y ≡ list_any (λ n. n == greatest + 1) (maps.values (unreachable_by rt y))
raised_past rt y =
    same_truth (has_greatest_by rt y) (list_any (λ n. n == greatest + 1) (maps.values (unreachable_by rt y)))
    (λ is. let f = (full_number rt y).0 is in (has_value (unreachable_by rt y) (λ n. n == greatest + 1)).1 (f.0, greatest + 1, f.1, refl))
    (λ is. let f = (has_value (unreachable_by rt y) (λ n. n == greatest + 1)).0 is in (full_number rt y).1 (f.0, f.2 ∙ ap Some (eqb-true f.1 (greatest + 1) f.3)))
