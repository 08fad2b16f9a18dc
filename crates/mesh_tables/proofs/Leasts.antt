-- The search finds the first failing edge.
use Rattle.std.proofs.Common.{◌≡◌, ◌≢◌, ℕ, ◌<◌, ◌≤◌, ◌⊎◌, Bool, true, false, cond, eqb, ◌&&◌, ◌||◌, [], ◌∷◌, Some, None, Option, refl, ap, sym, ◌∙◌, subst, arith, inl, inr}
use Rattle.std.specs.Prelude.{not, IfNone, option_and_then}
use Rattle.std.specs.Ordering.{nat_cmp, is_eq}
use Rattle.std.specs.declared.cmp.Ordering.{Ordering}
use Rattle.std.specs.declared.cmp.Ordering.TheVariants.{Less, Equal, Greater}
use Rattle.std.specs.BTreeMap.{is_at}
use Rattle.std.proofs.lemmas.Option.{none-some, cond_some}
use Rattle.std.proofs.lemmas.Map.Lookups.{exact_unsigned}
use Rattle.std.proofs.lemmas.Bool.Decides.{nat_tests}
use Rattle.std.proofs.lemmas.Bool.{eqb-false, ne_eqb, not-true, not-false, and_parts, or_parts}
use Rattle.mesh_base.proofs.Lemmas.Bools.{not_barred}
use Rattle.aodv_model.specs.Quality.{is_val}
use Rattle.aodv_model.specs.declared.entry.Flag.TheVariants.{Val}
use Rattle.aodv_model.proofs.Readings.{valid_flag}
use Rattle.mesh_tables.specs.declared.row.Row.{Row}
use Rattle.mesh_tables.specs.declared.search.FailingEdge.{FailingEdge}
use Rattle.mesh_tables.specs.Tables.{Tables, Fails, Cycle, IsFirstFault, is_better_row}
use Rattle.mesh_tables.specs.Printed.{Table, ShownTables, row_in, table_in, tables_of}
use Rattle.mesh_tables.specs.Search.{next_against, failing_next, failing_by, failing_at, is_before, lesser, search_rows, search}
use Rattle.mesh_tables.proofs.Cycles.{no_cycle}

-- ---- one edge

against_fails : (t : Tables) (d x y : ℕ) (e : Row) (o : Option Row) → x ≢ d → t x d ≡ Some e → e.flag ≡ Val → e.next ≢ d → t e.next d ≡ o → next_against e o ≡ Some y → Fails t d x y
against_fails t d x y e None apart there valid other next is = absurd (none-some y is)
against_fails t d x y e (Some f) apart there valid other next is =
    let found = cond_some (is_val f.flag && not (is_better_row f e)) e.next y is in
    let both = and_parts (is_val f.flag) (not (is_better_row f e)) found.0 in
    record {
      edge = record { apart = apart; row = e; there = there; valid = valid; next = found.1 };
      other = λ same. other (found.1 ∙ same);
      row = f;
      there = subst (λ k. t k d ≡ Some f) found.1 next;
      valid = valid_flag f.flag both.0;
      worse = not-true (is_better_row f e) both.1;
    }

next_fails : (t : Tables) (d x y : ℕ) (e : Row) → t x d ≡ Some e → failing_next t x d e ≡ Some y → Fails t d x y
unfolding failing_next
next_fails t d x y e there is =
    let first = not_barred (eqb x d || (not (is_val e.flag) || eqb e.next d)) (next_against e (t e.next d)) y is in
    let apart = or_parts (eqb x d) (not (is_val e.flag) || eqb e.next d) first.0 in
    let parts = or_parts (not (is_val e.flag)) (eqb e.next d) apart.1 in
    against_fails t d x y e (t e.next d) (eqb-false x d apart.0) there (valid_flag e.flag (not-false (is_val e.flag) parts.0)) (eqb-false e.next d parts.1) refl first.1

by_fails : (t : Tables) (d x y : ℕ) (o : Option Row) → t x d ≡ o → failing_by t x d o ≡ Some y → Fails t d x y
by_fails t d x y None there is = absurd (none-some y is)
by_fails t d x y (Some e) there is = next_fails t d x y e there is

at_fails : (t : Tables) (d x y : ℕ) → failing_at t x d ≡ Some y → Fails t d x y
at_fails t d x y e = by_fails t d x y (t x d) refl e

fails_next : (t : Tables) (d x y : ℕ) → (f : Fails t d x y) → failing_next t x d ((f.edge).row) ≡ Some y
unfolding failing_next
fails_next t d x y f =
    let apart : eqb x d ≡ false = ne_eqb x d (f.edge).apart in
    let other : eqb ((f.edge).row).next d ≡ false = ne_eqb ((f.edge).row).next d (λ same. f.other (sym (f.edge).next ∙ same)) in
    let there : t ((f.edge).row).next d ≡ Some f.row = subst (λ k. t k d ≡ Some f.row) (sym (f.edge).next) f.there in
    rw (apart, there, f.worse, (f.edge).valid, f.valid, other) (ap (λ k. Some k) (f.edge).next)

fails_is_at : (t : Tables) (d x y : ℕ) → Fails t d x y → failing_at t x d ≡ Some y
fails_is_at t d x y f = rw (f.edge).there (fails_next t d x y f)

-- ---- the least of what was looked at

-- it is one that fails, and no other that fails comes before it, of those that were looked at
abbrev IsLeast : (ℕ → ℕ → Type 0) → Tables → Option FailingEdge → Type 0
IsLeast Seen t None = (d x y : ℕ) → Seen d x → ¬ (Fails t d x y)
IsLeast Seen t (Some p) = Fails t p.dest p.node p.next × ((d x y : ℕ) → Seen d x → Fails t d x y → (p.dest < d) ⊎ ((p.dest ≡ d) × (p.node ≤ x)))

abbrev Or : (ℕ → ℕ → Type 0) → ℕ → ℕ → ℕ → ℕ → Type 0
Or Seen a b d x = Seen d x ⊎ ((d ≡ a) × (x ≡ b))

before_or : (d x : ℕ) (p : FailingEdge) → ((is_before d x p ≡ true) × ((d < p.dest) ⊎ ((d ≡ p.dest) × (x < p.node)))) ⊎ ((is_before d x p ≡ false) × ((p.dest < d) ⊎ ((p.dest ≡ d) × (p.node ≤ x))))
before_or d x p = grind (arith, nat_tests)

least_one : (Seen : ℕ → ℕ → Type 0) (t : Tables) (best : Option FailingEdge) (d x : ℕ) (o : Option ℕ) → failing_at t x d ≡ o → IsLeast Seen t best → IsLeast (Or Seen d x) t (lesser best d x o)
least_one Seen t None d x None is least = λ e z w seen f. elim seen [
  | inl s ↦ least e z w s f
  | inr same ↦ absurd (none-some w (sym (subst (λ k. failing_at t z k ≡ None) (sym same.0) (subst (λ k. failing_at t k d ≡ None) (sym same.1) is)) ∙ fails_is_at t e z w f))
]
least_one Seen t None d x (Some y) is least = (
  at_fails t d x y is,
  λ e z w seen f. elim seen [
    | inl s ↦ absurd (least e z w s f)
    | inr same ↦ inr (sym same.0, omega (arith, same.1))
  ],
)
least_one Seen t (Some p) d x None is least = (
  least.0,
  λ e z w seen f. elim seen [
    | inl s ↦ least.1 e z w s f
    | inr same ↦ absurd (none-some w (sym (subst (λ k. failing_at t z k ≡ None) (sym same.0) (subst (λ k. failing_at t k d ≡ None) (sym same.1) is)) ∙ fails_is_at t e z w f))
  ],
)
least_one Seen t (Some p) d x (Some y) is least = elim (before_or d x p) [
  | inl b ↦ rw b.0 (
    at_fails t d x y is,
    λ e z w seen f. elim seen [
      | inl s ↦ let old = least.1 e z w s f in let new = b.1 in grind arith
      | inr same ↦ inr (sym same.0, omega (arith, same.1))
    ],
  )
  | inr b ↦ rw b.0 (
    least.0,
    λ e z w seen f. elim seen [
      | inl s ↦ least.1 e z w s f
      | inr same ↦ let kept = b.1 in let d-is = same.0 in let x-is = same.1 in grind arith
    ],
  )
]

-- ---- all lines and all that were shown

weaker : (Seen Fewer : ℕ → ℕ → Type 0) (t : Tables) (best : Option FailingEdge) → ((d x : ℕ) → Fewer d x → Seen d x) → IsLeast Seen t best → IsLeast Fewer t best
weaker Seen Fewer t None some least = λ d x y f. least d x y (some d x f)
weaker Seen Fewer t (Some p) some least = (least.0, λ d x y f. least.1 d x y (some d x f))

abbrev HasDest : Table → ℕ → Type 0
HasDest [] d = ⊥
HasDest (l ∷ ls) d = (d ≡ l.0) ⊎ HasDest ls d

abbrev AndRows : (ℕ → ℕ → Type 0) → ℕ → Table → ℕ → ℕ → Type 0
AndRows Seen x ls d z = Seen d z ⊎ (HasDest ls d × (z ≡ x))

rows_least : (Seen : ℕ → ℕ → Type 0) (t : Tables) (x : ℕ) (ls : Table) (best : Option FailingEdge) → IsLeast Seen t best → IsLeast (AndRows Seen x ls) t (search_rows t x ls best)
rows_least Seen t x [] best least = weaker Seen (AndRows Seen x []) t best (λ d z s. elim s [
  | inl a ↦ a
  | inr b ↦ absurd b.0
]) least
rows_least Seen t x (l ∷ ls) best least =
    let one = least_one Seen t best l.0 x (failing_at t x l.0) refl least in
    let rest = rows_least (Or Seen l.0 x) t x ls (lesser best l.0 x (failing_at t x l.0)) one in
    weaker (AndRows (Or Seen l.0 x) x ls) (AndRows Seen x (l ∷ ls)) t (search_rows t x ls (lesser best l.0 x (failing_at t x l.0))) (λ d z s. more d z s) rest
  where
    more : (d z : ℕ) → AndRows Seen x (l ∷ ls) d z → AndRows (Or Seen l.0 x) x ls d z
    more d z (inl a) = inl (inl a)
    more d z (inr (inl b, same)) = inl (inr (b, same))
    more d z (inr (inr b, same)) = inr (b, same)

abbrev WasShown : ShownTables → ℕ → ℕ → Type 0
WasShown [] d z = ⊥
WasShown (s ∷ ss) d z = (HasDest s.1 d × (z ≡ s.0)) ⊎ WasShown ss d z

abbrev AndShown : (ℕ → ℕ → Type 0) → ShownTables → ℕ → ℕ → Type 0
AndShown Seen ss d z = Seen d z ⊎ WasShown ss d z

shown_least : (Seen : ℕ → ℕ → Type 0) (t : Tables) (ss : ShownTables) (best : Option FailingEdge) → IsLeast Seen t best → IsLeast (AndShown Seen ss) t (search t ss best)
shown_least Seen t [] best least = weaker Seen (AndShown Seen []) t best (λ d z s. elim s [
  | inl a ↦ a
  | inr b ↦ absurd b
]) least
shown_least Seen t (s ∷ ss) best least =
    let first = rows_least Seen t s.0 s.1 best least in
    let rest = shown_least (AndRows Seen s.0 s.1) t ss (search_rows t s.0 s.1 best) first in
    weaker (AndShown (AndRows Seen s.0 s.1) ss) (AndShown Seen (s ∷ ss)) t (search t ss (search_rows t s.0 s.1 best)) (λ d z w. more d z w) rest
  where
    more : (d z : ℕ) → AndShown Seen (s ∷ ss) d z → AndShown (AndRows Seen s.0 s.1) ss d z
    more d z (inl a) = inl (inl a)
    more d z (inr (inl b)) = inl (inr b)
    more d z (inr (inr b)) = inr b

-- what answers was shown
is_equal : (o : Ordering) → is_eq o ≡ true → o ≡ Equal
is_equal Less e = absurd cc
is_equal Equal e = refl
is_equal Greater e = absurd cc

same_key : (d k : ℕ) → is_at (nat_cmp d) k ≡ true → d ≡ k
same_key d k e = exact_unsigned d k (is_equal (nat_cmp d k) e)

dest_by : (l : ℕ × Row) (ls : Table) (d : ℕ) (e : Row) (b : Bool) → is_at (nat_cmp d) l.0 ≡ b → (row_in ls d ≡ Some e → HasDest ls d) → cond b (Some l.1) (row_in ls d) ≡ Some e → HasDest (l ∷ ls) d
dest_by l ls d e true same rest is = inl (same_key d l.0 same)
dest_by l ls d e false other rest is = inr (rest is)

has_dest : (ls : Table) (d : ℕ) (e : Row) → row_in ls d ≡ Some e → HasDest ls d
has_dest [] d e is = absurd (none-some e is)
has_dest (l ∷ ls) d e is = dest_by l ls d e (is_at (nat_cmp d) l.0) refl (has_dest ls d e) is

shown_by : (s : ℕ × Table) (ss : ShownTables) (x d : ℕ) (e : Row) (b : Bool) → is_at (nat_cmp x) s.0 ≡ b → (tables_of ss x d ≡ Some e → WasShown ss d x)
    → option_and_then (λ rows. row_in rows d) (cond b (Some s.1) (table_in ss x)) ≡ Some e → WasShown (s ∷ ss) d x
shown_by s ss x d e true same rest is = inl (has_dest s.1 d e is, same_key x s.0 same)
shown_by s ss x d e false other rest is = inr (rest is)

was_shown : (ss : ShownTables) (x d : ℕ) (e : Row) → tables_of ss x d ≡ Some e → WasShown ss d x
was_shown [] x d e is = absurd (none-some e is)
was_shown (s ∷ ss) x d e is = shown_by s ss x d e (is_at (nat_cmp x) s.0) refl (was_shown ss x d e) is

verdict_of : (t : Tables) (Seen : ℕ → ℕ → Type 0) (found : Option FailingEdge) → ((d x y : ℕ) → Fails t d x y → Seen d x) → IsLeast Seen t found → IsFirstFault t found
verdict_of t Seen None all least = λ d x y f. least d x y (all d x y f) f
verdict_of t Seen (Some p) all least = record { fails = least.0; first = λ d x y f. least.1 d x y (all d x y f) f }

pub search_is : (ss : ShownTables) → IsFirstFault (tables_of ss) (search (tables_of ss) ss None)
search_is ss =
    verdict_of (tables_of ss) (AndShown (λ d x. ⊥) ss) (search (tables_of ss) ss None)
    (λ d x y f. inr (was_shown ss x d (f.edge).row (f.edge).there))
    (shown_least (λ d x. ⊥) (tables_of ss) ss None (λ d x y seen. absurd seen))

pub acyclic_of : (t : Tables) (found : Option FailingEdge) → IsFirstFault t found → IfNone found ((d : ℕ) → ¬ (Cycle t d))
acyclic_of t None sound = λ d. no_cycle t d sound
acyclic_of t (Some p) first = tt

-- ---- one turn of a loop

-- an entry that x has costs one look-up
pub search_more : (t : Tables) (x d : ℕ) (row : Row) (before after : Table) (best found : Option FailingEdge) → before ≡ (d, row) ∷ after → t x d ≡ Some row
    → search_rows t x before best ≡ found → search_rows t x after (lesser best d x (failing_next t x d row)) ≡ found
search_more t x d row before after best found is there kept =
    let here : failing_at t x d ≡ failing_next t x d row = rw there refl in
    sym (ap (λ o. search_rows t x after (lesser best d x o)) here) ∙ (sym (ap (λ es. search_rows t x es best) is) ∙ kept)
