-- Each text has one right answer.
use Rattle.std.proofs.Common.{◌≡◌, ℕ, ◌<◌, ◌≤◌, ◌⊎◌, List, Option, Some, None, inl, inr, refl, sym, ap, subst, ◌∙◌, arith}
use Rattle.std.proofs.lemmas.Option.{same_Some}
use Rattle.mesh_tables.specs.declared.row.Row.{Row}
use Rattle.mesh_tables.specs.declared.search.FailingEdge.{FailingEdge}
use Rattle.mesh_tables.specs.Tables.{Tables, Edge, IsSound, IsFirstFailing, IsFirstFault}
use Rattle.mesh_tables.specs.Printed.{ShownTables, tables_of}
use Rattle.mesh_tables.specs.Search.{search}
use Rattle.mesh_tables.proofs.Leasts.{search_is}
use Rattle.mesh_check.specs.Says.{Says, Refuses, Shows}
use Rattle.mesh_check.specs.Verdicts.{IsRight, IsNo, bad_line, yes_line, no_line}
use Rattle.mesh_check.specs.declared.status.CheckStatus.{CheckStatus}
use Rattle.mesh_check.specs.declared.status.CheckStatus.TheVariants.{Yes, No, Usage, BadLine, ReadFault, WriteFault, NoMemory}

-- ---- there is one

by_fault : (shown : ShownTables) (found : Option FailingEdge) → IsFirstFault (tables_of shown) found → (status : CheckStatus) × (text : List ℕ) × IsRight (Shows shown) status text
by_fault shown None sound = (Yes, yes_line shown, (sound, refl))
by_fault shown (Some e) first = (No, no_line e, record { edge = e; first = first; line_is = refl })

pub right_answer : (s : Says) → (status : CheckStatus) × (text : List ℕ) × IsRight s status text
right_answer (Refuses n) = (BadLine n, bad_line n, (refl, refl))
right_answer (Shows shown) = by_fault shown (search (tables_of shown) shown None) (search_is shown)

-- ---- and no other

is_bad : (n : ℕ) (a : CheckStatus) (x : List ℕ) → IsRight (Refuses n) a x → (a ≡ BadLine n) × (x ≡ bad_line n)
is_bad n Yes x r = absurd r
is_bad n No x r = absurd r
is_bad n (BadLine m) x r = (ap BadLine r.0, r.1)
is_bad n Usage x r = absurd r
is_bad n ReadFault x r = absurd r
is_bad n WriteFault x r = absurd r
is_bad n NoMemory x r = absurd r

abbrev IsYesOrNo : ShownTables → CheckStatus → List ℕ → Type 0
IsYesOrNo shown a x = ((a ≡ Yes) × IsSound (tables_of shown) × (x ≡ yes_line shown)) ⊎ ((a ≡ No) × IsNo shown x)

yes_or_no : (shown : ShownTables) (a : CheckStatus) (x : List ℕ) → IsRight (Shows shown) a x → IsYesOrNo shown a x
yes_or_no shown Yes x r = inl (refl, r.0, r.1)
yes_or_no shown No x r = inr (refl, r)
yes_or_no shown (BadLine m) x r = absurd r
yes_or_no shown Usage x r = absurd r
yes_or_no shown ReadFault x r = absurd r
yes_or_no shown WriteFault x r = absurd r
yes_or_no shown NoMemory x r = absurd r

same_entry : (a b x y : ℕ) → (a < b) ⊎ ((a ≡ b) × (x ≤ y)) → (b < a) ⊎ ((b ≡ a) × (y ≤ x)) → (a ≡ b) × (x ≡ y)
same_entry a b x y p q = grind arith

same_next : (t : Tables) (d x y z : ℕ) → Edge t d x y → Edge t d x z → y ≡ z
same_next t d x y z e f =
    let row : e.row ≡ f.row = same_Some e.row f.row (sym e.there ∙ f.there) in
    sym e.next ∙ ap (λ (r : Row). r.next) row ∙ f.next

same_edge : (t : Tables) (a b : FailingEdge) → IsFirstFailing t a → IsFirstFailing t b → a ≡ b
same_edge t a b p q =
    let entry = same_entry a.dest b.dest a.node b.node (p.first b.dest b.node b.next q.fails) (q.first a.dest a.node a.next p.fails) in
    let moved : Edge t b.dest b.node a.next =
    subst (λ d. Edge t d b.node a.next) entry.0 (subst (λ x. Edge t a.dest x a.next) entry.1 (p.fails).edge) in
    let next = same_next t b.dest b.node a.next b.next moved (q.fails).edge in
    by_fields a b entry.0 entry.1 next
  where
    by_fields : (a b : FailingEdge) → a.dest ≡ b.dest → a.node ≡ b.node → a.next ≡ b.next → a ≡ b
    by_fields a b d x y =
        let dests : ℕ → FailingEdge = λ k. record { dest = k; node = a.node; next = a.next } in
        let nodes : ℕ → FailingEdge = λ k. record { dest = b.dest; node = k; next = a.next } in
        let nexts : ℕ → FailingEdge = λ k. record { dest = b.dest; node = b.node; next = k } in
        ap dests d ∙ ap nodes x ∙ ap nexts y

both : (shown : ShownTables) (a b : CheckStatus) (x y : List ℕ) → IsYesOrNo shown a x → IsYesOrNo shown b y → (a ≡ b) × (x ≡ y)
both shown a b x y (inl p) (inl q) = (p.0 ∙ sym q.0, p.2 ∙ sym q.2)
both shown a b x y (inl p) (inr q) = absurd (p.1 _ _ _ ((q.1).first).fails)
both shown a b x y (inr p) (inl q) = absurd (q.1 _ _ _ ((p.1).first).fails)
both shown a b x y (inr p) (inr q) =
    (p.0 ∙ sym q.0, (p.1).line_is ∙ ap no_line (same_edge (tables_of shown) (p.1).edge (q.1).edge (p.1).first (q.1).first) ∙ sym (q.1).line_is)

pub one_answer : (s : Says) (a b : CheckStatus) (x y : List ℕ) → IsRight s a x → IsRight s b y → (a ≡ b) × (x ≡ y)
one_answer (Refuses n) a b x y p q =
    let l = is_bad n a x p in let r = is_bad n b y q in (l.0 ∙ sym r.0, l.1 ∙ sym r.1)
one_answer (Shows shown) a b x y p q = both shown a b x y (yes_or_no shown a x p) (yes_or_no shown b y q)
