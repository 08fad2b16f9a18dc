-- The changes from some lines to others lead from the ones to the others.
use Rattle.std.proofs.Common.{◌≡◌, ◌∙◌, ℕ, ◌+◌, Bool, true, false, cond, List, [], ◌∷◌, ◌++◌, map, ap, ap₂, refl, arith}
use Rattle.std.specs.Prelude.{if◌then◌else◌}
use Rattle.std.specs.Str.{bytes_eq}
use Rattle.std.proofs.lemmas.List.Sums.{sum_by-append}
use Rattle.std.proofs.lemmas.Slice.Eq.{bytes_eq-Decides}
use Rattle.mesh_blocks.specs.Changes.{Change, Went, Came, stands_in, lines_before, lines_behind, changes_to, left_by, changes, lines_gone, lines_come, times}
use Rattle.mesh_blocks.specs.Laws.{ChangesLeadOn, SameLinesHaveNoChanges}

same_line : (k l : List ℕ) → bytes_eq k l ≡ true → k ≡ l
same_line k l is = (bytes_eq-Decides k l).0 is

times-append : (t : List ℕ) (ks ls : List (List ℕ)) → times t (ks ++ ls) ≡ times t ks + times t ls
times-append t ks ls = sum_by-append (λ k. cond (bytes_eq k t) 1 0) ks ls

times-cons : (t k : List ℕ) (ks : List (List ℕ)) → times t (k ∷ ks) ≡ times t (k ∷ []) + times t ks
times-cons t k ks = times-append t (k ∷ []) ks

-- ---- what went and came

gone_came : (ls : List (List ℕ)) → lines_gone (map Came ls) ≡ []
gone_came [] = refl
gone_came (l ∷ ls) = gone_came ls

come_came : (ls : List (List ℕ)) → lines_come (map Came ls) ≡ ls
come_came [] = refl
come_came (l ∷ ls) = ap (λ ks. l ∷ ks) (come_came ls)

gone_append : (cs ds : List Change) → lines_gone (cs ++ ds) ≡ lines_gone cs ++ lines_gone ds
gone_append [] ds = refl
gone_append (Went l ∷ cs) ds = ap (λ ks. l ∷ ks) (gone_append cs ds)
gone_append (Came l ∷ cs) ds = gone_append cs ds

come_append : (cs ds : List Change) → lines_come (cs ++ ds) ≡ lines_come cs ++ lines_come ds
come_append [] ds = refl
come_append (Went l ∷ cs) ds = come_append cs ds
come_append (Came l ∷ cs) ds = ap (λ ks. l ∷ ks) (come_append cs ds)

-- ---- up to one line

parted_by : (b : Bool) (l t k : List ℕ) (ks : List (List ℕ)) → bytes_eq k l ≡ b → (if b then true else stands_in l ks) ≡ true
    → (stands_in l ks ≡ true → times t ks ≡ times t (lines_before l ks) + (times t (l ∷ []) + times t (lines_behind l ks)))
    → times t (k ∷ ks) ≡ times t (if b then [] else k ∷ lines_before l ks) + (times t (l ∷ []) + times t (if b then ks else lines_behind l ks))
parted_by true l t k ks is there rest =
    let goal : times t (k ∷ ks) ≡ 0 + (times t (l ∷ []) + times t ks) =
    ap (λ j. times t (j ∷ ks)) (same_line k l is) ∙ times-cons t l ks ∙ omega arith in
    goal
parted_by false l t k ks is there rest =
    let whole = times-cons t k ks in
    let front = times-cons t k (lines_before l ks) in
    let others = rest there in
    let goal : times t (k ∷ ks) ≡ times t (k ∷ lines_before l ks) + (times t (l ∷ []) + times t (lines_behind l ks)) = omega (arith, whole, front, others) in
    goal

-- a line that stands among others parts them
parted : (l t : List ℕ) (ls : List (List ℕ)) → stands_in l ls ≡ true → times t ls ≡ times t (lines_before l ls) + (times t (l ∷ []) + times t (lines_behind l ls))
parted l t [] there = absurd (let P : ⊥ = cc in P)
parted l t (k ∷ ks) there = parted_by (bytes_eq k l) l t k ks refl there (parted l t ks)

-- what leads to a line, and what is left: with the line they are all
led_to : (b : Bool) (l t : List ℕ) (after : List (List ℕ)) → stands_in l after ≡ b
    → let made : List Change = if b then map Came (lines_before l after) else Went l ∷ [] in
    times t after + times t (lines_gone made) ≡ times t (l ∷ []) + times t (lines_come made) + times t (if b then lines_behind l after else after)
led_to true l t after there =
    let whole = parted l t after there in
    let gone : times t (lines_gone (map Came (lines_before l after))) ≡ 0 = ap (times t) (gone_came (lines_before l after)) in
    let come = ap (times t) (come_came (lines_before l after)) in
    let goal : times t after + times t (lines_gone (map Came (lines_before l after))) ≡ times t (l ∷ []) + times t (lines_come (map Came (lines_before l after))) + times t (lines_behind l after) = omega (arith, whole, gone, come) in
    goal
led_to false l t after there =
    let goal : times t after + times t (l ∷ []) ≡ times t (l ∷ []) + 0 + times t after = omega arith in
    goal

-- ---- all lines

pub changes_lead_on : ChangesLeadOn
unfolding changes
changes_lead_on [] after t =
    let gone : times t (lines_gone (map Came after)) ≡ 0 = ap (times t) (gone_came after) in
    let come = ap (times t) (come_came after) in
    let goal : times t after + times t (lines_gone (map Came after)) ≡ 0 + times t (lines_come (map Came after)) = omega (arith, gone, come) in
    goal
changes_lead_on (l ∷ before) after t =
    let first = led_to (stands_in l after) l t after refl in
    let rest = changes_lead_on before (left_by l after) t in
    let gone = ap (times t) (gone_append (changes_to l after) (changes before (left_by l after))) ∙ times-append t (lines_gone (changes_to l after)) (lines_gone (changes before (left_by l after))) in
    let come = ap (times t) (come_append (changes_to l after) (changes before (left_by l after))) ∙ times-append t (lines_come (changes_to l after)) (lines_come (changes before (left_by l after))) in
    let whole = times-cons t l before in
    omega (arith, first, rest, gone, come, whole)

pub same_lines_have_no_changes : SameLinesHaveNoChanges
unfolding changes
same_lines_have_no_changes [] = refl
same_lines_have_no_changes (l ∷ ls) =
    let same : bytes_eq l l ≡ true = (bytes_eq-Decides l l).1 refl in
    let none : changes_to l (l ∷ ls) ≡ [] =
    ap (λ b. if (if b then true else stands_in l ls) then map Came (if b then [] else l ∷ lines_before l ls) else Went l ∷ []) same in
    let left : left_by l (l ∷ ls) ≡ ls =
    ap (λ b. if (if b then true else stands_in l ls) then (if b then ls else lines_behind l ls) else l ∷ ls) same in
    ap₂ (λ cs ks. cs ++ changes ls ks) none left ∙ same_lines_have_no_changes ls
