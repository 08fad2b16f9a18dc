-- The text of changes, line by line.
use Rattle.std.proofs.Common.{◌≡◌, ◌∙◌, ℕ, Bool, true, false, List, [], ◌∷◌, ◌++◌, Option, Result, codes, drop, map, ap, refl, sym, subst, append-nil, append_assoc}
use Rattle.std.specs.Prelude.{if◌then◌else◌}
use Rattle.std.specs.Str.{bytes_eq}
use Rattle.std.specs.Io.KnownBytes.{Appends}
use Rattle.std.proofs.lemmas.Grind.{flat_map-append}
use Rattle.mesh_io.specs.Puts.{AppendsPrefix, Puts}
use Rattle.mesh_io.proofs.Writing.{Appends-none, Appends-join, AppendsPrefix-join, AppendsPrefix-more, Puts-join}
use Rattle.mesh_blocks.specs.Changes.{Went, Came, stands_in, lines_before, lines_behind, changes_to, left_by, changes, marked, change_text, changes_text}

-- ---- one line behind its mark

pub mark_stops : (mark l : List ℕ) (a b : Option (List ℕ)) → AppendsPrefix a b mark → AppendsPrefix a b (marked mark l)
mark_stops mark l a b p = AppendsPrefix-more a b mark (drop 2 l ++ 10 ∷ []) (marked mark l) (append_assoc mark (drop 2 l) (10 ∷ [])) p

pub line_stops : (mark l rest : List ℕ) (a b c : Option (List ℕ)) → rest ≡ drop 2 l → Appends a b mark → AppendsPrefix b c rest → AppendsPrefix a c (marked mark l)
line_stops mark l rest a b c is p q =
    AppendsPrefix-more a c (mark ++ drop 2 l) (10 ∷ []) (marked mark l) refl (AppendsPrefix-join a b c mark (drop 2 l) (mark ++ drop 2 l) refl p (subst (λ (t : List ℕ). AppendsPrefix b c t) is q))

pub mark_ends : {T E : Type 0} (mark l rest : List ℕ) (a b c d : Option (List ℕ)) (r : Result T E) → rest ≡ drop 2 l → Appends a b mark → Appends b c rest → Puts c d (10 ∷ []) r → Puts a d (marked mark l) r
mark_ends mark l rest a b c d r is p q s =
    Puts-join a c d (mark ++ drop 2 l) (10 ∷ []) (marked mark l) r refl (Appends-join a b c mark (drop 2 l) (mark ++ drop 2 l) refl p (subst (λ (t : List ℕ). Appends b c t) is q)) s

-- ---- the lines in front of an occurrence

abbrev pub came_before : List ℕ → List (List ℕ) → List ℕ
came_before l ls = changes_text (map Came (lines_before l ls))

by_test : {X : Type 0} (b c : Bool) (x y : X) → b ≡ c → (if b then x else y) ≡ (if c then x else y)
by_test b c x y same = ap (λ t. if t then x else y) same

-- at the occurrence
before_here : (l k : List ℕ) (ls ks : List (List ℕ)) → ls ≡ k ∷ ks → bytes_eq k l ≡ true → lines_before l ls ≡ []
before_here l k ls ks is same = ap (lines_before l) is ∙ by_test (bytes_eq k l) true [] (k ∷ lines_before l ks) same

pub behind_here : (l k : List ℕ) (ls ks : List (List ℕ)) → ls ≡ k ∷ ks → bytes_eq k l ≡ true → lines_behind l ls ≡ ks
behind_here l k ls ks is same = ap (lines_behind l) is ∙ by_test (bytes_eq k l) true ks (lines_behind l ks) same

pub stands_here : (l k : List ℕ) (ls ks : List (List ℕ)) → ls ≡ k ∷ ks → bytes_eq k l ≡ true → stands_in l ls ≡ true
stands_here l k ls ks is same = ap (stands_in l) is ∙ by_test (bytes_eq k l) true true (stands_in l ks) same

-- further on
before_on : (l k : List ℕ) (ls ks : List (List ℕ)) → ls ≡ k ∷ ks → bytes_eq k l ≡ false → lines_before l ls ≡ k ∷ lines_before l ks
before_on l k ls ks is other = ap (lines_before l) is ∙ by_test (bytes_eq k l) false [] (k ∷ lines_before l ks) other

pub behind_on : (l k : List ℕ) (ls ks : List (List ℕ)) → ls ≡ k ∷ ks → bytes_eq k l ≡ false → lines_behind l ls ≡ lines_behind l ks
behind_on l k ls ks is other = ap (lines_behind l) is ∙ by_test (bytes_eq k l) false ks (lines_behind l ks) other

pub stands_on : (l k : List ℕ) (ls ks : List (List ℕ)) → ls ≡ k ∷ ks → bytes_eq k l ≡ false → stands_in l ls ≡ stands_in l ks
stands_on l k ls ks is other = ap (stands_in l) is ∙ by_test (bytes_eq k l) false true (stands_in l ks) other

-- nothing stands in front of the occurrence itself
pub before_ends : (l k : List ℕ) (ls ks : List (List ℕ)) (a : Option (List ℕ)) → ls ≡ k ∷ ks → bytes_eq k l ≡ true → Appends a a (came_before l ls)
before_ends l k ls ks a is same = subst (λ js. Appends a a (changes_text (map Came js))) (sym (before_here l k ls ks is same)) (Appends-none a)

-- no line is left
pub before_none : (l : List ℕ) (ls : List (List ℕ)) (a : Option (List ℕ)) → ls ≡ [] → Appends a a (came_before l ls)
before_none l ls a none = subst (λ js. Appends a a (came_before l js)) (sym none) (Appends-none a)

-- a line in front of it, and then the others
pub before_goes : {T E : Type 0} (l k : List ℕ) (ls ks : List (List ℕ)) (a b now : Option (List ℕ)) (r : Result T E) → ls ≡ k ∷ ks → bytes_eq k l ≡ false
    → Appends a b (marked (codes "  + ") k) → Puts b now (came_before l ks) r → Puts a now (came_before l ls) r
before_goes l k ls ks a b now r is other p q =
    Puts-join a b now (marked (codes "  + ") k) (came_before l ks) (came_before l ls) r (ap (λ js. changes_text (map Came js)) (before_on l k ls ks is other)) p q

pub before_stops : (l k : List ℕ) (ls ks : List (List ℕ)) (a b : Option (List ℕ)) → ls ≡ k ∷ ks → bytes_eq k l ≡ false
    → AppendsPrefix a b (marked (codes "  + ") k) → AppendsPrefix a b (came_before l ls)
before_stops l k ls ks a b is other p =
    AppendsPrefix-more a b (marked (codes "  + ") k) (came_before l ks) (came_before l ls) (ap (λ js. changes_text (map Came js)) (before_on l k ls ks is other)) p

-- ---- all lines that came

abbrev pub came_text : List (List ℕ) → List ℕ
came_text ls = changes_text (map Came ls)

pub came_ends : (ls : List (List ℕ)) (a : Option (List ℕ)) → ls ≡ [] → Appends a a (came_text ls)
came_ends ls a none = subst (λ js. Appends a a (came_text js)) (sym none) (Appends-none a)

pub came_goes : {T E : Type 0} (k : List ℕ) (ls ks : List (List ℕ)) (a b now : Option (List ℕ)) (r : Result T E) → ls ≡ k ∷ ks
    → Appends a b (marked (codes "  + ") k) → Puts b now (came_text ks) r → Puts a now (came_text ls) r
came_goes k ls ks a b now r is p q = Puts-join a b now (marked (codes "  + ") k) (came_text ks) (came_text ls) r (ap came_text is) p q

pub came_stops : (k : List ℕ) (ls ks : List (List ℕ)) (a b : Option (List ℕ)) → ls ≡ k ∷ ks → AppendsPrefix a b (marked (codes "  + ") k) → AppendsPrefix a b (came_text ls)
came_stops k ls ks a b is p = AppendsPrefix-more a b (marked (codes "  + ") k) (came_text ks) (came_text ls) (ap came_text is) p

-- ---- up to a line

-- it went
went_text : (l : List ℕ) (after : List (List ℕ)) → stands_in l after ≡ false → changes_text (changes_to l after) ≡ marked (codes "  - ") l
went_text l after gone = ap changes_text (by_test (stands_in l after) false (map Came (lines_before l after)) (Went l ∷ []) gone) ∙ append-nil (marked (codes "  - ") l)

pub went : {T E : Type 0} (l : List ℕ) (after : List (List ℕ)) (a b : Option (List ℕ)) (r : Result T E) → stands_in l after ≡ false → Puts a b (marked (codes "  - ") l) r → Puts a b (changes_text (changes_to l after)) r
went l after a b r gone p = subst (λ (t : List ℕ). Puts a b t r) (sym (went_text l after gone)) p

pub went_left : (l : List ℕ) (after : List (List ℕ)) → stands_in l after ≡ false → after ≡ left_by l after
went_left l after gone = sym (by_test (stands_in l after) false (lines_behind l after) after gone)

-- it stays
pub stays : {T E : Type 0} (l : List ℕ) (after : List (List ℕ)) (a b : Option (List ℕ)) (r : Result T E) → stands_in l after ≡ true → Puts a b (came_before l after) r → Puts a b (changes_text (changes_to l after)) r
stays l after a b r there p = subst (λ (t : List ℕ). Puts a b t r) (ap changes_text (sym (by_test (stands_in l after) true (map Came (lines_before l after)) (Went l ∷ []) there))) p

pub stays_left : (l : List ℕ) (after : List (List ℕ)) → stands_in l after ≡ true → lines_behind l after ≡ left_by l after
stays_left l after there = sym (by_test (stands_in l after) true (lines_behind l after) after there)

-- ---- all changes

abbrev pub text_of : List (List ℕ) → List (List ℕ) → List ℕ
text_of before after = changes_text (changes before after)

-- none of the lines before is left
pub last_came : {T E : Type 0} (before after : List (List ℕ)) (a b : Option (List ℕ)) (r : Result T E) → before ≡ [] → Puts a b (came_text after) r → Puts a b (text_of before after) r
unfolding changes
last_came before after a b r none p = subst (λ ls. Puts a b (text_of ls after) r) (sym none) p

step_text : (l : List ℕ) (before others after left : List (List ℕ)) → before ≡ l ∷ others → left ≡ left_by l after → text_of before after ≡ changes_text (changes_to l after) ++ text_of others left
unfolding changes
step_text l before others after left is same =
    ap (λ ls. text_of ls after) is ∙ flat_map-append change_text (changes_to l after) (changes others (left_by l after))
    ∙ ap (λ ls. changes_text (changes_to l after) ++ text_of others ls) (sym same)

-- up to one, and then up to the others
pub changes_go : {T E : Type 0} (l : List ℕ) (before others after left : List (List ℕ)) (a b now : Option (List ℕ)) (r : Result T E) → before ≡ l ∷ others → left ≡ left_by l after
    → Appends a b (changes_text (changes_to l after)) → Puts b now (text_of others left) r → Puts a now (text_of before after) r
changes_go l before others after left a b now r is same p q =
    Puts-join a b now (changes_text (changes_to l after)) (text_of others left) (text_of before after) r (step_text l before others after left is same) p q

pub changes_stop : (l : List ℕ) (before others after : List (List ℕ)) (a b : Option (List ℕ)) → before ≡ l ∷ others → AppendsPrefix a b (changes_text (changes_to l after)) → AppendsPrefix a b (text_of before after)
changes_stop l before others after a b is p =
    AppendsPrefix-more a b (changes_text (changes_to l after)) (text_of others (left_by l after)) (text_of before after) (step_text l before others after (left_by l after) is refl) p
