-- What the cases of adding a number do.
use Rattle.std.proofs.Common.{◌≡◌, ◌<◌, ◌≤◌, ℕ, zero, suc, ◌+◌, ◌-◌, false, ltb, ◌&&◌, List, [], ◌∷◌, ◌++◌, length, get_or, set, take, drop, refl, sym, ap, subst, ◌∙◌, arith, eq-eqb, ◌⊎◌, inl, inr, IsTrue}
use Rattle.std.specs.List.{insert, remove}
use Rattle.std.proofs.lemmas.Bool.{le-ltb, lt-ltb, ne_eqb, lt-leb, le-leb, cases_lt}
use Rattle.std.proofs.lemmas.List.{take-append-drop, set_split, drop_all, get_or_default}
use Rattle.aodv_asked.specs.declared.interval.Interval.{Interval}
use Rattle.aodv_asked.specs.Intervals.{AreApart}
use Rattle.aodv_asked.specs.Insertions.{interval, is_in, is_near_to, extension, with_id}
use Rattle.aodv_asked.proofs.IntervalLaws.{AllBefore, with_id-at, drop_at, is_in-append, is_in_before, is_in_after}

-- v is the interval at position k
abbrev pub IsAt : List Interval → ℕ → Interval → Type 0
IsAt vs k v = get_or vs k (interval 0 0) ≡ v

at_any : (vs : List Interval) (k : ℕ) (v : Interval) → k < length vs → IsAt vs k v → (d : Interval) → get_or vs k d ≡ v
at_any vs k v h at d = get_or_default vs k d (interval 0 0) h ∙ at

early : (v : Interval) (r : List Interval) (q : ℕ) → q + 1 < v.first → with_id (v ∷ r) q ≡ interval q q ∷ v ∷ r
early v r q h = rw (lt-ltb (q + 1) v.first h) refl

touch : (v : Interval) (r : List Interval) (q : ℕ) → q + 1 ≡ v.first → with_id (v ∷ r) q ≡ interval q v.last ∷ r
touch v r q h = rw (le-ltb (q + 1) v.first (omega arith), eq-eqb (q + 1) v.first h) refl

within : (v : Interval) (r : List Interval) (q : ℕ) → v.first ≤ q → q ≤ v.last → with_id (v ∷ r) q ≡ v ∷ r
within v r q lo hi = rw (le-ltb (q + 1) v.first (omega arith), ne_eqb (q + 1) v.first (λ e. omega arith), le-leb q v.last hi) refl

behind : (v : Interval) (r : List Interval) (q : ℕ) → v.first ≤ v.last → q ≡ v.last + 1 → with_id (v ∷ r) q ≡ extension v q r
behind v r q some next = rw (le-ltb (q + 1) v.first (omega arith), ne_eqb (q + 1) v.first (λ e. omega arith), lt-leb q v.last (omega arith), eq-eqb q (v.last + 1) next) refl

alone : (v : Interval) (r : List Interval) (q : ℕ) → ((w : Interval) (ws : List Interval) → r ≡ w ∷ ws → q + 1 ≡ w.first → ⊥) → extension v q r ≡ interval v.first q ∷ r
alone v [] q ne = refl
alone v (w ∷ ws) q ne = rw (ne_eqb (q + 1) w.first (ne w ws refl)) refl

here : (vs : List Interval) (k q : ℕ) (v : Interval) → AreApart 0 vs → AllBefore (take k vs) q → k < length vs → IsAt vs k v → with_id vs q ≡ take k vs ++ with_id (v ∷ drop (suc k) vs) q
here vs k q v apart before h at = with_id-at vs k q apart before ∙ ap (λ (r : List Interval). take k vs ++ with_id r q) (drop_at vs k v h (at_any vs k v h at))

apart_rest : (lo : ℕ) (xs ys : List Interval) → AreApart lo (xs ++ ys) → (lo' : ℕ) × AreApart lo' ys
apart_rest lo [] ys apart = (lo, apart)
apart_rest lo (x ∷ xs) ys apart = apart_rest (x.last + 2) xs ys apart.2

some_at : (vs : List Interval) (k : ℕ) (v : Interval) → AreApart 0 vs → k < length vs → IsAt vs k v → (v.first ≤ v.last) × AreApart (v.last + 2) (drop (suc k) vs)
some_at vs k v apart h at =
    let rest = apart_rest 0 (take k vs) (v ∷ drop (suc k) vs) (subst (AreApart 0) (sym (take-append-drop k vs) ∙ ap (λ (r : List Interval). take k vs ++ r) (drop_at vs k v h (at_any vs k v h at))) apart) in
    (rest.1.1, rest.1.2)

pub put_end : (vs : List Interval) (k q : ℕ) → AreApart 0 vs → AllBefore (take k vs) q → length vs ≤ k → insert vs k (interval q q) ≡ with_id vs q
put_end vs k q apart before h =
    let none : drop k vs ≡ [] = drop_all k vs h in
    ap (λ (r : List Interval). take k vs ++ interval q q ∷ r) none ∙ sym (with_id-at vs k q apart before ∙ ap (λ (r : List Interval). take k vs ++ with_id r q) none)

pub put_early : (vs : List Interval) (k q : ℕ) (v : Interval) → AreApart 0 vs → AllBefore (take k vs) q → k < length vs → IsAt vs k v → q + 1 < v.first → insert vs k (interval q q) ≡ with_id vs q
put_early vs k q v apart before h at lt =
    ap (λ (r : List Interval). take k vs ++ interval q q ∷ r) (drop_at vs k v h (at_any vs k v h at))
    ∙ sym (here vs k q v apart before h at ∙ ap (λ (r : List Interval). take k vs ++ r) (early v (drop (suc k) vs) q lt))

pub put_touch : (vs : List Interval) (k q : ℕ) (v : Interval) → AreApart 0 vs → AllBefore (take k vs) q → k < length vs → IsAt vs k v → q + 1 ≡ v.first → set vs k (interval q v.last) ≡ with_id vs q
put_touch vs k q v apart before h at e =
    set_split vs k (interval q v.last) h ∙ sym (here vs k q v apart before h at ∙ ap (λ (r : List Interval). take k vs ++ r) (touch v (drop (suc k) vs) q e))

pub put_within : (vs : List Interval) (k q : ℕ) (v : Interval) → AreApart 0 vs → AllBefore (take k vs) q → k < length vs → IsAt vs k v → v.first ≤ q → q ≤ v.last → vs ≡ with_id vs q
put_within vs k q v apart before h at lo hi =
    sym (take-append-drop k vs) ∙ ap (λ (r : List Interval). take k vs ++ r) (drop_at vs k v h (at_any vs k v h at))
    ∙ sym (here vs k q v apart before h at ∙ ap (λ (r : List Interval). take k vs ++ r) (within v (drop (suc k) vs) q lo hi))

remove-set_suc : (vs : List Interval) (k : ℕ) (x : Interval) → suc k < length vs → remove (set vs k x) (suc k) ≡ take k vs ++ x ∷ drop (suc (suc k)) vs
remove-set_suc [] k x h = absurd (omega arith)
remove-set_suc (v ∷ vs) zero x h = refl
remove-set_suc (v ∷ vs) (suc k) x h = ap (λ (r : List Interval). v ∷ r) (remove-set_suc vs k x (omega arith))

remove-set : (vs : List Interval) (k : ℕ) (x : Interval) → k + 1 < length vs → remove (set vs k x) (k + 1) ≡ take k vs ++ x ∷ drop (k + 2) vs
remove-set vs k x h =
    let one : k + 1 ≡ suc k = omega arith in
    let two : suc (suc k) ≡ k + 2 = omega arith in
    ap (λ (i : ℕ). remove (set vs k x) i) one ∙ remove-set_suc vs k x (omega arith) ∙ ap (λ (i : ℕ). take k vs ++ x ∷ drop i vs) two

pub put_both : (vs : List Interval) (k q : ℕ) (v w : Interval) → AreApart 0 vs → AllBefore (take k vs) q → k + 1 < length vs → IsAt vs k v → IsAt vs (k + 1) w → v.last < q → q ≤ v.last + 1 → q + 1 ≡ w.first
    → remove (set vs k (interval v.first w.last)) (k + 1) ≡ with_id vs q
put_both vs k q v w apart before h at next-at lt le e =
    let rest : drop (suc k) vs ≡ w ∷ drop (suc (suc k)) vs = drop_at vs (suc k) w (omega arith) (at_any vs (suc k) w (omega arith) (ap (λ (i : ℕ). get_or vs i (interval 0 0)) (omega arith) ∙ next-at)) in
    let two : k + 2 ≡ suc (suc k) = omega arith in
    let some = some_at vs k v apart (omega arith) at in
    remove-set vs k (interval v.first w.last) h
    ∙ ap (λ (i : ℕ). take k vs ++ interval v.first w.last ∷ drop i vs) two
    ∙ sym (here vs k q v apart before (omega arith) at ∙ ap (λ (r : List Interval). take k vs ++ with_id (v ∷ r) q) rest
    ∙ ap (λ (r : List Interval). take k vs ++ r) (behind v (w ∷ drop (suc (suc k)) vs) q some.0 (omega arith) ∙ rw (eq-eqb (q + 1) w.first e) refl))

pub put_behind : (vs : List Interval) (k q : ℕ) (v : Interval) → AreApart 0 vs → AllBefore (take k vs) q → k < length vs → IsAt vs k v → v.last < q → q ≤ v.last + 1 → (k + 1 < length vs → q + 1 ≡ (get_or vs (k + 1) (interval 0 0)).first → ⊥)
    → set vs k (interval v.first q) ≡ with_id vs q
put_behind vs k q v apart before h at lt le ne =
    let some = some_at vs k v apart h at in
    set_split vs k (interval v.first q) h
    ∙ sym (here vs k q v apart before h at ∙ ap (λ (r : List Interval). take k vs ++ r) (behind v (drop (suc k) vs) q some.0 (omega arith) ∙ alone v (drop (suc k) vs) q (λ w ws is e.
    elim (cases_lt (k + 1) (length vs)) [
      | inl inside ↦
          let first-is : get_or vs (k + 1) (interval 0 0) ≡ w = ap (λ (i : ℕ). get_or vs i (interval 0 0)) (omega arith) ∙ ap (λ (r : List Interval). get_or r 0 (interval 0 0)) (sym (drop_at vs (suc k) (get_or vs (suc k) (interval 0 0)) (omega arith) (λ d. get_or_default vs (suc k) d (interval 0 0) (omega arith))) ∙ is) in
          ne inside (e ∙ ap (λ (x : Interval). x.first) (sym first-is))
      | inr past ↦ let none : drop (suc k) vs ≡ [] = drop_all (suc k) vs (omega arith) in absurd (nil_cons w ws (sym none ∙ is))
    ])))
  where
    nil_cons : (w : Interval) (ws : List Interval) → [] ≡ w ∷ ws → ⊥
    nil_cons w ws e = cc

-- ---- no number near

far : (vs : List Interval) (k q x : ℕ) → AllBefore (take k vs) q → q ≤ x + 1 → is_in (drop k vs) x ≡ false → is_in vs x ≡ false
far vs k q x before le none =
    ap (λ (r : List Interval). is_in r x) (sym (take-append-drop k vs)) ∙ is_in-append (take k vs) (drop k vs) x ∙ rw (is_in_before (take k vs) q x before le, none) refl

not_near : (vs : List Interval) (k q : ℕ) → AllBefore (take k vs) q → ((x : ℕ) → x ≤ q + 1 → is_in (drop k vs) x ≡ false) → is_near_to vs q ≡ false
not_near vs k q before none =
    rw (far vs k q q before (omega arith) (none q (omega arith)), far vs k q (q + 1) before (omega arith) (none (q + 1) (omega arith)))
    (at q refl)
  where
    at : (p : ℕ) → p ≡ q → (ltb 0 q && is_in vs (q - 1)) ≡ false
    at zero e = rw (le-ltb 0 q (omega arith)) refl
    at (suc p) e = rw (far vs k q (q - 1) before (omega arith) (none (q - 1) (omega arith)), lt-ltb 0 q (omega arith)) refl

nothing : (x : ℕ) → is_in [] x ≡ false
unfolding is_in
nothing x = refl

pub room_at_end : (vs : List Interval) (k q : ℕ) (P : Type 0) → AllBefore (take k vs) q → length vs ≤ k → P ⊎ IsTrue (is_near_to vs q) → P
room_at_end vs k q P before h room =
    elim room [
      | inl p ↦ p
      | inr near ↦
          let none : drop k vs ≡ [] = drop_all k vs h in
          let no_near = not_near vs k q before (λ x le. ap (λ (r : List Interval). is_in r x) none ∙ nothing x) in
          absurd cc
    ]

pub room_early : (vs : List Interval) (k q : ℕ) (v : Interval) (P : Type 0) → AreApart 0 vs → AllBefore (take k vs) q → k < length vs → IsAt vs k v → q + 1 < v.first → P ⊎ IsTrue (is_near_to vs q) → P
room_early vs k q v P apart before h at lt room =
    elim room [
      | inl p ↦ p
      | inr near ↦
          let some = some_at vs k v apart h at in
          let no_near = not_near vs k q before (λ x le. ap (λ (r : List Interval). is_in r x) (drop_at vs k v h (at_any vs k v h at)) ∙ is_in_after v.first (v ∷ drop (suc k) vs) x (omega arith, some.0, some.1) (omega arith)) in
          absurd cc
    ]
