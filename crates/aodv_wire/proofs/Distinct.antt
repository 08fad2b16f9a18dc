-- The first repeated address, and lists in which there is none.
use Rattle.std.proofs.Common.{◌≡◌, ℕ, suc, ◌<◌, Bool, true, false, cond, eqb, ◌||◌, List, [], ◌∷◌, ◌++◌, length, get_or, Some, None, refl, sym, ap, subst, append_assoc, eq-eqb, arith}
use Rattle.std.specs.Prelude.{◌≢◌, Contains}
use Rattle.std.proofs.lemmas.Bool.{eqb-true}
use Rattle.std.proofs.lemmas.Option.{none-some, same_Some}
use Rattle.std.proofs.lemmas.List.{append-nil}
use Rattle.std.proofs.lemmas.List.Folds.{list_any_at}
use Rattle.std.proofs.lemmas.List.Quantifiers.{all_pairs_push}
use Rattle.std.specs.List.{list_any}
use Rattle.mesh_base.specs.declared.addr.Addr.{Addr}
use Rattle.aodv_wire.specs.RouteError.{first_repeated, repeated_address, addresses}
use Rattle.aodv_wire.specs.Laws.{AreDistinct, IsFirstRepeated}

abbrev same : Addr → Addr → Bool
same a s = eqb s.0 a.0

is_there : (seen : List Addr) (a : Addr) → list_any (same a) seen ≡ true → Contains seen a
is_there [] a e = absurd (cc)
is_there (s ∷ seen) a e = by (λ r. is_there seen a r) (eqb s.0 a.0) refl e
  where
    by : (list_any (same a) seen ≡ true → Contains seen a) → (t : Bool) → eqb s.0 a.0 ≡ t → (t || list_any (same a) seen) ≡ true → Contains (s ∷ seen) a
    by later true hit e = let eq = eqb-true s.0 a.0 hit in (0, omega arith, ap (λ (n : ℕ). record { 0 = n }) eq)
    by later false miss e = let rest = later e in (suc rest.0, omega (arith, rest.1), rest.2)

not_there : (seen : List Addr) (a : Addr) → list_any (same a) seen ≡ false → (k : ℕ) (d : Addr) → k < length seen → get_or seen k d ≢ a
not_there seen a e k d h at =
    let found : list_any (same a) seen ≡ true = list_any_at (same a) seen k d h (eq-eqb (get_or seen k d).0 a.0 (ap (λ s. s.0) at)) in
    absurd (cc)

one_more : (seen : List Addr) (a : Addr) → list_any (same a) seen ≡ false → AreDistinct seen → AreDistinct (seen ++ a ∷ [])
one_more seen a e all = all_pairs_push (λ s t. s ≢ t) seen a all (not_there seen a e)

found : (seen rest : List Addr) (a : Addr) → AreDistinct seen → first_repeated seen rest ≡ Some a → IsFirstRepeated (seen ++ rest) a
found seen [] a all e = absurd (none-some a e)
found seen (x ∷ rest) a all e = by (λ further r. found (seen ++ x ∷ []) rest a further r) (list_any (same x) seen) refl e
  where
    by : (AreDistinct (seen ++ x ∷ []) → first_repeated (seen ++ x ∷ []) rest ≡ Some a → IsFirstRepeated ((seen ++ x ∷ []) ++ rest) a) → (t : Bool) → list_any (same x) seen ≡ t → cond t (Some x) (first_repeated (seen ++ x ∷ []) rest) ≡ Some a → IsFirstRepeated (seen ++ x ∷ rest) a
    by later true hit e =
        let is : x ≡ a = same_Some x a e in
        subst (λ y. IsFirstRepeated (seen ++ x ∷ rest) y) is (record { before = seen; after = rest; whole = refl; earlier = is_there seen x hit; distinct = all })
    by later false miss e =
        subst (λ xs. IsFirstRepeated xs a) (append_assoc seen (x ∷ []) rest) (later (one_more seen x miss all) e)

none_found : (seen rest : List Addr) → AreDistinct seen → first_repeated seen rest ≡ None → AreDistinct (seen ++ rest)
none_found seen [] all e = subst AreDistinct (sym (append-nil seen)) all
none_found seen (x ∷ rest) all e = by (λ further r. none_found (seen ++ x ∷ []) rest further r) (list_any (same x) seen) refl e
  where
    by : (AreDistinct (seen ++ x ∷ []) → first_repeated (seen ++ x ∷ []) rest ≡ None → AreDistinct ((seen ++ x ∷ []) ++ rest)) → (t : Bool) → list_any (same x) seen ≡ t → cond t (Some x) (first_repeated (seen ++ x ∷ []) rest) ≡ None → AreDistinct (seen ++ x ∷ rest)
    by later true hit e = absurd (none-some x (sym e))
    by later false miss e = subst AreDistinct (append_assoc seen (x ∷ []) rest) (later (one_more seen x miss all) e)

nobody : AreDistinct []
nobody i j d h below = absurd (omega arith)

pub repeated_is_first : (ps : List (Addr × ℕ)) (a : Addr) → repeated_address ps ≡ Some a → IsFirstRepeated (addresses ps) a
repeated_is_first ps a e = found [] (addresses ps) a nobody e

pub others_are_distinct : (ps : List (Addr × ℕ)) → repeated_address ps ≡ None → AreDistinct (addresses ps)
others_are_distinct ps e = none_found [] (addresses ps) nobody e
