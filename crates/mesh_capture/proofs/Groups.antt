-- A group of nodes, as it is written, is read as addresses in rising order.
use Rattle.std.proofs.Common.{◌≡◌, ◌≢◌, ◌⊎◌, ℕ, zero, suc, ◌+◌, ◌<◌, ◌≤◌, inl, inr, Bool, true, false, eqb, leb, cond, List, [], ◌∷◌, ◌++◌, codes, map, length, length-append, refl, sym, ap, ◌∙◌, subst, arith, eq-eqb}
use Rattle.std.specs.Ordering.{nat_cmp}
use Rattle.std.specs.Cmp.{nat_cmp_total}
use Rattle.std.specs.FinMap.{nat_cmp-IsAntisymmetric}
use Rattle.std.specs.FinSet as sets
use Rattle.std.proofs.lemmas.Bool.{cases_lt, le-leb, and_from}
use Rattle.std.proofs.lemmas.List.Elements.{All-append}
use Rattle.aodv_model.proofs.Entries.{if_case}
use Rattle.aodv_model.specs.Handlers.{is_empty}
use Rattle.aodv_model.specs.Soundness.{AreBelow}
use Rattle.mesh_base.specs.Members.{NodeIds, members_below}
use Rattle.mesh_base.specs.Meshes.{Nodes, IsMesh, addr_at}
use Rattle.mesh_base.specs.Parts.{parts}
use Rattle.mesh_base.proofs.WrittenForms.{Lacks, one_lacks, parts_at, parts_none}
use Rattle.mesh_text.specs.Effects.{more_names, names, set_text}
use Rattle.mesh_text.specs.Lines.{name_of}
use Rattle.mesh_lines.specs.Forms.{address_then, rise_from, are_addresses}
use Rattle.mesh_capture.proofs.Words.{word_lacks, name_lacks, name_read}

-- ---- indices that rise

-- from `low` on, and below `end`
abbrev pub AreUp : ℕ → ℕ → List ℕ → Type 0
AreUp low end [] = low ≤ end
AreUp low end (x ∷ xs) = (low ≤ x) × AreUp (x + 1) end xs

up_end : (low end : ℕ) (xs : List ℕ) → AreUp low end xs → low ≤ end
up_end low end [] up = up
up_end low end (x ∷ xs) up = omega (arith, up.0, up_end (x + 1) end xs up.1)

up_further : (low end : ℕ) (xs : List ℕ) → AreUp low end xs → AreUp low (end + 1) xs
up_further low end [] up = omega arith
up_further low end (x ∷ xs) up = (up.0, up_further (x + 1) end xs up.1)

up_last : (low end : ℕ) (xs : List ℕ) → AreUp low end xs → AreUp low (end + 1) (xs ++ end ∷ [])
up_last low end [] up = (up, omega arith)
up_last low end (x ∷ xs) up = (up.0, up_last (x + 1) end xs up.1)

pub members_up : (n : ℕ) (s : NodeIds) → AreUp 0 n (members_below n s)
unfolding members_below
members_up zero s = omega arith
members_up (suc n) s =
    let next : n + 1 ≡ suc n = omega arith in
    if_case (AreUp 0 (suc n)) (sets.contains s n) (members_below n s ++ n ∷ []) (members_below n s)
    (λ _. subst (λ k. AreUp 0 k (members_below n s ++ n ∷ [])) next (up_last 0 n (members_below n s) (members_up n s)))
    (λ _. subst (λ k. AreUp 0 k (members_below n s)) next (up_further 0 n (members_below n s) (members_up n s)))

-- ---- a group that isn't empty has a member

some_last : (xs : List ℕ) (x : ℕ) → xs ++ x ∷ [] ≢ []
some_last xs x none = let long = length-append xs (x ∷ []) in let short : length (xs ++ x ∷ []) ≡ 0 = ap length none in omega arith

no_member : (n : ℕ) (s : NodeIds) (q : ℕ) → members_below n s ≡ [] → q < n → sets.contains s q ≡ false
unfolding members_below
no_member zero s q none lt = absurd (omega arith)
no_member (suc n) s q none lt = by_test (no_member n s q) (sets.contains s n) refl none
  where
    by_test : (members_below n s ≡ [] → q < n → sets.contains s q ≡ false) → (b : Bool) → sets.contains s n ≡ b → cond b (members_below n s ++ n ∷ []) (members_below n s) ≡ [] → sets.contains s q ≡ false
    by_test before true has none = absurd (some_last (members_below n s) n none)
    by_test before false has none = elim (cases_lt q n) [
      | inl lower ↦ before none lower
      | inr le ↦ let same : q ≡ n = omega arith in ap (sets.contains s) same ∙ has
    ]

outside : (b : Bool) (q size : ℕ) → size ≤ q → (b ≡ true → q < size) → b ≡ false
outside true q size le below = absurd (let lt = below refl in omega arith)
outside false q size le below = refl

nothing_there : (size : ℕ) (s : NodeIds) → AreBelow size s → members_below size s ≡ [] → is_empty s ≡ true
nothing_there size s below none =
    let same : s ≡ sets.empty =
    sets.same_set nat_cmp_total nat_cmp-IsAntisymmetric s sets.empty (λ q. elim (cases_lt q size) [
      | inl lt ↦ no_member size s q none lt ∙ sym (sets.contains-empty nat_cmp q)
      | inr le ↦ outside (sets.contains s q) q size le (below q) ∙ sym (sets.contains-empty nat_cmp q)
    ]) in
    ap is_empty same ∙ eq-eqb (sets.len (sets.empty {R = nat_cmp})) 0 (sets.len-empty nat_cmp)

some_members : (size : ℕ) (s : NodeIds) → AreBelow size s → is_empty s ≡ false → members_below size s ≢ []
some_members size s below some none = let clash : true ≡ false = sym (nothing_there size s below none) ∙ some in let P : ⊥ = cc in P

-- ---- names

module _ (mesh : Nodes) (is : IsMesh mesh) where
  more_cut : (x : ℕ) (xs : List ℕ) → parts 44 (name_of mesh x ++ more_names mesh xs) ≡ map (name_of mesh) (x ∷ xs)
  more_cut x [] = ap (parts 44) (none_more (name_of mesh x)) ∙ parts_none 44 (name_of mesh x) (name_lacks 44 mesh x (omega arith) is)
    where
      none_more : (t : List ℕ) → t ++ [] ≡ t
      none_more [] = refl
      none_more (b ∷ bs) = ap (λ l. b ∷ l) (none_more bs)
  more_cut x (y ∷ ys) =
      parts_at 44 (name_of mesh x) (name_of mesh y ++ more_names mesh ys) (name_lacks 44 mesh x (omega arith) is)
      ∙ ap (λ ps. name_of mesh x ∷ ps) (more_cut y ys)

  names_rise : (low least : ℕ) (xs : List ℕ) → AreUp low (length mesh) xs → ((y : ℕ) → low ≤ y → y < length mesh → least ≤ addr_at mesh y) → rise_from least (map (name_of mesh) xs) ≡ true
  names_rise low least [] up above = refl
  names_rise low least (x ∷ xs) up above =
      let end = up_end (x + 1) (length mesh) xs up.1 in
      ap (λ o. address_then least o (λ next. rise_from next (map (name_of mesh) xs))) (name_read mesh x is)
      ∙ and_from (leb least (addr_at mesh x)) _ (le-leb least (addr_at mesh x) (above x up.0 (omega arith)))
      (names_rise (x + 1) (addr_at mesh x + 1) xs up.1 (λ y le lt. let more = is.rising x y (omega arith) lt in omega arith))

  names_read : (xs : List ℕ) → AreUp 0 (length mesh) xs → xs ≢ [] → are_addresses (names mesh xs) ≡ true
  names_read [] up some = absurd (some refl)
  names_read (x ∷ xs) up some = ap (rise_from 0) (more_cut x xs) ∙ names_rise 0 0 (x ∷ xs) up (λ y le lt. omega arith)

  -- the members of a group
  pub group_read : (s : NodeIds) → AreBelow (length mesh) s → is_empty s ≡ false → are_addresses (set_text mesh s) ≡ true
  group_read s below some = names_read (members_below (length mesh) s) (members_up (length mesh) s) (some_members (length mesh) s below some)

  -- a group that may be empty
  pub either_read : (xs : List ℕ) → AreUp 0 (length mesh) xs → (xs ≡ []) ⊎ (are_addresses (names mesh xs) ≡ true)
  either_read [] up = inl refl
  either_read (x ∷ xs) up = inr (names_read (x ∷ xs) up some)
    where
      some : x ∷ xs ≢ []
      some none = let long : length (x ∷ xs) ≡ 0 = ap length none in omega arith

  more_lack : (xs : List ℕ) → Lacks 32 (more_names mesh xs)
  more_lack [] = word_lacks 32 [] refl
  more_lack (x ∷ xs) = one_lacks 32 44 _ refl (All-append (λ b. eqb b 32 ≡ false) (name_of mesh x) (more_names mesh xs) (name_lacks 32 mesh x (omega arith) is) (more_lack xs))

  names_lack : (xs : List ℕ) → Lacks 32 (names mesh xs)
  names_lack [] = word_lacks 32 (codes "-") refl
  names_lack (x ∷ xs) = All-append (λ b. eqb b 32 ≡ false) (name_of mesh x) (more_names mesh xs) (name_lacks 32 mesh x (omega arith) is) (more_lack xs)

  -- a group is one word
  pub group_lacks : (s : NodeIds) → Lacks 32 (set_text mesh s)
  group_lacks s = names_lack (members_below (length mesh) s)
