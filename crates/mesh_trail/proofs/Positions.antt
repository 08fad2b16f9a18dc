-- The lists of the copies in flight: where one is found, and which stay when others go or come.
use Rattle.std.proofs.Common.{◌≡◌, ℕ, zero, suc, ◌+◌, ◌<◌, ◌≤◌, inl, inr, Bool, true, false, cond, not, List, [], ◌∷◌, ◌++◌, filter, map, Some, None, Option, refl, sym, ap, subst, ◌∙◌, arith}
use Rattle.std.specs.Prelude.{slice_get, nat_le, option_map}
use Rattle.std.specs.List.{AllByRecursion}
use Rattle.std.proofs.lemmas.Bool.Decides.{nat_tests}
use Rattle.std.proofs.lemmas.Option.{none-some, same_Some}
use Rattle.mesh_base.specs.Meshes.{Nodes}
use Rattle.mesh_base.specs.declared.events.Flying.{Flying}
use Rattle.mesh_model.proofs.Lists.{each_filter, each_map}
use Rattle.mesh_model.specs.InMesh as world_numbers
use Rattle.mesh_model.specs.Worlds.{Copy}
use Rattle.mesh_meaning.specs.Packets.{copy_in}
use Rattle.mesh_radio.specs.Copies.{AreNumbered, from_id}
use Rattle.mesh_trail.specs.declared.casts.Cast.{Cast}
use Rattle.mesh_trail.specs.Casts.{list_of, IsCovered, AreEnding, IsPosition, begins_below, flies_in}

le_true : (a b : ℕ) → a ≤ b → nat_le a b ≡ true
le_true a b l = grind (arith, nat_tests)

le_false : (a b : ℕ) → b < a → nat_le a b ≡ false
le_false a b l = grind (arith, nat_tests)

-- ---- ends

pub ends_most : (low : ℕ) (cs : List Cast) (next : ℕ) → AreEnding low cs next → low ≤ next
ends_most low [] next e = e
ends_most low (c ∷ cs) next e = let a = e.0 in let b = ends_most c.end cs next e.1 in omega arith

pub ends_from : (low : ℕ) (cs : List Cast) (next j : ℕ) (c : Cast) → AreEnding low cs next → slice_get cs j ≡ Some c → low ≤ c.end
ends_from low [] next j c e is = absurd (none-some c is)
ends_from low (a ∷ cs) next zero c e is = let same : a ≡ c = same_Some a c is in subst (λ (b : Cast). low ≤ b.end) same e.0
ends_from low (a ∷ cs) next (suc j) c e is = let l = ends_from a.end cs next j c e.1 is in let m = e.0 in omega arith

pub ends_rise : (low : ℕ) (cs : List Cast) (next i j : ℕ) (a b : Cast) → AreEnding low cs next → i ≤ j → slice_get cs i ≡ Some a → slice_get cs j ≡ Some b → a.end ≤ b.end
ends_rise low [] next i j a b e le is then = absurd (none-some a is)
ends_rise low (c ∷ cs) next zero zero a b e le is then = let same : c ≡ a = same_Some c a is in let also : c ≡ b = same_Some c b then in let x : a.end ≡ b.end = ap (λ (d : Cast). d.end) (sym same ∙ also) in omega arith
ends_rise low (c ∷ cs) next zero (suc j) a b e le is then = let same : c ≡ a = same_Some c a is in subst (λ (d : Cast). d.end ≤ b.end) same (ends_from c.end cs next j b e.1 then)
ends_rise low (c ∷ cs) next (suc i) zero a b e le is then = absurd (omega arith)
ends_rise low (c ∷ cs) next (suc i) (suc j) a b e le is then = ends_rise c.end cs next i j a b e.1 (omega arith) is then

-- ---- where a list is found

abbrev pub list_at : Option Cast → List ℕ
list_at None = []
list_at (Some c) = c.list

pub passed : (c : Cast) (cs : List Cast) (id : ℕ) → c.end ≤ id → list_of (c ∷ cs) id ≡ list_of cs id
passed c cs id l = ap (λ b. cond b (list_of cs id) c.list) (le_true c.end id l)

pub here : (c : Cast) (cs : List Cast) (id : ℕ) → id < c.end → list_of (c ∷ cs) id ≡ c.list
here c cs id l = ap (λ b. cond b (list_of cs id) c.list) (le_false c.end id l)

pub found : (cs : List Cast) (id k : ℕ) → IsPosition cs id k → list_of cs id ≡ list_at (slice_get cs k)
found [] id k p = refl
found (c ∷ cs) id zero p = here c cs id (p.behind 0 c (omega arith) refl)
found (c ∷ cs) id (suc k) p =
    passed c cs id (p.before 0 c (omega arith) refl)
    ∙ found cs id k (record {
      within = let w = p.within in omega arith;
      before = λ j d l is. p.before (suc j) d (omega arith) is;
      behind = λ j d l is. p.behind (suc j) d (omega arith) is;
    })

-- ---- one cast more

pub covered_below : (low : ℕ) (cs : List Cast) (next id : ℕ) → AreEnding low cs next → IsCovered cs id → id < next
covered_below low [] next id e t = absurd t
covered_below low (c ∷ cs) next id e (inl t) = covered_below c.end cs next id e.1 t.1
covered_below low (c ∷ cs) next id e (inr t) = let most = ends_most c.end cs next e.1 in let l = t.1 in omega arith

pub covered_more : (cs : List Cast) (c : Cast) (id : ℕ) → IsCovered cs id → IsCovered (cs ++ c ∷ []) id
covered_more [] c id t = absurd t
covered_more (b ∷ cs) c id (inl t) = inl (t.0, covered_more cs c id t.1)
covered_more (b ∷ cs) c id (inr t) = inr t

pub covered_new : (low : ℕ) (cs : List Cast) (next : ℕ) (c : Cast) (id : ℕ) → AreEnding low cs next → next ≤ id → c.first ≤ id → id < c.end → IsCovered (cs ++ c ∷ []) id
covered_new low [] next c id e le first end = inr (first, end)
covered_new low (b ∷ cs) next c id e le first end = let most = ends_most b.end cs next e.1 in inl (omega arith, covered_new b.end cs next c id e.1 le first end)

pub ends_more : (low : ℕ) (cs : List Cast) (next : ℕ) (c : Cast) → AreEnding low cs next → next ≤ c.end → AreEnding low (cs ++ c ∷ []) c.end
ends_more low [] next c e le = (omega arith, omega arith)
ends_more low (b ∷ cs) next c e le = (e.0, ends_more b.end cs next c e.1 le)

pub list_old : (cs : List Cast) (c : Cast) (id : ℕ) → IsCovered cs id → list_of (cs ++ c ∷ []) id ≡ list_of cs id
list_old [] c id t = absurd t
list_old (b ∷ cs) c id (inl t) = passed b (cs ++ c ∷ []) id t.0 ∙ list_old cs c id t.1 ∙ sym (passed b cs id t.0)
list_old (b ∷ cs) c id (inr t) = here b (cs ++ c ∷ []) id t.1 ∙ sym (here b cs id t.1)

pub list_new : (low : ℕ) (cs : List Cast) (next : ℕ) (c : Cast) (id : ℕ) → AreEnding low cs next → next ≤ id → id < c.end → list_of (cs ++ c ∷ []) id ≡ c.list
list_new low [] next c id e le end = here c [] id end
list_new low (b ∷ cs) next c id e le end = let most = ends_most b.end cs next e.1 in passed b (cs ++ c ∷ []) id (omega arith) ∙ list_new b.end cs next c id e.1 le end

-- ---- casts that go

-- each cast goes on that has that id
abbrev pub Stays : (Cast → Bool) → ℕ → Type 0
Stays test id = (c : Cast) → c.first ≤ id → id < c.end → test c ≡ true

pub covered_kept : (test : Cast → Bool) (cs : List Cast) (id : ℕ) → Stays test id → IsCovered cs id → IsCovered (filter test cs) id
covered_kept test [] id stays t = absurd t
covered_kept test (c ∷ cs) id stays (inl t) = by (test c) (covered_kept test cs id stays t.1)
  where
    by : (b : Bool) → IsCovered (filter test cs) id → IsCovered (cond b (c ∷ filter test cs) (filter test cs)) id
    by true rest = inl (t.0, rest)
    by false rest = rest
covered_kept test (c ∷ cs) id stays (inr t) = subst (λ b. IsCovered (cond b (c ∷ filter test cs) (filter test cs)) id) (sym (stays c t.0 t.1)) (inr t)

pub list_kept : (test : Cast → Bool) (cs : List Cast) (id : ℕ) → Stays test id → IsCovered cs id → list_of (filter test cs) id ≡ list_of cs id
list_kept test [] id stays t = refl
list_kept test (c ∷ cs) id stays (inl t) = by (test c) ∙ list_kept test cs id stays t.1 ∙ sym (passed c cs id t.0)
  where
    by : (b : Bool) → list_of (cond b (c ∷ filter test cs) (filter test cs)) id ≡ list_of (filter test cs) id
    by true = passed c (filter test cs) id t.0
    by false = refl
list_kept test (c ∷ cs) id stays (inr t) =
    ap (λ b. list_of (cond b (c ∷ filter test cs) (filter test cs)) id) (stays c t.0 t.1) ∙ here c (filter test cs) id t.1 ∙ sym (here c cs id t.1)

ends_weak : (low more : ℕ) (cs : List Cast) (next : ℕ) → low ≤ more → AreEnding more cs next → AreEnding low cs next
ends_weak low more [] next le e = omega arith
ends_weak low more (c ∷ cs) next le e = let m = e.0 in (omega arith, e.1)

pub ends_kept : (test : Cast → Bool) (low : ℕ) (cs : List Cast) (next : ℕ) → AreEnding low cs next → AreEnding low (filter test cs) next
ends_kept test low [] next e = e
ends_kept test low (c ∷ cs) next e = by (test c) (ends_kept test c.end cs next e.1)
  where
    by : (b : Bool) → AreEnding c.end (filter test cs) next → AreEnding low (cond b (c ∷ filter test cs) (filter test cs)) next
    by true rest = (e.0, rest)
    by false rest = ends_weak low c.end (filter test cs) next e.0 rest

-- ---- copies that fly

numbered_from : (low : ℕ) (fs : List Flying) (next : ℕ) → AreNumbered low fs next → AllByRecursion (λ (f : Flying). low ≤ f.id) fs
numbered_from low [] next all = tt
numbered_from low (f ∷ fs) next all = (all.0, each_map (λ (g : Flying). f.id + 1 ≤ g.id) (λ (g : Flying). low ≤ g.id) (λ g l. let m = all.0 in omega arith) fs (numbered_from (f.id + 1) fs next all.1))

abbrev BeginsBy : ℕ → ℕ → List Flying → ℕ → Type 0
BeginsBy first end fs id = first ≤ id → id < end → begins_below end (from_id fs first) ≡ true

begins : (first end low : ℕ) (fs : List Flying) (next : ℕ) → AreNumbered low fs next → AllByRecursion (λ (f : Flying). BeginsBy first end fs f.id) fs
unfolding from_id
begins first end low [] next all = tt
begins first end low (g ∷ gs) next all = by (nat_le first g.id) refl (begins first end (g.id + 1) gs next all.1)
  where
    later : AllByRecursion (λ (f : Flying). g.id + 1 ≤ f.id) gs
    later = numbered_from (g.id + 1) gs next all.1

    here_true : (id : ℕ) → id < end → g.id ≤ id → not (nat_le end g.id) ≡ true
    here_true id l le = ap not (le_false end g.id (omega arith))

    too_low : (id : ℕ) → nat_le first g.id ≡ false → id ≡ g.id → first ≤ id → ⊥
    too_low id is same le = grind (arith, nat_tests)

    rest : nat_le first g.id ≡ false → AllByRecursion (λ (f : Flying). BeginsBy first end gs f.id) gs → AllByRecursion (λ (f : Flying). BeginsBy first end (g ∷ gs) f.id) gs
    rest is tail = each_map (λ (f : Flying). BeginsBy first end gs f.id) (λ (f : Flying). BeginsBy first end (g ∷ gs) f.id)
        (λ f t le lt. ap (λ b. begins_below end (cond b (g ∷ from_id gs first) (from_id gs first))) is ∙ t le lt) gs tail

    by : (b : Bool) → nat_le first g.id ≡ b → AllByRecursion (λ (f : Flying). BeginsBy first end gs f.id) gs → AllByRecursion (λ (f : Flying). BeginsBy first end (g ∷ gs) f.id) (g ∷ gs)
    by true is tail = (
      λ le lt. ap (λ b. begins_below end (cond b (g ∷ from_id gs first) (from_id gs first))) is ∙ here_true g.id lt (omega arith),
      each_map (λ (f : Flying). g.id + 1 ≤ f.id) (λ (f : Flying). BeginsBy first end (g ∷ gs) f.id)
          (λ f l le lt. ap (λ b. begins_below end (cond b (g ∷ from_id gs first) (from_id gs first))) is ∙ here_true f.id lt (omega arith)) gs later,
    )
    by false is tail = (λ le lt. absurd (too_low g.id is refl le), rest is tail)

numbered_shown : (mesh : Nodes) (low : ℕ) (fs : List Flying) (next : ℕ) → world_numbers.AreNumbered low (map (copy_in mesh) fs) next → AreNumbered low fs next
numbered_shown mesh low [] next all = all
numbered_shown mesh low (f ∷ fs) next all = (all.0, numbered_shown mesh (f.id + 1) fs next all.1)

each_shown : (mesh : Nodes) (P : ℕ → Type 0) (fs : List Flying) → AllByRecursion (λ (f : Flying). P f.id) fs → AllByRecursion (λ (c : Copy). P c.id) (map (copy_in mesh) fs)
each_shown mesh P [] all = tt
each_shown mesh P (f ∷ fs) all = (all.0, each_shown mesh P fs all.1)

each_test : (fs : List Flying) (next : ℕ) → AreNumbered 1 fs next → (gs : List Flying) → ((first end : ℕ) → AllByRecursion (λ (f : Flying). BeginsBy first end fs f.id) gs) → AllByRecursion (λ (f : Flying). Stays (flies_in fs) f.id) gs
each_test fs next numbered [] all = tt
each_test fs next numbered (g ∷ gs) all = (λ c le lt. (all c.first c.end).0 le lt, each_test fs next numbered gs (λ first end. (all first end).1))

-- the cast of a copy that flies goes on
pub flying_stays : (mesh : Nodes) (fs : List Flying) (flying : List Copy) (next : ℕ) → map (copy_in mesh) fs ≡ flying → world_numbers.AreNumbered 1 flying next → AllByRecursion (λ (c : Copy). Stays (flies_in fs) c.id) flying
flying_stays mesh fs flying next is numbered =
    let all : AreNumbered 1 fs next = numbered_shown mesh 1 fs next (subst (λ cs. world_numbers.AreNumbered 1 cs next) (sym is) numbered) in
    subst (AllByRecursion (λ (c : Copy). Stays (flies_in fs) c.id)) is (each_shown mesh (Stays (flies_in fs)) fs (each_test fs next all fs (λ first end. begins first end 1 fs next all)))

-- ---- where none flies, or all later

pub none_fly : (fs : List Flying) (c : Cast) → option_map (λ (f : Flying). f.id) (slice_get fs 0) ≡ None → flies_in fs c ≡ false
unfolding from_id
none_fly [] c none = refl
none_fly (f ∷ fs) c none = absurd (none-some f.id (sym none))

none_begin : (fs : List Flying) (end : ℕ) → AllByRecursion (λ (f : Flying). end ≤ f.id) fs → begins_below end fs ≡ false
none_begin [] end all = refl
none_begin (f ∷ fs) end all = ap not (le_true end f.id all.0)

pub fly_later : (fs : List Flying) (next least : ℕ) (c : Cast) → AreNumbered 1 fs next → Some least ≡ option_map (λ (f : Flying). f.id) (slice_get fs 0) → c.end ≤ least → flies_in fs c ≡ false
unfolding from_id
fly_later fs next least c numbered is le = none_begin (from_id fs c.first) c.end (each_filter (λ (f : Flying). c.end ≤ f.id) _ fs (by fs numbered is))
  where
    by : (fs : List Flying) → AreNumbered 1 fs next → Some least ≡ option_map (λ (f : Flying). f.id) (slice_get fs 0) → AllByRecursion (λ (f : Flying). c.end ≤ f.id) fs
    by [] numbered is = absurd (none-some least (sym is))
    by (f ∷ fs) numbered is =
        let same : least ≡ f.id = same_Some least f.id is in
        (omega arith, each_map (λ (g : Flying). f.id + 1 ≤ g.id) (λ (g : Flying). c.end ≤ g.id) (λ g l. omega arith) fs (numbered_from (f.id + 1) fs next numbered.1))
