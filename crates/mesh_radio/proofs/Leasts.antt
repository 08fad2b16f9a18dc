-- The least copy in flight.
use Rattle.std.proofs.Common.{◌≡◌, ℕ, zero, suc, ◌+◌, ◌-◌, ◌≤◌, List, [], ◌∷◌, ◌++◌, length, Option, Some, None, refl, sym, ap, subst, ◌∙◌, arith}
use Rattle.std.specs.Prelude.{slice_get, option_map, IfSome, IfNone}
use Rattle.std.specs.List.{AllByRecursion}
use Rattle.std.proofs.lemmas.Option.{same_Some, none-some, slice_get_within}
use Rattle.mesh_base.specs.declared.events.Flying.{Flying}
use Rattle.mesh_base.specs.Members.{member_list}
use Rattle.mesh_radio.specs.Copies.{find_copy}
use Rattle.mesh_radio.specs.Casts.{Entry, copies_of, AreRising, AreLeft, AreGone, IsFound, IsNext, IsLeast, IsLeastOf, copies_before, entry_of, copy_of}
use Rattle.mesh_radio.specs.declared.casts.Cast.{Cast}
use Rattle.mesh_radio.specs.declared.casts.Least.{Least}
use Rattle.mesh_base.proofs.Ranks.{member-rank}
use Rattle.mesh_radio.proofs.Entries.{find-all}
use Rattle.mesh_radio.proofs.Nexts.{entry-between, before-next, before-at, lefts-at, next-told, next-within, first-of, find-first}
use Rattle.mesh_radio.proofs.Sweeps.{entry-push, gone-push, gone-none}

-- the casts before that of the least copy have none
pub least-gone : (es : List Entry) (index id to : ℕ) → IsLeast es index id to → AreGone es index
least-gone es index id to l =
    let n = l.next in
    record {
      within = let inside = slice_get_within es index n.entry n.at in omega arith;
      none = λ q le b. n.none q le (let up = before-at es index q n.entry n.at b in omega arith);
    }

pub least-found : (es : List Entry) (next index id to : ℕ) → AreRising 1 es next → AllByRecursion (λ x. AreLeft x.1) es → IsLeast es index id to → IsFound es id index to
least-found es next index id to r all l =
    let n = l.next in
    let e = n.entry in
    let is = l.is in
    let here = member-rank to (e.1).to n.below (lefts-at index es e all n.at to n.left) in
    let inside = slice_get_within (member_list (e.1).to) (copies_before e.1 to) to here in
    let back : id - e.0 ≡ copies_before e.1 to = omega arith in
    record {
      entry = e;
      at = n.at;
      is = entry-between 1 next index id es e r n.at (omega arith) (before-next 1 next index id es e r n.at (omega arith));
      low = omega arith;
      member = ap (slice_get (member_list (e.1).to)) back ∙ here;
      left = n.left;
    }

slice_get-push : (es : List Entry) (e : Entry) (k : ℕ) (x : Entry) → slice_get es k ≡ Some x → slice_get (es ++ e ∷ []) k ≡ Some x
slice_get-push [] e zero x h = absurd cc
slice_get-push [] e (suc k) x h = absurd cc
slice_get-push (y ∷ es) e zero x h = h
slice_get-push (y ∷ es) e (suc k) x h = slice_get-push es e k x h

-- it is the least still, after a cast more
pub least-push : (es : List Entry) (next index id to : ℕ) (c : Cast) → AreRising 1 es next → AllByRecursion (λ x. AreLeft x.1) es → IsLeast es index id to → IsLeast (es ++ (next, c) ∷ []) index id to
least-push es next index id to c r all l =
    let n = l.next in
    let within = next-within es next 0 index to n.entry r all n n.at in
    record {
      next = record {
        entry = n.entry;
        at = slice_get-push es (next, c) index n.entry n.at;
        left = n.left;
        below = n.below;
        late = n.late;
        none = λ q le lt. ap (λ o. copy_of o q) (entry-push 1 next q es c r (omega (arith, within.1))) ∙ n.none q le lt;
      };
      is = l.is;
    }

-- where no copy flies
pub all-gone : (es : List Entry) (next : ℕ) → AreRising 1 es next → copies_of es ≡ [] → AreGone es (length es)
all-gone es next r none = record {
  within = omega arith;
  none = λ q le b. sym (find-all 1 next q es r) ∙ ap (λ fs. find_copy fs q) none;
}

pub none-there : (es : List Entry) (next id : ℕ) → AreRising 1 es next → copies_of es ≡ [] → copy_of (entry_of es id) id ≡ None
none-there es next id r none = sym (find-all 1 next id es r) ∙ ap (λ fs. find_copy fs id) none

none-empty : (fs : List Flying) → ((q : ℕ) → find_copy fs q ≡ None) → fs ≡ []
none-empty [] none = refl
none-empty (f ∷ fs) none = absurd (none-some f (sym (none f.id) ∙ find-first f fs))

pub no-copies : (es : List Entry) (next : ℕ) → AreRising 1 es next → ((q : ℕ) → 0 ≤ q → copy_of (entry_of es q) q ≡ None) → copies_of es ≡ []
no-copies es next r none = none-empty (copies_of es) (λ q. find-all 1 next q es r ∙ none q (omega arith))

pub least-is : (es : List Entry) (next index id to : ℕ) (e : Entry) → IsNext es 0 index to → slice_get es index ≡ Some e → id ≡ e.0 + copies_before e.1 to → IsLeast es index id to
least-is es next index id to e n at is =
    let same : e ≡ n.entry = same_Some e n.entry (sym at ∙ n.at) in
    record { next = n; is = is ∙ ap (λ (y : Entry). y.0 + copies_before y.1 to) same }

pub first-id : (es : List Entry) (next : ℕ) (l : Least) → AreRising 1 es next → AllByRecursion (λ x. AreLeft x.1) es → IsLeast es l.spot.index l.id l.spot.to → Some l.id ≡ option_map (λ (f : Flying). f.id) (slice_get (copies_of es) 0)
first-id es next l r all least =
    let n = least.next in
    ap (λ k. Some k) least.is ∙ ap (option_map (λ (f : Flying). f.id)) (sym (first-of (copies_of es) _ _ (next-told es next 0 l.spot.index l.spot.to n.entry r all n n.at)))

-- ---- what a call keeps

pub kept-least : (es : List Entry) (next : ℕ) (c : Cast) (o : Option Least) → AreRising 1 es next → AllByRecursion (λ x. AreLeft x.1) es → IsLeastOf es o → IfSome o (λ l. IsLeast (es ++ (next, c) ∷ []) l.spot.index l.id l.spot.to)
kept-least es next c None r all is = tt
kept-least es next c (Some l) r all is = least-push es next l.spot.index l.id l.spot.to c r all is

pub gone-then : (es : List Entry) (next : ℕ) (c : Cast) (o : Option Least) → AreRising 1 es next → IsLeastOf es o → IfNone o (AreGone (es ++ (next, c) ∷ []) (length es))
gone-then es next c None r is = gone-push es next (length es) c r (all-gone es next r is)
gone-then es next c (Some l) r is = tt

pub front-gone : (es : List Entry) (front : ℕ) (o : Option Least) → IsLeastOf es o → IfSome o (λ l. front ≡ l.spot.index) → IfNone o (front ≡ 0) → AreGone es front
front-gone es front None is some none = subst (AreGone es) (sym none) (gone-none es)
front-gone es front (Some l) is some none = subst (AreGone es) (sym some) (least-gone es l.spot.index l.id l.spot.to is)
