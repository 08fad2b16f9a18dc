-- A copy that joins the last cast.
use Rattle.std.proofs.Common.{◌≡◌, ◌≢◌, ℕ, zero, suc, ◌+◌, ◌^◌, ◌<◌, ◌≤◌, inl, inr, true, cond, List, [], ◌∷◌, ◌++◌, length, Option, Some, None, refl, sym, ap, subst, ◌∙◌, append_assoc, append-nil, arith}
use Rattle.std.specs.Prelude.{slice_get, is_some, unwrap_or, IfSome}
use Rattle.std.specs.FinSet.{contains, insert}
use Rattle.std.specs.FinMap.{nat_cmp-IsAntisymmetric}
use Rattle.std.proofs.lemmas.Cmp.{nat_cmp_total}
use Rattle.std.proofs.lemmas.Bool.{cases_eq, cases_lt, ne_eqb}
use Rattle.std.proofs.lemmas.List.{length_push}
use Rattle.std.proofs.lemmas.Option.{same_Some}
use Rattle.indexmap.specs.IndexMap.{set_value_at}
use Rattle.mesh_base.specs.Members.{NodeIds, IsLeastFrom, members_below, member_list}
use Rattle.mesh_base.specs.declared.events.Flying.{Flying}
use Rattle.mesh_base.proofs.Ranks.{Rises, members-none, members-next, members-sorted}
use Rattle.mesh_base.proofs.Lemmas.Sets.{insert_here, insert_other}
use Rattle.mesh_radio.specs.Copies.{find_copy}
use Rattle.mesh_radio.specs.Kept.{copies_in}
use Rattle.mesh_radio.specs.Casts.{Entry, AreCasts, AreLeft, AreRising, HasNone, IsAlone, IsLeast, IsLeastOf, copies_before, copies_of, size, slot, slots_at, slots_of}
use Rattle.mesh_radio.specs.Gathered.{IsNextOf, with_receiver}
use Rattle.mesh_radio.specs.declared.casts.Cast.{Cast}
use Rattle.mesh_radio.specs.declared.casts.Least.{Least}
use Rattle.mesh_radio.proofs.Joins.{rising-last, slots-append}
use Rattle.mesh_radio.proofs.Entries.{copies_append, all-set, find-all, find-append, first_of, rises-to, slot-there, set-here}
use Rattle.mesh_radio.proofs.Nexts.{lefts-at, next-within}

-- ---- a set with a member after its others

with-here : (s : NodeIds) (m : ℕ) → contains (insert s m) m ≡ true
with-here s m = insert_here nat_cmp_total nat_cmp-IsAntisymmetric s m

with-other : (s : NodeIds) (m q : ℕ) → q ≢ m → contains (insert s m) q ≡ contains s q
with-other s m q ne = insert_other nat_cmp_total nat_cmp-IsAntisymmetric s m q ne

below-same : (s : NodeIds) (m n : ℕ) → n ≤ m → members_below n (insert s m) ≡ members_below n s
unfolding members_below
below-same s m zero le = refl
below-same s m (suc n) le =
    ap (λ b. cond b (members_below n (insert s m) ++ n ∷ []) (members_below n (insert s m))) (with-other s m n (λ e. omega arith))
    ∙ ap (λ (ms : List ℕ). cond (contains s n) (ms ++ n ∷ []) ms) (below-same s m n (omega arith))

list-before : (s : NodeIds) (m : ℕ) → m < 256 → IsLeastFrom s m None → member_list s ≡ members_below m s
list-before s m lt after = members-none 256 m s (omega arith) (λ q up less. after q up)

list-more : (s : NodeIds) (m : ℕ) → m < 256 → IsLeastFrom s m None → member_list (insert s m) ≡ member_list s ++ m ∷ []
list-more s m lt after =
    members-none 256 (m + 1) (insert s m) (omega arith) (λ q up less. with-other s m q (λ e. omega arith) ∙ after q (omega arith))
    ∙ members-next m m (insert s m) (omega arith) (with-here s m) (λ q up less. absurd (omega arith))
    ∙ ap (λ (ms : List ℕ). ms ++ m ∷ []) (below-same s m m (omega arith) ∙ sym (list-before s m lt after))

-- ---- the cast

-- a packet that is shared is the same
pub same-packet : (shared : Option (List ℕ)) (last bytes : List ℕ) → IfSome shared (λ s. s ≡ last) → last ≡ bytes → unwrap_or shared bytes ≡ bytes
same-packet None last bytes is same = refl
same-packet (Some s) last bytes is same = is ∙ same

slots-before : (c : Cast) (m k low : ℕ) (tos : List ℕ) → Rises low tos m → slots_of (with_receiver c m) k tos ≡ slots_of c k tos
slots-before c m k low [] r = refl
slots-before c m k low (to ∷ tos) r =
    let up = rises-to (to + 1) m tos r.1 in
    ap (λ b. cond b (Some (record { id = k; from = c.from; to = to; bytes = c.bytes })) None ∷ slots_of (with_receiver c m) (k + 1) tos) (with-other c.left m to (λ e. omega arith))
    ∙ ap (λ (ss : List (Option Flying)). slot c k to ∷ ss) (slots-before c m (k + 1) (to + 1) tos r.1)

one-more : (c : Cast) (m k : ℕ) → m < 256 → IsLeastFrom c.to m None
    → copies_in (slots_at (k, with_receiver c m)) ≡ copies_in (slots_at (k, c)) ++ record { id = k + size c; from = c.from; to = m; bytes = c.bytes } ∷ []
one-more c m k lt after =
    let w = with_receiver c m in
    let tos = member_list c.to in
    let low = subst (λ ms. Rises 0 ms m) (sym (list-before c.to m lt after)) (members-sorted m c.to) in
    ap (λ ms. copies_in (slots_of w k ms)) (list-more c.to m lt after)
    ∙ ap copies_in (slots-append w k tos (m ∷ []))
    ∙ copies_append (slots_of w k tos) (slots_of w (k + length tos) (m ∷ []))
    ∙ ap (λ (ss : List (Option Flying)). copies_in ss ++ copies_in (slots_of w (k + length tos) (m ∷ []))) (slots-before c m k 0 tos low)
    ∙ ap (λ (o : Option Flying). copies_in (slots_of c k tos) ++ copies_in (o ∷ [])) (slot-there w (k + length tos) m (with-here c.left m))

copies-more : (e : Entry) (f : Flying) → f.to < 256 → IsNextOf e f → copies_in (slots_at (e.0, with_receiver e.1 f.to)) ≡ copies_in (slots_at e) ++ f ∷ []
copies-more e f lt n =
    let id = sym n.id in
    let from = sym n.from in
    let bytes = sym n.bytes in
    one-more e.1 f.to e.0 lt n.after ∙ (λ i. copies_in (slots_at e) ++ record { id = id i; from = from i; to = f.to; bytes = bytes i } ∷ [])

size-more : (c : Cast) (m : ℕ) → m < 256 → IsLeastFrom c.to m None → size (with_receiver c m) ≡ size c + 1
size-more c m lt after = ap length (list-more c.to m lt after) ∙ length_push (member_list c.to) m

left-more : (c : Cast) (m : ℕ) → AreLeft c → AreLeft (with_receiver c m)
left-more c m are q is = elim (cases_eq q m) [
  | inl e ↦ ap (contains (insert c.to m)) e ∙ with-here c.to m
  | inr ne ↦ with-other c.to m q ne ∙ are q (sym (with-other c.left m q ne) ∙ is)
]

-- ---- all casts

copies-set : (last : ℕ) (es : List Entry) (e : Entry) (f : Flying) → slice_get es last ≡ Some e → last + 1 ≡ length es → f.to < 256 → IsNextOf e f
    → copies_of (set_value_at es last (with_receiver e.1 f.to)) ≡ copies_of es ++ f ∷ []
copies-set zero [] e f at ends lt n = absurd cc
copies-set (suc last) [] e f at ends lt n = absurd cc
copies-set zero (x ∷ []) e f at ends lt n =
    subst (λ (y : Entry). copies_in (slots_at (y.0, with_receiver e.1 f.to)) ++ [] ≡ (copies_in (slots_at y) ++ []) ++ f ∷ []) (sym (same_Some x e at))
    (append-nil (copies_in (slots_at (e.0, with_receiver e.1 f.to))) ∙ copies-more e f lt n ∙ ap (λ (fs : List Flying). fs ++ f ∷ []) (sym (append-nil (copies_in (slots_at e)))))
copies-set zero (x ∷ (y ∷ es)) e f at ends lt n = absurd (omega arith)
copies-set (suc last) (x ∷ es) e f at ends lt n =
    ap (λ (fs : List Flying). copies_in (slots_at x) ++ fs) (copies-set last es e f at (omega arith) lt n)
    ∙ sym (append_assoc (copies_in (slots_at x)) (copies_of es) (f ∷ []))

rising-set : (low next last : ℕ) (es : List Entry) (e : Entry) (f : Flying) → AreRising low es next → slice_get es last ≡ Some e → last + 1 ≡ length es → f.to < 256 → IsNextOf e f
    → AreRising low (set_value_at es last (with_receiver e.1 f.to)) (f.id + 1)
rising-set low next zero [] e f r at ends lt n = absurd cc
rising-set low next (suc last) [] e f r at ends lt n = absurd cc
rising-set low next zero (x ∷ []) e f r at ends lt n =
    let first = ap (λ (y : Entry). y.0) (same_Some x e at) in
    let more = size-more e.1 f.to lt n.after in
    let id = n.id in
    (r.0, omega arith, omega arith)
rising-set low next zero (x ∷ (y ∷ es)) e f r at ends lt n = absurd (omega arith)
rising-set low next (suc last) (x ∷ es) e f r at ends lt n = (r.0, r.1, rising-set (x.0 + size x.1) next last es e f r.2 at (omega arith) lt n)

set-other : (es : List Entry) (last index : ℕ) (w : Cast) → index ≢ last → slice_get (set_value_at es last w) index ≡ slice_get es index
set-other [] last index w ne = refl
set-other (x ∷ es) zero zero w ne = absurd (ne refl)
set-other (x ∷ es) zero (suc index) w ne = refl
set-other (x ∷ es) (suc last) zero w ne = refl
set-other (x ∷ es) (suc last) (suc index) w ne = set-other es last index w (λ e. ne (ap (λ n. suc n) e))

-- ---- once the copy has joined the last cast

module _ (es : List Entry) (next last : ℕ) (e : Entry) (f : Flying) (are : AreCasts es next) (at : slice_get es last ≡ Some e) (ends : last + 1 ≡ length es) (lt : f.to < 256) (n : IsNextOf e f) where
  abbrev joined : List Entry
  joined = set_value_at es last (with_receiver e.1 f.to)

  pub joined-copies : copies_of joined ≡ copies_of es ++ f ∷ []
  joined-copies = copies-set last es e f at ends lt n

  joined-rising : AreRising 1 joined (f.id + 1)
  joined-rising = rising-set 1 next last es e f are.rising at ends lt n

  pub joined-casts : f.id + 1 < 2 ^ 64 → AreCasts joined (f.id + 1)
  joined-casts few = record {
    rising = joined-rising;
    few = few;
    lefts = all-set AreLeft last es (with_receiver e.1 f.to) are.lefts (left-more e.1 f.to (lefts-at last es e are.lefts at));
    alone = all-set IsAlone last es (with_receiver e.1 f.to) are.alone (λ long. let short = n.short in let bytes = ap {B = ℕ} length n.bytes in absurd (omega arith));
  }

  -- no copy comes to have an id before that of the copy
  joined-none : (q : ℕ) → q < f.id → HasNone es q → HasNone joined q
  joined-none q less none =
      sym (find-all 1 (f.id + 1) q joined joined-rising)
      ∙ ap (λ fs. find_copy fs q) joined-copies
      ∙ find-append (copies_of es) (f ∷ []) q
      ∙ ap (λ o. first_of o (find_copy (f ∷ []) q)) (find-all 1 next q es are.rising ∙ none)
      ∙ ap (λ b. cond b (Some f) None) (ne_eqb f.id q (λ same. omega arith))

  -- the least copy stands in the last cast
  least-last : (id to : ℕ) → IsLeast es last id to → IsLeast joined last id to
  least-last id to l =
      let x = l.next in
      let w = with_receiver e.1 f.to in
      let same : x.entry ≡ e = same_Some x.entry e (sym x.at ∙ at) in
      let left : contains (e.1).left to ≡ true = ap (λ (y : Entry). contains (y.1).left to) (sym same) ∙ x.left in
      let member = lefts-at last es e are.lefts at to left in
      let less : to < f.to = elim (cases_lt to f.to) [ inl small ↦ small | inr large ↦ absurd (let none = n.after to large in cc) ] in
      let rank_same : copies_before w to ≡ copies_before e.1 to = ap length (below-same (e.1).to f.to to (omega arith)) in
      let id_same : (x.entry).0 + copies_before (x.entry).1 to ≡ e.0 + copies_before w to = ap (λ (y : Entry). y.0 + copies_before y.1 to) same ∙ ap (λ k. e.0 + k) (sym rank_same) in
      let r = rising-last 1 next f.id last es e are.rising at ends (let id = n.id in omega arith) in
      let within = next-within es f.id 0 last to x.entry r are.lefts x x.at in
      record {
        next = record {
          entry = (e.0, w);
          at = set-here es last e w at;
          left = with-other (e.1).left f.to to (λ k. omega arith) ∙ left;
          below = x.below;
          late = omega arith;
          none = λ q le lower. joined-none q (omega (arith, within.1)) (x.none q le (omega arith));
        };
        is = l.is ∙ id_same;
      }

  least-kept : (index id to : ℕ) → IsLeast es index id to → IsLeast joined index id to
  least-kept index id to l = elim (cases_eq index last) [
    | inl here ↦ subst (λ k. IsLeast joined k id to) (sym here) (least-last id to (subst (λ k. IsLeast es k id to) here l))
    | inr ne ↦
        let x = l.next in
        let r = rising-last 1 next f.id last es e are.rising at ends (let id = n.id in omega arith) in
        let within = next-within es f.id 0 index to x.entry r are.lefts x x.at in
        record {
          next = record {
            entry = x.entry;
            at = set-other es last index (with_receiver e.1 f.to) ne ∙ x.at;
            left = x.left;
            below = x.below;
            late = x.late;
            none = λ q le lower. joined-none q (omega (arith, within.1)) (x.none q le lower);
          };
          is = l.is;
        }
  ]

  pub joined-least : (o : Option Least) → is_some o ≡ true → IsLeastOf es o → IsLeastOf joined o
  joined-least None some least = absurd cc
  joined-least (Some l) some least = least-kept l.spot.index l.id l.spot.to least
