-- Casts that are done with, and that go.
use Rattle.std.proofs.Common.{◌≡◌, ℕ, zero, suc, ◌+◌, ◌<◌, ◌≤◌, true, false, cond, eqb, leb, not, List, [], ◌∷◌, ◌++◌, filter, length, Option, Some, None, unwrap_or, is_some, IfSome, refl, sym, ap, subst, ◌∙◌, arith}
use Rattle.std.specs.Prelude.{slice_get}
use Rattle.std.specs.List.{AllByRecursion}
use Rattle.std.specs.FinSet.{contains}
use Rattle.std.proofs.lemmas.Bool.{lt-leb}
use Rattle.std.proofs.lemmas.Option.{none-some, same_Some, slice_get_within}
use Rattle.mesh_base.specs.Members.{IsLeastFrom, members_below, member_list, rank}
use Rattle.mesh_base.specs.declared.events.Flying.{Flying}
use Rattle.mesh_radio.specs.Copies.{find_copy, without}
use Rattle.mesh_radio.specs.Kept.{copies_in}
use Rattle.indexmap.specs.IndexMap.{set_value_at}
use Rattle.mesh_radio.specs.Casts.{Entry, size, slots_of, slots_at, copies_of, AreRising, AreLeft, AreGone, IsAlone, IsTidied, IsBefore, has_left, entry_of, copy_of, without_to, without_packet}
use Rattle.mesh_radio.specs.declared.casts.Cast.{Cast}
use Rattle.mesh_base.proofs.Ranks.{members-zero, member-past, members-sorted, rises-bound, no-first}
use Rattle.mesh_radio.proofs.Entries.{IsLess, rising-low, slot-gone, find-all, rising-taken, all-at, all-set}
use Rattle.mesh_radio.proofs.Nexts.{none-more, none-at-start}
use Rattle.mesh_radio.proofs.Receivers.{member_of_rank}

-- ---- casts without a copy in flight

slots-empty : (c : Cast) (id : ℕ) (tos : List ℕ) → ((i x : ℕ) → slice_get tos i ≡ Some x → contains c.left x ≡ false) → copies_in (slots_of c id tos) ≡ []
slots-empty c id [] none = refl
slots-empty c id (to ∷ tos) none =
    ap (λ o. copies_in (o ∷ slots_of c (id + 1) tos)) (slot-gone c id to (none 0 to refl)) ∙ slots-empty c (id + 1) tos (λ i x is. none (suc i) x is)

not-some : (o : Option ℕ) → is_some o ≡ false → o ≡ None
not-some None e = refl
not-some (Some x) e = absurd cc

cast-empty : (e : Entry) → has_left e.1 ≡ false → copies_in (slots_at e) ≡ []
cast-empty e none =
    slots-empty e.1 e.0 (member_list (e.1).to)
    (λ i x is. no-first (e.1).left x (not-some (slice_get (member_list (e.1).left) 0) none) (rises-bound 0 256 i x (member_list (e.1).to) (members-sorted 256 (e.1).to) is))

copies-kept : (es : List Entry) → copies_of (filter (λ e. has_left e.1) es) ≡ copies_of es
copies-kept [] = refl
copies-kept (e ∷ es) =
    let rest = copies-kept es in
    elim (has_left e.1) as (λ b. has_left e.1 ≡ b → copies_of (cond b (e ∷ filter (λ x. has_left x.1) es) (filter (λ x. has_left x.1) es)) ≡ copies_in (slots_at e) ++ copies_of es) [
      | true ↦ λ _. ap (λ (fs : List Flying). copies_in (slots_at e) ++ fs) rest
      | false ↦ λ none. rest ∙ ap (λ (fs : List Flying). fs ++ copies_of es) (sym (cast-empty e none))
    ] refl

pub rising-weak : (low more next : ℕ) (es : List Entry) → low ≤ more → AreRising more es next → AreRising low es next
rising-weak low more next [] le r = omega arith
rising-weak low more next (e ∷ es) le r = let up = r.0 in (omega arith, r.1, r.2)

rising-kept : (low next : ℕ) (es : List Entry) → AreRising low es next → AreRising low (filter (λ e. has_left e.1) es) next
rising-kept low next [] r = r
rising-kept low next (e ∷ es) r =
    let rest = rising-kept (e.0 + size e.1) next es r.2 in
    let up = r.0 in
    elim (has_left e.1) as (λ b. AreRising low (cond b (e ∷ filter (λ x. has_left x.1) es) (filter (λ x. has_left x.1) es)) next) [
      | true ↦ (r.0, r.1, rest)
      | false ↦ rising-weak low (e.0 + size e.1) next (filter (λ x. has_left x.1) es) (omega arith) rest
    ]

all-kept : (P : Cast → Type 0) (es : List Entry) → AllByRecursion (λ e. P e.1) es → AllByRecursion (λ e. P e.1) (filter (λ e. has_left e.1) es)
all-kept P [] all = all
all-kept P (e ∷ es) all =
    elim (has_left e.1) as (λ b. AllByRecursion (λ e. P e.1) (cond b (e ∷ filter (λ x. has_left x.1) es) (filter (λ x. has_left x.1) es))) [
      | true ↦ (all.0, all-kept P es all.1)
      | false ↦ all-kept P es all.1
    ]

pub swept : (before now : List Entry) → now ≡ filter (λ e. has_left e.1) before → IsTidied before now
swept before now is = record {
  same = ap copies_of is ∙ copies-kept before;
  rising = λ low next r. subst (λ es. AreRising low es next) (sym is) (rising-kept low next before r);
  lefts = λ all. subst (AllByRecursion (λ e. AreLeft e.1)) (sym is) (all-kept AreLeft before all);
  alone = λ all. subst (AllByRecursion (λ e. IsAlone e.1)) (sym is) (all-kept IsAlone before all);
}

pub untouched : (es : List Entry) → IsTidied es es
untouched es = record { same = refl; rising = λ low next r. r; lefts = λ all. all; alone = λ all. all }

pub gone-none : (es : List Entry) → AreGone es 0
gone-none es = record { within = omega arith; none = none-at-start es 0 0 refl }

pub gone-more : (es : List Entry) (next gone : ℕ) (e : Entry) → AreRising 1 es next → AreGone es gone → slice_get es gone ≡ Some e → IsLeastFrom (e.1).left 0 None → AreGone es (gone + 1)
gone-more es next gone e r g at least = record {
  within = let inside = slice_get_within es gone e at in omega arith;
  none = none-more es next 0 r gone e g.none at (λ x. least x (omega arith));
}

-- ---- a packet that goes

packet-same : (low next index : ℕ) (es : List Entry) (e : Entry) → slice_get es index ≡ Some e → has_left e.1 ≡ false → copies_of (set_value_at es index (without_packet e.1)) ≡ copies_of es
packet-same low next zero [] e at none = absurd cc
packet-same low next (suc index) [] e at none = absurd cc
packet-same low next zero (x ∷ es) e at none =
    let same = same_Some x e at in
    ap (λ (fs : List Flying). fs ++ copies_of es) (
    cast-empty (x.0, without_packet e.1) none
    ∙ sym (cast-empty x (ap (λ (y : Entry). has_left y.1) same ∙ none)))
packet-same low next (suc index) (x ∷ es) e at none = ap (λ (fs : List Flying). copies_in (slots_at x) ++ fs) (packet-same low next index es e at none)

packet-rising : (low next index : ℕ) (es : List Entry) (e : Entry) → slice_get es index ≡ Some e → AreRising low es next → AreRising low (set_value_at es index (without_packet e.1)) next
packet-rising low next zero [] e at r = absurd cc
packet-rising low next (suc index) [] e at r = absurd cc
packet-rising low next zero (x ∷ es) e at r =
    let long : size (without_packet e.1) ≡ size x.1 = ap (λ (y : Entry). size y.1) (sym (same_Some x e at)) in
    (r.0, subst (λ n. 0 < n) (sym long) r.1, subst (λ n. AreRising (x.0 + n) es next) (sym long) r.2)
packet-rising low next (suc index) (x ∷ es) e at r = (r.0, r.1, packet-rising (x.0 + size x.1) next index es e at r.2)

-- where no copy of the cast flies
pub packet-tidied : (index : ℕ) (es : List Entry) (e : Entry) → slice_get es index ≡ Some e → has_left e.1 ≡ false → IsTidied es (set_value_at es index (without_packet e.1))
packet-tidied index es e at none = record {
  same = packet-same 0 0 index es e at none;
  rising = λ low next r. packet-rising low next index es e at r;
  lefts = λ all. all-set AreLeft index es (without_packet e.1) all (all-at AreLeft index es e all at);
  alone = λ all. all-set IsAlone index es (without_packet e.1) all (λ long. absurd (omega arith));
}

pub tidied-then : (es now later : List Entry) → IsTidied es now → IsTidied now later → IsTidied es later
tidied-then es now later a b = record {
  same = b.same ∙ a.same;
  rising = λ low next r. b.rising low next (a.rising low next r);
  lefts = λ all. b.lefts (a.lefts all);
  alone = λ all. b.alone (a.alone all);
}

-- ---- after a cast

pub entry-push : (low next q : ℕ) (es : List Entry) (c : Cast) → AreRising low es next → q < next → entry_of (es ++ (next, c) ∷ []) q ≡ entry_of es q
entry-push low next q [] c r lt = ap (λ b. cond b (Some (next, c)) None) (lt-leb next q lt)
entry-push low next q (e ∷ es) c r lt = ap (λ o. cond (leb e.0 q) (Some (unwrap_or o e)) None) (entry-push (e.0 + size e.1) next q es c r.2 lt)

before-push : (low next k q : ℕ) (es : List Entry) (c : Cast) → AreRising low es next → k ≤ length es → IsBefore (es ++ (next, c) ∷ []) k q → (q < next) × IsBefore es k q
before-push low next zero q [] c r le b = (b, tt)
before-push low next (suc k) q [] c r le b = absurd (omega arith)
before-push low next zero q (e ∷ es) c r le b = let up = rising-low (e.0 + size e.1) next es r.2 in let one = r.1 in (omega arith, b)
before-push low next (suc k) q (e ∷ es) c r le b = before-push (e.0 + size e.1) next k q es c r.2 (omega arith) b

pub length-push-entry : (es : List Entry) (e : Entry) → length es ≤ length (es ++ e ∷ [])
length-push-entry [] e = omega arith
length-push-entry (x ∷ es) e = let rest = length-push-entry es e in omega arith

pub gone-push : (es : List Entry) (next gone : ℕ) (c : Cast) → AreRising 1 es next → AreGone es gone → AreGone (es ++ (next, c) ∷ []) gone
gone-push es next gone c r g = record {
  within = let w = g.within in let more = length-push-entry es (next, c) in omega arith;
  none = λ q le b. let p = before-push 1 next gone q es c r g.within b in
      ap (λ o. copy_of o q) (entry-push 1 next q es c r p.0) ∙ g.none q le p.1;
}

-- ---- after a take

before-taken : (es : List Entry) (index k q : ℕ) (w : Cast) → IsBefore (set_value_at es index w) k q → IsBefore es k q
before-taken [] index k q w b = b
before-taken (e ∷ es) zero zero q w b = b
before-taken (e ∷ es) zero (suc k) q w b = b
before-taken (e ∷ es) (suc index) zero q w b = b
before-taken (e ∷ es) (suc index) (suc k) q w b = before-taken es index k q w b

length-taken : (es : List Entry) (index : ℕ) (w : Cast) → length (set_value_at es index w) ≡ length es
length-taken [] index w = refl
length-taken (e ∷ es) zero w = refl
length-taken (e ∷ es) (suc index) w = let rest = length-taken es index w in omega arith

find-without : (fs : List Flying) (id q : ℕ) → find_copy fs q ≡ None → find_copy (without fs id) q ≡ None
unfolding without
find-without [] id q none = refl
find-without (f ∷ fs) id q none = by f fs (without fs id) id q none (find-without fs id q)
  where
    by : (f : Flying) (fs gs : List Flying) (id q : ℕ) → cond (eqb f.id q) (Some f) (find_copy fs q) ≡ None → (find_copy fs q ≡ None → find_copy gs q ≡ None) → find_copy (cond (not (eqb f.id id)) (f ∷ gs) gs) q ≡ None
    by f fs gs id q none rest =
        elim (eqb f.id q) as (λ t. eqb f.id q ≡ t → cond t (Some f) (find_copy fs q) ≡ None → find_copy (cond (not (eqb f.id id)) (f ∷ gs) gs) q ≡ None) [
          | true ↦ λ _ h. absurd (none-some f (sym h))
          | false ↦ λ e h.
              let tail = rest h in
              elim (eqb f.id id) as (λ b. find_copy (cond (not b) (f ∷ gs) gs) q ≡ None) [
                | true ↦ tail
                | false ↦ ap (λ t. cond t (Some f) (find_copy gs q)) e ∙ tail
              ]
        ] refl none

pub gone-taken : (es : List Entry) (next id index gone to : ℕ) (e : Entry) (bytes : List ℕ) → AreRising 1 es next → slice_get es index ≡ Some e
    → IsLess (copies_of es) (copies_of (set_value_at es index (without_to e.1 to))) id bytes → AreGone es gone → AreGone (set_value_at es index (without_to e.1 to)) gone
gone-taken es next id index gone to e bytes r at less g = record {
  within = let w = g.within in let long = length-taken es index (without_to e.1 to) in omega arith;
  none = λ q le b.
      sym (find-all 1 next q (set_value_at es index (without_to e.1 to)) (rising-taken 1 next index to es e r at))
      ∙ ap (λ fs. find_copy fs q) less.others
      ∙ find-without (copies_of es) id q (find-all 1 next q es r ∙ g.none q le (before-taken es index gone q (without_to e.1 to) b));
}

-- where no member is found from 0 on, no copy flies
pub none-left : (c : Cast) (o : Option ℕ) → IsLeastFrom c.left 0 o → is_some o ≡ false → has_left c ≡ false
none-left c None least none =
    let first : length (members_below 0 c.left) ≡ 0 = ap length (members-zero c.left) in
    ap is_some (member-past 0 0 c.left (omega arith) least (omega arith))
none-left c (Some x) least none = absurd cc

any-first : (xs : List ℕ) (k m : ℕ) → slice_get xs k ≡ Some m → is_some (slice_get xs 0) ≡ true
any-first [] k m at = absurd (omega (arith, slice_get_within [] k m at))
any-first (x ∷ xs) k m at = refl

-- where a member is found, a copy flies, and else none does
pub some-left : (c : Cast) (o : Option ℕ) → IsLeastFrom c.left 0 o → IfSome o (λ m. m < 256) → is_some o ≡ has_left c
some-left c None least below = sym (none-left c None least refl)
some-left c (Some m) least below =
    sym (any-first (member_list c.left) (rank c.left m) m (sym (member_of_rank c.left m (rank c.left m) below least.1 refl)))

pub gone-without-packet : (es : List Entry) (next index gone : ℕ) (e : Entry) → AreRising 1 es next → slice_get es index ≡ Some e → has_left e.1 ≡ false → AreGone es gone → AreGone (set_value_at es index (without_packet e.1)) gone
gone-without-packet es next index gone e r at none g =
    let now = set_value_at es index (without_packet e.1) in
    let tidied = packet-tidied index es e at none in
    record {
      within = let w = g.within in let long = length-taken es index (without_packet e.1) in omega arith;
      none = λ q le b.
          sym (find-all 1 next q now (tidied.rising 1 next r))
          ∙ ap (λ fs. find_copy fs q) tidied.same
          ∙ find-all 1 next q es r
          ∙ g.none q le (before-taken es index gone q (without_packet e.1) b);
    }
