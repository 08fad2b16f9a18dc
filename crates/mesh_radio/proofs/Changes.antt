-- What stays true of the casts when one comes, a copy goes, or casts that are done with go.
use Rattle.std.proofs.Common.{◌≡◌, ℕ, ◌+◌, ◌^◌, ◌<◌, List, [], ◌∷◌, ◌++◌, Some, length, subst, sym, ap, ◌∙◌}
use Rattle.std.specs.Prelude.{slice_get}
use Rattle.indexmap.specs.IndexMap.{set_value_at}
use Rattle.std.specs.FinSet.{insert, empty}
use Rattle.mesh_base.specs.Members.{member_list}
use Rattle.mesh_base.proofs.Ranks.{member_list-one}
use Rattle.mesh_radio.specs.Copies.{without, copies_to}
use Rattle.mesh_radio.specs.Kept.{Flights}
use Rattle.mesh_radio.specs.Casts.{Entry, AreCasts, AreLeft, AreRising, IsAlone, HasNone, IsTidied, size, copies_of, without_to}
use Rattle.mesh_radio.specs.declared.casts.Cast.{Cast}
use Rattle.mesh_radio.proofs.Entries.{rising-push, rising-taken, left-taken, all-at, all-push, all-set, cast-copies, find-all}
use Rattle.mesh_radio.proofs.Finds.{without_none}

pub casts-push : (es now : List Entry) (next : ℕ) (c : Cast) → AreCasts es next → now ≡ es ++ (next, c) ∷ [] → 0 < size c → AreLeft c → IsAlone c → next + size c < 2 ^ 64 → AreCasts now (next + size c)
casts-push es now next c are is some left alone few = subst (λ xs. AreCasts xs (next + size c)) (sym is) (record {
  rising = rising-push 1 next es c are.rising some;
  few = few;
  lefts = all-push AreLeft es (next, c) are.lefts left;
  alone = all-push IsAlone es (next, c) are.alone alone;
})

-- ---- a cast to one node

pub size-one : (c : Cast) (m : ℕ) → m < 256 → c.to ≡ insert empty m → size c ≡ 1
size-one c m lt is = ap (λ s. length (member_list s)) is ∙ ap length (member_list-one m lt)

pub copies-one : (es now : List Entry) (next m : ℕ) (c : Cast) → now ≡ es ++ (next, c) ∷ [] → m < 256 → c.to ≡ insert empty m → c.left ≡ c.to
    → copies_of now ≡ copies_of es ++ record { id = next; from = c.from; to = m; bytes = c.bytes } ∷ []
copies-one es now next m c is lt one left =
    ap copies_of is ∙ cast-copies es next c left
    ∙ ap (λ tos. copies_of es ++ copies_to tos next c.from c.bytes) (ap member_list one ∙ member_list-one m lt)

-- ---- a copy that goes

pub casts-taken : (es now : List Entry) (next index to : ℕ) (e : Entry) → AreCasts es next → slice_get es index ≡ Some e → now ≡ set_value_at es index (without_to e.1 to) → AreCasts now next
casts-taken es now next index to e are at is = subst (λ xs. AreCasts xs next) (sym is) (record {
  rising = rising-taken 1 next index to es e are.rising at;
  few = are.few;
  lefts = all-set AreLeft index es (without_to e.1 to) are.lefts (left-taken e.1 to (all-at AreLeft index es e are.lefts at));
  alone = all-set IsAlone index es (without_to e.1 to) are.alone (all-at IsAlone index es e are.alone at);
})

pub casts-tidied : (es now : List Entry) (next : ℕ) → IsTidied es now → AreCasts es next → AreCasts now next
casts-tidied es now next t are = record {
  rising = t.rising 1 next are.rising;
  few = are.few;
  lefts = t.lefts are.lefts;
  alone = t.alone are.alone;
}

-- where no copy in flight has the id, none is less without it
pub none-less : (es : List Entry) (next id : ℕ) (v : Flights) → AreRising 1 es next → copies_of es ≡ v.flying → HasNone es id → v ≡ record v { flying = without v.flying id }
none-less es next id v r same none =
    let flying : v.flying ≡ without v.flying id = sym same ∙ sym (without_none (copies_of es) id (find-all 1 next id es r ∙ none)) ∙ ap (λ fs. without fs id) same in
    (λ i. record v { flying = flying i })
