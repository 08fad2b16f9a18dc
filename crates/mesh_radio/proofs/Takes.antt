-- A copy that is taken out with its packet.
use Rattle.std.proofs.Common.{◌≡◌, ℕ, ◌<◌, ◌≤◌, inl, inr, true, false, List, [], ◌∷◌, length, Some, None, is_some, refl, sym, ap, subst, ◌∙◌, arith}
use Rattle.std.specs.Prelude.{slice_get}
use Rattle.std.specs.List.{AllByRecursion}
use Rattle.std.specs.FinSet.{contains, remove}
use Rattle.std.specs.FinMap.{nat_cmp-IsAntisymmetric}
use Rattle.std.proofs.lemmas.Cmp.{nat_cmp_total}
use Rattle.std.proofs.lemmas.Bool.{cases_lt}
use Rattle.std.proofs.lemmas.Option.{same_Some, slice_get_within}
use Rattle.indexmap.specs.IndexMap.{set_value_at}
use Rattle.mesh_base.specs.Members.{member_list, rank}
use Rattle.mesh_base.proofs.Ranks.{members-all, members-sorted, member-rank, rises-bound}
use Rattle.mesh_base.proofs.Lemmas.Sets.{remove_here}
use Rattle.mesh_radio.specs.Casts.{Entry, AreCasts, AreGone, AreLeft, AreRising, IsFound, IsTidied, copies_of, has_left, size, without_packet, without_to}
use Rattle.mesh_radio.specs.declared.casts.Cast.{Cast}
use Rattle.mesh_radio.proofs.Entries.{IsLess, all-at, found-taken, left-taken, set-here}
use Rattle.mesh_radio.proofs.Changes.{casts-taken, casts-tidied}
use Rattle.mesh_radio.proofs.Sweeps.{gone-taken, gone-without-packet, packet-tidied, untouched}

all-first : (P : ℕ → Type 0) (xs : List ℕ) (x : ℕ) → AllByRecursion P xs → slice_get xs 0 ≡ Some x → P x
all-first P [] x all at = absurd cc
all-first P (y ∷ xs) x all at = subst P (same_Some y x at) all.0

-- where a cast made one copy, no other flies
none-other : (c : Cast) (to : ℕ) → AreLeft c → size c ≤ 1 → to < 256 → contains c.left to ≡ true → has_left (without_to c to) ≡ false
none-other c to are few lt left =
    let s = remove c.left to in
    elim (slice_get (member_list s) 0) as (λ o. slice_get (member_list s) 0 ≡ o → is_some o ≡ false) [
      | None ↦ λ _. refl
      | Some q ↦ λ at.
          let stays : contains s q ≡ true = all-first (λ m. contains s m ≡ true) (member_list s) q (members-all (λ m. contains s m ≡ true) 256 s (λ m is. is)) at in
          let small = rises-bound 0 256 0 q (member_list s) (members-sorted 256 s) at in
          let there = member-rank q c.to small (left-taken c to are q stays) in
          let here = member-rank to c.to lt (are to left) in
          let first = slice_get_within (member_list c.to) (rank c.to q) q there in
          let second = slice_get_within (member_list c.to) (rank c.to to) to here in
          let ranks : rank c.to q ≡ rank c.to to = omega arith in
          let same : q ≡ to = same_Some q to (sym there ∙ ap (slice_get (member_list c.to)) ranks ∙ here) in
          absurd (let none : contains s q ≡ false = ap (contains s) same ∙ remove_here nat_cmp_total nat_cmp-IsAntisymmetric c.left to in cc)
    ] refl

-- the cast, once the copy doesn't fly any more
pub cast-then : (es mid : List Entry) (index to : ℕ) (e : Entry) → slice_get es index ≡ Some e → mid ≡ set_value_at es index (without_to e.1 to) → slice_get mid index ≡ Some (e.0, without_to e.1 to)
cast-then es mid index to e at is = ap (λ xs. slice_get xs index) is ∙ set-here es index e (without_to e.1 to) at

-- what becomes of the casts: `front` of them have no copy in flight
pub record IsTaken (es now : List Entry) (next id front : ℕ) (bytes : List ℕ) : Type 0 where
  pub less : IsLess (copies_of es) (copies_of now) id bytes
  pub casts : AreCasts now next
  pub gone : AreGone now front

module _ (es mid now : List Entry) (next id index to front : ℕ) (e : Entry) (are : AreCasts es next) (found : IsFound es id index to) (lt : to < 256) (at : slice_get es index ≡ Some e)
    (is : mid ≡ set_value_at es index (without_to e.1 to)) (gone : AreGone es front)
    (short : (x : Entry) → slice_get mid index ≡ Some x → length (x.1).bytes ≤ 32 → now ≡ mid)
    (long : (x : Entry) → slice_get mid index ≡ Some x → 32 < length (x.1).bytes → now ≡ set_value_at mid index (without_packet x.1)) where
  packet-gone : AreRising 1 mid next → AreGone mid front → IsTidied mid now × AreGone now front
  packet-gone r g =
      let x : Entry = (e.0, without_to e.1 to) in
      let there = cast-then es mid index to e at is in
      let left : contains (e.1).left to ≡ true = ap (λ (y : Entry). contains (y.1).left to) (same_Some e found.entry (sym at ∙ found.at)) ∙ found.left in
      elim (cases_lt 32 (length (e.1).bytes)) [
        | inl many ↦
            let none = none-other e.1 to (all-at AreLeft index es e are.lefts at) (all-at (λ c. 32 < length c.bytes → size c ≤ 1) index es e are.alone at many) lt left in
            let same = sym (long x there many) in
            (subst (IsTidied mid) same (packet-tidied index mid x there none), subst (λ xs. AreGone xs front) same (gone-without-packet mid next index front x r there none g))
        | inr few ↦
            let same = sym (short x there few) in
            (subst (IsTidied mid) same (untouched mid), subst (λ xs. AreGone xs front) same g)
      ]

  pub packet-taken : IsTaken es now next id front (e.1).bytes
  packet-taken =
      let less = found-taken 1 next id index to es e are.rising found at in
      let taken = casts-taken es mid next index to e are at is in
      let ahead = subst (λ xs. AreGone xs front) (sym is) (gone-taken es next id index front to e (e.1).bytes are.rising at less gone) in
      let packet = packet-gone taken.rising ahead in
      let tidied = packet.0 in
      record {
        less = subst (λ fs. IsLess (copies_of es) fs id (e.1).bytes) (sym (tidied.same ∙ ap copies_of is)) less;
        casts = casts-tidied mid now next tidied taken;
        gone = packet.1;
      }
