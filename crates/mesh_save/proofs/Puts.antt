-- Putting the values of a list one after another.
use Rattle.std.proofs.Common.{◌≡◌, ℕ, suc, ◌+◌, ◌<◌, true, false, cond, List, [], ◌∷◌, ◌++◌, length, take, map, Some, get_or, sym, ap, subst, ◌∙◌, arith, append-nil, append_assoc}
use Rattle.std.specs.Prelude.{slice_get}
use Rattle.std.specs.List.{flat_map}
use Rattle.std.specs.FinMap as maps
use Rattle.std.specs.FinMap.{FinMap}
use Rattle.std.specs.FinSet as sets
use Rattle.std.specs.Ordering.{nat_cmp}
use Rattle.std.proofs.Math.Seq.{take-suc, take-length}
use Rattle.std.proofs.lemmas.Grind.{flat_map-append}
use Rattle.std.proofs.lemmas.List.{map-append}
use Rattle.std.proofs.lemmas.List.Folds.{flat_map-map}
use Rattle.std.proofs.lemmas.Option.{slice_get_within, get_or_from_slice_get}
use Rattle.aodv_model.specs.Pairs.{Pairs, pairs_in}
use Rattle.aodv_model.proofs.Listing.{at}
use Rattle.aodv_model.proofs.Keys.{below, below_none, below_more, below_all}
use Rattle.aodv_model.proofs.PairKeys.{none_before, all_before}
use Rattle.aodv_asked.specs.Requests.{ids_below}
use Rattle.aodv_asked.proofs.PairRows.{rows_next}
use Rattle.mesh_base.specs.declared.events.Flying.{Flying}
use Rattle.mesh_radio.specs.Copies.{from_id}
use Rattle.mesh_radio.proofs.Finds.{from_zero}
use Rattle.mesh_save.specs.Bytes.{bytes_if, bytes_where}
use Rattle.mesh_save.specs.Links.{pairs_from}
use Rattle.mesh_save.proofs.Keys.{bytes_at}
use Rattle.mesh_save.proofs.Rows.{rows_before}

-- the copies with ids below this one were put
pub record ArePut {S : Type 0} (wrote : S → List ℕ → S → Type 0) (put : Flying → List ℕ) (copies : List Flying) (p q : S) (id : ℕ) : Type 0 where
  pub done : List Flying
  pub whole : done ++ from_id copies id ≡ copies
  pub written : wrote p (flat_map put done) q

module _ {S : Type 0} (wrote : S → List ℕ → S → Type 0) (joins : (p q r : S) (a b : List ℕ) → wrote p a q → wrote q b r → wrote p (a ++ b) r) where
  -- more values
  more : {X : Type 0} (f : X → List ℕ) (xs ys : List X) (p q r : S) → wrote p (flat_map f xs) q → wrote q (flat_map f ys) r → wrote p (flat_map f (xs ++ ys)) r
  more f xs ys p q r one two = subst (λ (l : List ℕ). wrote p l r) (sym (flat_map-append f xs ys)) (joins p q r (flat_map f xs) (flat_map f ys) one two)

  -- one value more
  pub push : {X : Type 0} (f : X → List ℕ) (xs : List X) (x : X) (p q r : S) → wrote p (flat_map f xs) q → wrote q (f x) r → wrote p (flat_map f (xs ++ x ∷ [])) r
  push f xs x p q r one two = more f xs (x ∷ []) p q r one (subst (λ (l : List ℕ). wrote q l r) (sym (append-nil (f x))) two)

  -- the k-th value after those before it
  pub next : {X : Type 0} (f : X → List ℕ) (xs : List X) (k : ℕ) (x : X) (p q r : S) → slice_get xs k ≡ Some x → wrote p (flat_map f (take k xs)) q → wrote q (f x) r → wrote p (flat_map f (take (k + 1) xs)) r
  next {X} f xs k x p q r there one two = subst (λ (l : List X). wrote p (flat_map f l) r) (sym (take_more xs k x there)) (push f (take k xs) x p q r one two)
    where
      take_more : {X : Type 0} (xs : List X) (k : ℕ) (x : X) → slice_get xs k ≡ Some x → take (k + 1) xs ≡ take k xs ++ x ∷ []
      take_more xs k x there =
          let one : k + 1 ≡ suc k = omega arith in
          ap (λ n. take n xs) one ∙ take-suc xs k x (slice_get_within xs k x there) ∙ ap (λ z. take k xs ++ z ∷ []) (get_or_from_slice_get xs k x x there)

  -- the same, where the values are found by their indices
  pub next_at : {X : Type 0} (f : X → List ℕ) (xs : List X) (k : ℕ) (d : X) (p q r : S) → k < length xs → wrote p (flat_map f (take k xs)) q → wrote q (f (get_or xs k d)) r → wrote p (flat_map f (take (k + 1) xs)) r
  next_at {X} f xs k d p q r lt one two =
      let up : k + 1 ≡ suc k = omega arith in
      subst (λ (l : List X). wrote p (flat_map f l) r) (sym (ap (λ n. take n xs) up ∙ take-suc xs k d lt)) (push f (take k xs) (get_or xs k d) p q r one two)

  -- ---- the entries of a map

  pub entry : {X : Type 0} (f : ℕ × X → List ℕ) (m : FinMap nat_cmp X) (d : ℕ) (p q r : S) → wrote p (flat_map f (below d m)) q → wrote q (bytes_if (λ x. f (d, x)) (maps.get m d)) r → wrote p (flat_map f (below (d + 1) m)) r
  entry {X} f m d p q r one two =
      subst (λ (l : List (ℕ × X)). wrote p (flat_map f l) r) (sym (below_more m d))
      (more f (below d m) (at d (maps.get m d)) p q r one (subst (λ (l : List ℕ). wrote q l r) (sym (bytes_at f d (maps.get m d))) two))

  -- ---- the pairs of a set

  pub row : (f : ℕ × ℕ → List ℕ) (s : Pairs) (o n : ℕ) (p q r : S) → ((i : ℕ) → sets.contains s (o, i) ≡ true → i < n) → wrote p (flat_map f (rows_before s o)) q → wrote q (flat_map f (pairs_from s o n)) r → wrote p (flat_map f (rows_before s (o + 1))) r
  row f s o n p q r each one two =
      subst (λ (l : List (ℕ × ℕ)). wrote p (flat_map f l) r) (sym (rows_next s o n each)) (more f (rows_before s o) (pairs_from s o n) p q r one two)

  pub pair : (f : ℕ × ℕ → List ℕ) (s : Pairs) (o n : ℕ) (p q r : S) → wrote p (flat_map f (pairs_from s o n)) q → wrote q (bytes_where (sets.contains s (o, n)) (f (o, n))) r → wrote p (flat_map f (pairs_from s o (n + 1))) r
  unfolding ids_below
  pair f s o n p q r one two =
      let up : n + 1 ≡ suc n = omega arith in
      rw up (elim (sets.contains s (o, n)) as (λ b. wrote q (bytes_where b (f (o, n))) r → wrote p (flat_map f (map (λ i. (o, i)) (cond b (ids_below n s o ++ n ∷ []) (ids_below n s o)))) r) [
        | true ↦ λ this. subst (λ (l : List (ℕ × ℕ)). wrote p (flat_map f l) r) (sym (map-append (λ i. (o, i)) (ids_below n s o) (n ∷ []))) (push f (pairs_from s o n) (o, n) p q r one this)
        | false ↦ λ this. subst (λ (l : List ℕ). wrote p l r) (append-nil (flat_map f (pairs_from s o n))) (joins p q r (flat_map f (pairs_from s o n)) [] one this)
      ] two)

  -- ---- the copies in flight

  pub copy : (f : Flying → List ℕ) (cs : List Flying) (c : Flying) (id after : ℕ) (p q r : S) → after ≡ c.id + 1 → from_id cs id ≡ c ∷ from_id cs (c.id + 1) → ArePut wrote f cs p q id → wrote q (f c) r → ArePut wrote f cs p r after
  copy f cs c id after p q r up here so_far one = record {
    done = so_far.done ++ c ∷ [];
    whole = append_assoc so_far.done (c ∷ []) (from_id cs after) ∙ ap (λ (k : ℕ). so_far.done ++ c ∷ from_id cs k) up ∙ ap (λ (ds : List Flying). so_far.done ++ ds) (sym here) ∙ so_far.whole;
    written = push f so_far.done c p q r so_far.written one;
  }

module _ {S : Type 0} (wrote : S → List ℕ → S → Type 0) where
  -- all of them
  pub all : {X : Type 0} (f : X → List ℕ) (xs : List X) (n : ℕ) (p q : S) → n ≡ length xs → wrote p (flat_map f (take n xs)) q → wrote p (flat_map f xs) q
  all {X} f xs n p q same put =
      let whole : take n xs ≡ xs = ap (λ k. take k xs) same ∙ take-length xs in
      subst (λ (l : List X). wrote p (flat_map f l) q) whole put

  pub no_entries : {X : Type 0} (f : ℕ × X → List ℕ) (m : FinMap nat_cmp X) (p : S) → wrote p [] p → wrote p (flat_map f (below 0 m)) p
  no_entries {X} f m p none = subst (λ (l : List (ℕ × X)). wrote p (flat_map f l) p) (sym (below_none m)) none

  pub all_entries : {X Y : Type 0} (f : Y → List ℕ) (g : ℕ × X → Y) (m : FinMap nat_cmp X) (n : ℕ) (p q : S) → ((k : ℕ) (x : X) → maps.get m k ≡ Some x → k < n) → wrote p (flat_map (λ e. f (g e)) (below n m)) q → wrote p (flat_map f (map g (maps.entries m))) q
  all_entries f g m n p q each put =
      subst (λ (l : List ℕ). wrote p l q) (ap (flat_map (λ e. f (g e))) (below_all m n each) ∙ sym (flat_map-map f g (maps.entries m))) put

  pub no_rows : (f : ℕ × ℕ → List ℕ) (s : Pairs) (p : S) → wrote p [] p → wrote p (flat_map f (rows_before s 0)) p
  no_rows f s p none = subst (λ (l : List (ℕ × ℕ)). wrote p (flat_map f l) p) (sym (none_before s)) none

  pub all_rows : (f : ℕ × ℕ → List ℕ) (s : Pairs) (n : ℕ) (p q : S) → ((o i : ℕ) → sets.contains s (o, i) ≡ true → o < n) → wrote p (flat_map f (rows_before s n)) q → wrote p (flat_map f (pairs_in s)) q
  all_rows f s n p q each put = subst (λ (l : List (ℕ × ℕ)). wrote p (flat_map f l) q) (all_before s n each) put

  pub all_mapped_rows : {Y : Type 0} (f : Y → List ℕ) (g : ℕ × ℕ → Y) (s : Pairs) (n : ℕ) (p q : S) → ((o i : ℕ) → sets.contains s (o, i) ≡ true → o < n) → wrote p (flat_map (λ e. f (g e)) (rows_before s n)) q → wrote p (flat_map f (map g (pairs_in s))) q
  all_mapped_rows f g s n p q each put =
      subst (λ (l : List ℕ). wrote p l q) (ap (flat_map (λ e. f (g e))) (all_before s n each) ∙ sym (flat_map-map f g (pairs_in s))) put

  pub no_copies : (f : Flying → List ℕ) (cs : List Flying) (p : S) → wrote p [] p → ArePut wrote f cs p p 0
  no_copies f cs p none = record { done = []; whole = from_zero cs; written = none }

  pub all_copies : (f : Flying → List ℕ) (cs : List Flying) (id : ℕ) (p q : S) → from_id cs id ≡ [] → ArePut wrote f cs p q id → wrote p (flat_map f cs) q
  all_copies f cs id p q none put =
      let whole : put.done ≡ cs = sym (append-nil put.done) ∙ ap (λ (ds : List Flying). put.done ++ ds) (sym none) ∙ put.whole in
      subst (λ (l : List Flying). wrote p (flat_map f l) q) whole put.written
