-- How the links grow by one that comes last.
use Rattle.std.proofs.Common.{◌≡◌, ℕ, ◌+◌, ◌*◌, ◌^◌, ◌<◌, ◌≤◌, Bool, true, false, List, [], ◌∷◌, ◌++◌, map, Some, None, refl, sym, ap, subst, ◌∙◌, arith, inl, inr}
use Rattle.std.specs.Prelude.{◌||◌, not}
use Rattle.std.specs.Bool.{OnTrue}
use Rattle.std.specs.declared.cmp.Ordering.{Ordering}
use Rattle.std.specs.declared.cmp.Ordering.TheVariants.{Equal, Greater}
use Rattle.std.specs.Ordering.{nat_cmp, ordering_then, eq_by_cmp}
use Rattle.std.specs.List.{AllByRecursion}
use Rattle.std.specs.Cmp.{nat_cmp_is, tied_itself}
use Rattle.std.proofs.lemmas.Bool.{cases_lt}
use Rattle.std.proofs.lemmas.List.{map_push}
use Rattle.std.specs.FinMap as maps
use Rattle.std.specs.FinSet as sets
use Rattle.mesh_base.proofs.Lemmas.Sets.{insert_here, insert_other, remove_here, remove_other}
use Rattle.aodv_model.specs.Pairs.{Pairs, pair_cmp, as_keys, pairs_in}
use Rattle.aodv_model.proofs.PairLaws.{pair_cmp_total, same_pair}
use Rattle.aodv_model.proofs.Keys.{greater}
use Rattle.mesh_model.specs.Worlds.{pair, are_linked}
use Rattle.mesh_model.proofs.Links.{pair_up}
use Rattle.mesh_radio.specs.Radios.{RadioState, with_link, without_link}
use Rattle.mesh_checkpoint.specs.Formats.{get_rising}
use Rattle.mesh_checkpoint.specs.Checkpoint as model
use Rattle.mesh_checkpoint.specs.Checkpoint.{Link, link_key}
use Rattle.mesh_checkpoint.specs.Points.{links_of}
use Rattle.mesh_restore.specs.RadioParts.{IsLinkKept, ArePassed}
use Rattle.mesh_restore.proofs.Listings.{all_weaker, all_push}
use Rattle.mesh_restore.proofs.PairLists.{AreBeforePair, last_key, last_pair, new_pair, same_values, no_keys}
use Rattle.mesh_checkpoint.proofs.Loop.{IsReadSoFar, starts, goes_on, ends, falls, is_done}

-- a pair of nodes, whose link stands or not
abbrev link_of : Pairs → ℕ × ℕ → Link
link_of standing p = record { a = p.0; b = p.1; stands = sets.contains standing p }

-- ---- links that are passed over

pub record ArePassedSoFar (nodes count i low : ℕ) (bytes rest : List ℕ) : Type 0 where
  pub front : List Link
  pub so_far : IsReadSoFar link_key (model.link nodes).get count i low bytes front rest

pub none_passed : (nodes count : ℕ) (bytes : List ℕ) → ArePassedSoFar nodes count 0 0 bytes bytes
none_passed nodes count bytes = record { front = []; so_far = starts link_key (model.link nodes).get count bytes }

pub one_passed : (nodes count i low : ℕ) (bytes rest : List ℕ) (l : Link) (behind : List ℕ) (above : ℕ) → i < count → (model.link nodes).get rest ≡ Some (l, behind) → low ≤ link_key l → above ≡ link_key l + 1 → ArePassedSoFar nodes count i low bytes rest → ArePassedSoFar nodes count (i + 1) above bytes behind
one_passed nodes count i low bytes rest l behind above lt h up next p = record {
  front = p.front ++ l ∷ [];
  so_far = goes_on link_key (model.link nodes).get count i low bytes p.front rest l behind above lt h up next p.so_far;
}

pub not_there : (nodes count i low : ℕ) (bytes rest : List ℕ) → i < count → (model.link nodes).get rest ≡ None → ArePassedSoFar nodes count i low bytes rest → get_rising link_key (model.link nodes).get count 0 bytes ≡ None
not_there nodes count i low bytes rest lt none p = ends link_key (model.link nodes).get count i low bytes p.front rest lt none p.so_far

pub not_rising : (nodes count i low : ℕ) (bytes rest : List ℕ) (l : Link) (behind : List ℕ) → i < count → (model.link nodes).get rest ≡ Some (l, behind) → link_key l < low → ArePassedSoFar nodes count i low bytes rest → get_rising link_key (model.link nodes).get count 0 bytes ≡ None
not_rising nodes count i low bytes rest l behind lt h down p = falls link_key (model.link nodes).get count i low bytes p.front rest l behind lt h down p.so_far

pub all_passed : (nodes count i low : ℕ) (bytes rest : List ℕ) → count ≤ i → ArePassedSoFar nodes count i low bytes rest → ArePassed (get_rising link_key (model.link nodes).get count 0 bytes) rest
all_passed nodes count i low bytes rest le p = record { found = p.front; read_is = is_done link_key (model.link nodes).get count i low bytes p.front rest le p.so_far }

-- ---- links that are kept

-- each link has a key below a number, and nodes of 16 bits
abbrev pub AreLinksBelow : ℕ → Pairs → Type 0
AreLinksBelow low s = AllByRecursion (λ e. ((e.0).0 * 2 ^ 16 + (e.0).1 < low) × ((e.0).1 < 2 ^ 16)) (maps.entries (as_keys (sets.items s)))

link_greater : (p q : ℕ × ℕ) → q.1 < 2 ^ 16 → p.1 < 2 ^ 16 → q.0 * 2 ^ 16 + q.1 < p.0 * 2 ^ 16 + p.1 → pair_cmp p q ≡ Greater
link_greater p q small_q small_p lt = elim (cases_lt q.0 p.0) [
  | inl less ↦ ap (λ (r : Ordering). ordering_then r (nat_cmp p.1 q.1)) (greater p.0 q.0 less)
  | inr not_less ↦
      let same : p.0 ≡ q.0 = omega (arith, lt, not_less, small_q, small_p) in
      let second : q.1 < p.1 = omega (arith, lt, same) in
      ap (λ (r : Ordering). ordering_then r (nat_cmp p.1 q.1)) (sym (nat_cmp_is p.0 q.0 Equal same)) ∙ greater p.1 q.1 second
]

pub before_link : (s : Pairs) (low : ℕ) (p : ℕ × ℕ) → AreLinksBelow low s → low ≤ p.0 * 2 ^ 16 + p.1 → p.1 < 2 ^ 16 → AreBeforePair p s
before_link s low p below up small =
    all_weaker (λ e. ((e.0).0 * 2 ^ 16 + (e.0).1 < low) × ((e.0).1 < 2 ^ 16)) (λ e. pair_cmp p e.0 ≡ Greater)
    (λ e h. link_greater p e.0 h.1 small (omega (arith, h.0, up))) (maps.entries (as_keys (sets.items s))) below

links_below : (s : Pairs) (low : ℕ) (p : ℕ × ℕ) (above : ℕ) → AreLinksBelow low s → low ≤ p.0 * 2 ^ 16 + p.1 → p.1 < 2 ^ 16 → above ≡ p.0 * 2 ^ 16 + p.1 + 1 → AreLinksBelow above (sets.insert s p)
links_below s low p above below up small next =
    rw (next, last_key s p (before_link s low p below up small))
    (all_push (λ e. ((e.0).0 * 2 ^ 16 + (e.0).1 < p.0 * 2 ^ 16 + p.1 + 1) × ((e.0).1 < 2 ^ 16)) (maps.entries (as_keys (sets.items s))) (p, tt)
    (all_weaker (λ e. ((e.0).0 * 2 ^ 16 + (e.0).1 < low) × ((e.0).1 < 2 ^ 16)) (λ e. ((e.0).0 * 2 ^ 16 + (e.0).1 < p.0 * 2 ^ 16 + p.1 + 1) × ((e.0).1 < 2 ^ 16)) (λ e h. (omega (arith, h.0, up), h.1)) (maps.entries (as_keys (sets.items s))) below)
    (omega arith, small))

-- what stands has stood
abbrev pub HaveStood : RadioState → Type 0
HaveStood r = (q : ℕ × ℕ) → sets.contains r.links q ≡ true → sets.contains r.ever q ≡ true

pub no_links : links_of sets.empty sets.empty ≡ []
unfolding pairs_in
no_links = rw no_keys refl

pub none_linked : AreLinksBelow 0 sets.empty
none_linked = rw no_keys tt

pub not_linked : (r : RadioState) (low : ℕ) (p : ℕ × ℕ) → HaveStood r → AreLinksBelow low r.ever → low ≤ p.0 * 2 ^ 16 + p.1 → p.1 < 2 ^ 16 → sets.contains r.links p ≡ false
not_linked r low p stood below up small =
    let new : sets.contains r.ever p ≡ false = new_pair r.ever p (before_link r.ever low p below up small) in
    elim (sets.contains r.links p) as (λ b. sets.contains r.links p ≡ b → b ≡ false) [
      | true ↦ λ is. absurd (apart (sym (stood p is) ∙ new))
      | false ↦ λ is. refl
    ] refl
  where
    apart : true ≡ false → ⊥
    apart h = cc

same_link : (links : Pairs) (p : ℕ × ℕ) (stands : Bool) → sets.contains links p ≡ stands → link_of links p ≡ record { a = p.0; b = p.1; stands = stands }
same_link links p stands here = rw here refl

pub links_last : (r s : RadioState) (low : ℕ) (p : ℕ × ℕ) (stands : Bool) → AreLinksBelow low r.ever → low ≤ p.0 * 2 ^ 16 + p.1 → p.1 < 2 ^ 16 → IsLinkKept r s p stands → links_of s.ever s.links ≡ links_of r.ever r.links ++ record { a = p.0; b = p.1; stands = stands } ∷ []
links_last r s low p stands below up small k =
    let before = before_link r.ever low p below up small in
    ap (λ (e : Pairs). map (link_of s.links) (pairs_in e)) k.ever
    ∙ ap (λ (ps : List (ℕ × ℕ)). map (link_of s.links) ps) (last_pair r.ever p before)
    ∙ map_push (link_of s.links) (pairs_in r.ever) p
    ∙ rw (same_values (link_of s.links) (link_of r.links) r.ever p (λ q ne. ap (λ (b : Bool). record { a = q.0; b = q.1; stands = b }) (k.elsewhere q ne)) before, k.here) refl

pub still_linked_below : (r s : RadioState) (low : ℕ) (p : ℕ × ℕ) (stands : Bool) (above : ℕ) → AreLinksBelow low r.ever → low ≤ p.0 * 2 ^ 16 + p.1 → p.1 < 2 ^ 16 → above ≡ p.0 * 2 ^ 16 + p.1 + 1 → IsLinkKept r s p stands → AreLinksBelow above s.ever
still_linked_below r s low p stands above below up small next k = rw k.ever (links_below r.ever low p above below up small next)

-- ---- a link that comes to stand, or to have stood

same_by : (p : ℕ × ℕ) → eq_by_cmp pair_cmp p p ≡ true
same_by p = rw (tied_itself pair_cmp_total p) refl

pub link_made : (r s : RadioState) (a b : ℕ) (fresh : Bool) → a < b → sets.contains r.links (a, b) ≡ false → fresh ≡ not (are_linked r.links a b) → OnTrue fresh (s ≡ with_link r a b) → s ≡ with_link r a b
link_made r s a b fresh lt none is made =
    let yes : fresh ≡ true = is ∙ ap (λ (p : ℕ × ℕ). not (sets.contains r.links p)) (pair_up a b lt) ∙ ap not none in
    subst (λ (f : Bool). OnTrue f (s ≡ with_link r a b)) yes made

pub link_stands : (r s : RadioState) (a b : ℕ) → a < b → s ≡ with_link r a b → IsLinkKept r s (a, b) true
link_stands r s a b lt is = rw (is, pair_up a b lt) record {
  ever = refl;
  here = insert_here pair_cmp_total same_pair r.links (a, b);
  elsewhere = λ q ne. insert_other pair_cmp_total same_pair r.links (a, b) q ne;
  others = refl;
}

pub link_fell : (r s t : RadioState) (a b : ℕ) (stood : Bool) → a < b → s ≡ with_link r a b → stood ≡ are_linked s.links a b → OnTrue stood (t ≡ without_link s a b) → IsLinkKept r t (a, b) false
link_fell r s t a b stood lt is stood_is cut =
    let yes : stood ≡ true = stood_is ∙ ap (λ (x : RadioState). are_linked x.links a b) is ∙ insert_here pair_cmp_total same_pair r.links (pair a b) in
    let t_is : t ≡ without_link (with_link r a b) a b = subst (λ (f : Bool). OnTrue f (t ≡ without_link s a b)) yes cut ∙ ap (λ (x : RadioState). without_link x a b) is in
    rw (t_is, pair_up a b lt) record {
      ever = refl;
      here = remove_here pair_cmp_total same_pair (sets.insert r.links (a, b)) (a, b);
      elsewhere = λ q ne. remove_other pair_cmp_total same_pair (sets.insert r.links (a, b)) (a, b) q ne ∙ insert_other pair_cmp_total same_pair r.links (a, b) q ne;
      others = refl;
    }

pub still_stood : (r s : RadioState) (p : ℕ × ℕ) (stands : Bool) → HaveStood r → IsLinkKept r s p stands → HaveStood s
still_stood r s p stands stood k q is =
    ap (λ (e : Pairs). sets.contains e q) k.ever
    ∙ sets.contains-insert pair_cmp_total r.ever p q
    ∙ elim (eq_by_cmp pair_cmp q p) as (λ b. eq_by_cmp pair_cmp q p ≡ b → (b || sets.contains r.ever q) ≡ true) [
      | true ↦ λ same. refl
      | false ↦ λ other. stood q (sym (k.elsewhere q (λ e. absurd (apart (sym (same_by p) ∙ ap (λ (x : ℕ × ℕ). eq_by_cmp pair_cmp x p) (sym e) ∙ other)))) ∙ is)
    ] refl
  where
    apart : true ≡ false → ⊥
    apart h = cc

pub none_stood : (r : RadioState) → r.links ≡ sets.empty → HaveStood r
none_stood r none q is = absurd (apart (sym (sets.contains-empty pair_cmp q) ∙ ap (λ (s : Pairs). sets.contains s q) (sym none) ∙ is))
  where
    apart : false ≡ true → ⊥
    apart h = cc

pub others_stay : (first r s : RadioState) (p : ℕ × ℕ) (stands : Bool) → r ≡ record first { links = r.links; ever = r.ever } → IsLinkKept r s p stands → s ≡ record first { links = s.links; ever = s.ever }
others_stay first r s p stands before k = k.others ∙ ap (λ (x : RadioState). record x { links = s.links; ever = s.ever }) before
