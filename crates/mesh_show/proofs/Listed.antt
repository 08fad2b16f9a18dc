-- What is listed of each number in turn is what a map or a set has.
use Rattle.std.proofs.Common.{◌≡◌, ℕ, ◌+◌, ◌-◌, ◌<◌, true, List, [], ◌++◌, Option, Some, None, refl, sym, ap, ◌∙◌, arith}
use Rattle.std.specs.Ordering.{nat_cmp}
use Rattle.std.specs.List.{flat_map}
use Rattle.std.specs.FinMap as maps
use Rattle.std.specs.FinMap.{FinMap}
use Rattle.std.specs.FinSet as sets
use Rattle.std.proofs.lemmas.List.{append-nil}
use Rattle.std.proofs.lemmas.List.Concat.{flat_map-append}
use Rattle.std.proofs.lemmas.List.Folds.{flat_map-map}
use Rattle.mesh_base.specs.Meshes.{Nodes}
use Rattle.aodv_model.specs.declared.entry.Entry.{Entry}
use Rattle.aodv_model.specs.Tables.{Table}
use Rattle.aodv_model.specs.Cores.{SeenRequests, Store, Waiting}
use Rattle.aodv_model.proofs.Listing.{at}
use Rattle.aodv_model.proofs.Keys.{below, below_more, below_none, below_all}
use Rattle.aodv_model.proofs.PairKeys.{pairs_before, none_before, all_before}
use Rattle.aodv_asked.specs.Requests.{ids_beside}
use Rattle.aodv_asked.proofs.PairRows.{beside, rows_more}
use Rattle.mesh_text.specs.Tables.{asked_line, asked_text, entry_text, routes_text, waits_text, store_text}
use Rattle.mesh_show.specs.Destinations.{entry_of, waits_of}
use Rattle.mesh_show.proofs.Tables.{each_from, each_whole}

from_the_first : (n : ℕ) (f : ℕ → List ℕ) → each_from (n - 0) 0 f ≡ each_from n 0 f
from_the_first n f = let is : n - 0 ≡ n = omega arith in ap (λ k. each_from k 0 f) is

-- ---- of a map

-- what is listed of a key that may be there
text_at : {X : Type 0} (f : ℕ × X → List ℕ) (g : ℕ → Option X → List ℕ) → ((d : ℕ) → g d None ≡ []) → ((d : ℕ) (x : X) → g d (Some x) ≡ f (d, x)) → (d : ℕ) (o : Option X) → flat_map f (at d o) ≡ g d o
text_at f g none some d None = sym (none d)
text_at f g none some d (Some x) = append-nil (f (d, x)) ∙ sym (some d x)

entries_listed : {X : Type 0} (m : FinMap nat_cmp X) (n : ℕ) (f : ℕ × X → List ℕ) (g : ℕ → Option X → List ℕ) → ((d : ℕ) → g d None ≡ []) → ((d : ℕ) (x : X) → g d (Some x) ≡ f (d, x))
    → ((d : ℕ) (x : X) → maps.get m d ≡ Some x → d < n) → each_from (n - 0) 0 (λ d. g d (maps.get m d)) ≡ flat_map f (maps.entries m)
entries_listed {X} m n f g none some within =
    let so_far : ℕ → List ℕ = λ d. flat_map f (below d m) in
    let each : ℕ → List ℕ = λ d. g d (maps.get m d) in
    let more : (d : ℕ) → so_far (d + 1) ≡ so_far d ++ each d = λ d.
    ap (flat_map f) (below_more m d) ∙ flat_map-append f (below d m) (at d (maps.get m d)) ∙ ap (λ l. so_far d ++ l) (text_at f g none some d (maps.get m d)) in
    from_the_first n each ∙ each_whole so_far each more (ap (flat_map f) (below_none m)) n ∙ ap (flat_map f) (below_all m n within)

pub routes_listed : (mesh : Nodes) (rt : Table) (n : ℕ) → ((d : ℕ) (e : Entry) → maps.get rt d ≡ Some e → d < n) → each_from (n - 0) 0 (λ d. entry_of mesh d (maps.get rt d)) ≡ routes_text mesh rt
unfolding routes_text
routes_listed mesh rt n within = entries_listed rt n (λ (e : ℕ × Entry). entry_text mesh e.0 e.1) (entry_of mesh) (λ d. refl) (λ d x. refl) within

pub store_listed : (mesh : Nodes) (store : Store) (n : ℕ) → ((d : ℕ) (w : Waiting) → maps.get store d ≡ Some w → d < n) → each_from (n - 0) 0 (λ d. waits_of mesh d (maps.get store d)) ≡ store_text mesh store
unfolding store_text
store_listed mesh store n within =
    entries_listed store n (λ (e : ℕ × Waiting). waits_text mesh e.0 (e.1).needs_request (e.1).bodies) (waits_of mesh) (λ d. refl) (λ d x. refl) within

-- ---- of the requests that were seen

-- those of one originator
abbrev pub asked_of : Nodes → SeenRequests → ℕ → List ℕ
asked_of mesh seen o = flat_map (asked_line mesh o) (ids_beside seen o)

pub asked_listed : (mesh : Nodes) (seen : SeenRequests) (n : ℕ) → ((o id : ℕ) → sets.contains seen (o, id) ≡ true → o < n) → each_from (n - 0) 0 (asked_of mesh seen) ≡ asked_text mesh seen
unfolding asked_text
asked_listed mesh seen n within =
    let line : ℕ × ℕ → List ℕ = λ p. asked_line mesh p.0 p.1 in
    let so_far : ℕ → List ℕ = λ o. flat_map line (pairs_before seen (o, 0)) in
    let more : (o : ℕ) → so_far (o + 1) ≡ so_far o ++ asked_of mesh seen o = λ o.
    ap (flat_map line) (rows_more seen o) ∙ flat_map-append line (pairs_before seen (o, 0)) (beside o (ids_beside seen o))
    ∙ ap (λ l. so_far o ++ l) (flat_map-map line (λ (id : ℕ). (o, id)) (ids_beside seen o)) in
    from_the_first n (asked_of mesh seen) ∙ each_whole so_far (asked_of mesh seen) more (ap (flat_map line) (none_before seen)) n ∙ ap (flat_map line) (all_before seen n within)
