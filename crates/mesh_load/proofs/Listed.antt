-- A listing is of one node: nodes of the same index with the same listing have the same core and the same items.
use Rattle.std.proofs.Common.{◌≡◌, ℕ, zero, suc, ◌<◌, ◌≤◌, Bool, true, false, cond, eqb, List, [], ◌∷◌, ◌++◌, length, map, Option, Some, None, refl, sym, ap, subst, ◌∙◌, arith, inl, inr}
use Rattle.std.specs.Prelude.{option_map, slice_get, unwrap_or}
use Rattle.std.specs.List.{list_any}
use Rattle.std.specs.Ordering.{nat_cmp, eq_by_cmp}
use Rattle.std.specs.Cmp.{nat_cmp_total, unsigned_tied}
use Rattle.std.proofs.lemmas.Bool.{cases_lt, eqb-true}
use Rattle.std.proofs.lemmas.List.{same_from_push}
use Rattle.std.specs.FinMap as maps
use Rattle.std.specs.FinMap.{FinMap, find, nat_cmp-IsAntisymmetric}
use Rattle.std.specs.FinSet as sets
use Rattle.mesh_base.specs.declared.events.Variant.{Variant}
use Rattle.mesh_base.specs.Members.{NodeIds, members_below, member_list}
use Rattle.mesh_base.proofs.Ranks.{Rises, members-sorted, rises-bound}
use Rattle.aodv_model.specs.declared.entry.Entry.{Entry}
use Rattle.aodv_model.specs.declared.entry.Known.{Known}
use Rattle.aodv_model.specs.declared.entry.Known.TheVariants.{Kno, Unk}
use Rattle.aodv_model.specs.declared.entry.Flag.{Flag}
use Rattle.aodv_model.specs.declared.entry.Flag.TheVariants.{Val, Inv}
use Rattle.aodv_model.specs.Quality.{is_kno, is_val}
use Rattle.aodv_model.specs.Tables.{Table}
use Rattle.aodv_model.specs.Pairs.{Pairs, pair_cmp, as_keys, pairs_in}
use Rattle.aodv_model.specs.Cores.{Core, Store, Waiting}
use Rattle.aodv_model.specs.Soundness.{AreBelow}
use Rattle.aodv_model.proofs.PairLaws.{pair_cmp_total, same_pair}
use Rattle.aodv_model.proofs.PairKeys.{get-as_keys}
use Rattle.aodv_node.specs.Seen.{NodeSeen}
use Rattle.aodv_node.specs.Restored.{HasSoundCore}
use Rattle.mesh_checkpoint.specs.Checkpoint.{Route, Node}
use Rattle.mesh_checkpoint.specs.Points.{route_of, routes_in, waits_of, waits_in}
use Rattle.mesh_checkpoint.specs.Seen.{listed_node}
use Rattle.mesh_restore.specs.Nodes.{IsNodeAt, ArePrecursorsBelow}

-- ---- the members of a set

last_at : (xs : List ℕ) (n : ℕ) → slice_get (xs ++ n ∷ []) (length xs) ≡ Some n
last_at [] n = refl
last_at (x ∷ xs) n = last_at xs n

-- a list that ends with n is none whose numbers are below n
no_end : (n : ℕ) (xs ys : List ℕ) → Rises 0 ys n → xs ++ n ∷ [] ≡ ys → ⊥
no_end n xs ys rises same =
    let last : slice_get ys (length xs) ≡ Some n = ap (λ (zs : List ℕ). slice_get zs (length xs)) (sym same) ∙ last_at xs n in
    let below : n < n = rises-bound 0 n (length xs) n ys rises last in
    omega (arith, below)

one_end : (n : ℕ) (a b : Bool) (xs ys : List ℕ) → Rises 0 xs n → Rises 0 ys n → cond a (xs ++ n ∷ []) xs ≡ cond b (ys ++ n ∷ []) ys → (a ≡ b) × (xs ≡ ys)
one_end n true true xs ys rises rise same = (refl, (same_from_push xs ys n n same).0)
one_end n true false xs ys rises rise same = absurd (no_end n xs ys rise same)
one_end n false true xs ys rises rise same = absurd (no_end n ys xs rises (sym same))
one_end n false false xs ys rises rise same = (refl, same)

same_below : (n : ℕ) (s t : NodeIds) → members_below n s ≡ members_below n t → (q : ℕ) → q < n → sets.contains s q ≡ sets.contains t q
unfolding members_below
same_below zero s t same q lt = absurd (omega (arith, lt))
same_below (suc n) s t same q lt =
    let both = one_end n (sets.contains s n) (sets.contains t n) (members_below n s) (members_below n t) (members-sorted n s) (members-sorted n t) same in
    elim (cases_lt q n) [
      | inl less ↦ same_below n s t both.1 q less
      | inr not_less ↦
          let is : q ≡ n = omega (arith, lt, not_less) in
          rw is both.0
    ]

pub past_all : (n : ℕ) (s : NodeIds) (q : ℕ) → AreBelow n s → n ≤ q → sets.contains s q ≡ false
past_all n s q below past = at (sets.contains s q) refl
  where
    at : (b : Bool) → sets.contains s q ≡ b → b ≡ false
    at true is = absurd (let lt : q < n = below q is in omega (arith, lt, past))
    at false is = refl

pub one_set : (s t : NodeIds) → AreBelow 256 s → AreBelow 256 t → member_list s ≡ member_list t → s ≡ t
one_set s t below under same = sets.same_set nat_cmp_total nat_cmp-IsAntisymmetric s t (λ q. elim (cases_lt q 256) [
  | inl less ↦ same_below 256 s t same q less
  | inr not_less ↦ past_all 256 s q below not_less ∙ sym (past_all 256 t q under not_less)
])

-- ---- the pairs of a set

pub pairs-contains : (s : Pairs) (q : ℕ × ℕ) → sets.contains s q ≡ list_any (eq_by_cmp pair_cmp q) (pairs_in s)
unfolding pairs_in
pairs-contains s q = sets.contains-items s q ∙ sym (get-as_keys (sets.items s) q) ∙ maps.contains_key-keys (as_keys (sets.items s)) q

pub one_pairs : (s t : Pairs) → pairs_in s ≡ pairs_in t → s ≡ t
one_pairs s t same = sets.same_set pair_cmp_total same_pair s t (λ q.
    pairs-contains s q ∙ ap (λ (ps : List (ℕ × ℕ)). list_any (eq_by_cmp pair_cmp q) ps) same ∙ sym (pairs-contains t q))

-- ---- maps whose entries are listed

-- the first of a list that has this key
abbrev keyed : {Y : Type 0} → (Y → ℕ) → ℕ → List Y → Option Y
keyed key q [] = None
keyed key q (y ∷ ys) = cond (eqb q (key y)) (Some y) (keyed key q ys)

keyed-map : {X Y : Type 0} (view : ℕ × X → Y) (key : Y → ℕ) → ((p : ℕ × X) → key (view p) ≡ p.0) → (q : ℕ) (es : List (ℕ × X)) → keyed key q (map view es) ≡ option_map (λ v. view (q, v)) (find nat_cmp q es)
keyed-map view key named q [] = refl
keyed-map view key named q (e ∷ es) =
    rw (named e, unsigned_tied q e.0) (at (eqb q e.0) refl (keyed-map view key named q es))
  where
    at : (b : Bool) → eqb q e.0 ≡ b → keyed key q (map view es) ≡ option_map (λ v. view (q, v)) (find nat_cmp q es) → cond b (Some (view e)) (keyed key q (map view es)) ≡ option_map (λ v. view (q, v)) (cond b (Some e.1) (find nat_cmp q es))
    at true is same = let here : q ≡ e.0 = eqb-true q e.0 is in ap (λ (k : ℕ). Some (view (k, e.1))) (sym here)
    at false is same = same

keyed-entries : {X Y : Type 0} (view : ℕ × X → Y) (key : Y → ℕ) → ((p : ℕ × X) → key (view p) ≡ p.0) → (m : FinMap nat_cmp X) (q : ℕ) → option_map (λ v. view (q, v)) (maps.get m q) ≡ keyed key q (map view (maps.entries m))
keyed-entries view key named m q = ap (option_map (λ v. view (q, v))) (maps.get-entries m q) ∙ sym (keyed-map view key named q (maps.entries m))

one_value : {X Y : Type 0} (P : X → Type 0) (f : X → Y) → ((v w : X) → P v → P w → f v ≡ f w → v ≡ w) → (o p : Option X) → ((v : X) → o ≡ Some v → P v) → ((v : X) → p ≡ Some v → P v) → option_map f o ≡ option_map f p → o ≡ p
one_value P f one None None all every same = refl
one_value P f one None (Some w) all every same = cc
one_value P f one (Some v) None all every same = cc
one_value P f one (Some v) (Some w) all every same =
    ap (λ x. Some x) (one v w (all v refl) (every w refl) (ap (λ o. unwrap_or o (f v)) same))

-- a map whose entries are listed by their keys is the only one with that listing
one_map : {X Y : Type 0} (view : ℕ × X → Y) (key : Y → ℕ) → ((p : ℕ × X) → key (view p) ≡ p.0) → (P : X → Type 0) → ((q : ℕ) (v w : X) → P v → P w → view (q, v) ≡ view (q, w) → v ≡ w) → (m n : FinMap nat_cmp X)
    → ((q : ℕ) (v : X) → maps.get m q ≡ Some v → P v) → ((q : ℕ) (v : X) → maps.get n q ≡ Some v → P v) → map view (maps.entries m) ≡ map view (maps.entries n) → m ≡ n
one_map view key named P one m n all every same = maps.same_map nat_cmp_total nat_cmp-IsAntisymmetric m n (λ q.
    one_value P (λ v. view (q, v)) (one q) (maps.get m q) (maps.get n q) (all q) (every q)
    (keyed-entries view key named m q ∙ ap (keyed key q) same ∙ sym (keyed-entries view key named n q)))

-- ---- routes

one_known : (a b : Known) → is_kno a ≡ is_kno b → a ≡ b
one_known Kno Kno same = refl
one_known Kno Unk same = cc
one_known Unk Kno same = cc
one_known Unk Unk same = refl

one_flag : (a b : Flag) → is_val a ≡ is_val b → a ≡ b
one_flag Val Val same = refl
one_flag Val Inv same = cc
one_flag Inv Val same = cc
one_flag Inv Inv same = refl

one_route : (q : ℕ) (e f : Entry) → AreBelow 256 e.pre → AreBelow 256 f.pre → route_of (q, e) ≡ route_of (q, f) → e ≡ f
one_route q e f below under same =
    let known : e.dsk ≡ f.dsk = one_known e.dsk f.dsk (ap (λ (r : Route). r.known) same) in
    let valid : e.flag ≡ f.flag = one_flag e.flag f.flag (ap (λ (r : Route). r.valid) same) in
    let precursors : e.pre ≡ f.pre = one_set e.pre f.pre below under (ap (λ (r : Route). r.precursors) same) in
    λ i. record {
      dsn = (same i).number;
      dsk = known i;
      flag = valid i;
      hops = (same i).hops;
      next = (same i).next;
      pre = precursors i;
    }

-- precursors from 256 on aren't listed
pub one_table : (rt rt' : Table) → ArePrecursorsBelow 256 rt → ArePrecursorsBelow 256 rt' → routes_in rt ≡ routes_in rt' → rt ≡ rt'
unfolding routes_in
one_table rt rt' below under same = one_map route_of (λ r. r.dest) (λ p. refl) (λ e. AreBelow 256 e.pre) one_route rt rt' below under same

-- ---- stores

one_waiting : (q : ℕ) (v w : Waiting) → Unit {0} → Unit {0} → waits_of (q, v) ≡ waits_of (q, w) → v ≡ w
one_waiting q v w t u same = λ i. record { needs_request = (same i).needs_request; bodies = (same i).bodies }

pub one_store : (s t : Store) → waits_in s ≡ waits_in t → s ≡ t
unfolding waits_in
one_store s t same = one_map waits_of (λ w. w.dest) (λ p. refl) (λ w. Unit {0}) one_waiting s t (λ q v is. tt) (λ q v is. tt) same

-- ---- nodes

pub below_more : (size most : ℕ) (rt : Table) → size ≤ most → ArePrecursorsBelow size rt → ArePrecursorsBelow most rt
below_more size most rt le below d e at p is = let lt : p < size = below d e at p is in omega (arith, lt, le)

-- the precursors of a node whose state is in order are in the mesh
pub precursors_below : (n : NodeSeen) (size : ℕ) → n.size ≡ size → HasSoundCore n → ArePrecursorsBelow size (n.core).rt
precursors_below n size is sound d e at = subst (λ (k : ℕ). AreBelow k e.pre) is (sound.table.in_mesh d e at).pre

pub one_core : (c d : Core) → ArePrecursorsBelow 256 c.rt → ArePrecursorsBelow 256 d.rt → c.ip ≡ d.ip → c.variant ≡ d.variant → c.sn ≡ d.sn → routes_in c.rt ≡ routes_in d.rt → pairs_in c.seen ≡ pairs_in d.seen → waits_in c.store ≡ waits_in d.store → c ≡ d
one_core c d below under named variant sn routes requests waits =
    let tables : c.rt ≡ d.rt = one_table c.rt d.rt below under routes in
    let seen : c.seen ≡ d.seen = one_pairs c.seen d.seen requests in
    let stores : c.store ≡ d.store = one_store c.store d.store waits in
    λ i. record { ip = named i; variant = variant i; sn = sn i; rt = tables i; seen = seen i; store = stores i }

pub one_node : (variant : Variant) (me size : ℕ) (a b : NodeSeen) → size ≤ 256 → IsNodeAt variant me size a → IsNodeAt variant me size b → ArePrecursorsBelow size (a.core).rt → ArePrecursorsBelow size (b.core).rt → listed_node a ≡ listed_node b → (a.core ≡ b.core) × (a.items ≡ b.items)
one_node variant me size a b few is it below under same = (
  one_core a.core b.core (below_more size 256 (a.core).rt few below) (below_more size 256 (b.core).rt few under) (is.named ∙ sym it.named) (is.variant_is ∙ sym it.variant_is)
      (ap (λ (n : Node). n.sn) same) (ap (λ (n : Node). n.routes) same) (ap (λ (n : Node). n.asked) same) (ap (λ (n : Node). n.store) same),
  ap (λ (n : Node). n.inbox) same,
)
