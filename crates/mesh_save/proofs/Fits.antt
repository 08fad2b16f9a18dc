-- What a node of a mesh has fits the table of a checkpoint.
use Rattle.std.proofs.Common.{◌≡◌, ◌≢◌, ℕ, ◌+◌, ◌^◌, ◌<◌, ◌≤◌, Bool, true, false, List, [], ◌∷◌, ◌++◌, length, map, refl, sym, subst, arith, length-append, inl, inr}
use Rattle.std.specs.Prelude.{⊤}
use Rattle.std.specs.declared.cmp.Ordering.TheVariants.{Less}
use Rattle.std.specs.Ordering.{nat_cmp}
use Rattle.std.specs.Cmp.{nat_cmp_total}
use Rattle.std.specs.Int.{w16}
use Rattle.std.specs.List.{AllByRecursion, flat_map}
use Rattle.std.specs.FinMap as maps
use Rattle.std.proofs.lemmas.Bool.{and_from}
use Rattle.std.proofs.lemmas.List.{length-map}
use Rattle.mesh_base.specs.declared.limits.TheConstants.{MOST_NODES, LONGEST_DATUM}
use Rattle.mesh_base.specs.declared.events.Item.{Item}
use Rattle.mesh_base.specs.declared.events.Item.TheVariants.{New, Heard}
use Rattle.mesh_base.specs.Members.{NodeIds, members_below, member_list}
use Rattle.mesh_base.proofs.Ranks.{Rises, members_few, members-all, members-size, members-sorted}
use Rattle.mesh_base.proofs.Lemmas.Maps.{each_entry}
use Rattle.mesh_base.proofs.Lemmas.Lists.{each_mapped}
use Rattle.aodv_model.specs.declared.entry.Entry.{Entry}
use Rattle.aodv_model.specs.Quality.{is_kno, is_val}
use Rattle.aodv_model.specs.Tables.{Table}
use Rattle.aodv_model.specs.Pairs.{Pairs, pair_cmp, pairs_in}
use Rattle.aodv_model.specs.Cores.{Body, Waiting, Store, Core}
use Rattle.aodv_model.specs.Soundness.{IsDatum, HasSoundNumber, AreBelow, IsEntryInMesh, IsSoundTable, IsSoundCore, IsWaitingInMesh, IsStoreInMesh}
use Rattle.aodv_model.proofs.PairKeys.{each_pair}
use Rattle.aodv_node.specs.Seen.{NodeSeen, IsItemAt, IsSoundNode}
use Rattle.mesh_checkpoint.specs.declared.limits.TheConstants.{LONGEST_BODY, LONGEST_HEARD}
use Rattle.mesh_checkpoint.specs.Formats.{truth}
use Rattle.mesh_checkpoint.specs.Checkpoint.{Node, index, any16, any32, positive32, datum, indices, route, routes, request, request_key, asked_format, waits, store, item, inbox, node}
use Rattle.mesh_checkpoint.specs.Points.{route_of, routes_in, waits_of, waits_in}
use Rattle.mesh_checkpoint.specs.Seen.{listed_node}
use Rattle.mesh_save.specs.Requests.{AreRequestsOf}
use Rattle.mesh_save.specs.Narrow.{AreEntriesNarrow}
use Rattle.mesh_model.proofs.Lists.{each_map}
use Rattle.mesh_save.proofs.FitsParts.{IsFit, Rise, all_both, all_images, is_in, text_fits, counted_fits, rising_fits, few, rise_mapped, numbers_rise, pairs_rise, lesser_pair, no_more, each_short}

-- ---- what a node of the code has, beside what every sound node has

-- a packet that waits is no longer than the longest
abbrev pub IsItemShort : Item → Type 0
IsItemShort (New dest body) = ⊤
IsItemShort (Heard from bytes) = length bytes ≤ LONGEST_HEARD

-- ---- a route

pub index_fits : (size i : ℕ) → i < size → IsFit (index size) i
index_fits size i lt = is_in 0 size i (omega arith) lt

pub truth_fits : (b : Bool) → IsFit truth b
truth_fits true = refl
truth_fits false = refl

rise_of : (low next : ℕ) (xs : List ℕ) → Rises low xs next → Rise (λ i. i) low xs
rise_of low next [] up = tt
rise_of low next (x ∷ xs) up = (up.0, rise_of (x + 1) next xs up.1)

members_fit : (size : ℕ) (s : NodeIds) → size ≤ MOST_NODES → AreBelow size s → IsFit (indices size) (member_list s)
members_fit size s small below =
    let same : member_list s ≡ members_below size s = members-size 256 size s (omega (arith, small)) below in
    let up = rise_of 0 size (members_below size s) (members-sorted size s) in
    let many = is_in 0 (2 ^ 16) (length (members_below size s)) (omega arith) (omega (arith, members_few size s, small)) in
    let each = members-all (IsFit (index size)) size s (λ q is. index_fits size q (below q is)) in
    subst (IsFit (indices size)) (sym same) (rising_fits (λ i. i) any16 (index size) (members_below size s) many each up)

route_fits : (size ip : ℕ) (rt : Table) (d : ℕ) (e : Entry) → size ≤ MOST_NODES → HasSoundNumber d e → IsEntryInMesh size ip rt d e → (e.dsn < 2 ^ 32) × (e.hops < 2 ^ 8) → IsFit (route size) (route_of (d, e))
route_fits size ip rt d e small number in_mesh narrow =
    and_from _ _ (index_fits size d in_mesh.dest)
    (and_from _ _ (is_in 0 (2 ^ 32) e.dsn (omega arith) narrow.0)
    (and_from _ _ (truth_fits (is_kno e.dsk))
    (and_from _ _ (truth_fits (is_val e.flag))
    (and_from _ _ (is_in 1 256 e.hops number.hops narrow.1)
    (and_from _ _ (index_fits size e.next in_mesh.near) (members_fit size e.pre small in_mesh.pre))))))

pub routes_fit : (size ip : ℕ) (rt : Table) → size ≤ MOST_NODES → IsSoundTable size ip rt → AreEntriesNarrow rt → IsFit (routes size) (routes_in rt)
unfolding routes_in
routes_fit size ip rt small sound narrow =
    let es = maps.entries rt in
    let below : AllByRecursion (λ e. e.0 < size) es = each_entry nat_cmp nat_cmp_total (λ d e. d < size) rt (λ d e there. (sound.in_mesh d e there).dest) in
    let each : AllByRecursion (λ e. IsFit (route size) (route_of e)) es =
    each_entry nat_cmp nat_cmp_total (λ d e. IsFit (route size) (route_of (d, e))) rt
    (λ d e there. route_fits size ip rt d e small (sound.numbers d e there) (sound.in_mesh d e there) (narrow d e there)) in
    let up = numbers_rise rt size below in
    let many = is_in 0 (2 ^ 16) (length (map route_of es)) (omega arith) (omega (arith, length-map es route_of, few (λ e. e.0) size es up below, small)) in
    rising_fits (λ r. r.dest) any16 (route size) (map route_of es) many (each_mapped route_of (IsFit (route size)) es each) (rise_mapped route_of (λ r. r.dest) 0 es up)

-- ---- the requests that were seen

request_rises : (size : ℕ) (x y : ℕ × ℕ) → (x.0 < size) × (x.1 < 2 ^ 32) → (y.0 < size) × (y.1 < 2 ^ 32) → pair_cmp x y ≡ Less → request_key x < request_key y
request_rises size x y p q less = elim (lesser_pair x y less) [
  | inl lt ↦ omega (arith, lt, p.1)
  | inr same ↦ omega (arith, same.0, same.1)
]

pub asked_fits : (size : ℕ) (seen : Pairs) → AreRequestsOf size seen → length ((asked_format size).put (pairs_in seen)) ≤ LONGEST_BODY → IsFit (asked_format size) (pairs_in seen)
asked_fits size seen ids short =
    let ps = pairs_in seen in
    let all = each_pair seen (λ p. (p.0 < size) × (p.1 < 2 ^ 32)) ids in
    let bytes = flat_map (request size).put ps in
    let whole : length ((asked_format size).put ps) ≡ 4 + length bytes = omega arith in
    let many = is_in 0 (2 ^ 32) (length ps) (omega arith) (omega (arith, short, whole, no_more (request size).put (λ p. omega arith) ps)) in
    let each = each_map (λ p. (p.0 < size) × (p.1 < 2 ^ 32)) (IsFit (request size)) (λ p h. and_from _ _ (index_fits size p.0 h.0) (is_in 0 (2 ^ 32) p.1 (omega arith) h.1)) ps all in
    rising_fits request_key any32 (request size) ps many each (pairs_rise seen request_key (λ p. (p.0 < size) × (p.1 < 2 ^ 32)) (request_rises size) all)

-- ---- the store

some_there : (bs : List Body) → bs ≢ [] → 1 ≤ length bs
some_there [] some = absurd (some refl)
some_there (b ∷ bs) some = omega arith

pub datum_fits : (b : Body) → IsDatum b → IsFit datum b
datum_fits b is = text_fits w16 1 (LONGEST_DATUM + 1) b is.0 (omega (arith, is.1))

waits_fit : (size d : ℕ) (w : Waiting) → IsWaitingInMesh size d w → length ((waits size).put (waits_of (d, w))) ≤ LONGEST_BODY → IsFit (waits size) (waits_of (d, w))
waits_fit size d w is short =
    let bs = w.bodies in
    let bytes = flat_map datum.put bs in
    let whole : length ((waits size).put (waits_of (d, w))) ≡ 7 + length bytes = omega arith in
    let many = is_in 1 (2 ^ 32) (length bs) (some_there bs is.some) (omega (arith, short, whole, no_more datum.put (λ b. omega arith) bs)) in
    and_from _ _ (index_fits size d is.dest)
    (and_from _ _ (truth_fits w.needs_request) (counted_fits positive32 datum bs many (each_map IsDatum (IsFit datum) datum_fits bs is.bodies)))

pub store_fits : (size : ℕ) (s : Store) → size ≤ MOST_NODES → IsStoreInMesh size s → length ((store size).put (waits_in s)) ≤ LONGEST_BODY → IsFit (store size) (waits_in s)
unfolding waits_in
store_fits size s small is short =
    let es = maps.entries s in
    let bytes = flat_map (waits size).put (map waits_of es) in
    let whole : length ((store size).put (map waits_of es)) ≡ 2 + length bytes = omega arith in
    let below : AllByRecursion (λ e. e.0 < size) es = each_entry nat_cmp nat_cmp_total (λ d w. d < size) s (λ d w there. (is d w there).dest) in
    let there : AllByRecursion (λ e. IsWaitingInMesh size e.0 e.1) es = each_entry nat_cmp nat_cmp_total (IsWaitingInMesh size) s is in
    let parts : AllByRecursion (λ e. length ((waits size).put (waits_of e)) ≤ LONGEST_BODY) es =
    all_images waits_of (λ w. length ((waits size).put w) ≤ LONGEST_BODY) es (each_short (waits size).put LONGEST_BODY (map waits_of es) (omega (arith, short, whole))) in
    let each : AllByRecursion (λ e. IsFit (waits size) (waits_of e)) es =
    each_map (λ e. IsWaitingInMesh size e.0 e.1 × (length ((waits size).put (waits_of e)) ≤ LONGEST_BODY)) (λ e. IsFit (waits size) (waits_of e)) (λ e h. waits_fit size e.0 e.1 h.0 h.1) es
    (all_both (λ e. IsWaitingInMesh size e.0 e.1) (λ e. length ((waits size).put (waits_of e)) ≤ LONGEST_BODY) es there parts) in
    let up = numbers_rise s size below in
    let many = is_in 0 (2 ^ 16) (length (map waits_of es)) (omega arith) (omega (arith, length-map es waits_of, few (λ e. e.0) size es up below, small)) in
    rising_fits (λ w. w.dest) any16 (waits size) (map waits_of es) many (each_mapped waits_of (IsFit (waits size)) es each) (rise_mapped waits_of (λ w. w.dest) 0 es up)

-- ---- the inbox

pub item_fits : (size me : ℕ) (i : Item) → IsItemAt size me i → IsItemShort i → IsFit (item size) i
item_fits size me (New dest body) is short = and_from _ _ (index_fits size dest is.0) (datum_fits body is.1)
item_fits size me (Heard from bytes) is short =
    and_from _ _ (index_fits size from is.0) (text_fits w16 0 (LONGEST_HEARD + 1) bytes (omega arith) (omega (arith, short)))

item_some : (size : ℕ) (i : Item) → 1 ≤ length ((item size).put i)
item_some size (New dest body) = omega arith
item_some size (Heard from bytes) = omega arith

pub inbox_fits : (size : ℕ) (is : List Item) → AllByRecursion (IsFit (item size)) is → length ((inbox size).put is) ≤ LONGEST_BODY → IsFit (inbox size) is
inbox_fits size is each short =
    let bytes = flat_map (item size).put is in
    let whole : length ((inbox size).put is) ≡ 4 + length bytes = omega arith in
    let many = is_in 0 (2 ^ 32) (length is) (omega arith) (omega (arith, short, whole, no_more (item size).put (item_some size) is)) in
    counted_fits any32 (item size) is many each

-- ---- a node

-- a core and an inbox, as a checkpoint has them
abbrev pub listed_of : Core → List Item → Node
listed_of core is = record {
  sn = core.sn;
  routes = routes_in core.rt;
  asked = pairs_in core.seen;
  store = waits_in core.store;
  inbox = is;
}

pub core_fits : (size : ℕ) (core : Core) (is : List Item) → size ≤ MOST_NODES → IsSoundCore size core → IsStoreInMesh size core.store → AreEntriesNarrow core.rt → AreRequestsOf size core.seen → core.sn < 2 ^ 32
    → AllByRecursion (IsFit (item size)) is → length ((node size).put (listed_of core is)) ≤ LONGEST_BODY → IsFit (node size) (listed_of core is)
core_fits size core is small sound stored narrow ids sn items short =
    let r = (routes size).put (routes_in core.rt) in
    let a = (asked_format size).put (pairs_in core.seen) in
    let s = (store size).put (waits_in core.store) in
    let i = (inbox size).put is in
    let whole : length ((node size).put (listed_of core is)) ≡ 4 + (length r + (length a + (length s + length i))) =
    omega (arith, length-append r (a ++ (s ++ i)), length-append a (s ++ i), length-append s i) in
    and_from _ _ (is_in 1 (2 ^ 32) core.sn sound.own sn)
    (and_from _ _ (routes_fit size core.ip core.rt small sound.table narrow)
    (and_from _ _ (asked_fits size core.seen ids (omega (arith, short, whole)))
    (and_from _ _ (store_fits size core.store small stored (omega (arith, short, whole))) (inbox_fits size is items (omega (arith, short, whole))))))

pub node_fits : (size : ℕ) (n : NodeSeen) → size ≤ MOST_NODES → n.size ≡ size → IsSoundNode n → AreEntriesNarrow (n.core).rt → AreRequestsOf size (n.core).seen → (n.core).sn < 2 ^ 32 → AllByRecursion IsItemShort n.items
    → length ((node size).put (listed_node n)) ≤ LONGEST_BODY → IsFit (node size) (listed_node n)
node_fits size n small same sound narrow ids sn items short =
    let me = (n.core).ip in
    let each = subst (λ (k : ℕ). AllByRecursion (IsItemAt k me) n.items) same sound.each in
    core_fits size n.core n.items small (subst (λ (k : ℕ). IsSoundCore k n.core) same sound.sound) (subst (λ (k : ℕ). IsStoreInMesh k (n.core).store) same sound.store) narrow ids sn
    (each_map (λ i. IsItemAt size me i × IsItemShort i) (IsFit (item size)) (λ i h. item_fits size me i h.0 h.1) n.items (all_both (IsItemAt size me) IsItemShort n.items each items)) short
