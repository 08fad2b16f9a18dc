-- The body of a state of a run fits the table of a checkpoint.
use Rattle.std.proofs.Common.{◌≡◌, ℕ, suc, ◌+◌, ◌*◌, ◌^◌, ◌<◌, ◌≤◌, Bool, true, eq-eqb, List, [], ◌∷◌, ◌++◌, length, map, get_or, Option, Some, None, refl, sym, ap, subst, ◌∙◌, arith, length-append, inl, inr}
use Rattle.std.specs.Prelude.{slice_get, IfSome, option_map}
use Rattle.std.specs.declared.cmp.Ordering.TheVariants.{Less}
use Rattle.std.specs.Ordering.{nat_cmp}
use Rattle.std.specs.Cmp.{nat_cmp_total}
use Rattle.std.specs.Int.{w16, w64, to_be_bytes}
use Rattle.std.specs.List.{AllByRecursion, flat_map}
use Rattle.std.specs.FinMap as maps
use Rattle.std.specs.FinSet as sets
use Rattle.std.proofs.lemmas.Bool.{and_from}
use Rattle.std.proofs.lemmas.List.{length-map}
use Rattle.std.proofs.lemmas.Option.{none-some, same_Some}
use Rattle.mesh_base.specs.declared.limits.TheConstants.{MOST_NODES, LONGEST_PACKET}
use Rattle.mesh_base.specs.declared.addr.Addr.{Addr}
use Rattle.mesh_base.specs.declared.events.Variant.{Variant}
use Rattle.mesh_base.specs.declared.events.Variant.TheVariants.{Base, Number, Reply, Error}
use Rattle.mesh_base.specs.declared.events.Item as items
use Rattle.mesh_base.specs.declared.events.Item.TheVariants as item
use Rattle.mesh_base.specs.declared.events.Flying.{Flying}
use Rattle.mesh_base.specs.Meshes.{Nodes, addr_at, IsMesh}
use Rattle.mesh_base.proofs.Lemmas.Maps.{each_entry}
use Rattle.mesh_base.proofs.Lemmas.Lists.{each_mapped}
use Rattle.aodv_model.specs.Pairs.{Pairs, pair_cmp, pairs_in}
use Rattle.aodv_model.specs.Cores.{Message, Pkt, Rreq, Rrep, Rerr, Item, New, Heard}
use Rattle.aodv_model.specs.Soundness.{IsMessageInMesh, IsItemInMesh}
use Rattle.aodv_model.proofs.PairKeys.{each_pair}
use Rattle.aodv_wire.specs.RouteError as rerr
use Rattle.aodv_wire.specs.Encodes.{encoding}
use Rattle.aodv_meaning.specs.Meaning.{meaning}
use Rattle.aodv_meaning.specs.Sent.{pair_by_address, pairs_of}
use Rattle.aodv_meaning.specs.Effects.{item_in}
use Rattle.mesh_model.specs.Numbered.{AreNumberedBy}
use Rattle.mesh_model.specs.Worlds as model
use Rattle.mesh_model.specs.InMesh.{AreLinks, IsCopyInMesh, IsNodeInMesh, IsInMesh}
use Rattle.mesh_meaning.specs.Packets.{packet_of, IsWrittenItem, IsWrittenCopy, copy_in}
use Rattle.mesh_text.specs.Schedule.{RunState}
use Rattle.mesh_checkpoint.specs.declared.limits.TheConstants.{LONGEST_BODY, SUMS_END, MOST_STEPS, GREATEST_NEXT_ID}
use Rattle.mesh_checkpoint.specs.declared.body.Head.{Head}
use Rattle.mesh_checkpoint.specs.Formats.{Format, number, put_maybe, maybe}
use Rattle.mesh_checkpoint.specs.Checkpoint as table
use Rattle.mesh_checkpoint.specs.Checkpoint.{World, Body, has_nodes, link_key}
use Rattle.mesh_checkpoint.specs.Points as points
use Rattle.mesh_checkpoint.specs.Points.{head_of, links_of, copy_of, node_of, world_after, body_of}
use Rattle.mesh_checkpoint.specs.Heads.{AreSums}
use Rattle.mesh_model.proofs.Lists.{each_map, each_of}
use Rattle.mesh_save.specs.Links.{link_of}
use Rattle.mesh_save.specs.Narrow.{IsNarrow}
use Rattle.mesh_save.proofs.FitsParts.{IsFit, Rise, all_both, all_images, is_in, each_fits, text_fits, rising_fits, few, rise_mapped, numbers_rise, pairs_rise, lesser_pair, no_more, each_short}
use Rattle.mesh_save.proofs.Fits.{IsItemShort, index_fits, truth_fits, item_fits, core_fits}

-- ---- the head

variant_fits : (v : Variant) → IsFit table.variant v
variant_fits Base = refl
variant_fits Number = refl
variant_fits Reply = refl
variant_fits Error = refl

sum_fits : (n : ℕ) → n < SUMS_END → IsFit table.sum n
sum_fits n lt = is_in 0 SUMS_END n (omega arith) lt

pub head_fits : (h : Head) → AreSums h → IsFit table.head h
head_fits h are =
    and_from _ _ (variant_fits h.variant)
    (and_from _ _ (sum_fits h.lines are.lines)
    (and_from _ _ (sum_fits h.events are.events)
    (and_from _ _ (sum_fits h.idle are.idle)
    (and_from _ _ (sum_fits h.given are.given)
    (and_from _ _ (sum_fits h.delivered are.delivered)
    (and_from _ _ (sum_fits h.lost are.lost) (sum_fits h.copied are.copied)))))))

-- ---- the mesh

all_at : {X : Type 0} (P : X → Type 0) (d : X) (xs : List X) → ((i : ℕ) → i < length xs → P (get_or xs i d)) → AllByRecursion P xs
all_at P d [] each = tt
all_at P d (x ∷ xs) each = (each 0 (omega arith), all_at P d xs (λ i lt. each (suc i) (omega (arith, lt))))

addresses_rise : (low : ℕ) (mesh : Nodes) → ((i : ℕ) → i < length mesh → low ≤ addr_at mesh i) → ((i j : ℕ) → i < j → j < length mesh → addr_at mesh i < addr_at mesh j) → Rise (λ p. p.0) low mesh
addresses_rise low [] from up = tt
addresses_rise low (p ∷ mesh) from up = (
  from 0 (omega arith),
  addresses_rise (p.0 + 1) mesh (λ i lt. let above : p.0 < addr_at mesh i = up 0 (suc i) (omega arith) (omega (arith, lt)) in omega (arith, above)) (λ i j lt end. up (suc i) (suc j) (omega (arith, lt)) (omega (arith, end))),
)

pub mesh_fits : (mesh : Nodes) → IsMesh mesh → IsFit table.mesh mesh
mesh_fits mesh is =
    let each = all_at (IsFit table.station) (0, 0) mesh (λ i lt. and_from _ _ (is_in 0 (2 ^ 32) (addr_at mesh i) (omega arith) (is.addresses i lt)) (is_in 1 (2 ^ 32) ((get_or mesh i (0, 0)).1) (is.positive i lt) (is.firsts i lt))) in
    rising_fits (λ p. p.0) (number w16 0 (MOST_NODES + 1)) table.station mesh (is_in 0 (MOST_NODES + 1) (length mesh) (omega arith) (omega (arith, is.few))) each
    (addresses_rise 0 mesh (λ i lt. omega arith) is.rising)

-- ---- the links

abbrev IsPair : ℕ → ℕ × ℕ → Type 0
IsPair size p = (p.0 < p.1) × (p.1 < size)

-- a number by which pairs of nodes rise, and of which there are few
abbrev small_key : ℕ × ℕ → ℕ
small_key p = p.0 * 200 + p.1

link_rises : (size : ℕ) (x y : ℕ × ℕ) → size ≤ MOST_NODES → IsPair size x → IsPair size y → pair_cmp x y ≡ Less → x.0 * 2 ^ 16 + x.1 < y.0 * 2 ^ 16 + y.1
link_rises size x y small p q less = elim (lesser_pair x y less) [
  | inl lt ↦ omega (arith, lt, p.1, small)
  | inr same ↦ omega (arith, same.0, same.1)
]

small_rises : (size : ℕ) (x y : ℕ × ℕ) → size ≤ MOST_NODES → IsPair size x → IsPair size y → pair_cmp x y ≡ Less → small_key x < small_key y
small_rises size x y small p q less = elim (lesser_pair x y less) [
  | inl lt ↦ omega (arith, lt, p.1, small)
  | inr same ↦ omega (arith, same.0, same.1)
]

pub few_pairs : (size : ℕ) (s : Pairs) → size ≤ MOST_NODES → AreLinks size s → length (pairs_in s) < 2 ^ 16
few_pairs size s small are =
    let all = each_pair s (IsPair size) are in
    let up = pairs_rise s small_key (IsPair size) (λ x y p q less. small_rises size x y small p q less) all in
    let below = each_map (IsPair size) (λ p. small_key p < 40000) (λ p h. omega (arith, h.0, h.1, small)) (pairs_in s) all in
    omega (arith, few small_key 40000 (pairs_in s) up below)

pub links_fit : (size : ℕ) (ever standing : Pairs) → size ≤ MOST_NODES → AreLinks size ever → IsFit (table.links size) (links_of ever standing)
links_fit size ever standing small are =
    let ps = pairs_in ever in
    let all = each_pair ever (IsPair size) are in
    let up = pairs_rise ever (λ p. p.0 * 2 ^ 16 + p.1) (IsPair size) (λ x y p q less. link_rises size x y small p q less) all in
    let each = each_map (IsPair size) (λ p. IsFit (table.link size) (link_of standing p)) (λ p h.
    and_from _ _ (index_fits size p.0 (omega (arith, h.0, h.1))) (and_from _ _ (is_in (p.0 + 1) size p.1 (omega (arith, h.0)) h.1) (truth_fits (sets.contains standing p)))) ps all in
    let many = is_in 0 (2 ^ 16) (length (map (link_of standing) ps)) (omega arith) (omega (arith, length-map ps (link_of standing), few_pairs size ever small are)) in
    rising_fits link_key table.any16 (table.link size) (map (link_of standing) ps) many (each_mapped (link_of standing) (IsFit (table.link size)) ps each) (rise_mapped (link_of standing) link_key 0 ps up)

-- ---- the copies

-- the ids rise
numbered_rise : {A : Type 0} (key : A → ℕ) (low next : ℕ) (xs : List A) → AreNumberedBy key low xs next → Rise key low xs
numbered_rise key low next [] are = tt
numbered_rise key low next (x ∷ xs) are = (are.0, numbered_rise key (key x + 1) next xs are.1)

rises_from : {A : Type 0} (key : A → ℕ) (low first : ℕ) (xs : List A) → low ≤ first → Rise key first xs → Rise key low xs
rises_from key low first [] le up = tt
rises_from key low first (x ∷ xs) le up = (omega (arith, le, up.0), up.1)

pub numbered_end : {A : Type 0} (key : A → ℕ) (low next : ℕ) (xs : List A) → AreNumberedBy key low xs next → low ≤ next
numbered_end key low next [] are = are
numbered_end key low next (x ∷ xs) are = omega (arith, are.0, numbered_end key (key x + 1) next xs are.1)

-- each is from the first on, and below the next
numbered_between : {A : Type 0} (key : A → ℕ) (first low next : ℕ) (xs : List A) → first ≤ low → AreNumberedBy key low xs next → AllByRecursion (λ x. (first ≤ key x) × (key x < next)) xs
numbered_between key first low next [] le are = tt
numbered_between key first low next (x ∷ xs) le are =
    ((omega (arith, le, are.0), omega (arith, numbered_end key (key x + 1) next xs are.1)), numbered_between key first (key x + 1) next xs (omega (arith, le, are.0)) are.1)

pub numbered_mapped : {A B : Type 0} (f : A → B) (key : B → ℕ) (low next : ℕ) (xs : List A) → AreNumberedBy (λ x. key (f x)) low xs next → AreNumberedBy key low (map f xs) next
numbered_mapped f key low next [] are = are
numbered_mapped f key low next (x ∷ xs) are = (are.0, numbered_mapped f key (key (f x) + 1) next xs are.1)

-- a copy between nodes of the mesh, of at most the longest packet
abbrev pub IsCopyShort : ℕ → Flying → Type 0
IsCopyShort size c = (c.from < size) × (c.to < size) × (length c.bytes ≤ LONGEST_PACKET)

pub copies_fit : (size next : ℕ) (cs : List Flying) → AreNumberedBy (λ c. c.id) 1 cs next → AllByRecursion (IsCopyShort size) cs → length ((table.copies size next).put cs) ≤ LONGEST_BODY → IsFit (table.copies size next) cs
copies_fit size next cs are all short =
    let copy = table.copy size next in
    let bytes = flat_map copy.put cs in
    let whole : length ((table.copies size next).put cs) ≡ 4 + length bytes = omega arith in
    let many = is_in 0 (2 ^ 32) (length cs) (omega arith) (omega (arith, short, whole, no_more copy.put (λ c. omega arith) cs)) in
    let each = each_map (λ c. ((1 ≤ c.id) × (c.id < next)) × IsCopyShort size c) (IsFit copy) (λ c h.
    and_from _ _ (is_in 1 next c.id h.0.0 h.0.1) (and_from _ _ (index_fits size c.from h.1.0) (and_from _ _ (index_fits size c.to h.1.1)
    (text_fits w16 0 (LONGEST_PACKET + 1) c.bytes (omega arith) (omega (arith, h.1.2)))))) cs
    (all_both (λ c. (1 ≤ c.id) × (c.id < next)) (IsCopyShort size) cs (numbered_between (λ c. c.id) 1 1 next cs (omega arith) are) all) in
    let up = rises_from (λ c. c.id) 0 1 cs (omega arith) (numbered_rise (λ c. c.id) 1 next cs are) in
    rising_fits (λ c. c.id) table.any32 copy cs many each up

-- ---- packets of messages in the mesh

lines_of_pairs : (ps : List (Addr × ℕ)) → length (flat_map rerr.pair_bytes ps) ≡ 8 * length ps
lines_of_pairs [] = omega arith
lines_of_pairs (p ∷ ps) = omega (arith, lines_of_pairs ps, length-append (rerr.pair_bytes p) (flat_map rerr.pair_bytes ps))

-- the packet of a message in the mesh is no longer than the longest
pub packet_short : (mesh : Nodes) (m : Message) → length mesh ≤ MOST_NODES → IsMessageInMesh (length mesh) m → length (packet_of mesh m) ≤ LONGEST_PACKET
unfolding packet_of encoding
packet_short mesh (Pkt b d o) small is = omega (arith, is.2.1)
packet_short mesh (Rreq m) small is = omega arith
packet_short mesh (Rrep m) small is = omega arith
packet_short mesh (Rerr dests) small is =
    let size = length mesh in
    let es = maps.entries dests in
    let ps = pairs_of mesh dests in
    let below : AllByRecursion (λ e. e.0 < size) es = each_entry nat_cmp nat_cmp_total (λ d n. d < size) dests is in
    let many : length ps ≤ size = omega (arith, length-map es (pair_by_address mesh), few (λ e. e.0) size es (numbers_rise dests size below) below) in
    omega (arith, many, small, lines_of_pairs ps)

-- packets that wait at a node
pub heard_short : (mesh : Nodes) (x : ℕ) (is : List items.Item) → length mesh ≤ MOST_NODES → AllByRecursion (IsWrittenItem mesh) is → AllByRecursion (IsItemInMesh (length mesh) x) (map (item_in mesh) is) → AllByRecursion IsItemShort is
unfolding packet_of
heard_short mesh x [] small encoding in_mesh = tt
heard_short mesh x (item.New dest body ∷ is) small encoding in_mesh = (tt, heard_short mesh x is small encoding.1 in_mesh.1)
heard_short mesh x (item.Heard from bytes ∷ is) small encoding in_mesh =
    let most = packet_short mesh (meaning mesh bytes) small in_mesh.0.2 in
    let same : length bytes ≡ length (packet_of mesh (meaning mesh bytes)) = ap length encoding.0.written in
    (omega (arith, most, same), heard_short mesh x is small encoding.1 in_mesh.1)

-- copies in flight
pub flying_short : (mesh : Nodes) (cs : List Flying) → length mesh ≤ MOST_NODES → AllByRecursion (IsWrittenCopy mesh) cs → AllByRecursion (IsCopyInMesh (length mesh)) (map (copy_in mesh) cs) → AllByRecursion (IsCopyShort (length mesh)) cs
unfolding packet_of
flying_short mesh [] small encoding in_mesh = tt
flying_short mesh (c ∷ cs) small encoding in_mesh =
    let most = packet_short mesh (meaning mesh c.bytes) small in_mesh.0.3 in
    let same : length c.bytes ≡ length (packet_of mesh (meaning mesh c.bytes)) = ap length encoding.0.written in
    ((in_mesh.0.0, in_mesh.0.1, omega (arith, most, same)), flying_short mesh cs small encoding.1 in_mesh.1)

-- ---- the nodes of the model

queued_fits : (mesh : Nodes) (x : ℕ) (i : Item) → length mesh ≤ MOST_NODES → IsItemInMesh (length mesh) x i → IsFit (table.item (length mesh)) (points.item_of mesh i)
queued_fits mesh x (New b d) small is = item_fits (length mesh) x (item.New d b) (is.0, is.1) tt
queued_fits mesh x (Heard from m) small is =
    item_fits (length mesh) x (item.Heard from (packet_of mesh m)) (is.0, is.1) (omega (arith, packet_short mesh m small is.2))

pub meant_fits : (mesh : Nodes) (x : ℕ) (n : model.Node) → length mesh ≤ MOST_NODES → IsNodeInMesh (length mesh) x n → IsNarrow (length mesh) n.core → length ((table.node (length mesh)).put (node_of mesh n)) ≤ LONGEST_BODY
    → IsFit (table.node (length mesh)) (node_of mesh n)
meant_fits mesh x n small is narrow short =
    let size = length mesh in
    let each = each_mapped (points.item_of mesh) (IsFit (table.item size)) n.queue
    (each_map (IsItemInMesh size x) (λ i. IsFit (table.item size) (points.item_of mesh i)) (λ i h. queued_fits mesh x i small h) n.queue is.queue) in
    core_fits size n.core (map (points.item_of mesh) n.queue) small is.core is.store narrow.entries narrow.requests narrow.number each short

-- ---- the world

world_length : (size : ℕ) (w : World) → length ((table.world size).put w)
    ≡ 16 + (length (flat_map (table.node size).put w.nodes) + (length ((table.links size).put w.links) + length ((table.copies size w.next).put w.copies)))
world_length size w =
    let n = flat_map (table.node size).put w.nodes in
    let l = (table.links size).put w.links in
    let c = (table.copies size w.next).put w.copies in
    let id = to_be_bytes w64 w.next in
    omega (arith, length-append n (l ++ (id ++ c)), length-append l (id ++ c), length-append id c)

pub parts_fit : (size : ℕ) (w : World) → w.steps ≤ MOST_STEPS → length w.nodes ≡ size → AllByRecursion (IsFit (table.node size)) w.nodes → IsFit (table.links size) w.links → 1 ≤ w.next → w.next ≤ GREATEST_NEXT_ID → IsFit (table.copies size w.next) w.copies
    → IsFit (table.world size) w
parts_fit size w steps count nodes links first next copies =
    and_from _ _ (is_in 0 (MOST_STEPS + 1) w.steps (omega arith) (omega (arith, steps)))
    (and_from _ _ (and_from _ _ (eq-eqb (length w.nodes) size count) (each_fits (table.node size) w.nodes nodes))
    (and_from _ _ links (and_from _ _ (is_in 1 (GREATEST_NEXT_ID + 1) w.next first (omega (arith, next))) copies)))

-- a world of the model that has bytes: what it has beside what every world of a run has
pub record IsWorldNarrow (mesh : Nodes) (steps : ℕ) (w : model.World) : Type 0 where
  pub some : 1 ≤ length mesh
  pub count : length w.nodes ≡ length mesh
  pub in_mesh : IsInMesh w
  pub narrow : (x : ℕ) (n : model.Node) → slice_get w.nodes x ≡ Some n → IsNarrow (length mesh) n.core
  pub early : steps ≤ MOST_STEPS
  pub next : w.next_copy ≤ GREATEST_NEXT_ID

copy_short : (mesh : Nodes) (c : model.Copy) → length mesh ≤ MOST_NODES → IsCopyInMesh (length mesh) c → IsCopyShort (length mesh) (copy_of mesh c)
copy_short mesh c small is = (is.0, is.1, packet_short mesh c.message small is.3)

meant_nodes_fit : (mesh : Nodes) (steps : ℕ) (w : model.World) → length mesh ≤ MOST_NODES → IsWorldNarrow mesh steps w → length (flat_map (table.node (length mesh)).put (map (node_of mesh) w.nodes)) ≤ LONGEST_BODY
    → AllByRecursion (IsFit (table.node (length mesh))) (map (node_of mesh) w.nodes)
meant_nodes_fit mesh steps w small is short =
    let size = length mesh in
    let fit : model.Node → Type 0 = λ n. length ((table.node size).put (node_of mesh n)) ≤ LONGEST_BODY → IsFit (table.node size) (node_of mesh n) in
    let each : AllByRecursion fit w.nodes =
    each_of fit w.nodes (λ x n there short. meant_fits mesh x n small (subst (λ (k : ℕ). IsNodeInMesh k x n) is.count ((is.in_mesh).nodes x n there)) (is.narrow x n there) short) in
    let parts : AllByRecursion (λ n. length ((table.node size).put (node_of mesh n)) ≤ LONGEST_BODY) w.nodes =
    all_images (node_of mesh) (λ n. length ((table.node size).put n) ≤ LONGEST_BODY) w.nodes (each_short (table.node size).put LONGEST_BODY (map (node_of mesh) w.nodes) short) in
    each_mapped (node_of mesh) (IsFit (table.node size)) w.nodes
    (each_map (λ n. fit n × (length ((table.node size).put (node_of mesh n)) ≤ LONGEST_BODY)) (λ n. IsFit (table.node size) (node_of mesh n)) (λ n h. h.0 h.1) w.nodes
    (all_both fit (λ n. length ((table.node size).put (node_of mesh n)) ≤ LONGEST_BODY) w.nodes each parts))

pub world_fits : (mesh : Nodes) (steps : ℕ) (w : model.World) → length mesh ≤ MOST_NODES → IsWorldNarrow mesh steps w → length ((table.world (length mesh)).put (world_after steps mesh w)) ≤ LONGEST_BODY
    → IsFit (table.world (length mesh)) (world_after steps mesh w)
world_fits mesh steps w small is short =
    let size = length mesh in
    let listed = world_after steps mesh w in
    let whole = world_length size listed in
    let flying : AllByRecursion (IsCopyInMesh size) w.flying = subst (λ (k : ℕ). AllByRecursion (IsCopyInMesh k) w.flying) is.count (is.in_mesh).flying in
    let ever : AreLinks size w.ever = subst (λ (k : ℕ). AreLinks k w.ever) is.count (is.in_mesh).ever in
    let ids = numbered_mapped (copy_of mesh) (λ c. c.id) 1 w.next_copy w.flying (is.in_mesh).numbered in
    let copies = each_mapped (copy_of mesh) (IsCopyShort size) w.flying
    (each_map (IsCopyInMesh size) (λ c. IsCopyShort size (copy_of mesh c)) (λ c h. copy_short mesh c small h) w.flying flying) in
    parts_fit size listed is.early (length-map w.nodes (node_of mesh) ∙ is.count)
    (meant_nodes_fit mesh steps w small is (omega (arith, short, whole))) (links_fit size w.ever w.links small ever)
    (numbered_end (λ c. c.id) 1 w.next_copy w.flying (is.in_mesh).numbered) is.next
    (copies_fit size w.next_copy listed.copies ids copies (omega (arith, short, whole)))

-- ---- the body

maybe_fits : {A : Type 0} (may : Bool) (a : Format A) (o : Option A) → ((x : A) → o ≡ Some x → (may ≡ true) × IsFit a x) → IsFit (maybe may a) o
maybe_fits may a None each = refl
maybe_fits may a (Some x) each = let h = each x refl in and_from may (a.fits x) h.0 h.1

nodes_there : (mesh : Nodes) → 1 ≤ length mesh → has_nodes mesh ≡ true
nodes_there [] some = absurd (omega (arith, some))
nodes_there (p ∷ mesh) some = refl

-- the head, the mesh and the world fit: the world of a mesh that has nodes
pub body_fits : (b : Body) → AreSums b.head → IsMesh b.mesh → ((w : World) → b.world ≡ Some w → (1 ≤ length b.mesh) × IsFit (table.world (length b.mesh)) w) → IsFit table.body b
body_fits b sums mesh world =
    and_from _ _ (head_fits b.head sums)
    (and_from _ _ (mesh_fits b.mesh mesh)
    (maybe_fits (has_nodes b.mesh) (table.world (length b.mesh)) b.world (λ w there. let h = world w there in (nodes_there b.mesh h.0, h.1))))

-- the world of a body is no longer than the body
pub world_short : (b : Body) (w : World) → b.world ≡ Some w → length (table.body.put b) ≤ LONGEST_BODY → length ((table.world (length b.mesh)).put w) ≤ LONGEST_BODY
world_short b w there short =
    let h = table.head.put b.head in
    let m = table.mesh.put b.mesh in
    let put = put_maybe (table.world (length b.mesh)).put in
    let tail : length (put b.world) ≡ 1 + length ((table.world (length b.mesh)).put w) = ap (λ (o : Option World). length (put o)) there ∙ omega arith in
    omega (arith, short, tail, length-append h (m ++ put b.world), length-append m (put b.world))

-- ---- a state

meant_world_fits : (mesh : Nodes) (steps : ℕ) (o : Option model.World) → length mesh ≤ MOST_NODES → IfSome o (IsWorldNarrow mesh steps) → (w : World) → option_map (world_after steps mesh) o ≡ Some w → length ((table.world (length mesh)).put w) ≤ LONGEST_BODY
    → (1 ≤ length mesh) × IsFit (table.world (length mesh)) w
meant_world_fits mesh steps None small is w there short = absurd (none-some w there)
meant_world_fits mesh steps (Some v) small is w there short =
    let same : world_after steps mesh v ≡ w = same_Some (world_after steps mesh v) w there in
    (is.some, subst (IsFit (table.world (length mesh))) same (world_fits mesh steps v small is (subst (λ (x : World). length ((table.world (length mesh)).put x) ≤ LONGEST_BODY) (sym same) short)))

-- the body of a state fits, where its sums and its world are in the ranges of the table, and it isn't too long
pub state_fits : (m : RunState) → AreSums (head_of m) → IsMesh m.mesh → IfSome m.world (IsWorldNarrow m.mesh m.steps) → length (table.body.put (body_of m)) ≤ LONGEST_BODY → IsFit table.body (body_of m)
state_fits m sums mesh world short =
    body_fits (body_of m) sums mesh (λ w there. meant_world_fits m.mesh m.steps m.world mesh.few world w there (world_short (body_of m) w there short))
