-- The data of a world that was read are those that were counted in its checkpoint.
use Rattle.std.proofs.Common.{◌≡◌, ◌≢◌, ℕ, zero, suc, ◌+◌, ◌<◌, true, false, ◌&&◌, eq-eqb, List, [], ◌∷◌, length, map, Option, Some, None, refl, sym, ap, ◌∙◌, arith}
use Rattle.std.specs.Prelude.{T, nat_le, nat_lt}
use Rattle.std.specs.List.{AllByRecursion, sum_by}
use Rattle.std.specs.Ordering.{nat_cmp, is_lt, is_eq}
use Rattle.std.specs.Cmp.{unsigned_tied}
use Rattle.std.specs.FinMap as maps
use Rattle.std.specs.FinMap.{find, is_sorted}
use Rattle.std.specs.FinMap.Entries.{below_all}
use Rattle.std.specs.declared.cmp.Ordering.{Ordering}
use Rattle.std.specs.declared.cmp.Ordering.TheVariants.{Less, Equal, Greater}
use Rattle.std.proofs.lemmas.Bool.{ne_eqb, and_parts, ltb-true}
use Rattle.std.proofs.lemmas.List.{length-map}
use Rattle.std.proofs.lemmas.List.Sums.{sum_by-cons}
use Rattle.mesh_base.specs.Meshes.{Nodes}
use Rattle.mesh_base.specs.declared.events.Flying.{Flying}
use Rattle.mesh_base.specs.declared.events.Item.{Item}
use Rattle.mesh_base.specs.declared.events.Item.TheVariants as item
use Rattle.mesh_base.specs.declared.events.Variant.{Variant}
use Rattle.mesh_base.proofs.Lemmas.Bools.{left_of_both, right_of_both}
use Rattle.aodv_wire.specs.declared.message.Message as wire
use Rattle.aodv_wire.specs.declared.message.Message.TheVariants as messages
use Rattle.aodv_wire.specs.Encodes.{message_in_fields}
use Rattle.aodv_model.specs.Cores.{Store, Waiting, bodies_in}
use Rattle.aodv_meaning.specs.Meaning.{meaning, in_mesh}
use Rattle.aodv_meaning.specs.Effects.{item_in}
use Rattle.aodv_node.specs.Seen.{NodeSeen}
use Rattle.mesh_model.specs.Worlds.{first_numbers}
use Rattle.mesh_model.specs.Accounts.{any, total, total_below, in_message, in_item, in_store, in_copy, waiting, queued_data, in_flight}
use Rattle.mesh_model.proofs.Totals.{total_below_same, total_below_change, all_count}
use Rattle.mesh_model.proofs.AccountSteps.{start_empty}
use Rattle.mesh_meaning.specs.Packets.{IsWritten, copy_in}
use Rattle.mesh_radio.specs.Radios.{RadioState}
use Rattle.mesh_sound.specs.Packets.{InItem}
use Rattle.mesh_world.specs.Seen.{WorldSeen, node_in, data_of}
use Rattle.mesh_world.specs.Kept.{world_in, seen_of}
use Rattle.mesh_world.specs.Restored.{AreWritten}
use Rattle.mesh_text.specs.Schedule.{Sums}
use Rattle.mesh_text.specs.Accounts as accounts
use Rattle.mesh_run.specs.RunStates.{run_state_seen}
use Rattle.mesh_checkpoint.specs.declared.body.Head.{Head}
use Rattle.mesh_checkpoint.specs.Formats.{all_fit, one_if, rise}
use Rattle.mesh_checkpoint.specs.Checkpoint as model
use Rattle.mesh_checkpoint.specs.Checkpoint.{Waits}
use Rattle.mesh_checkpoint.specs.Counts.{is_parcel, encodes_datum, data_waiting, data_in_item, data_in_copy, data_at, data_in_world, data_in, IsBalanced}
use Rattle.mesh_checkpoint.specs.Points.{waits_of, waits_in}
use Rattle.mesh_checkpoint.specs.Seen.{listed_node}

-- ---- entries by rising destination

apart : (o : Ordering) → T (is_lt o) → is_eq o ≡ false
apart Less p = refl
apart Equal p = absurd p
apart Greater p = refl

-- a key below all others is none of them
none_above : (k : ℕ) (es : List (ℕ × Waiting)) → T (below_all nat_cmp k es) → find nat_cmp k es ≡ None
none_above k [] below = refl
none_above k (e ∷ es) below = rw (apart (nat_cmp k e.0) (left_of_both _ _ below)) (none_above k es (right_of_both _ _ below))

-- how many data wait for a destination
abbrev data_for : List (ℕ × Waiting) → ℕ → ℕ
data_for es d = length (bodies_in (find nat_cmp d es))

none_for : (n : ℕ) → total_below n (data_for []) ≡ 0
none_for zero = refl
none_for (suc n) = omega (arith, none_for n)

here : (e : ℕ × Waiting) (es : List (ℕ × Waiting)) → data_for (e ∷ es) e.0 ≡ data_waiting (waits_of e)
here e es = rw (unsigned_tied e.0 e.0, eq-eqb e.0 e.0 refl) refl

elsewhere : (e : ℕ × Waiting) (es : List (ℕ × Waiting)) (q : ℕ) → q ≢ e.0 → data_for (e ∷ es) q ≡ data_for es q
elsewhere e es q other = rw (unsigned_tied q e.0, ne_eqb q e.0 other) refl

-- the sum over the destinations is that over the entries
entries_total : (size : ℕ) (es : List (ℕ × Waiting)) → T (is_sorted nat_cmp es) → AllByRecursion (λ e. e.0 < size) es → total_below size (data_for es) ≡ sum_by data_waiting (map waits_of es)
entries_total size [] sorted below = none_for size
entries_total size (e ∷ es) sorted below =
    let change : total_below size (data_for (e ∷ es)) + data_for es e.0 ≡ total_below size (data_for es) + data_for (e ∷ es) e.0 =
    total_below_change size e.0 (data_for (e ∷ es)) (data_for es) (elsewhere e es) below.0 in
    let none : data_for es e.0 ≡ 0 = ap (λ o. length (bodies_in o)) (none_above e.0 es (left_of_both _ _ sorted)) in
    let this : data_for (e ∷ es) e.0 ≡ data_waiting (waits_of e) = here e es in
    let rest : total_below size (data_for es) ≡ sum_by data_waiting (map waits_of es) = entries_total size es (right_of_both (below_all nat_cmp e.0 es) (is_sorted nat_cmp es) sorted) below.1 in
    let more : sum_by data_waiting (waits_of e ∷ map waits_of es) ≡ data_waiting (waits_of e) + sum_by data_waiting (map waits_of es) = sum_by-cons data_waiting (waits_of e) (map waits_of es) in
    omega arith

-- ---- the store of a node

-- what fits a mesh of so many nodes is for one of them
below_size : (size : ℕ) (es : List (ℕ × Waiting)) → all_fit (model.waits size).fits (map waits_of es) ≡ true → AllByRecursion (λ e. e.0 < size) es
below_size size [] fit = tt
below_size size (e ∷ es) fit =
    let both = and_parts ((model.waits size).fits (waits_of e)) (all_fit (model.waits size).fits (map waits_of es)) fit in
    let parts = and_parts _ _ both.0 in
    let within = and_parts (nat_le 0 e.0) (nat_lt e.0 size) parts.0 in
    (ltb-true e.0 size within.1, below_size size es both.1)

store_fits : (size : ℕ) (store : Store) → (model.store size).fits (waits_in store) ≡ true → AllByRecursion (λ e. e.0 < size) (maps.entries store)
unfolding waits_in
store_fits size store fit =
    let list = map waits_of (maps.entries store) in
    let a = and_parts _ _ fit in
    let b = and_parts _ _ a.1 in
    let c = and_parts (all_fit (model.waits size).fits list) (rise (λ (w : Waits). w.dest) 0 list) b.1 in
    below_size size (maps.entries store) c.0

store_total : (size x : ℕ) (store : Store) → (model.store size).fits (waits_in store) ≡ true → in_store any size x store ≡ sum_by data_waiting (waits_in store)
unfolding in_store waits_in
store_total size x store fit =
    total_below_same size _ (data_for (maps.entries store)) (λ d. all_count x d (bodies_in (maps.get store d)) ∙ ap (λ o. length (bodies_in o)) (maps.get-entries store d))
    ∙ entries_total size (maps.entries store) (maps.entries_sorted store) (store_fits size store fit)

-- ---- packets

parcel_counts : (mesh : Nodes) (m : wire.Message) → in_message any (in_mesh mesh m) ≡ one_if (is_parcel None m)
parcel_counts mesh (messages.Rreq m) = refl
parcel_counts mesh (messages.Rrep m) = refl
parcel_counts mesh (messages.Rerr pairs) = refl
parcel_counts mesh (messages.Parcel p) = refl

-- a written packet has a datum where it encodes a data packet
packet_counts : (mesh : Nodes) (bytes : List ℕ) → IsWritten mesh bytes → in_message any (meaning mesh bytes) ≡ one_if (encodes_datum bytes)
unfolding meaning encodes_datum
packet_counts mesh bytes written =
    parcel_counts mesh (message_in_fields bytes) ∙ ap (λ r. one_if (is_parcel r (message_in_fields bytes))) (sym written.encodes.allowed)

abbrev IsItemWritten : Nodes → Item → Type 0
IsItemWritten mesh i = InItem (λ from bytes. IsWritten mesh bytes) i

item_counts : (mesh : Nodes) (x : ℕ) (i : Item) → IsItemWritten mesh i → in_item any x (item_in mesh i) ≡ data_in_item i
item_counts mesh x (item.New dest body) written = refl
item_counts mesh x (item.Heard from bytes) written = packet_counts mesh bytes written

items_total : (mesh : Nodes) (x : ℕ) (is : List Item) → AllByRecursion (IsItemWritten mesh) is → total (in_item any x) (map (item_in mesh) is) ≡ sum_by data_in_item is
items_total mesh x [] all = refl
items_total mesh x (i ∷ is) all =
    let this : in_item any x (item_in mesh i) ≡ data_in_item i = item_counts mesh x i all.0 in
    let rest : total (in_item any x) (map (item_in mesh) is) ≡ sum_by data_in_item is = items_total mesh x is all.1 in
    let more : sum_by data_in_item (i ∷ is) ≡ data_in_item i + sum_by data_in_item is = sum_by-cons data_in_item i is in
    omega arith

copies_total : (mesh : Nodes) (cs : List Flying) → AllByRecursion (λ c. IsWritten mesh c.bytes) cs → total (in_copy any) (map (copy_in mesh) cs) ≡ sum_by data_in_copy cs
copies_total mesh [] all = refl
copies_total mesh (c ∷ cs) all =
    let this : in_copy any (copy_in mesh c) ≡ data_in_copy c = packet_counts mesh c.bytes all.0 in
    let rest : total (in_copy any) (map (copy_in mesh) cs) ≡ sum_by data_in_copy cs = copies_total mesh cs all.1 in
    let more : sum_by data_in_copy (c ∷ cs) ≡ data_in_copy c + sum_by data_in_copy cs = sum_by-cons data_in_copy c cs in
    omega arith

-- ---- nodes

node_fits : (size : ℕ) (n : NodeSeen) → (model.node size).fits (listed_node n) ≡ true → (model.store size).fits (waits_in (n.core).store) ≡ true
node_fits size n fit =
    let list = listed_node n in
    let last = (model.store size).fits list.store && (model.inbox size).fits list.inbox in
    let a = and_parts (model.positive32.fits list.sn) ((model.routes size).fits list.routes && ((model.asked_format size).fits list.asked && last)) fit in
    let b = and_parts ((model.routes size).fits list.routes) ((model.asked_format size).fits list.asked && last) a.1 in
    let c = and_parts ((model.asked_format size).fits list.asked) last b.1 in
    (and_parts ((model.store size).fits list.store) ((model.inbox size).fits list.inbox) c.1).0

-- the data in the stores and in the queues of these nodes, in a mesh of so many
abbrev in_stores : Nodes → ℕ → List NodeSeen → ℕ
in_stores mesh size nodes = total (λ n. in_store any size (n.core).ip (n.core).store) (map (node_in mesh) nodes)

abbrev in_queues : Nodes → List NodeSeen → ℕ
in_queues mesh nodes = total (λ n. total (in_item any (n.core).ip) n.queue) (map (node_in mesh) nodes)

nodes_total : (mesh : Nodes) (size : ℕ) (nodes : List NodeSeen) → all_fit (model.node size).fits (map listed_node nodes) ≡ true → AllByRecursion (λ n. AllByRecursion (IsItemWritten mesh) n.items) nodes
    → in_stores mesh size nodes + in_queues mesh nodes ≡ sum_by data_at (map listed_node nodes)
nodes_total mesh size [] fit written = refl
nodes_total mesh size (n ∷ nodes) fit written =
    let both = and_parts ((model.node size).fits (listed_node n)) (all_fit (model.node size).fits (map listed_node nodes)) fit in
    let waits : in_store any size (n.core).ip (n.core).store ≡ sum_by data_waiting (waits_in (n.core).store) = store_total size (n.core).ip (n.core).store (node_fits size n both.0) in
    let queue : total (in_item any (n.core).ip) (map (item_in mesh) n.items) ≡ sum_by data_in_item n.items = items_total mesh (n.core).ip n.items written.0 in
    let rest : in_stores mesh size nodes + in_queues mesh nodes ≡ sum_by data_at (map listed_node nodes) = nodes_total mesh size nodes both.1 written.1 in
    let more : sum_by data_at (listed_node n ∷ map listed_node nodes) ≡ data_at (listed_node n) + sum_by data_at (map listed_node nodes) = sum_by-cons data_at (listed_node n) (map listed_node nodes) in
    omega arith

-- ---- the world

-- the data of the nodes and the radio that were read are those of the world in the checkpoint
pub data_agree : (mesh : Nodes) (nodes : List NodeSeen) (radio : RadioState) (w : model.World) → w.nodes ≡ map listed_node nodes → w.copies ≡ radio.flying
    → length nodes ≡ length mesh → all_fit (model.node (length mesh)).fits w.nodes ≡ true → AreWritten mesh nodes radio.flying
    → data_of (world_in mesh nodes radio) ≡ data_in_world w
unfolding waiting queued_data in_flight world_in
data_agree mesh nodes radio w nodes_are copies_are count fit written =
    let size : length (map (node_in mesh) nodes) ≡ length mesh = length-map nodes (node_in mesh) ∙ count in
    let stores : in_stores mesh (length (map (node_in mesh) nodes)) nodes ≡ in_stores mesh (length mesh) nodes = ap (λ k. in_stores mesh k nodes) size in
    let at_nodes : in_stores mesh (length mesh) nodes + in_queues mesh nodes ≡ sum_by data_at (map listed_node nodes) =
    nodes_total mesh (length mesh) nodes (ap (all_fit (model.node (length mesh)).fits) (sym nodes_are) ∙ fit) written.waits in
    let listed_are : sum_by data_at (map listed_node nodes) ≡ sum_by data_at w.nodes = ap (sum_by data_at) (sym nodes_are) in
    let in_copies : total (in_copy any) (map (copy_in mesh) radio.flying) ≡ sum_by data_in_copy radio.flying = copies_total mesh radio.flying written.flies in
    let flying_are : sum_by data_in_copy radio.flying ≡ sum_by data_in_copy w.copies = ap (sum_by data_in_copy) (sym copies_are) in
    omega arith

-- ---- the account

-- the sums of a run are those of a head
pub record AreSumsOf (h : Head) (s : Sums) : Type 0 where
  pub given : s.given ≡ h.given
  pub delivered : s.delivered ≡ h.delivered
  pub lost : s.lost ≡ h.lost
  pub copied : s.copied ≡ h.copied

-- the data of a world, if there is one
abbrev pub data_seen : Option WorldSeen → ℕ
data_seen None = 0
data_seen (Some w) = data_of w.world

-- a state with the sums of a body that is balanced, and as many data, is balanced
pub balanced : (x : model.Body) (variant : Variant) (mesh : Nodes) (seen : Option WorldSeen) (sums : Sums) (lines : ℕ) → IsBalanced x → AreSumsOf x.head sums → data_seen seen ≡ data_in x.world
    → accounts.IsBalanced (run_state_seen variant mesh seen sums lines)
balanced x variant mesh None sums lines is are same =
    let none = start_empty any variant (first_numbers mesh) in
    let a = are.given in
    let b = are.delivered in
    let c = are.lost in
    let d = are.copied in
    omega arith
balanced x variant mesh (Some w) sums lines is are same =
    let a = are.given in
    let b = are.delivered in
    let c = are.lost in
    let d = are.copied in
    omega arith

-- where there is no world
pub balanced_unmade : (x : model.Body) (variant : Variant) (mesh : Nodes) (sums : Sums) (lines : ℕ) → IsBalanced x → AreSumsOf x.head sums → x.world ≡ None
    → accounts.IsBalanced (run_state_seen variant mesh None sums lines)
balanced_unmade x variant mesh sums lines is are none = balanced x variant mesh None sums lines is are (sym (ap data_in none))

-- where the world is that of nodes and a radio that have its data
pub balanced_made : (x : model.Body) (variant : Variant) (mesh : Nodes) (nodes : List NodeSeen) (radio : RadioState) (steps : ℕ) (sums : Sums) (lines : ℕ) (w : model.World) → IsBalanced x → AreSumsOf x.head sums → x.world ≡ Some w
    → data_of (world_in mesh nodes radio) ≡ data_in_world w → accounts.IsBalanced (run_state_seen variant mesh (Some (seen_of mesh nodes radio steps)) sums lines)
balanced_made x variant mesh nodes radio steps sums lines w is are some same =
    balanced x variant mesh (Some (seen_of mesh nodes radio steps)) sums lines is are (same ∙ sym (ap data_in some))
