-- Counting the data.
use Rattle.std.proofs.Common.{◌≡◌, ◌≢◌, ℕ, zero, suc, ◌+◌, ◌^◌, ◌<◌, ◌≤◌, ◌==◌, Bool, true, false, List, [], ◌∷◌, length, map, take, Some, None, Option, refl, ap, sym, ◌∙◌, subst, arith, inl, inr}
use Rattle.std.specs.Prelude.{if◌then◌else◌, slice_get}
use Rattle.std.specs.List.{AllByRecursion, sum_by}
use Rattle.std.specs.FinMap as maps
use Rattle.std.specs.FinSet as sets
use Rattle.std.proofs.lemmas.Bool.{cases_eq, ne_eqb}
use Rattle.std.proofs.lemmas.Option.{none-some, same_Some}
use Rattle.std.proofs.lemmas.List.{length-map, take_all}
use Rattle.std.proofs.lemmas.List.Sums.{sum_by-cons, sum_by-take-le}
use Rattle.mesh_base.specs.Members.{NodeIds}
use Rattle.mesh_base.specs.Meshes.{Nodes}
use Rattle.mesh_base.specs.declared.events.Flying.{Flying}
use Rattle.mesh_base.specs.declared.events.Item.{Item}
use Rattle.mesh_base.specs.declared.events.Item.TheVariants as item
use Rattle.mesh_radio.specs.Copies.{data_in}
use Rattle.aodv_wire.specs.declared.error.WireError.{WireError}
use Rattle.aodv_wire.specs.Encodes.{kind, refusal, is_data}
use Rattle.aodv_wire.proofs.Lines.{said_rreq, said_rrep, said_rerr, said_data}
use Rattle.aodv_model.specs.Cores.{Body, Store, bodies_in, has_data, in_qD}
use Rattle.aodv_model.specs.Soundness.{IsStoreInMesh}
use Rattle.aodv_model.proofs.Stores.{first_datum}
use Rattle.aodv_meaning.specs.Effects.{item_in}
use Rattle.aodv_meaning.specs.Meaning.{meaning, in_mesh}
use Rattle.aodv_node.specs.Seen.{NodeSeen}
use Rattle.mesh_radio.specs.Radios.{RadioState}
use Rattle.mesh_meaning.specs.Packets.{IsWrittenItem, IsWrittenCopy, copy_in}
use Rattle.mesh_model.specs.Accounts.{total, total_below, in_message, in_item, in_store, in_copy, waiting, queued_data, in_flight}
use Rattle.mesh_world.specs.Seen.{node_in}
use Rattle.mesh_model.specs.Accounts.{any}
use Rattle.mesh_model.proofs.Totals.{total_below_same, all_count}
use Rattle.mesh_world.specs.Kept.{world_in}
use Rattle.mesh_world.specs.Counted.{has_datum, one_if, waiting_for, waiting_at, queued_in, flying_in, AreCounted}

-- ---- sums over lists

pub sum_next : {X : Type 0} (f : X → ℕ) (xs : List X) (k : ℕ) (x : X) → slice_get xs k ≡ Some x → sum_by f (take (k + 1) xs) ≡ sum_by f (take k xs) + f x
sum_next f [] k x is = absurd (none-some x is)
sum_next f (y ∷ ys) zero x is = sum_by-cons f y [] ∙ (let same : f y ≡ f x = ap f (same_Some y x is) in omega arith)
sum_next f (y ∷ ys) (suc k) x is =
    let next : suc k + 1 ≡ suc (k + 1) = omega arith in
    let rest : sum_by f (take (k + 1) ys) ≡ sum_by f (take k ys) + f x = sum_next f ys k x is in
    let more : sum_by f (y ∷ take (k + 1) ys) ≡ f y + sum_by f (take (k + 1) ys) = sum_by-cons f y (take (k + 1) ys) in
    let less : sum_by f (y ∷ take k ys) ≡ f y + sum_by f (take k ys) = sum_by-cons f y (take k ys) in
    ap (λ n. sum_by f (take n (y ∷ ys))) next ∙ omega arith

pub sum_fits : {X : Type 0} (f : X → ℕ) (xs : List X) (k : ℕ) (x : X) → slice_get xs k ≡ Some x → sum_by f (take k xs) + f x ≤ sum_by f xs
sum_fits f xs k x is =
    let next : sum_by f (take (k + 1) xs) ≡ sum_by f (take k xs) + f x = sum_next f xs k x is in
    let most : sum_by f (take (k + 1) xs) ≤ sum_by f xs = sum_by-take-le f xs (k + 1) in
    omega arith

-- ---- sums below a number

pub total_none : (m i : ℕ) (f : ℕ → ℕ) → i ≤ m → ((q : ℕ) → i ≤ q → q < m → f q ≡ 0) → total_below m f ≡ total_below i f
total_none zero i f le none = let same : 0 ≡ i = omega arith in ap (λ n. total_below n f) same
total_none (suc m) i f le none = elim (cases_eq i (suc m)) [
  | inl same ↦ ap (λ n. total_below n f) (sym same)
  | inr ne ↦
      let here : f m ≡ 0 = none m (omega arith) (omega arith) in
      let before : total_below m f ≡ total_below i f = total_none m i f (omega arith) (λ q up lt. none q up (omega arith)) in
      omega arith
]

pub total_next : (m i : ℕ) (f : ℕ → ℕ) → i ≤ m → ((q : ℕ) → i ≤ q → q < m → f q ≡ 0) → total_below (m + 1) f ≡ total_below i f + f m
total_next m i f le none =
    let up : m + 1 ≡ suc m = omega arith in
    let before : total_below m f ≡ total_below i f = total_none m i f le none in
    ap (λ n. total_below n f) up ∙ omega arith

pub total_rise : (m i : ℕ) (f : ℕ → ℕ) → i ≤ m → total_below i f ≤ total_below m f
total_rise zero i f le = let same : i ≡ 0 = omega arith in subst (λ n. total_below n f ≤ total_below 0 f) (sym same) (omega arith)
total_rise (suc m) i f le = elim (cases_eq i (suc m)) [
  | inl same ↦ subst (λ n. total_below i f ≤ total_below n f) same (omega arith)
  | inr ne ↦ (let before : total_below i f ≤ total_below m f = total_rise m i f (omega arith) in omega arith)
]

-- ---- the store of a node

-- no data, no length
pub nothing_for : (n : NodeSeen) (s : NodeIds) → ((d : ℕ) → sets.contains s d ≡ in_qD (n.core).store d) → (d : ℕ) → sets.contains s d ≡ false → waiting_for n d ≡ 0
nothing_for n s dests d none = by (bodies_in (maps.get (n.core).store d)) (sym (dests d) ∙ none)
  where
    by : (bs : List Body) → has_data bs ≡ false → length bs ≡ 0
    by [] e = refl
    by (b ∷ bs) e = cc

pub dest_below : (size : ℕ) (store : Store) (d : ℕ) → IsStoreInMesh size store → in_qD store d ≡ true → d < size
dest_below size store d sound has = (first_datum size store d sound has).0

-- the loop over the destinations: those before `start` are counted
pub record IsCounting (n : NodeSeen) (start count : ℕ) : Type 0 where
  pub so_far : count ≡ total_below start (waiting_for n)
  pub within : start ≤ n.size

abbrev pub IsNext : NodeIds → ℕ → ℕ → Type 0
IsNext s start d = (start ≤ d) × (sets.contains s d ≡ true) × ((q : ℕ) → start ≤ q → q < d → sets.contains s q ≡ false)

module _ (n : NodeSeen) (s : NodeIds) (dests : (d : ℕ) → sets.contains s d ≡ in_qD (n.core).store d) (sound : IsStoreInMesh n.size (n.core).store) where
  pub counted_next : (start count d : ℕ) → IsCounting n start count → IsNext s start d → IsCounting n (d + 1) (count + waiting_for n d)
  counted_next start count d now next =
      let below : d < n.size = dest_below n.size (n.core).store d sound (sym (dests d) ∙ next.1) in
      let more : total_below (d + 1) (waiting_for n) ≡ total_below start (waiting_for n) + waiting_for n d = total_next d start (waiting_for n) next.0 (λ q up lt. nothing_for n s dests q (next.2 q up lt)) in
      let is : count ≡ total_below start (waiting_for n) = now.so_far in
      record { so_far = omega arith; within = omega arith }

  pub counted_fits : (start count d : ℕ) → IsCounting n start count → IsNext s start d → count + waiting_for n d ≤ waiting_at n
  unfolding waiting_at
  counted_fits start count d now next =
      let then' : IsCounting n (d + 1) (count + waiting_for n d) = counted_next start count d now next in
      let is : count + waiting_for n d ≡ total_below (d + 1) (waiting_for n) = then'.so_far in
      let rise : total_below (d + 1) (waiting_for n) ≤ total_below n.size (waiting_for n) = total_rise n.size (d + 1) (waiting_for n) then'.within in
      omega arith

  pub counted_all : (start count : ℕ) → IsCounting n start count → ((q : ℕ) → start ≤ q → sets.contains s q ≡ false) → count ≡ waiting_at n
  unfolding waiting_at
  counted_all start count now none = now.so_far ∙ sym (total_none n.size start (waiting_for n) now.within (λ q up lt. nothing_for n s dests q (none q up)))

-- ---- what is counted is what the definitions count

total_is : {X : Type 0} (f : X → ℕ) (xs : List X) → total f xs ≡ sum_by f xs
total_is f [] = refl
total_is f (x ∷ xs) = let rest : total f xs ≡ sum_by f xs = total_is f xs in let more : sum_by f (x ∷ xs) ≡ f x + sum_by f xs = sum_by-cons f x xs in omega arith

-- a sum over what the parts of a list mean
total_map : {X Y : Type 0} (P : X → Type 0) (g : X → Y) (f : Y → ℕ) (h : X → ℕ) (xs : List X) → AllByRecursion P xs → ((x : X) → P x → f (g x) ≡ h x) → total f (map g xs) ≡ sum_by h xs
total_map P g f h [] all same = refl
total_map P g f h (x ∷ xs) all same =
    let here : f (g x) ≡ h x = same x all.0 in
    let rest : total f (map g xs) ≡ sum_by h xs = total_map P g f h xs all.1 same in
    let more : sum_by h (x ∷ xs) ≡ h x + sum_by h xs = sum_by-cons h x xs in
    omega arith

refused : (z k1 k2 k3 k16 : Bool) (r1 r2 r3 r16 : Option WireError) (low other : WireError) → k1 ≡ false → k2 ≡ false → k3 ≡ false → k16 ≡ false
    → (if z then Some low else if k1 then r1 else if k2 then r2 else if k3 then r3 else if k16 then r16 else Some other) ≡ None → ⊥
refused true k1 k2 k3 k16 r1 r2 r3 r16 low other e1 e2 e3 e16 is = none-some low (sym is)
refused false true k2 k3 k16 r1 r2 r3 r16 low other e1 e2 e3 e16 is = cc
refused false false true k3 k16 r1 r2 r3 r16 low other e1 e2 e3 e16 is = cc
refused false false false true k16 r1 r2 r3 r16 low other e1 e2 e3 e16 is = cc
refused false false false false true r1 r2 r3 r16 low other e1 e2 e3 e16 is = cc
refused false false false false false r1 r2 r3 r16 low other e1 e2 e3 e16 is = none-some other (sym is)

-- a packet that isn't refused and is no control message is a datum's
last_kind : (b : List ℕ) → refusal b ≡ None → kind b ≢ 1 → kind b ≢ 2 → kind b ≢ 3 → kind b ≡ 16
unfolding refusal
last_kind b allowed n1 n2 n3 = elim (cases_eq (kind b) 16) [
  | inl same ↦ same
  | inr other ↦ absurd (refused _ _ _ _ _ _ _ _ _ _ _ (ne_eqb (kind b) 1 n1) (ne_eqb (kind b) 2 n2) (ne_eqb (kind b) 3 n3) (ne_eqb (kind b) 16 other) allowed)
]

kind_other : (b : List ℕ) (k : ℕ) → kind b ≡ k → (k == 16) ≡ false → one_if (is_data b) ≡ 0
kind_other b k is other = ap (λ (j : ℕ). one_if (j == 16)) is ∙ ap one_if other

pub packet_counts : (mesh : Nodes) (b : List ℕ) → refusal b ≡ None → in_message any (meaning mesh b) ≡ one_if (is_data b)
unfolding meaning
packet_counts mesh b allowed = elim (cases_eq (kind b) 1) [
  | inl k ↦ ap (λ m. in_message any (in_mesh mesh m)) (said_rreq b k) ∙ sym (kind_other b 1 k refl)
  | inr n1 ↦ elim (cases_eq (kind b) 2) [
    | inl k ↦ ap (λ m. in_message any (in_mesh mesh m)) (said_rrep b k) ∙ sym (kind_other b 2 k refl)
    | inr n2 ↦ elim (cases_eq (kind b) 3) [
      | inl k ↦ ap (λ m. in_message any (in_mesh mesh m)) (said_rerr b k) ∙ sym (kind_other b 3 k refl)
      | inr n3 ↦ (let k : kind b ≡ 16 = last_kind b allowed n1 n2 n3 in ap (λ m. in_message any (in_mesh mesh m)) (said_data b k) ∙ sym (ap (λ (j : ℕ). one_if (j == 16)) k))
    ]
  ]
]

item_counts : (mesh : Nodes) (x : ℕ) (i : Item) → IsWrittenItem mesh i → in_item any x (item_in mesh i) ≡ one_if (has_datum i)
item_counts mesh x (item.New dest body) written = refl
item_counts mesh x (item.Heard from bytes) written = packet_counts mesh bytes written.encodes.allowed

items_count : (mesh : Nodes) (x : ℕ) (items : List Item) → AllByRecursion (IsWrittenItem mesh) items → total (in_item any x) (map (item_in mesh) items) ≡ queued_in items
unfolding queued_in
items_count mesh x items all = total_map (IsWrittenItem mesh) (item_in mesh) (in_item any x) (λ i. one_if (has_datum i)) items all (item_counts mesh x)

store_counts : (size : ℕ) (n : NodeSeen) → n.size ≡ size → in_store any size (n.core).ip (n.core).store ≡ waiting_at n
unfolding in_store waiting_at
store_counts size n same =
    total_below_same size _ (waiting_for n) (λ d. all_count (n.core).ip d (bodies_in (maps.get (n.core).store d))) ∙ ap (λ k. total_below k (waiting_for n)) (sym same)

module _ (mesh : Nodes) (nodes : List NodeSeen) (radio : RadioState) (are : AreCounted mesh nodes radio) where
  pub waiting_means : sum_by waiting_at nodes ≡ waiting any (world_in mesh nodes radio)
  unfolding waiting world_in
  waiting_means = sym (total_map (λ n. n.size ≡ length nodes) (node_in mesh) (λ n. in_store any (length (map (node_in mesh) nodes)) (n.core).ip (n.core).store) waiting_at nodes are.sizes
      (λ n same. store_counts (length (map (node_in mesh) nodes)) n (same ∙ sym (length-map nodes (node_in mesh)))))

  pub queued_means : sum_by (λ n. queued_in n.items) nodes ≡ queued_data any (world_in mesh nodes radio)
  unfolding queued_data world_in
  queued_means = sym (total_map (λ n. AllByRecursion (IsWrittenItem mesh) n.items) (node_in mesh) (λ n. total (in_item any (n.core).ip) n.queue) (λ n. queued_in n.items) nodes are.items
      (λ n all. items_count mesh (n.core).ip n.items all))

  pub flying_means : flying_in radio.flying ≡ in_flight any (world_in mesh nodes radio)
  unfolding in_flight flying_in world_in
  flying_means = sym (total_map (IsWrittenCopy mesh) (copy_in mesh) (in_copy any) (λ f. one_if (is_data f.bytes)) radio.flying are.flying (λ f written. packet_counts mesh f.bytes written.encodes.allowed))

  -- each part of the sum fits
  pub waiting_fits : sum_by waiting_at nodes < 2 ^ 64
  waiting_fits = let few = are.few in let is = waiting_means in omega arith

  pub queued_fits : sum_by (λ n. queued_in n.items) nodes < 2 ^ 64
  queued_fits = let few = are.few in let is = queued_means in omega arith

-- ---- the loops

-- one item more
pub item_next : (items : List Item) (k : ℕ) (i : Item) (b : Bool) (old new : ℕ) → slice_get items k ≡ Some i → b ≡ has_datum i → old ≡ queued_in (take k items) → new ≡ old + one_if b → new ≡ queued_in (take (k + 1) items)
unfolding queued_in
item_next items k i b old new there is was now =
    let next : sum_by (λ i. one_if (has_datum i)) (take (k + 1) items) ≡ sum_by (λ i. one_if (has_datum i)) (take k items) + one_if (has_datum i) = sum_next (λ i. one_if (has_datum i)) items k i there in
    let same : one_if b ≡ one_if (has_datum i) = ap one_if is in
    omega arith

pub item_fits : (items : List Item) (k : ℕ) (i : Item) (b : Bool) (old : ℕ) → slice_get items k ≡ Some i → b ≡ has_datum i → old ≡ queued_in (take k items) → b ≡ true → old + 1 ≤ queued_in items
unfolding queued_in
item_fits items k i b old there is was yes' =
    let fits : sum_by (λ i. one_if (has_datum i)) (take k items) + one_if (has_datum i) ≤ sum_by (λ i. one_if (has_datum i)) items = sum_fits (λ i. one_if (has_datum i)) items k i there in
    let same : one_if (has_datum i) ≡ 1 = ap one_if (sym is ∙ yes') in
    omega arith

-- one copy more
-- the radio's count is this
pub data_flying : (copies : List Flying) → data_in copies ≡ flying_in copies
unfolding flying_in
data_flying [] = refl
data_flying (c ∷ cs) =
    let rest : data_in cs ≡ sum_by (λ f. one_if (is_data f.bytes)) cs = data_flying cs in
    ap (λ n. one_if (is_data c.bytes) + n) rest ∙ sym (sum_by-cons (λ f. one_if (is_data f.bytes)) c cs)

pub none_queued : 0 ≡ queued_in []
unfolding queued_in
none_queued = refl

-- the nodes before the k-th are counted
pub record IsTallied (nodes : List NodeSeen) (k waits queues : ℕ) : Type 0 where
  pub in_stores : waits ≡ sum_by waiting_at (take k nodes)
  pub in_inboxes : queues ≡ sum_by (λ n. queued_in n.items) (take k nodes)

pub tallied_next : (nodes : List NodeSeen) (k waits queues w q : ℕ) (n : NodeSeen) → slice_get nodes k ≡ Some n → w ≡ waiting_at n → q ≡ queued_in n.items → IsTallied nodes k waits queues → IsTallied nodes (k + 1) (waits + w) (queues + q)
tallied_next nodes k waits queues w q n there ws qs was =
    let more : sum_by waiting_at (take (k + 1) nodes) ≡ sum_by waiting_at (take k nodes) + waiting_at n = sum_next waiting_at nodes k n there in
    let more' : sum_by (λ n. queued_in n.items) (take (k + 1) nodes) ≡ sum_by (λ n. queued_in n.items) (take k nodes) + queued_in n.items = sum_next (λ n. queued_in n.items) nodes k n there in
    let old : waits ≡ sum_by waiting_at (take k nodes) = was.in_stores in
    let old' : queues ≡ sum_by (λ n. queued_in n.items) (take k nodes) = was.in_inboxes in
    record { in_stores = omega arith; in_inboxes = omega arith }

module _ (mesh : Nodes) (nodes : List NodeSeen) (radio : RadioState) (are : AreCounted mesh nodes radio) where
  pub counts_waiting_fits : (k waits queues : ℕ) (n : NodeSeen) → slice_get nodes k ≡ Some n → IsTallied nodes k waits queues → waits + waiting_at n < 2 ^ 64
  counts_waiting_fits k waits queues n there was =
      let fits : sum_by waiting_at (take k nodes) + waiting_at n ≤ sum_by waiting_at nodes = sum_fits waiting_at nodes k n there in
      let few : sum_by waiting_at nodes < 2 ^ 64 = waiting_fits mesh nodes radio are in
      let old : waits ≡ sum_by waiting_at (take k nodes) = was.in_stores in
      omega arith

  pub counts_queued_fits : (k waits queues : ℕ) (n : NodeSeen) → slice_get nodes k ≡ Some n → IsTallied nodes k waits queues → queues + queued_in n.items < 2 ^ 64
  counts_queued_fits k waits queues n there was =
      let fits : sum_by (λ n. queued_in n.items) (take k nodes) + queued_in n.items ≤ sum_by (λ n. queued_in n.items) nodes = sum_fits (λ n. queued_in n.items) nodes k n there in
      let few : sum_by (λ n. queued_in n.items) nodes < 2 ^ 64 = queued_fits mesh nodes radio are in
      let old : queues ≡ sum_by (λ n. queued_in n.items) (take k nodes) = was.in_inboxes in
      omega arith

  -- all nodes are counted
  pub counts_waiting : (k waits queues : ℕ) → length nodes ≤ k → IsTallied nodes k waits queues → waits ≡ waiting any (world_in mesh nodes radio)
  counts_waiting k waits queues end was = was.in_stores ∙ (ap (sum_by waiting_at) (take_all k nodes end) ∙ waiting_means mesh nodes radio are)

  pub counts_queued : (k waits queues : ℕ) → length nodes ≤ k → IsTallied nodes k waits queues → queues ≡ queued_data any (world_in mesh nodes radio)
  counts_queued k waits queues end was = was.in_inboxes ∙ (ap (sum_by (λ n. queued_in n.items)) (take_all k nodes end) ∙ queued_means mesh nodes radio are)
