-- Who gets a cast, and what holds of each of its copies.
use Rattle.std.proofs.Common.{◌≡◌, ℕ, zero, suc, ◌+◌, ◌<◌, ◌≤◌, Bool, true, false, ◌&&◌, ◌||◌, ◌==◌, List, [], ◌∷◌, ◌++◌, Option, Some, None, length, refl, ap, sym, ◌∙◌, arith}
use Rattle.std.specs.Prelude.{if◌then◌else◌, slice_get}
use Rattle.std.specs.List.{AllByRecursion}
use Rattle.std.specs.Ordering.{nat_cmp}
use Rattle.std.specs.Cmp.{nat_cmp_total, unsigned_tied}
use Rattle.std.proofs.lemmas.Bool.{eqb-true}
use Rattle.std.specs.FinSet as sets
use Rattle.mesh_base.specs.Members.{NodeIds}
use Rattle.mesh_base.proofs.Ranks.{members_few}
use Rattle.aodv_model.proofs.Entries.{if_case}
use Rattle.aodv_model.specs.Cores.{Item, Message}
use Rattle.aodv_model.specs.Handlers.{All, Cast, Many, Nothing, One, one}
use Rattle.aodv_model.specs.Pairs.{Pairs}
use Rattle.mesh_model.proofs.Lists.{each_append, each_map}
use Rattle.mesh_model.specs.Worlds.{Copy, Node, World, are_linked, copies, copies_of, copies_to, linked_below, members_below, push, range, receivers, with_item}

below_case : (links : Pairs) (a n y : ℕ) (b : Bool) → are_linked links a n ≡ b → (sets.contains (linked_below links a n) y ≡ true → (y < n) × (are_linked links a y ≡ true))
    → sets.contains (if b then sets.insert (linked_below links a n) n else linked_below links a n) y ≡ true → (y < suc n) × (are_linked links a y ≡ true)
below_case links a n y true e rest is = new (y == n) refl (ap (λ b. b || sets.contains (linked_below links a n) y) (sym (unsigned_tied y n)) ∙ sym (sets.contains-insert nat_cmp_total (linked_below links a n) n y) ∙ is)
  where
    new : (b : Bool) → (y == n) ≡ b → (b || sets.contains (linked_below links a n) y) ≡ true → (y < suc n) × (are_linked links a y ≡ true)
    new true same o = let here : y ≡ n = eqb-true y n same in (omega arith, ap (are_linked links a) here ∙ e)
    new false same o = let r = rest o in (omega arith, r.1)
below_case links a n y false e rest is = let r = rest is in (omega arith, r.1)

linked_below_has : (links : Pairs) (a n y : ℕ) → sets.contains (linked_below links a n) y ≡ true → (y < n) × (are_linked links a y ≡ true)
linked_below_has links a zero y is = let e = sets.contains-empty nat_cmp y in cc
linked_below_has links a (suc n) y is = below_case links a n y (are_linked links a n) refl (linked_below_has links a n y) is

pub range_has : (w : World) (x y : ℕ) → sets.contains (range w x) y ≡ true → (y < length w.nodes) × (are_linked w.links x y ≡ true)
unfolding range
range_has w x y is = linked_below_has w.links x (length w.nodes) y is

pub second : (a b : Bool) → (a && b) ≡ true → b ≡ true
second true b e = e
second false b e = cc

-- ---- who gets a cast

-- each receiver is in range
pub receivers_in : (near : NodeIds) (c : Cast) (y : ℕ) → sets.contains (receivers near c) y ≡ true → sets.contains near y ≡ true
unfolding receivers
receivers_in near Nothing y is = let e = sets.contains-empty nat_cmp y in cc
receivers_in near (One x m) y is = second (sets.contains (one x) y) (sets.contains near y) (sym (sets.contains-intersection nat_cmp_total (one x) near y) ∙ is)
receivers_in near (Many s m) y is = second (sets.contains s y) (sets.contains near y) (sym (sets.contains-intersection nat_cmp_total s near y) ∙ is)
receivers_in near (All m) y is = is

pub members_in : (n : ℕ) (s : NodeIds) → AllByRecursion (λ y. sets.contains s y ≡ true) (members_below n s)
unfolding members_below
members_in zero s = tt
members_in (suc n) s =
    if_case (AllByRecursion (λ y. sets.contains s y ≡ true)) (sets.contains s n) (members_below n s ++ n ∷ []) (members_below n s)
    (λ has. each_append (λ y. sets.contains s y ≡ true) (members_below n s) (n ∷ []) (members_in n s) (has, tt))
    (λ _. members_in n s)

-- what holds of each node in range holds of each receiver
pub each_receiver : (P : ℕ → Type 0) (n : ℕ) (near : NodeIds) (c : Cast) → ((y : ℕ) → sets.contains near y ≡ true → P y) → AllByRecursion P (members_below n (receivers near c))
each_receiver P n near c within =
    each_map (λ y. sets.contains (receivers near c) y ≡ true) P (λ y is. within y (receivers_in near c y is)) (members_below n (receivers near c)) (members_in n (receivers near c))

-- each receiver of a cast of x is in range of x
near_each : (w : World) (x : ℕ) (c : Cast) → AllByRecursion (λ y. sets.contains (range w x) y ≡ true) (members_below (length w.nodes) (receivers (range w x) c))
near_each w x c = each_receiver (λ y. sets.contains (range w x) y ≡ true) (length w.nodes) (range w x) c (λ y near. near)

-- ---- its copies

-- a cast of which C holds carries only a message of which M holds
pub record Carries (C : Cast → Type 0) (M : Message → Type 0) : Type 0 where
  pub one : (y : ℕ) (m : Message) → C (One y m) → M m
  pub many : (s : NodeIds) (m : Message) → C (Many s m) → M m
  pub all : (m : Message) → C (All m) → M m

copies_to_each : (P : Copy → Type 0) (near : NodeIds) (x : ℕ) (m : Message) → ((id to : ℕ) → sets.contains near to ≡ true → P (record { id = id; from = x; to = to; message = m }))
    → (tos : List ℕ) (id : ℕ) → AllByRecursion (λ y. sets.contains near y ≡ true) tos → AllByRecursion P (copies_to tos id x m)
copies_to_each P near x m each [] id all = tt
copies_to_each P near x m each (to ∷ tos) id all = (each id to all.0, copies_to_each P near x m each tos (id + 1) all.1)

-- what holds of a copy of such a message to each node in range holds of each copy
pub each_copy : {M : Message → Type 0} (P : Copy → Type 0) (C : Cast → Type 0) → Carries C M → (w : World) (x : ℕ) (c : Cast) → C c
    → ((id to : ℕ) (m : Message) → sets.contains (range w x) to ≡ true → M m → P (record { id = id; from = x; to = to; message = m })) → AllByRecursion P (copies w x c)
unfolding copies
each_copy P C carries w x Nothing is each = tt
each_copy P C carries w x (One y m) is each = copies_to_each P (range w x) x m (λ id to near. each id to m near (carries.one y m is)) _ w.next_copy (near_each w x (One y m))
each_copy P C carries w x (Many s m) is each = copies_to_each P (range w x) x m (λ id to near. each id to m near (carries.many s m is)) _ w.next_copy (near_each w x (Many s m))
each_copy P C carries w x (All m) is each = copies_to_each P (range w x) x m (λ id to near. each id to m near (carries.all m is)) _ w.next_copy (near_each w x (All m))

-- a cast has at most one copy for each receiver
pub copies_to_length : (tos : List ℕ) (id x : ℕ) (m : Message) → length (copies_to tos id x m) ≡ length tos
copies_to_length [] id x m = refl
copies_to_length (to ∷ tos) id x m = ap suc (copies_to_length tos (id + 1) x m)

pub copies_of_length : (c : Cast) (tos : List ℕ) (id x : ℕ) → length (copies_of c tos id x) ≤ length tos
copies_of_length Nothing tos id x = omega arith
copies_of_length (One y m) tos id x = let e = copies_to_length tos id x m in omega arith
copies_of_length (Many s m) tos id x = let e = copies_to_length tos id x m in omega arith
copies_of_length (All m) tos id x = let e = copies_to_length tos id x m in omega arith

pub copies_few : (w : World) (x : ℕ) (c : Cast) → length (copies w x c) ≤ length w.nodes
unfolding copies
copies_few w x c =
    let near = receivers (range w x) c in
    let few = copies_of_length c (members_below (length w.nodes) near) w.next_copy x in
    let tos = members_few (length w.nodes) near in
    omega arith

-- an item at the back of a queue takes no number
pub push_next : (w : World) (x : ℕ) (item : Item) → (push w x item).next_copy ≡ w.next_copy
unfolding push
push_next w x item = by (slice_get w.nodes x)
  where
    by : (o : Option Node) → (with_item w x o item).next_copy ≡ w.next_copy
    by None = refl
    by (Some n) = refl
