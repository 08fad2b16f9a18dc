-- The copies of a cast.
use Rattle.std.proofs.Common.{◌≡◌, ◌≢◌, ◌<◌, ◌≤◌, ℕ, suc, ◌+◌, ◌-◌, true, false, List, [], ◌∷◌, ◌++◌, length, Option, Some, None, refl, sym, ap, ◌∙◌, append_assoc, arith}
use Rattle.std.specs.List.{AllByRecursion}
use Rattle.std.specs.FinSet.{contains}
use Rattle.std.proofs.lemmas.List.{length_push}
use Rattle.mesh_base.specs.Members.{NodeIds, members_below}
use Rattle.mesh_base.proofs.Ranks.{members-all}
use Rattle.mesh_base.specs.declared.events.Flying.{Flying}
use Rattle.mesh_radio.specs.Copies.{copies_to, longest_packet, IsBetween, IsPacketLong}
use Rattle.mesh_radio.specs.Radios.{with_double}
use Rattle.mesh_radio.specs.Kept.{Flights, Graph, with_flights, with_second, radio_of}

-- ---- the copies

copies_to-push : (tos : List ℕ) (to id from : ℕ) (bytes : List ℕ) → copies_to (tos ++ to ∷ []) id from bytes ≡ copies_to tos id from bytes ++ record { id = id + length tos; from = from; to = to; bytes = bytes } ∷ []
copies_to-push [] to id from bytes = let same : id ≡ id + 0 = omega arith in λ i. record { id = same i; from = from; to = to; bytes = bytes } ∷ []
copies_to-push (t ∷ tos) to id from bytes =
    let same : id + 1 + length tos ≡ id + suc (length tos) = omega arith in
    ap (λ (fs : List Flying). record { id = id; from = from; to = t; bytes = bytes } ∷ fs) (copies_to-push tos to (id + 1) from bytes
    ∙ ap (λ (n : ℕ). copies_to tos (id + 1) from bytes ++ record { id = n; from = from; to = to; bytes = bytes } ∷ []) same)

-- one copy more
pub with_flights-push : (a : Flights) (from to : ℕ) (bytes tos : List ℕ) →
    record (with_flights a from bytes tos) { flying = (with_flights a from bytes tos).flying ++ record { id = (with_flights a from bytes tos).next_copy; from = from; to = to; bytes = bytes } ∷ []; next_copy = (with_flights a from bytes tos).next_copy + 1; room = (with_flights a from bytes tos).room - 1 }
    ≡ with_flights a from bytes (tos ++ to ∷ [])
with_flights-push a from to bytes tos =
    let len = length_push tos to in
    let next : a.next_copy + length tos + 1 ≡ a.next_copy + length (tos ++ to ∷ []) = omega arith in
    let room : a.room - length tos - 1 ≡ a.room - length (tos ++ to ∷ []) = omega arith in
    let flying = append_assoc a.flying (copies_to tos a.next_copy from bytes) (record { id = a.next_copy + length tos; from = from; to = to; bytes = bytes } ∷ [])
    ∙ ap (λ (fs : List Flying). a.flying ++ fs) (sym (copies_to-push tos to a.next_copy from bytes)) in
    λ i. record { flying = flying i; next_copy = next i; room = room i; most = a.most }

-- no copy
pub with_flights-none : (a : Flights) (from : ℕ) (bytes : List ℕ) → a ≡ with_flights a from bytes []
with_flights-none a from bytes =
    let flying = nil a.flying in
    let next : a.next_copy ≡ a.next_copy + 0 = omega arith in
    let room : a.room ≡ a.room - 0 = omega arith in
    λ i. record { flying = flying i; next_copy = next i; room = room i; most = a.most }
  where
    nil : (fs : List Flying) → fs ≡ fs ++ []
    nil [] = refl
    nil (f ∷ fs) = ap (λ (gs : List Flying). f ∷ gs) (nil fs)

-- each copy is between two nodes
copies-between : (size : ℕ) (tos : List ℕ) (id from : ℕ) (bytes : List ℕ) → from < size → AllByRecursion (λ q. (q < size) × (from ≢ q)) tos → AllByRecursion (IsBetween size) (copies_to tos id from bytes)
copies-between size [] id from bytes lt all = tt
copies-between size (to ∷ tos) id from bytes lt all = ((lt, all.0.0, all.0.1), copies-between size tos (id + 1) from bytes lt all.1)

all-append : (P : Flying → Type 0) (xs ys : List Flying) → AllByRecursion P xs → AllByRecursion P ys → AllByRecursion P (xs ++ ys)
all-append P [] ys all more = more
all-append P (x ∷ xs) ys all more = (all.0, all-append P xs ys all.1 more)

pub cast-between : (size : ℕ) (a : Flights) (from : ℕ) (bytes : List ℕ) (n : ℕ) (s : NodeIds) → AllByRecursion (IsBetween size) a.flying → from < size → ((q : ℕ) → contains s q ≡ true → q < size) → contains s from ≡ false
    → AllByRecursion (IsBetween size) (with_flights a from bytes (members_below n s)).flying
cast-between size a from bytes n s all lt below apart =
    all-append (IsBetween size) a.flying (copies_to (members_below n s) a.next_copy from bytes) all
    (copies-between size (members_below n s) a.next_copy from bytes lt
    (members-all (λ q. (q < size) × (from ≢ q)) n s (λ q is. (below q is, λ e. let same : contains s from ≡ contains s q = ap (contains s) e in cc))))

-- each has the packet of the cast
copies-long : (tos : List ℕ) (id from : ℕ) (bytes : List ℕ) → length bytes ≤ longest_packet → AllByRecursion IsPacketLong (copies_to tos id from bytes)
copies-long [] id from bytes le = tt
copies-long (to ∷ tos) id from bytes le = (le, copies-long tos (id + 1) from bytes le)

pub cast-long : (a : Flights) (from : ℕ) (bytes tos : List ℕ) → AllByRecursion IsPacketLong a.flying → length bytes ≤ longest_packet → AllByRecursion IsPacketLong (with_flights a from bytes tos).flying
cast-long a from bytes tos all le = all-append IsPacketLong a.flying (copies_to tos a.next_copy from bytes) all (copies-long tos a.next_copy from bytes le)

pub copies_to-length : (tos : List ℕ) (id from : ℕ) (bytes : List ℕ) → length (copies_to tos id from bytes) ≡ length tos
copies_to-length [] id from bytes = refl
copies_to-length (to ∷ tos) id from bytes = let rest = copies_to-length tos (id + 1) from bytes in omega arith

-- ---- a second copy

pub second-all : (P : Flying → Type 0) (a : Flights) (o : Option Flying) → ((f : Flying) → o ≡ Some f → P (record f { id = a.next_copy })) → AllByRecursion P a.flying → AllByRecursion P (with_second a o).flying
second-all P a None one all = all
second-all P a (Some f) one all = all-append P a.flying (record f { id = a.next_copy } ∷ []) all (one f refl, tt)

pub second-seen : (links ever : Graph) (a : Flights) (o : Option Flying) → radio_of links ever (with_second a o) ≡ with_double (radio_of links ever a) o
second-seen links ever a None = refl
second-seen links ever a (Some f) = refl
