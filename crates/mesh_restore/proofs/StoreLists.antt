-- How a store grows by what waits for a destination above all others.
use Rattle.std.proofs.Common.{◌≡◌, ℕ, ◌+◌, ◌<◌, ◌≤◌, Bool, true, false, cond, ◌&&◌, eqb, eq-eqb, List, [], ◌∷◌, ◌++◌, length, Option, Some, None, refl, sym, ap, ◌∙◌, arith}
use Rattle.std.specs.Prelude.{nat_le, option_map}
use Rattle.std.specs.Ordering.{nat_cmp}
use Rattle.std.specs.Cmp.{nat_cmp_total, unsigned_tied}
use Rattle.std.specs.List.{AllByRecursion}
use Rattle.std.proofs.lemmas.Bool.{ne_eqb, lt-leb, le-leb}
use Rattle.std.proofs.lemmas.List.{map_push, length_push}
use Rattle.std.specs.FinMap as maps
use Rattle.std.specs.FinMap.{FinMap, find, nat_cmp-IsAntisymmetric}
use Rattle.aodv_model.specs.Cores.{Body, Waiting, Store, add, unset, with_body}
use Rattle.aodv_model.proofs.Stores.{need_unless, get-unset}
use Rattle.mesh_checkpoint.specs.declared.reading.WaitsHead.{WaitsHead}
use Rattle.mesh_checkpoint.specs.Views.{waits_behind}
use Rattle.mesh_checkpoint.specs.Formats.{◌>>=◌, only_if, get_times}
use Rattle.mesh_restore.specs.Reading.{Refuses, get_from}
use Rattle.mesh_restore.specs.declared.error.ReadError.{ReadError}
use Rattle.mesh_checkpoint.specs.Checkpoint as model
use Rattle.mesh_checkpoint.specs.Checkpoint.{Waits}
use Rattle.mesh_restore.specs.Kept.{IsFilled, IsKeptFrom}
use Rattle.mesh_checkpoint.proofs.Loop.{IsReadInTurn, begins, one_more, is_stopped, is_read}
use Rattle.mesh_checkpoint.specs.Points.{waits_of, waits_in}
use Rattle.mesh_restore.specs.Stores.{with_bodies, with_need, AreBelow}
use Rattle.mesh_restore.proofs.Listings.{listed_last, still_below, no_entries}
use Rattle.mesh_restore.proofs.LinksAndCopies.{still}

get-at : {X : Type 0} (m : FinMap nat_cmp X) (k q : ℕ) (v : X) → maps.get (maps.insert m k v) q ≡ cond (eqb q k) (Some v) (maps.get m q)
get-at m k q v = maps.get-insert nat_cmp_total m k v q ∙ ap (λ (b : Bool). cond b (Some v) (maps.get m q)) (unsigned_tied q k)

get-here : {X : Type 0} (m : FinMap nat_cmp X) (k : ℕ) (v : X) → maps.get (maps.insert m k v) k ≡ Some v
get-here m k v = get-at m k k v ∙ ap (λ (b : Bool). cond b (Some v) (maps.get m k)) (eq-eqb k k refl)

-- what is written last stands
twice : {X : Type 0} (b : Bool) (v w : X) (o : Option X) → cond b (Some w) (cond b (Some v) o) ≡ cond b (Some w) o
twice true v w o = refl
twice false v w o = refl

insert_twice : {X : Type 0} (m : FinMap nat_cmp X) (k : ℕ) (v w : X) → maps.insert (maps.insert m k v) k w ≡ maps.insert m k w
insert_twice m k v w = maps.same_map nat_cmp_total nat_cmp-IsAntisymmetric _ _ (λ q.
    get-at (maps.insert m k v) k q w ∙ ap (λ (o : Option _). cond (eqb q k) (Some w) o) (get-at m k q v) ∙ twice (eqb q k) v w (maps.get m q) ∙ sym (get-at m k q w))

-- a key from a number on is none of those below it
find_past : {X : Type 0} (low q : ℕ) (es : List (ℕ × X)) → AllByRecursion (λ e. e.0 < low) es → low ≤ q → find nat_cmp q es ≡ None
find_past low q [] below up = refl
find_past low q (e ∷ es) below up =
    rw (unsigned_tied q e.0, ne_eqb q e.0 (λ same. absurd (omega (arith, same, below.0, up)))) (find_past low q es below.1 up)

pub get_past : {X : Type 0} (m : FinMap nat_cmp X) (low q : ℕ) → AreBelow low m → low ≤ q → maps.get m q ≡ None
get_past m low q below up = maps.get-entries m q ∙ find_past low q (maps.entries m) below up

-- ---- data that join a store

abbrev waiting_with : Bool → Body → List Body → Waiting
waiting_with needs b bs = record { needs_request = needs; bodies = b ∷ bs }

pub one_added : (store : Store) (d : ℕ) (bs : List Body) (b : Body) → maps.get store d ≡ None → add (with_bodies store d bs) d b ≡ with_bodies store d (bs ++ b ∷ [])
unfolding add
one_added store d [] b none = ap (λ (o : Option Waiting). maps.insert store d (with_body o b)) none
one_added store d (x ∷ xs) b none =
    ap (λ (o : Option Waiting). maps.insert (maps.insert store d (waiting_with true x xs)) d (with_body o b)) (get-here store d (waiting_with true x xs))
    ∙ insert_twice store d (waiting_with true x xs) (waiting_with true x (xs ++ b ∷ []))

unset_at : (b : Bool) (x : Body) (xs : List Body) (o : Option Waiting) → option_map (need_unless b) (cond b (Some (waiting_with true x xs)) o) ≡ cond b (Some (waiting_with false x xs)) o
unset_at true x xs o = refl
unset_at false x xs None = refl
unset_at false x xs (Some s) = ap (λ (n : Bool). Some (record s { needs_request = n })) (and_true s.needs_request)
  where
    and_true : (n : Bool) → (n && true) ≡ n
    and_true true = refl
    and_true false = refl

pub one_unset : (store : Store) (d : ℕ) (b : Body) (bs : List Body) → unset (with_bodies store d (b ∷ bs)) d ≡ maps.insert store d (waiting_with false b bs)
one_unset store d b bs = maps.same_map nat_cmp_total nat_cmp-IsAntisymmetric _ _ (λ q.
    get-unset (maps.insert store d (waiting_with true b bs)) d q
    ∙ ap (option_map (need_unless (eqb q d))) (get-at store d q (waiting_with true b bs))
    ∙ unset_at (eqb q d) b bs (maps.get store q)
    ∙ sym (get-at store d q (waiting_with false b bs)))

pub no_waits : waits_in maps.empty ≡ []
unfolding waits_in
no_waits = rw (no_entries {X = Waiting} nat_cmp) refl

pub waits_last : (store : Store) (low d : ℕ) (w : Waiting) → AreBelow low store → low ≤ d → waits_in (maps.insert store d w) ≡ waits_in store ++ waits_of (d, w) ∷ []
unfolding waits_in
waits_last store low d w below up = rw (listed_last store low d w below up) (map_push waits_of (maps.entries store) (d, w))

-- i of count data were read and wait for d
pub record AreAdded (before : Store) (d count i : ℕ) (bytes : List ℕ) (store : Store) (rest : List ℕ) : Type 0 where
  pub found : List Body
  pub so_far : IsReadInTurn model.datum.get count i bytes found rest
  pub many : length found ≡ i
  pub stored : store ≡ with_bodies before d found

pub none_added : (before : Store) (d count : ℕ) (bytes : List ℕ) → AreAdded before d count 0 bytes before bytes
none_added before d count bytes = record { found = []; so_far = begins model.datum.get count bytes; many = refl; stored = refl }

pub one_more_added : (before : Store) (d count i : ℕ) (bytes : List ℕ) (store : Store) (rest : List ℕ) (b : Body) (behind : List ℕ) → AreBelow d before → i < count → model.datum.get rest ≡ Some (b, behind) → AreAdded before d count i bytes store rest
    → AreAdded before d count (i + 1) bytes (add store d b) behind
one_more_added before d count i bytes store rest b behind below lt h a = record {
  found = a.found ++ b ∷ [];
  so_far = one_more model.datum.get count i bytes a.found rest b behind lt h a.so_far;
  many = length_push a.found b ∙ ap (λ n. n + 1) a.many;
  stored = ap (λ (s : Store). add s d b) a.stored ∙ one_added before d a.found b (get_past before d d below (omega arith));
}

pub none_left : (before : Store) (d count i : ℕ) (bytes : List ℕ) (store : Store) (rest : List ℕ) → i < count → model.datum.get rest ≡ None → AreAdded before d count i bytes store rest → get_times model.datum.get count bytes ≡ None
none_left before d count i bytes store rest lt none a = is_stopped model.datum.get count i bytes a.found rest lt none a.so_far

pub all_added : (before : Store) (d count i : ℕ) (bytes : List ℕ) (store : Store) (rest : List ℕ) → count ≤ i → AreAdded before d count i bytes store rest → IsFilled before d count (get_times model.datum.get count bytes) store rest
all_added before d count i bytes store rest le a = record {
  found = a.found;
  read_is = is_read model.datum.get count i bytes a.found rest le a.so_far;
  many = omega (arith, a.many, le);
  stored = a.stored;
}

-- ---- what waits for one destination

abbrev waits_with : ℕ → Bool → List Body → Waits
waits_with d needs bs = record { dest = d; needs_request = needs; bodies = bs }

abbrev not_below : ℕ → Waits × List ℕ → Option (Waits × List ℕ)
not_below low x = only_if (nat_le low (x.0).dest) x

abbrev as_waits : ℕ → Bool → List Body × List ℕ → Option (Waits × List ℕ)
as_waits d needs y = Some (waits_with d needs y.0, y.1)

collapse : (d low : ℕ) (needs : Bool) (o : Option (List Body × List ℕ)) → nat_le low d ≡ true → (o >>= as_waits d needs >>= not_below low) ≡ (o >>= as_waits d needs)
collapse d low needs None up = refl
collapse d low needs (Some y) up = rw up refl

waits_at : (nodes low : ℕ) (h : WaitsHead) (bytes r : List ℕ) → (model.waits nodes).get bytes ≡ waits_behind h r → low ≤ h.dest → get_from (λ w. w.dest) (model.waits nodes).get low bytes ≡ waits_behind h r
waits_at nodes low h bytes r one up = rw one (collapse h.dest low h.needs_request (get_times model.datum.get h.data r) (le-leb _ _ up))

below_low : (d low : ℕ) (needs : Bool) (o : Option (List Body × List ℕ)) → nat_le low d ≡ false → (o >>= as_waits d needs >>= not_below low) ≡ None
below_low d low needs None down = refl
below_low d low needs (Some y) down = rw down refl

pub dest_below : (nodes low : ℕ) (h : WaitsHead) (bytes r : List ℕ) → (model.waits nodes).get bytes ≡ waits_behind h r → h.dest < low → get_from (λ w. w.dest) (model.waits nodes).get low bytes ≡ None
dest_below nodes low h bytes r one down = rw one (below_low h.dest low h.needs_request (get_times model.datum.get h.data r) (lt-leb _ _ down))

pub data_refused : (nodes low : ℕ) (h : WaitsHead) (bytes r : List ℕ) (e : ReadError) → (model.waits nodes).get bytes ≡ waits_behind h r → low ≤ h.dest → Refuses e (get_times model.datum.get h.data r) → Refuses e (get_from (λ w. w.dest) (model.waits nodes).get low bytes)
data_refused nodes low h bytes r e one up refused =
    rw (waits_at nodes low h bytes r one up) (still e (get_times model.datum.get h.data r) (as_waits h.dest h.needs_request) refused)

-- what is settled stands last
settled_last : (before : Store) (low d : ℕ) (needs : Bool) (bs : List Body) (filled after : Store) → AreBelow low before → low ≤ d → 1 ≤ length bs → filled ≡ with_bodies before d bs → after ≡ with_need filled d needs
    → (waits_in after ≡ waits_in before ++ waits_with d needs bs ∷ []) × AreBelow (d + 1) after
settled_last before low d needs [] filled after below up some is after_is = absurd (omega (arith, some))
settled_last before low d true (b ∷ bs) filled after below up some is after_is =
    rw (after_is, is) (waits_last before low d (waiting_with true b bs) below up, still_below before low d (waiting_with true b bs) below up)
settled_last before low d false (b ∷ bs) filled after below up some is after_is =
    rw (after_is, is, one_unset before d b bs) (waits_last before low d (waiting_with false b bs) below up, still_below before low d (waiting_with false b bs) below up)

pub kept : (nodes low : ℕ) (h : WaitsHead) (bytes r rest : List ℕ) (before filled after : Store) → AreBelow low before → low ≤ h.dest → 1 ≤ h.data → (model.waits nodes).get bytes ≡ waits_behind h r
    → IsFilled before h.dest h.data (get_times model.datum.get h.data r) filled rest → after ≡ with_need filled h.dest h.needs_request → IsKeptFrom (get_from (λ w. w.dest) (model.waits nodes).get low bytes) before after h.dest rest
kept nodes low h bytes r rest before filled after below up some one f after_is =
    let last = settled_last before low h.dest h.needs_request f.found filled after below up (omega (arith, some, f.many)) f.stored after_is in
    record {
      found = waits_with h.dest h.needs_request f.found;
      read_is = waits_at nodes low h bytes r one up ∙ ap (λ (o : Option (List Body × List ℕ)). o >>= as_waits h.dest h.needs_request) f.read_is;
      dest = refl;
      last = last.0;
      below = last.1;
    }
