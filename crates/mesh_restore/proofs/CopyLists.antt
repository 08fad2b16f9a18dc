-- How the flight grows by a copy that comes last.
use Rattle.std.proofs.Common.{◌≡◌, ◌≢◌, ℕ, ◌+◌, ◌<◌, ◌≤◌, Bool, true, false, List, [], ◌∷◌, ◌++◌, Some, None, refl, ap, ◌∙◌, arith}
use Rattle.std.specs.Prelude.{◌&&◌}
use Rattle.std.specs.List.{AllByRecursion}
use Rattle.mesh_base.specs.declared.events.Flying.{Flying}
use Rattle.mesh_radio.specs.Copies.{AreBefore}
use Rattle.mesh_radio.specs.Radios.{RadioState, with_copy}
use Rattle.mesh_checkpoint.specs.Formats.{get_rising}
use Rattle.mesh_checkpoint.specs.Checkpoint as model
use Rattle.mesh_restore.specs.RadioParts.{IsFlown, AreCopiesRead}
use Rattle.mesh_restore.specs.Reading.{Refuses}
use Rattle.mesh_restore.specs.declared.error.ReadError.{ReadError}
use Rattle.mesh_restore.proofs.Listings.{all_weaker, all_push}
use Rattle.mesh_checkpoint.proofs.Loop.{IsReadSoFar, starts, goes_on, falls, is_done}
use Rattle.mesh_restore.proofs.Loop.{stops}

-- no copy is from a node to itself
abbrev AreApart : List Flying → Type 0
AreApart cs = AllByRecursion (λ c. c.from ≢ c.to) cs

pub all_but_last : {X : Type 0} (P : X → Type 0) (xs : List X) (y : X) → AllByRecursion P (xs ++ y ∷ []) → AllByRecursion P xs
all_but_last P [] y all = tt
all_but_last P (x ∷ xs) y all = (all.0, all_but_last P xs y all.1)

pub at_last : {X : Type 0} (P : X → Type 0) (xs : List X) (y : X) → AllByRecursion P (xs ++ y ∷ []) → P y
at_last P [] y all = all.0
at_last P (x ∷ xs) y all = at_last P xs y all.1

pub record AreFlownSoFar (nodes next count i low : ℕ) (bytes : List ℕ) (first r : RadioState) (apart : Bool) (rest : List ℕ) : Type 0 where
  pub found : List Flying
  pub so_far : IsReadSoFar (λ c. c.id) (model.copy nodes next).get count i low bytes found rest
  pub whole : apart ≡ true → r.flying ≡ found
  pub some_to_itself : apart ≡ false → ¬ (AllByRecursion (λ c. c.from ≢ c.to) found)
  pub before : AreBefore low r.flying
  pub others : r ≡ record first { flying = r.flying }

pub none_flown : (nodes next count : ℕ) (bytes : List ℕ) (first : RadioState) → first.flying ≡ [] → AreFlownSoFar nodes next count 0 0 bytes first first true bytes
none_flown nodes next count bytes first none = record {
  found = [];
  so_far = starts (λ c. c.id) (model.copy nodes next).get count bytes;
  whole = λ t. none;
  some_to_itself = λ f. absurd (apart f);
  before = rw none tt;
  others = refl;
}
  where
    apart : true ≡ false → ⊥
    apart h = cc

rises : (low id above : ℕ) (cs : List Flying) → AreBefore low cs → low ≤ id → above ≡ id + 1 → AreBefore above cs
rises low id above cs before up next = all_weaker (λ c. c.id < low) (λ c. c.id < above) (λ c lt. omega (arith, lt, up, next)) cs before

pub before_copy : (low id : ℕ) (cs : List Flying) → AreBefore low cs → low ≤ id → AreBefore id cs
before_copy low id cs before up = all_weaker (λ c. c.id < low) (λ c. c.id < id) (λ c lt. omega (arith, lt, up)) cs before

pub one_flown : (nodes next count i low : ℕ) (bytes : List ℕ) (first r s : RadioState) (apart between : Bool) (rest : List ℕ) (c : Flying) (behind : List ℕ) (above : ℕ) → i < count → (model.copy nodes next).get rest ≡ Some (c, behind) → low ≤ c.id → above ≡ c.id + 1 → IsFlown r s c between
    → AreFlownSoFar nodes next count i low bytes first r apart rest → AreFlownSoFar nodes next count (i + 1) above bytes first s (apart && between) behind
one_flown nodes next count i low bytes first r s true true rest c behind above lt h up more flown f = record {
  found = f.found ++ c ∷ [];
  so_far = goes_on (λ c. c.id) (model.copy nodes next).get count i low bytes f.found rest c behind above lt h up more f.so_far;
  whole = λ t. ap (λ (x : RadioState). x.flying) flown.1 ∙ ap (λ (cs : List Flying). cs ++ c ∷ []) (f.whole refl);
  some_to_itself = λ t. absurd (never t);
  before = rw flown.1 (all_push (λ c. c.id < above) r.flying c (rises low c.id above r.flying f.before up more) (omega (arith, more)));
  others = rw flown.1 (ap (λ (x : RadioState). with_copy x c) f.others);
}
  where
    never : true ≡ false → ⊥
    never h = cc
one_flown nodes next count i low bytes first r s false true rest c behind above lt h up more flown f = record {
  found = f.found ++ c ∷ [];
  so_far = goes_on (λ c. c.id) (model.copy nodes next).get count i low bytes f.found rest c behind above lt h up more f.so_far;
  whole = λ t. absurd (never t);
  some_to_itself = λ t all. f.some_to_itself refl (all_but_last (λ c. c.from ≢ c.to) f.found c all);
  before = rw flown.1 (all_push (λ c. c.id < above) r.flying c (rises low c.id above r.flying f.before up more) (omega (arith, more)));
  others = rw flown.1 (ap (λ (x : RadioState). with_copy x c) f.others);
}
  where
    never : false ≡ true → ⊥
    never h = cc
one_flown nodes next count i low bytes first r s true false rest c behind above lt h up more flown f = record {
  found = f.found ++ c ∷ [];
  so_far = goes_on (λ c. c.id) (model.copy nodes next).get count i low bytes f.found rest c behind above lt h up more f.so_far;
  whole = λ t. absurd (never t);
  some_to_itself = λ t all. at_last (λ c. c.from ≢ c.to) f.found c all flown.0;
  before = rw flown.1 (rises low c.id above r.flying f.before up more);
  others = rw flown.1 f.others;
}
  where
    never : false ≡ true → ⊥
    never h = cc
one_flown nodes next count i low bytes first r s false false rest c behind above lt h up more flown f = record {
  found = f.found ++ c ∷ [];
  so_far = goes_on (λ c. c.id) (model.copy nodes next).get count i low bytes f.found rest c behind above lt h up more f.so_far;
  whole = λ t. absurd (never t);
  some_to_itself = λ t all. at_last (λ c. c.from ≢ c.to) f.found c all flown.0;
  before = rw flown.1 (rises low c.id above r.flying f.before up more);
  others = rw flown.1 f.others;
}
  where
    never : false ≡ true → ⊥
    never h = cc

pub copies_refused : (nodes next count i low : ℕ) (bytes : List ℕ) (first r : RadioState) (apart : Bool) (rest : List ℕ) (e : ReadError) → i < count → Refuses e ((model.copy nodes next).get rest) → AreFlownSoFar nodes next count i low bytes first r apart rest
    → Refuses e (get_rising (λ c. c.id) (model.copy nodes next).get count 0 bytes)
copies_refused nodes next count i low bytes first r apart rest e lt refused f = stops (λ c. c.id) (model.copy nodes next).get count i low bytes f.found rest e lt refused f.so_far

pub copies_fall : (nodes next count i low : ℕ) (bytes : List ℕ) (first r : RadioState) (apart : Bool) (rest : List ℕ) (c : Flying) (behind : List ℕ) → i < count → (model.copy nodes next).get rest ≡ Some (c, behind) → c.id < low → AreFlownSoFar nodes next count i low bytes first r apart rest
    → get_rising (λ c. c.id) (model.copy nodes next).get count 0 bytes ≡ None
copies_fall nodes next count i low bytes first r apart rest c behind lt h down f = falls (λ c. c.id) (model.copy nodes next).get count i low bytes f.found rest c behind lt h down f.so_far

pub all_flown : (nodes next count i low : ℕ) (bytes : List ℕ) (first r : RadioState) (apart : Bool) (rest : List ℕ) → count ≤ i → AreFlownSoFar nodes next count i low bytes first r apart rest
    → AreCopiesRead (get_rising (λ c. c.id) (model.copy nodes next).get count 0 bytes) first r apart rest
all_flown nodes next count i low bytes first r apart rest le f = record {
  found = f.found;
  read_is = is_done (λ c. c.id) (model.copy nodes next).get count i low bytes f.found rest le f.so_far;
  whole = f.whole;
  some_to_itself = f.some_to_itself;
  others = f.others;
}
