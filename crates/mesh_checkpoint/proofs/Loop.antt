-- Reading values one after another, as a loop does, and passing over parts.
use Rattle.std.proofs.Common.{◌≡◌, ℕ, suc, ◌-◌, ◌+◌, ◌≤◌, ◌<◌, List, [], ◌∷◌, ◌++◌, length, Option, Some, None, refl, sym, ap, ◌∙◌, append_assoc, arith}
use Rattle.std.specs.Prelude.{nat_le}
use Rattle.std.specs.List.{sum_by}
use Rattle.std.proofs.lemmas.Bool.{lt-leb, le-leb}
use Rattle.std.proofs.lemmas.List.{append-nil}
use Rattle.std.proofs.lemmas.List.Sums.{sum_by_push}
use Rattle.mesh_checkpoint.specs.Formats.{◌>>=◌, Format, get_rising, get_times, rising, times}
use Rattle.mesh_checkpoint.specs.Reading.{IsPassed, IsKeyed}

-- what was read before, and what is still read
abbrev pub with_front : {A : Type 0} → List A → Option (List A × List ℕ) → Option (List A × List ℕ)
with_front front read = read >>= λ x. Some (front ++ x.0, x.1)

pub regroup : {A : Type 0} (front : List A) (n : A) (read : Option (List A × List ℕ)) → with_front front (read >>= λ x. Some (n ∷ x.0, x.1)) ≡ with_front (front ++ n ∷ []) read
regroup front n (Some x) = ap (λ ns. Some (ns, x.1)) (simp append_assoc)
regroup front n None = refl

pub nothing_yet : {A : Type 0} (read : Option (List A × List ℕ)) → with_front [] read ≡ read
nothing_yet None = refl
nothing_yet (Some x) = refl

-- ---- values whose keys rise: i of count were read, and the next has a key of at least `low`

abbrev pub IsReadSoFar : {A : Type 0} → (A → ℕ) → (List ℕ → Option (A × List ℕ)) → (count i low : ℕ) → List ℕ → List A → List ℕ → Type 0
IsReadSoFar key get count i low bytes front rest = with_front front (get_rising key get (count - i) low rest) ≡ get_rising key get count 0 bytes

pub starts : {A : Type 0} (key : A → ℕ) (get : List ℕ → Option (A × List ℕ)) (count : ℕ) (bytes : List ℕ) → IsReadSoFar key get count 0 0 bytes [] bytes
starts key get count bytes = let k : count - 0 ≡ count = omega arith in rw k (nothing_yet (get_rising key get count 0 bytes))

pub goes_on : {A : Type 0} (key : A → ℕ) (get : List ℕ → Option (A × List ℕ)) (count i low : ℕ) (bytes : List ℕ) (front : List A) (rest : List ℕ) (n : A) (behind : List ℕ) (above : ℕ) → i < count → get rest ≡ Some (n, behind) → low ≤ key n → above ≡ key n + 1
    → IsReadSoFar key get count i low bytes front rest → IsReadSoFar key get count (i + 1) above bytes (front ++ n ∷ []) behind
goes_on key get count i low bytes front rest n behind above lt h up next so_far =
    let k : count - i ≡ suc (count - (i + 1)) = omega arith in
    let one : with_front front (get_rising key get (count - i) low rest) ≡ with_front (front ++ n ∷ []) (get_rising key get (count - (i + 1)) (key n + 1) behind) = rw (k, h) (rw (le-leb _ _ up) (regroup front n (get_rising key get (count - (i + 1)) (key n + 1) behind))) in
    rw next (sym one ∙ so_far)

pub ends : {A : Type 0} (key : A → ℕ) (get : List ℕ → Option (A × List ℕ)) (count i low : ℕ) (bytes : List ℕ) (front : List A) (rest : List ℕ) → i < count → get rest ≡ None
    → IsReadSoFar key get count i low bytes front rest → get_rising key get count 0 bytes ≡ None
ends key get count i low bytes front rest lt h so_far =
    let k : count - i ≡ suc (count - (i + 1)) = omega arith in
    let one : with_front front (get_rising key get (count - i) low rest) ≡ None = rw (k, h) refl in
    sym so_far ∙ one

pub falls : {A : Type 0} (key : A → ℕ) (get : List ℕ → Option (A × List ℕ)) (count i low : ℕ) (bytes : List ℕ) (front : List A) (rest : List ℕ) (n : A) (behind : List ℕ) → i < count → get rest ≡ Some (n, behind) → key n < low
    → IsReadSoFar key get count i low bytes front rest → get_rising key get count 0 bytes ≡ None
falls key get count i low bytes front rest n behind lt h down so_far =
    let k : count - i ≡ suc (count - (i + 1)) = omega arith in
    let one : with_front front (get_rising key get (count - i) low rest) ≡ None = rw (k, h) (rw (lt-leb _ _ down) refl) in
    sym so_far ∙ one

pub is_done : {A : Type 0} (key : A → ℕ) (get : List ℕ → Option (A × List ℕ)) (count i low : ℕ) (bytes : List ℕ) (front : List A) (rest : List ℕ) → count ≤ i → IsReadSoFar key get count i low bytes front rest → get_rising key get count 0 bytes ≡ Some (front, rest)
is_done key get count i low bytes front rest le so_far =
    let k : count - i ≡ 0 = omega arith in
    let one : with_front front (get_rising key get (count - i) low rest) ≡ Some (front, rest) = rw k (ap (λ ns. Some (ns, rest)) (append-nil front)) in
    sym so_far ∙ one

-- ---- values that need not rise

abbrev pub IsReadInTurn : {A : Type 0} → (List ℕ → Option (A × List ℕ)) → (count i : ℕ) → List ℕ → List A → List ℕ → Type 0
IsReadInTurn get count i bytes front rest = with_front front (get_times get (count - i) rest) ≡ get_times get count bytes

pub begins : {A : Type 0} (get : List ℕ → Option (A × List ℕ)) (count : ℕ) (bytes : List ℕ) → IsReadInTurn get count 0 bytes [] bytes
begins get count bytes = let k : count - 0 ≡ count = omega arith in rw k (nothing_yet (get_times get count bytes))

pub one_more : {A : Type 0} (get : List ℕ → Option (A × List ℕ)) (count i : ℕ) (bytes : List ℕ) (front : List A) (rest : List ℕ) (n : A) (behind : List ℕ) → i < count → get rest ≡ Some (n, behind)
    → IsReadInTurn get count i bytes front rest → IsReadInTurn get count (i + 1) bytes (front ++ n ∷ []) behind
one_more get count i bytes front rest n behind lt h so_far =
    let k : count - i ≡ suc (count - (i + 1)) = omega arith in
    let one : with_front front (get_times get (count - i) rest) ≡ with_front (front ++ n ∷ []) (get_times get (count - (i + 1)) behind) = rw (k, h) (regroup front n (get_times get (count - (i + 1)) behind)) in
    sym one ∙ so_far

pub is_stopped : {A : Type 0} (get : List ℕ → Option (A × List ℕ)) (count i : ℕ) (bytes : List ℕ) (front : List A) (rest : List ℕ) → i < count → get rest ≡ None
    → IsReadInTurn get count i bytes front rest → get_times get count bytes ≡ None
is_stopped get count i bytes front rest lt h so_far =
    let k : count - i ≡ suc (count - (i + 1)) = omega arith in
    let one : with_front front (get_times get (count - i) rest) ≡ None = rw (k, h) refl in
    sym so_far ∙ one

pub is_read : {A : Type 0} (get : List ℕ → Option (A × List ℕ)) (count i : ℕ) (bytes : List ℕ) (front : List A) (rest : List ℕ) → count ≤ i → IsReadInTurn get count i bytes front rest → get_times get count bytes ≡ Some (front, rest)
is_read get count i bytes front rest le so_far =
    let k : count - i ≡ 0 = omega arith in
    let one : with_front front (get_times get (count - i) rest) ≡ Some (front, rest) = rw k (ap (λ ns. Some (ns, rest)) (append-nil front)) in
    sym so_far ∙ one

-- ---- parts that are passed over

more_data : {A : Type 0} (amount : A → ℕ) (front : List A) (a : A) (sum n : ℕ) → sum_by amount front ≡ sum → amount a ≡ n → sum_by amount (front ++ a ∷ []) ≡ sum + n
more_data amount front a sum n so_far this = omega (arith, sum_by_push amount front a, so_far, this)

-- i of the parts were passed over, and the next has a key of at least `low`
pub record ArePassedRising {A : Type 0} (key amount : A → ℕ) (a : Format A) (count i low : ℕ) (bytes : List ℕ) (sum : ℕ) (rest : List ℕ) : Type 0 where
  pub front : List A
  pub so_far : IsReadSoFar key a.get count i low bytes front rest
  pub sum_is : sum_by amount front ≡ sum
  pub few : sum + length rest ≤ length bytes

pub none_passed : {A : Type 0} (key amount : A → ℕ) (a : Format A) (count : ℕ) (bytes : List ℕ) → ArePassedRising key amount a count 0 0 bytes 0 bytes
none_passed key amount a count bytes = record { front = []; so_far = starts key a.get count bytes; sum_is = refl; few = omega arith }

pub one_passed : {A : Type 0} (key amount : A → ℕ) (a : Format A) (count i low : ℕ) (bytes : List ℕ) (sum : ℕ) (rest : List ℕ) (k n : ℕ) (behind : List ℕ) (above : ℕ) → i < count → ArePassedRising key amount a count i low bytes sum rest → IsKeyed a key amount rest k n behind → low ≤ k → above ≡ k + 1
    → ArePassedRising key amount a count (i + 1) above bytes (sum + n) behind
one_passed key amount a count i low bytes sum rest k n behind above lt p one up next =
    let v = (one.passed).value in
    record {
      front = p.front ++ v ∷ [];
      so_far = goes_on key a.get count i low bytes p.front rest v behind above lt (one.passed).read (omega (arith, up, one.same)) (omega (arith, next, one.same)) p.so_far;
      sum_is = more_data amount p.front v sum n p.sum_is (one.passed).count;
      few = omega (arith, p.few, (one.passed).few);
    }

-- the next isn't there
pub not_there : {A : Type 0} (key amount : A → ℕ) (a : Format A) (count i low : ℕ) (bytes : List ℕ) (sum : ℕ) (rest : List ℕ) → i < count → ArePassedRising key amount a count i low bytes sum rest → a.get rest ≡ None
    → get_rising key a.get count 0 bytes ≡ None
not_there key amount a count i low bytes sum rest lt p none = ends key a.get count i low bytes p.front rest lt none p.so_far

-- the next has a lesser key
pub not_rising : {A : Type 0} (key amount : A → ℕ) (a : Format A) (count i low : ℕ) (bytes : List ℕ) (sum : ℕ) (rest : List ℕ) (k n : ℕ) (behind : List ℕ) → i < count → ArePassedRising key amount a count i low bytes sum rest → IsKeyed a key amount rest k n behind → k < low
    → get_rising key a.get count 0 bytes ≡ None
not_rising key amount a count i low bytes sum rest k n behind lt p one down =
    falls key a.get count i low bytes p.front rest (one.passed).value behind lt (one.passed).read (omega (arith, down, one.same)) p.so_far

pub all_rising : {A : Type 0} (key amount : A → ℕ) (a : Format A) (count i low : ℕ) (bytes : List ℕ) (sum : ℕ) (rest : List ℕ) → count ≤ i → ArePassedRising key amount a count i low bytes sum rest → IsPassed (rising key a count) (sum_by amount) bytes sum rest
all_rising key amount a count i low bytes sum rest le p = record { value = p.front; read = is_done key a.get count i low bytes p.front rest le p.so_far; count = p.sum_is; few = p.few }

-- the same of parts that need not rise
pub record ArePassed {A : Type 0} (amount : A → ℕ) (a : Format A) (count i : ℕ) (bytes : List ℕ) (sum : ℕ) (rest : List ℕ) : Type 0 where
  pub front : List A
  pub so_far : IsReadInTurn a.get count i bytes front rest
  pub sum_is : sum_by amount front ≡ sum
  pub few : sum + length rest ≤ length bytes

pub none_yet : {A : Type 0} (amount : A → ℕ) (a : Format A) (count : ℕ) (bytes : List ℕ) → ArePassed amount a count 0 bytes 0 bytes
none_yet amount a count bytes = record { front = []; so_far = begins a.get count bytes; sum_is = refl; few = omega arith }

pub next_passed : {A : Type 0} (amount : A → ℕ) (a : Format A) (count i : ℕ) (bytes : List ℕ) (sum : ℕ) (rest : List ℕ) (n : ℕ) (behind : List ℕ) → i < count → ArePassed amount a count i bytes sum rest → IsPassed a amount rest n behind
    → ArePassed amount a count (i + 1) bytes (sum + n) behind
next_passed amount a count i bytes sum rest n behind lt p one = record {
  front = p.front ++ one.value ∷ [];
  so_far = one_more a.get count i bytes p.front rest one.value behind lt one.read p.so_far;
  sum_is = more_data amount p.front one.value sum n p.sum_is one.count;
  few = omega (arith, p.few, one.few);
}

pub no_more : {A : Type 0} (amount : A → ℕ) (a : Format A) (count i : ℕ) (bytes : List ℕ) (sum : ℕ) (rest : List ℕ) → i < count → ArePassed amount a count i bytes sum rest → a.get rest ≡ None
    → get_times a.get count bytes ≡ None
no_more amount a count i bytes sum rest lt p none = is_stopped a.get count i bytes p.front rest lt none p.so_far

pub all_passed : {A : Type 0} (amount : A → ℕ) (a : Format A) (count i : ℕ) (bytes : List ℕ) (sum : ℕ) (rest : List ℕ) → count ≤ i → ArePassed amount a count i bytes sum rest → IsPassed (times a count) (sum_by amount) bytes sum rest
all_passed amount a count i bytes sum rest le p = record { value = p.front; read = is_read a.get count i bytes p.front rest le p.so_far; count = p.sum_is; few = p.few }
