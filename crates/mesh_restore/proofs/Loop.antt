-- Reading values one after another, as a loop does, where memory may be short.
use Rattle.std.proofs.Common.{◌≡◌, ℕ, suc, ◌-◌, ◌+◌, ◌<◌, List, [], ◌∷◌, ◌++◌, Option, Some, None, refl, sym, ◌∙◌, arith}
use Rattle.std.specs.Prelude.{nat_le}
use Rattle.mesh_checkpoint.specs.Formats.{◌>>=◌, only_if, get_rising, get_times}
use Rattle.mesh_restore.specs.Reading.{Refuses, get_from}
use Rattle.mesh_restore.specs.declared.error.ReadError.{ReadError}
use Rattle.mesh_restore.specs.declared.error.ReadError.TheVariants.{Spelling, NoMemory}
use Rattle.mesh_checkpoint.proofs.Loop.{with_front, regroup, IsReadSoFar, ends, IsReadInTurn, is_stopped}

-- what a reader answers that stops where what it reads in turn is refused
pub stops : {A : Type 0} (key : A → ℕ) (get : List ℕ → Option (A × List ℕ)) (count i low : ℕ) (bytes : List ℕ) (front : List A) (rest : List ℕ) (e : ReadError) → i < count → Refuses e (get rest)
    → IsReadSoFar key get count i low bytes front rest → Refuses e (get_rising key get count 0 bytes)
stops key get count i low bytes front rest Spelling lt none so_far = ends key get count i low bytes front rest lt none so_far
stops key get count i low bytes front rest NoMemory lt none so_far = tt

-- ---- the same, where what is read in turn is refused below that key

split : {A B : Type 0} (o : Option A) (f : A → Option A) (g : A → Option B) → (o >>= λ x. (f x >>= g)) ≡ ((o >>= f) >>= g)
split None f g = refl
split (Some x) f g = refl

next_of : {A : Type 0} (key : A → ℕ) (get : List ℕ → Option (A × List ℕ)) (m low : ℕ) (rest : List ℕ) → get_rising key get (suc m) low rest ≡ (get_from key get low rest >>= λ x. get_rising key get m (key x.0 + 1) x.1 >>= λ y. Some (x.0 ∷ y.0, y.1))
next_of key get m low rest = split (get rest) (λ x. only_if (nat_le low (key x.0)) x) (λ x. get_rising key get m (key x.0 + 1) x.1 >>= λ y. Some (x.0 ∷ y.0, y.1))

pub goes_on_from : {A : Type 0} (key : A → ℕ) (get : List ℕ → Option (A × List ℕ)) (count i low : ℕ) (bytes : List ℕ) (front : List A) (rest : List ℕ) (n : A) (behind : List ℕ) (above : ℕ) → i < count → get_from key get low rest ≡ Some (n, behind) → above ≡ key n + 1
    → IsReadSoFar key get count i low bytes front rest → IsReadSoFar key get count (i + 1) above bytes (front ++ n ∷ []) behind
goes_on_from key get count i low bytes front rest n behind above lt h next so_far =
    let k : count - i ≡ suc (count - (i + 1)) = omega arith in
    let one : with_front front (get_rising key get (count - i) low rest) ≡ with_front (front ++ n ∷ []) (get_rising key get (count - (i + 1)) (key n + 1) behind) =
    rw k (rw (next_of key get (count - (i + 1)) low rest) (rw h (regroup front n (get_rising key get (count - (i + 1)) (key n + 1) behind)))) in
    rw next (sym one ∙ so_far)

ends_from : {A : Type 0} (key : A → ℕ) (get : List ℕ → Option (A × List ℕ)) (count i low : ℕ) (bytes : List ℕ) (front : List A) (rest : List ℕ) → i < count → get_from key get low rest ≡ None
    → IsReadSoFar key get count i low bytes front rest → get_rising key get count 0 bytes ≡ None
ends_from key get count i low bytes front rest lt h so_far =
    let k : count - i ≡ suc (count - (i + 1)) = omega arith in
    let one : with_front front (get_rising key get (count - i) low rest) ≡ None = rw k (rw (next_of key get (count - (i + 1)) low rest) (rw h refl)) in
    sym so_far ∙ one

pub stops_from : {A : Type 0} (key : A → ℕ) (get : List ℕ → Option (A × List ℕ)) (count i low : ℕ) (bytes : List ℕ) (front : List A) (rest : List ℕ) (e : ReadError) → i < count → Refuses e (get_from key get low rest)
    → IsReadSoFar key get count i low bytes front rest → Refuses e (get_rising key get count 0 bytes)
stops_from key get count i low bytes front rest Spelling lt none so_far = ends_from key get count i low bytes front rest lt none so_far
stops_from key get count i low bytes front rest NoMemory lt none so_far = tt

pub stops_early : {A : Type 0} (get : List ℕ → Option (A × List ℕ)) (count i : ℕ) (bytes : List ℕ) (front : List A) (rest : List ℕ) (e : ReadError) → i < count → Refuses e (get rest)
    → IsReadInTurn get count i bytes front rest → Refuses e (get_times get count bytes)
stops_early get count i bytes front rest Spelling lt none so_far = is_stopped get count i bytes front rest lt none so_far
stops_early get count i bytes front rest NoMemory lt none so_far = tt
