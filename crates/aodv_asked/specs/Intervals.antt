-- The ids of one originator, as rising intervals that neither overlap nor adjoin.
use Rattle.std.specs.Prelude.{◌≡◌, ◌<◌, ◌≤◌, ◌||◌, ◌&&◌, nat_lt, ℕ, zero, suc, ◌+◌, ◌-◌, Bool, true, false, List, [], ◌∷◌, Option, Some, None}
use Rattle.std.specs.Ordering.{nat_cmp}
use Rattle.std.specs.FinSet.{FinSet, empty, insert, contains}
use Rattle.std.specs.Coded.{Coded, code_by, coded×, coded_ℕ}
use Rattle.std.specs.FinSet as sets
use Rattle.std.proofs.Common.{refl}
use Rattle.aodv_asked.specs.declared.interval.Interval.{Interval}

-- a set of ids
abbrev pub IdSet : Type 0
IdSet = FinSet nat_cmp

-- the set with n more ids, from `first` on
unfoldable pub with_range : IdSet → ℕ → ℕ → IdSet
with_range ids first zero = ids
with_range ids first (suc n) = insert (with_range ids first n) (first + n)

-- the ids of the intervals
unfoldable pub ids_in : List Interval → IdSet
ids_in [] = empty
ids_in (v ∷ vs) = with_range (ids_in vs) v.first (v.last + 1 - v.first)

-- the intervals rise from `low` on, and any two of them have an id between them that is in neither
abbrev pub AreApart : ℕ → List Interval → Type 0
AreApart low [] = Unit {0}
AreApart low (v ∷ vs) = (low ≤ v.first) × (v.first ≤ v.last) × AreApart (v.last + 2) vs

-- what is seen of a set of ids: the ids, and how many more it has room for, whatever they are
pub record RoomyIds : Type 0 where
  pub ids : IdSet
  pub room : ℕ

-- a code, by which proofs tell such values apart
abbrev pub ids_code : Coded RoomyIds
ids_code =
    code_by (IdSet × ℕ) (coded× (sets.code coded_ℕ) coded_ℕ)
    (λ s. (s.ids, s.room)) (λ p. record { ids = p.0; room = p.1 }) (λ _. refl)

-- the id, the one after it or the one before it is there
abbrev pub is_near_in : IdSet → ℕ → Bool
is_near_in ids id =
    contains ids id || (contains ids (id + 1) || (nat_lt 0 id && contains ids (id - 1)))

-- the greatest id, if there is one
abbrev pub IsGreatest : IdSet → Option ℕ → Type 0
IsGreatest ids None = (id : ℕ) → contains ids id ≡ false
IsGreatest ids (Some greatest) =
    (contains ids greatest ≡ true) × ((id : ℕ) → greatest < id → contains ids id ≡ false)
