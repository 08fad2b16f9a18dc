-- Part of what the headline says.
-- A set of nodes, as the bits of four words of 64 bits, the lowest first. A node is an index below
-- 256.
use Rattle.std.specs.Prelude.{◌≡◌, ◌<◌, ◌≤◌, ◌==◌, ℕ, zero, suc, ◌+◌, ◌*◌, ◌/◌, ◌%◌, ◌^◌, true, false, if◌then◌else◌, List, [], ◌∷◌, ◌++◌, length, slice_index, Option, Some, None}
use Rattle.std.specs.Ordering.{nat_cmp}
use Rattle.std.specs.Int.{bit_at}
use Rattle.std.specs.Int.RustNames.{count_ones}
use Rattle.std.specs.FinSet.{FinSet, empty, insert, contains}

abbrev pub NodeIds : Type 0
NodeIds = FinSet nat_cmp

-- the number whose digits to the base 2 ^ 64 are the words
abbrev pub number_of : List ℕ → ℕ
number_of [] = 0
number_of (w ∷ ws) = number_of ws * 2 ^ 64 + w

-- the indices below k at which the number has a bit
unfoldable pub bits_below : ℕ → ℕ → NodeIds
bits_below zero n = empty
bits_below (suc k) n = if bit_at n k == 1 then insert (bits_below k n) k else bits_below k n

-- the set that the words stand for
unfoldable pub members : List ℕ → NodeIds
members ws = bits_below 256 (number_of ws)

-- the number below 2 ^ k with the bits of the set
unfoldable pub number_below : ℕ → NodeIds → ℕ
number_below zero s = 0
number_below (suc k) s = (if contains s k then 1 else 0) * 2 ^ k + number_below k s

-- the four words of a set
abbrev pub words_of : NodeIds → List ℕ
words_of s =
    let n = number_below 256 s in
    n % 2 ^ 64 ∷ n / 2 ^ 64 % 2 ^ 64 ∷ n / 2 ^ 128 % 2 ^ 64 ∷ n / 2 ^ 192 % 2 ^ 64 ∷ []

pub record AreWords (ws : List ℕ) : Type 0 where
  pub four : length ws ≡ 4
  pub fit : (i : ℕ) → slice_index ws i < 2 ^ 64

-- the members of a set that are below n, in ascending order
unfoldable pub members_below : ℕ → NodeIds → List ℕ
members_below zero s = []
members_below (suc n) s = if contains s n then members_below n s ++ n ∷ [] else members_below n s

-- all members of a set, in ascending order
abbrev pub member_list : NodeIds → List ℕ
member_list s = members_below 256 s

-- each member of the first set is a member of the second
abbrev pub AreAmong : NodeIds → NodeIds → Type 0
AreAmong s t = (q : ℕ) → contains s q ≡ true → contains t q ≡ true

-- the rank of a node: how many members are below it
abbrev pub rank : NodeIds → ℕ → ℕ
rank s i = length (members_below i s)

-- the least member that is not below i
abbrev pub IsLeastFrom : NodeIds → ℕ → Option ℕ → Type 0
IsLeastFrom s i None = (q : ℕ) → i ≤ q → contains s q ≡ false
IsLeastFrom s i (Some m) =
    (i ≤ m) × (contains s m ≡ true) × ((q : ℕ) → i ≤ q → q < m → contains s q ≡ false)

-- the least index from i on at which the word has a bit
abbrev pub IsLeastBit : ℕ → ℕ → Option ℕ → Type 0
IsLeastBit w i None = (q : ℕ) → i ≤ q → bit_at w q ≡ 0
IsLeastBit w i (Some m) =
    (i ≤ m) × (m < 64) × (bit_at w m ≡ 1) × ((q : ℕ) → i ≤ q → q < m → bit_at w q ≡ 0)

-- the word has a bit at this index, and k bits below it
abbrev pub IsNthBit : ℕ → ℕ → ℕ → Type 0
IsNthBit w k index = (index < 64) × (bit_at w index ≡ 1) × (count_ones (w % 2 ^ index) ≡ k)
