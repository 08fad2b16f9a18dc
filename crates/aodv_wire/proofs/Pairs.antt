-- Pairs one after the other.
use Rattle.std.proofs.Common.{◌≡◌, ℕ, zero, suc, ◌+◌, ◌*◌, ◌/◌, ◌%◌, ◌^◌, ◌<◌, List, length, slice_get, drop, Some, refl, ap, ◌∙◌, arith}
use Rattle.byteorder.specs.Endian.{big_from}
use Rattle.aodv_wire.specs.Layout.{number_at, field_at}
use Rattle.aodv_wire.specs.RouteError.{pairs, addresses}
use Rattle.aodv_wire.proofs.Lines.{big_from-drop}

pub length_pairs : (n : ℕ) (b : List ℕ) → length (pairs n b) ≡ n
length_pairs zero b = refl
length_pairs (suc n) b = ap suc (length_pairs n (drop 8 b))

-- a line of the pairs behind the first
line_behind : (line later : ℕ) (b : List ℕ) → later ≡ line + 2 → number_at (drop 8 b) (field_at line 0 32) ≡ number_at b (field_at later 0 32)
line_behind line later b e =
    ap (λ (n : ℕ). n / 1 % 2 ^ 32) (big_from-drop 8 (4 * line) 4 b ∙ ap (λ (k : ℕ). big_from k 4 b) (omega arith))

-- pair k stands in lines 2 k and 2 k + 1
pub pair_at : (n : ℕ) (b : List ℕ) (k : ℕ) → k < n → slice_get (pairs n b) k ≡ Some (record { 0 = number_at b (field_at (2 * k) 0 32) }, number_at b (field_at (2 * k + 1) 0 32))
pair_at zero b k h = absurd (omega arith)
pair_at (suc n) b zero h = refl
pair_at (suc n) b (suc k) h =
    pair_at n (drop 8 b) k (omega arith)
    ∙ rw (line_behind (2 * k) (2 * suc k) b (omega arith), line_behind (2 * k + 1) (2 * suc k + 1) b (omega arith)) refl

pub address_at : (n : ℕ) (b : List ℕ) (k : ℕ) → k < n → slice_get (addresses (pairs n b)) k ≡ Some (record { 0 = number_at b (field_at (2 * k) 0 32) })
address_at zero b k h = absurd (omega arith)
address_at (suc n) b zero h = refl
address_at (suc n) b (suc k) h =
    address_at n (drop 8 b) k (omega arith)
    ∙ rw (line_behind (2 * k) (2 * suc k) b (omega arith)) refl
