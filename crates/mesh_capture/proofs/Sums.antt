-- Sums in ones' complement.
use Rattle.std.proofs.Common.{◌≡◌, ℕ, ◌+◌, ◌-◌, ◌*◌, ◌%◌, ◌<◌, ◌≤◌, List, [], ◌∷◌, length, refl, sym, ap, ◌∙◌, arith}
use Rattle.std.specs.Prelude.{zero, suc, slice_index, drop}
use Rattle.mesh_capture.specs.Frames.{carry, words_sum, sent_checksum}

pub carried_is : (n : ℕ) → 1 ≤ n → carry n ≡ 1 + (n - 1) % 65535
carried_is zero h = absurd (omega arith)
carried_is (suc n) h =
    let same : n ≡ suc n - 1 = omega arith in
    let rest : n % 65535 ≡ (suc n - 1) % 65535 = ap (λ k. k % 65535) same in
    let e : suc (n % 65535) ≡ 1 + (suc n - 1) % 65535 = omega (arith, rest) in e

-- a sum with the checksum of what it sums
pub checked : (n : ℕ) → 1 ≤ n → carry (n + (65535 - carry n)) ≡ 65535
checked n h =
    let c : carry n ≡ 1 + (n - 1) % 65535 = carried_is n h in
    carried_is (n + (65535 - carry n)) (omega arith) ∙ rw c (omega arith)

pub checked_sent : (n : ℕ) → 1 ≤ n → carry (n + sent_checksum (65535 - carry n)) ≡ 65535
checked_sent n h = by_sum (65535 - carry n) refl
  where
    by_sum : (s : ℕ) → 65535 - carry n ≡ s → carry (n + sent_checksum s) ≡ 65535
    by_sum zero e =
        let c : carry n ≡ 1 + (n - 1) % 65535 = carried_is n h in
        carried_is (n + 65535) (omega arith) ∙ omega (arith, c)
    by_sum (suc s) e = ap (λ k. carry (n + k)) (sym e) ∙ checked n h

-- ---- the words of some bytes

pub sum_two : (bytes : List ℕ) → 2 ≤ length bytes → words_sum bytes ≡ 256 * slice_index bytes 0 + slice_index bytes 1 + words_sum (drop 2 bytes)
unfolding words_sum
sum_two [] h = absurd (omega arith)
sum_two (a ∷ []) h = absurd (omega arith)
sum_two (a ∷ b ∷ bytes) h = refl

pub sum_one : (bytes : List ℕ) → length bytes < 2 → 1 ≤ length bytes → words_sum bytes ≡ 256 * slice_index bytes 0
unfolding words_sum
sum_one [] h k = absurd (omega arith)
sum_one (a ∷ []) h k = refl
sum_one (a ∷ b ∷ bytes) h k = absurd (omega arith)

pub sum_none : (bytes : List ℕ) → length bytes ≡ 0 → words_sum bytes ≡ 0
unfolding words_sum
sum_none [] h = refl
sum_none (a ∷ bytes) h = absurd (omega arith)
