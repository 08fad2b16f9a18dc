-- Whether two lists of bytes are equal.
use Rattle.std.proofs.Common.{◌≡◌, ◌≢◌, ◌<◌, ℕ, Bool, true, false, List, length, get_or, ap, sym, refl}
use Rattle.std.specs.Str.{bytes_eq}
use Rattle.std.proofs.lemmas.List.{ext_get_or}
use Rattle.std.proofs.lemmas.Slice.Eq.{bytes_eq-Decides}

are_other : (xs ys : List ℕ) → xs ≢ ys → false ≡ bytes_eq xs ys
are_other xs ys h = by_test (bytes_eq xs ys) refl
  where
    by_test : (b : Bool) → bytes_eq xs ys ≡ b → false ≡ bytes_eq xs ys
    by_test true e = absurd (h ((bytes_eq-Decides xs ys).0 e))
    by_test false e = sym e

-- lists of different lengths
pub other_length : (xs ys : List ℕ) → length xs ≢ length ys → false ≡ bytes_eq xs ys
other_length xs ys h = are_other xs ys (λ e. h (ap length e))

-- lists that differ at one index
pub other_byte : (xs ys : List ℕ) (k : ℕ) → get_or xs k 0 ≢ get_or ys k 0 → false ≡ bytes_eq xs ys
other_byte xs ys k h = are_other xs ys (λ e. h (ap (λ (l : List ℕ). get_or l k 0) e))

-- lists with the same bytes at all indices
pub same_bytes : (xs ys : List ℕ) → length xs ≡ length ys → ((k : ℕ) → k < length xs → get_or xs k 0 ≡ get_or ys k 0) → true ≡ bytes_eq xs ys
same_bytes xs ys e same = sym ((bytes_eq-Decides xs ys).1 (ext_get_or 0 xs ys e same))
