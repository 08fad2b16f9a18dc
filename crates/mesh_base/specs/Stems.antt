-- The first three numbers of an address, kept in their written form.
use Rattle.std.specs.Prelude.{◌≡◌, ◌<◌, ◌≤◌, ◌^◌, ℕ, ◌/◌, ◌%◌, List, [], ◌∷◌, ◌++◌, take}
use Rattle.std.specs.Fmt.{decimal}

-- these numbers, each with a dot, from the address divided by 256
abbrev pub stem_of : ℕ → List ℕ
stem_of high =
    decimal (high / 65536) ++ 46 ∷ decimal (high / 256 % 256) ++ 46 ∷ decimal (high % 256)
    ++ 46 ∷ []

-- the first three numbers of an address are the first `width` cells of a chunk
pub record IsStem (high : ℕ) (cells : List ℕ) (width : ℕ) : Type 0 where
  pub text : take width cells ≡ stem_of high
  pub some : 6 ≤ width
  pub short : width ≤ 12
  pub octets : high < 2 ^ 24
