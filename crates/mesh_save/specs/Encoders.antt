-- What an encoder has taken between a state and a later one.
use Rattle.std.specs.Prelude.{◌≡◌, ◌≤◌, ℕ, ◌+◌, ◌-◌, ◌^◌, Bool, true, false, List, ◌++◌, length, min, Option}
use Rattle.std.specs.Io.KnownBytes.{Appends}
use Rattle.mesh_io.specs.Cause.{Rose}
use Rattle.mesh_io.specs.Puts.{AppendsPrefix}

-- the greatest number of 64 bits
abbrev pub most_counted : ℕ
most_counted = 2 ^ 64 - 1

-- the bytes of the text were counted too, up to the greatest number of 64 bits
abbrev pub HasMeasured : ℕ → List ℕ → ℕ → Type 0
HasMeasured before text now = min now most_counted ≡ min (before + length text) most_counted

-- what was gathered and the text were handed on to a sink, except for what is still gathered
pub record HasFlushed (before now : Option (List ℕ)) (gathered left text : List ℕ) : Type 0 where
  pub handed : List ℕ
  pub whole : gathered ++ text ≡ handed ++ left
  pub grown : Appends before now handed

-- a count of faults rose
abbrev pub HasFailed : ℕ → ℕ → Type 0
HasFailed before now = (before ≤ now) × Rose before now

-- a sink, given by its bytes, if they are known, and its count of faults, took what was gathered
-- and the text, except for what is still gathered. If it had failed before, it took nothing more;
-- if it failed now, it took a prefix
abbrev pub HasWritten : (failed fails : Bool) (before now : Option (List ℕ)) (m n : ℕ)
    (gathered left text : List ℕ) → Type 0
HasWritten true fails before now m n gathered left text =
    (fails ≡ true) × (now ≡ before) × (n ≡ m)
HasWritten false false before now m n gathered left text =
    HasFlushed before now gathered left text × (n ≡ m)
HasWritten false true before now m n gathered left text =
    AppendsPrefix before now (gathered ++ text) × HasFailed m n

-- the text was written to a sink, or a prefix of it if the sink has failed
abbrev pub IsPut : List ℕ → (failed : Bool) (before now : Option (List ℕ)) (m n : ℕ) → Type 0
IsPut text false before now m n = Appends before now text × (n ≡ m)
IsPut text true before now m n = AppendsPrefix before now text × HasFailed m n

-- the text was appended to these bytes, unless memory had run out before, or ran out then
abbrev pub HasKept : (failed fails : Bool) (before now text : List ℕ) → Type 0
HasKept failed fails before now text =
    fails ≡ false → (failed ≡ false) × (now ≡ before ++ text)
