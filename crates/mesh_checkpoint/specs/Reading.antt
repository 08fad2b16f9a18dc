-- What a reader answers.
use Rattle.std.specs.Prelude.{◌≡◌, ℕ, ◌+◌, ◌-◌, ◌^◌, ◌<◌, ◌≤◌, List, length, Option, Some, None}
use Rattle.mesh_checkpoint.specs.declared.body.Head.{Head}
use Rattle.mesh_checkpoint.specs.Formats.{Format}
use Rattle.mesh_checkpoint.specs.Checkpoint.{Body, body}
use Rattle.mesh_checkpoint.specs.Counts.{data_in}

-- what can be read of the bytes is what was found, as `view` has it; if nothing was found, nothing
-- can be read
abbrev pub Gives : {X Y : Type 0} → (X → Y) → Option X → Option Y → Type 0
Gives view (Some x) read = read ≡ Some (view x)
Gives view None read = read ≡ None

-- what can be read of the bytes is what `next` reads on from what was found; if nothing was found,
-- nothing can be read
abbrev pub GoesOn : {X Y : Type 0} → (X → Option Y) → Option X → Option Y → Type 0
GoesOn next (Some x) read = read ≡ next x
GoesOn next None read = read ≡ None

-- a value is at the start of the bytes, with this many data in it, and these bytes after it. It has
-- no more data than bytes
pub record IsPassed {A : Type 0} (format : Format A) (amount : A → ℕ) (bytes : List ℕ) (n : ℕ)
    (rest : List ℕ) : Type 0 where
  pub value : A
  pub read : format.get bytes ≡ Some (value, rest)
  pub count : amount value ≡ n
  pub few : n + length rest ≤ length bytes

-- a value is passed over without being kept: its data are counted, and the bytes after it are left
abbrev pub Passes : {A : Type 0} → Format A → (A → ℕ) → List ℕ → Option (ℕ × List ℕ) → Type 0
Passes format amount bytes (Some p) = IsPassed format amount bytes p.0 p.1
Passes format amount bytes None = format.get bytes ≡ None

-- as IsPassed, and the key of the value is k, which is below the greatest number of 64 bits
pub record IsKeyed {A : Type 0} (format : Format A) (key amount : A → ℕ) (bytes : List ℕ) (k n : ℕ)
    (rest : List ℕ) : Type 0 where
  pub passed : IsPassed format amount bytes n rest
  pub same : key passed.value ≡ k
  pub small : k < 2 ^ 64 - 1

abbrev pub PassesBy : {A : Type 0} → Format A → (key amount : A → ℕ) → List ℕ
    → Option (ℕ × ℕ × List ℕ) → Type 0
PassesBy format key amount bytes (Some p) = IsKeyed format key amount bytes p.0 p.1 p.2
PassesBy format key amount bytes None = format.get bytes ≡ None

-- a body is at the start of the bytes, with this head and this many data, and these bytes after it
pub record IsBodyPassed (bytes : List ℕ) (head : Head) (n : ℕ) (rest : List ℕ) : Type 0 where
  pub value : Body
  pub read : body.get bytes ≡ Some (value, rest)
  pub head_is : value.head ≡ head
  pub count : data_in value.world ≡ n
  pub few : n ≤ length bytes

abbrev pub PassesBody : List ℕ → Option (Head × ℕ × List ℕ) → Type 0
PassesBody bytes (Some p) = IsBodyPassed bytes p.0 p.1 p.2
PassesBody bytes None = body.get bytes ≡ None
