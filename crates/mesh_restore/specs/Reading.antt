-- What a reader answers that asks for memory.
use Rattle.std.specs.Prelude.{◌≡◌, ℕ, List, nat_le, Option, Some, None, Result, Ok, Err, ⊤}
use Rattle.mesh_checkpoint.specs.Formats.{◌>>=◌, only_if}
use Rattle.mesh_restore.specs.declared.error.ReadError.{ReadError}
use Rattle.mesh_restore.specs.declared.error.ReadError.TheVariants.{Spelling, NoMemory}

-- if the spelling is refused, nothing can be read; memory may run out at any time
abbrev pub Refuses : {Y : Type 0} → ReadError → Option Y → Type 0
Refuses Spelling read = read ≡ None
Refuses NoMemory read = ⊤

-- the value at the start of the bytes, if its key is at least `low`
abbrev pub get_from : {A : Type 0} → (A → ℕ) → (List ℕ → Option (A × List ℕ)) → ℕ → List ℕ
    → Option (A × List ℕ)
get_from key get low bytes = get bytes >>= λ x. only_if (nat_le low (key x.0)) x

-- what can be read of the bytes is what was found, as `view` has it, unless the reader refuses
abbrev pub Reads : {X Y : Type 0} → (X → Y) → Result X ReadError → Option Y → Type 0
Reads view (Ok x) read = read ≡ Some (view x)
Reads view (Err e) read = Refuses e read
