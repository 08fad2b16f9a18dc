-- What a look-up in a list says.
use Rattle.std.proofs.Common.{◌≡◌, ℕ, List, length, Some, None, refl}
use Rattle.std.specs.Prelude.{slice_get}
use Rattle.std.specs.Slice.{IsItemAt}
use Rattle.std.proofs.lemmas.Option.{slice_get_read, slice_get_past}
use denote.Ref.{Bor}

pub got_some : {X : Type 0} (xs : List X) (i : ℕ) (r : Bor X) → IsItemAt xs i (Some r) → slice_get xs i ≡ Some r.now
got_some xs i r is = slice_get_read xs (length xs) i r.now refl (is.3).0 is.1

pub got_none : {X : Type 0} (xs : List X) (i : ℕ) → IsItemAt xs i None → slice_get xs i ≡ None
got_none xs i is = slice_get_past xs i is.3
