-- The entries of a map by rising number: the bytes of one, and how many there are.
use Rattle.std.proofs.Common.{◌≡◌, ℕ, ◌+◌, ◌≤◌, Bool, true, false, List, length, Option, Some, None, refl, sym, ap, ◌∙◌, arith, append-nil, length-append}
use Rattle.std.specs.Prelude.{is_some}
use Rattle.std.specs.Int.{from_bool}
use Rattle.std.specs.Ordering.{nat_cmp}
use Rattle.std.specs.List.{flat_map}
use Rattle.std.specs.FinMap as maps
use Rattle.std.specs.FinMap.{FinMap}
use Rattle.aodv_model.proofs.Listing.{at}
use Rattle.aodv_model.proofs.Keys.{below, below_more}
use Rattle.mesh_save.specs.Bytes.{bytes_if}

pub bytes_at : {X : Type 0} (f : ℕ × X → List ℕ) (d : ℕ) (o : Option X) → flat_map f (at d o) ≡ bytes_if (λ x. f (d, x)) o
bytes_at f d None = refl
bytes_at f d (Some x) = append-nil (f (d, x))

count_at : {X : Type 0} (d : ℕ) (o : Option X) → length (at d o) ≡ from_bool (is_some o)
count_at d None = refl
count_at d (Some x) = refl

pub at_most_one : (b : Bool) → from_bool b ≤ 1
at_most_one true = omega arith
at_most_one false = omega arith

pub count_more : {X : Type 0} (m : FinMap nat_cmp X) (d count one : ℕ) (b : Bool) → count ≡ length (below d m) → one ≡ from_bool b → b ≡ is_some (maps.get m d) → count + one ≡ length (below (d + 1) m)
count_more m d count one b so_far byte here =
    let more = ap length (below_more m d) ∙ length-append (below d m) (at d (maps.get m d)) in
    let last = byte ∙ ap from_bool here ∙ sym (count_at d (maps.get m d)) in
    omega (arith, more, last, so_far)
