-- Packets that are kept are short.
use Rattle.std.proofs.Common.{◌≡◌, ℕ, Bool, true, false, cond, [], ◌∷◌, Option, Some, subst}
use Rattle.std.specs.Prelude.{IfSome}
use Rattle.std.specs.Map.{lookup, remove_entry}
use Rattle.std.specs.Ordering.{nat_cmp, match_ordering}
use Rattle.std.specs.BTreeMap.{insert_entry}
use Rattle.std.specs.declared.cmp.Ordering.{Ordering}
use Rattle.std.specs.declared.cmp.Ordering.TheVariants.{Less, Equal, Greater}
use Rattle.mesh_capture.specs.declared.copies.FlyingCopy.{FlyingCopy}
use Rattle.mesh_capture.specs.Copies.{Flying}
use Rattle.mesh_capture.specs.Kept.{IsShortCopy, AreShort}

pub short_insert : (flying : Flying) (id : ℕ) (c : FlyingCopy) → AreShort flying → IsShortCopy c → AreShort (insert_entry nat_cmp flying id c)
short_insert [] id c all h = (h, tt)
short_insert (e ∷ es) id c all h = by_order (nat_cmp id e.0) (short_insert es id c all.1 h)
  where
    by_order : (o : Ordering) → AreShort (insert_entry nat_cmp es id c) → AreShort (match_ordering o ((id, c) ∷ e ∷ es) ((e.0, c) ∷ es) (e ∷ insert_entry nat_cmp es id c))
    by_order Less rest = (h, all)
    by_order Equal rest = (h, all.1)
    by_order Greater rest = (all.0, rest)

pub short_remove : (test : ℕ → Bool) (flying : Flying) → AreShort flying → AreShort (remove_entry test flying)
short_remove test [] all = tt
short_remove test (e ∷ es) all = by_test (test e.0) (short_remove test es all.1)
  where
    by_test : (b : Bool) → AreShort (remove_entry test es) → AreShort (cond b es (e ∷ remove_entry test es))
    by_test true rest = all.1
    by_test false rest = (all.0, rest)

pub short_lookup : (test : ℕ → Bool) (flying : Flying) → AreShort flying → IfSome (lookup test flying) IsShortCopy
short_lookup test [] all = tt
short_lookup test (e ∷ es) all = by_test (test e.0) (short_lookup test es all.1)
  where
    by_test : (b : Bool) → IfSome (lookup test es) IsShortCopy → IfSome (cond b (Some e.1) (lookup test es)) IsShortCopy
    by_test true rest = all.0
    by_test false rest = rest

pub short_found : (test : ℕ → Bool) (flying : Flying) (c : FlyingCopy) → AreShort flying → lookup test flying ≡ Some c → IsShortCopy c
short_found test flying c all found = subst (λ (o : Option FlyingCopy). IfSome o IsShortCopy) found (short_lookup test flying all)
