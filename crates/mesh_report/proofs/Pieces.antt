-- A text that is put piece after piece. Each name has how many pieces the text has; a name with
-- `at` also has the piece whose call failed, and a prefix of the text was put then.
use Rattle.std.proofs.Common.{◌≡◌, ℕ, List, ◌++◌, Option, Result, refl}
use Rattle.std.specs.Result.{IsErr}
use Rattle.std.specs.Io.KnownBytes.{Appends}
use Rattle.mesh_io.specs.Puts.{AppendsPrefix, Puts}
use Rattle.mesh_io.proofs.Writing.{Appends-join, AppendsPrefix-join, AppendsPrefix-more, Puts-fault, Puts-join}

-- ---- two pieces

pub two : {T E : Type 0} (a b c : Option (List ℕ)) (x y text : List ℕ) (r : Result T E)
    → Appends a b x → Puts b c y r → text ≡ x ++ y → Puts a c text r
two a b c x y text r p q is = Puts-join a b c x y text r is p q

pub two-at-1 : {T E : Type 0} (a b : Option (List ℕ)) (x y text : List ℕ) (r : Result T E)
    → IsErr r → AppendsPrefix a b x → text ≡ x ++ y → Puts a b text r
two-at-1 a b x y text r err p is = Puts-fault a b text r err (AppendsPrefix-more a b x y text is p)

pub two-at-2 : {T E : Type 0} (a b c : Option (List ℕ)) (x y text : List ℕ) (r : Result T E)
    → IsErr r → Appends a b x → AppendsPrefix b c y → text ≡ x ++ y → Puts a c text r
two-at-2 a b c x y text r err p q is = Puts-fault a c text r err (AppendsPrefix-join a b c x y text is p q)

-- ---- three pieces

pub three : {T E : Type 0} (a b c d : Option (List ℕ)) (x y z text : List ℕ) (r : Result T E)
    → Appends a b x → Appends b c y → Puts c d z r → text ≡ (x ++ y) ++ z → Puts a d text r
three a b c d x y z text r p q s is = Puts-join a c d (x ++ y) z text r is (Appends-join a b c x y (x ++ y) refl p q) s

pub three-at-1 : {T E : Type 0} (a b : Option (List ℕ)) (x y z text : List ℕ) (r : Result T E)
    → IsErr r → AppendsPrefix a b x → text ≡ (x ++ y) ++ z → Puts a b text r
three-at-1 a b x y z text r err p is = two-at-1 a b (x ++ y) z text r err (AppendsPrefix-more a b x y (x ++ y) refl p) is

pub three-at-2 : {T E : Type 0} (a b c : Option (List ℕ)) (x y z text : List ℕ) (r : Result T E)
    → IsErr r → Appends a b x → AppendsPrefix b c y → text ≡ (x ++ y) ++ z → Puts a c text r
three-at-2 a b c x y z text r err p q is = two-at-1 a c (x ++ y) z text r err (AppendsPrefix-join a b c x y (x ++ y) refl p q) is

pub three-at-3 : {T E : Type 0} (a b c d : Option (List ℕ)) (x y z text : List ℕ) (r : Result T E)
    → IsErr r → Appends a b x → Appends b c y → AppendsPrefix c d z → text ≡ (x ++ y) ++ z → Puts a d text r
three-at-3 a b c d x y z text r err p q s is = two-at-2 a c d (x ++ y) z text r err (Appends-join a b c x y (x ++ y) refl p q) s is

-- ---- four pieces

pub four : {T E : Type 0} (a b c d e : Option (List ℕ)) (w x y z text : List ℕ) (r : Result T E)
    → Appends a b w → Appends b c x → Appends c d y → Puts d e z r → text ≡ ((w ++ x) ++ y) ++ z → Puts a e text r
four a b c d e w x y z text r p q s t is = three a c d e (w ++ x) y z text r (Appends-join a b c w x (w ++ x) refl p q) s t is

pub four-at-1 : {T E : Type 0} (a b : Option (List ℕ)) (w x y z text : List ℕ) (r : Result T E)
    → IsErr r → AppendsPrefix a b w → text ≡ ((w ++ x) ++ y) ++ z → Puts a b text r
four-at-1 a b w x y z text r err p is = three-at-1 a b (w ++ x) y z text r err (AppendsPrefix-more a b w x (w ++ x) refl p) is

pub four-at-2 : {T E : Type 0} (a b c : Option (List ℕ)) (w x y z text : List ℕ) (r : Result T E)
    → IsErr r → Appends a b w → AppendsPrefix b c x → text ≡ ((w ++ x) ++ y) ++ z → Puts a c text r
four-at-2 a b c w x y z text r err p q is = three-at-1 a c (w ++ x) y z text r err (AppendsPrefix-join a b c w x (w ++ x) refl p q) is

pub four-at-3 : {T E : Type 0} (a b c d : Option (List ℕ)) (w x y z text : List ℕ) (r : Result T E)
    → IsErr r → Appends a b w → Appends b c x → AppendsPrefix c d y → text ≡ ((w ++ x) ++ y) ++ z → Puts a d text r
four-at-3 a b c d w x y z text r err p q s is = three-at-2 a c d (w ++ x) y z text r err (Appends-join a b c w x (w ++ x) refl p q) s is
