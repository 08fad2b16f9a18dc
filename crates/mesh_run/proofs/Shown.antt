-- Texts that are left out where they aren't said.
use Rattle.std.proofs.Common.{◌≡◌, ℕ, Bool, true, false, List, [], ◌++◌, Option, refl, sym, ap, subst}
use Rattle.std.specs.Io.KnownBytes.{Appends, Keeps}
use Rattle.mesh_io.specs.Puts.{AppendsPrefix}
use Rattle.mesh_io.proofs.Writing.{Appends-join, Appends-none, Appends-kept, AppendsPrefix-join, AppendsPrefix-more}
use Rattle.mesh_grammar.specs.Written.{line}
use Rattle.mesh_run.specs.Runs.{output_if}

-- nothing is written of no text
pub shown_none : (say : Bool) (a : Option (List ℕ)) → Appends a a (output_if say [])
shown_none true a = Appends-none a
shown_none false a = Appends-none a

pub shown_kept : (say : Bool) (a b : Option (List ℕ)) → Keeps a b → Appends a b (output_if say [])
shown_kept true a b h = Appends-kept a b h
shown_kept false a b h = Appends-kept a b h

-- one text and then another
pub shown_join : (say : Bool) (a b c : Option (List ℕ)) (xs ys : List ℕ) → Appends a b (output_if say xs) → Appends b c (output_if say ys) → Appends a c (output_if say (xs ++ ys))
shown_join true a b c xs ys p q = Appends-join a b c xs ys (xs ++ ys) refl p q
shown_join false a b c xs ys p q = Appends-join a b c [] [] [] refl p q

-- a text and then a prefix of another
pub front_join : (say : Bool) (a b c : Option (List ℕ)) (xs ys : List ℕ) → Appends a b (output_if say xs) → AppendsPrefix b c (output_if say ys) → AppendsPrefix a c (output_if say (xs ++ ys))
front_join true a b c xs ys p q = AppendsPrefix-join a b c xs ys (xs ++ ys) refl p q
front_join false a b c xs ys p q = AppendsPrefix-join a b c [] [] [] refl p q

-- a prefix of a text is one of a longer text
pub front_more : (say : Bool) (a b : Option (List ℕ)) (xs ys : List ℕ) → AppendsPrefix a b (output_if say xs) → AppendsPrefix a b (output_if say (xs ++ ys))
front_more true a b xs ys p = AppendsPrefix-more a b xs ys (xs ++ ys) refl p
front_more false a b xs ys p = p

-- nothing is written of a text that isn't said
pub unsaid_none : (say : Bool) (text : List ℕ) (a : Option (List ℕ)) → say ≡ false → Appends a a (output_if say text)
unsaid_none say text a is = subst (λ q. Appends a a (output_if q text)) (sym is) (Appends-none a)

-- and all of one that is
pub loud_whole : (say : Bool) (text : List ℕ) (a b : Option (List ℕ)) → say ≡ true → Appends a b text → Appends a b (output_if say text)
loud_whole say text a b is p = subst (λ q. Appends a b (output_if q text)) (sym is) p

pub loud_front : (say : Bool) (text : List ℕ) (a b : Option (List ℕ)) → say ≡ true → AppendsPrefix a b text → AppendsPrefix a b (output_if say text)
loud_front say text a b is p = subst (λ q. AppendsPrefix a b (output_if q text)) (sym is) p

-- a line is what it is written back as, where it is written
pub echoed : (say : Bool) (bytes words : List ℕ) → (say ≡ true → bytes ≡ words) → output_if say (line bytes) ≡ output_if say (line words)
echoed true bytes words same = ap line (same refl)
echoed false bytes words same = refl
