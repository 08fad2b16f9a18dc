-- A text for each item of a list, one after another.
use Rattle.std.proofs.Common.{◌≡◌, ◌<◌, ◌≤◌, ◌+◌, ℕ, List, ◌++◌, length, get_or, drop, Option, Result, subst, sym}
use Rattle.std.specs.List.{flat_map}
use Rattle.std.specs.Io.KnownBytes.{Appends}
use Rattle.std.proofs.lemmas.List.{at_drop_more, at_drop_all}
use Rattle.mesh_io.specs.Puts.{AppendsPrefix, Puts}
use Rattle.mesh_io.proofs.Writing.{Appends-none, AppendsPrefix-more, Puts-join}

-- the text of an item, and of those after it
each_next : (f : ℕ → List ℕ) (xs : List ℕ) (i : ℕ) → i < length xs → flat_map f (drop i xs) ≡ f (get_or xs i 0) ++ flat_map f (drop (i + 1) xs)
each_next f xs i lt = at_drop_more (flat_map f) xs i 0 lt

pub each-goes : {T E : Type 0} (f : ℕ → List ℕ) (xs : List ℕ) (i : ℕ) (a b c : Option (List ℕ)) (r : Result T E) → i < length xs
    → Appends a b (f (get_or xs i 0)) → Puts b c (flat_map f (drop (i + 1) xs)) r → Puts a c (flat_map f (drop i xs)) r
each-goes f xs i a b c r lt p q = Puts-join a b c (f (get_or xs i 0)) (flat_map f (drop (i + 1) xs)) (flat_map f (drop i xs)) r (each_next f xs i lt) p q

pub each-front : (f : ℕ → List ℕ) (xs : List ℕ) (i : ℕ) (a b : Option (List ℕ)) → i < length xs
    → AppendsPrefix a b (f (get_or xs i 0)) → AppendsPrefix a b (flat_map f (drop i xs))
each-front f xs i a b lt p = AppendsPrefix-more a b (f (get_or xs i 0)) (flat_map f (drop (i + 1) xs)) (flat_map f (drop i xs)) (each_next f xs i lt) p

pub each-ends : (f : ℕ → List ℕ) (xs : List ℕ) (i : ℕ) (a : Option (List ℕ)) → length xs ≤ i → Appends a a (flat_map f (drop i xs))
each-ends f xs i a le =
    let P : List ℕ → Type 0 = λ l. Appends a a l in
    subst P (sym (at_drop_all (flat_map f) xs i le)) (Appends-none a)
