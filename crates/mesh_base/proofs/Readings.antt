-- What is read is in its range: numbers, addresses, and nodes of a mesh.
use Rattle.std.proofs.Common.{◌≡◌, ℕ, zero, suc, ◌+◌, ◌*◌, ◌^◌, ◌<◌, ◌≤◌, Bool, true, false, eqb, leb, ltb, cond, ◌&&◌, List, [], ◌∷◌, Option, Some, None, length, refl, arith, leb-true}
use Rattle.std.specs.List.{position_or_len}
use Rattle.std.specs.Str.{all_ascii_digits}
use Rattle.std.proofs.lemmas.Bool.{and_parts, ltb-true}
use Rattle.std.proofs.lemmas.Option.{option_and_then_some, cond_some}
use Rattle.mesh_base.specs.Numbers.{read_on, is_canonical, digits_up_to, number_up_to, positive}
use Rattle.mesh_base.specs.Parts.{parts}
use Rattle.mesh_base.specs.Addresses.{address_of, address_from}
use Rattle.mesh_base.specs.Meshes.{Nodes, index_of}

-- ---- numbers

digits_up_to-le : (most : ℕ) (ds : List ℕ) (n : ℕ) → digits_up_to most ds ≡ Some n → n ≤ most
unfolding digits_up_to
digits_up_to-le most ds n h =
    let c = cond_some (all_ascii_digits ds && leb (read_on 0 ds) most) (read_on 0 ds) n h in
    let within = leb-true (read_on 0 ds) most (and_parts (all_ascii_digits ds) (leb (read_on 0 ds) most) c.0).1 in
    let same = c.1 in
    omega arith

capped : (b : Bool) (most : ℕ) (o : Option ℕ) (n : ℕ) → (o ≡ Some n → n ≤ most) → cond b o None ≡ Some n → n ≤ most
capped true most o n le h = le h
capped false most o n le h = absurd (let P : ⊥ = cc in P)

pub number_up_to-le : (most : ℕ) (bytes : List ℕ) (n : ℕ) → number_up_to most bytes ≡ Some n → n ≤ most
unfolding number_up_to
number_up_to-le most bytes n h = capped (is_canonical bytes) most (digits_up_to most bytes) n (digits_up_to-le most bytes n) h

positive_range : (most : ℕ) (o : Option ℕ) (n : ℕ) → ((k : ℕ) → o ≡ Some k → k ≤ most) → positive o ≡ Some n → (1 ≤ n) × (n ≤ most)
positive_range most None n le h = absurd (let P : ⊥ = cc in P)
positive_range most (Some zero) n le h = absurd (let P : ⊥ = cc in P)
positive_range most (Some (suc k)) n le h =
    let same : suc k ≡ n = cc in
    let within : suc k ≤ most = le (suc k) refl in
    (omega arith, omega arith)

pub positive_in_range : (most : ℕ) (bytes : List ℕ) (n : ℕ) → positive (number_up_to most bytes) ≡ Some n → (1 ≤ n) × (n ≤ most)
positive_in_range most bytes n h = positive_range most (number_up_to most bytes) n (number_up_to-le most bytes) h

-- ---- addresses

four_fit : (a b c d : List ℕ) (n : ℕ) → address_from (a ∷ b ∷ c ∷ d ∷ []) ≡ Some n → n < 2 ^ 32
unfolding address_from
four_fit a b c d n h =
    option_and_then_some _ (number_up_to 255 a) n h (λ w w_is h1.
    option_and_then_some _ (number_up_to 255 b) n h1 (λ x x_is h2.
    option_and_then_some _ (number_up_to 255 c) n h2 (λ y y_is h3.
    option_and_then_some _ (number_up_to 255 d) n h3 (λ z z_is h4.
    let same : 16777216 * w + 65536 * x + 256 * y + z ≡ n = cc in
    let w_le = number_up_to-le 255 a w w_is in
    let x_le = number_up_to-le 255 b x x_is in
    let y_le = number_up_to-le 255 c y y_is in
    let z_le = number_up_to-le 255 d z z_is in
    omega arith))))

parts_fit : (ps : List (List ℕ)) (n : ℕ) → address_from ps ≡ Some n → n < 2 ^ 32
unfolding address_from
parts_fit [] n h = absurd (let P : ⊥ = cc in P)
parts_fit (a ∷ []) n h = absurd (let P : ⊥ = cc in P)
parts_fit (a ∷ b ∷ []) n h = absurd (let P : ⊥ = cc in P)
parts_fit (a ∷ b ∷ c ∷ []) n h = absurd (let P : ⊥ = cc in P)
parts_fit (a ∷ b ∷ c ∷ d ∷ []) n h = four_fit a b c d n h
parts_fit (a ∷ b ∷ c ∷ d ∷ e ∷ ps) n h = absurd (let P : ⊥ = cc in P)

pub address_fits : (bytes : List ℕ) (n : ℕ) → address_of bytes ≡ Some n → n < 2 ^ 32
unfolding address_of
address_fits bytes n h = parts_fit (parts 46 bytes) n h

-- ---- nodes

pub index_within : (mesh : Nodes) (a i : ℕ) → index_of mesh a ≡ Some i → i < length mesh
unfolding index_of
index_within mesh a i h =
    let index : ℕ = position_or_len (λ p. eqb p.0 a) mesh in
    let c = cond_some (ltb index (length mesh)) index i h in
    let lt = ltb-true index (length mesh) c.0 in
    let same = c.1 in
    omega arith
