-- A mesh with one more node, whose address is above all others.
use Rattle.std.proofs.Common.{◌≡◌, ℕ, zero, suc, ◌+◌, ◌<◌, ◌≤◌, [], ◌∷◌, ◌++◌, length, true, false, None, refl, sym, ap, ◌∙◌, arith}
use Rattle.std.specs.Prelude.{Result, Ok, Err, ◌↔◌, OnOk, IsErrOf, IsSome, is_some}
use Rattle.std.specs.List.{AllByRecursion}
use Rattle.std.proofs.lemmas.List.Edits.{insert_end}
use Rattle.mesh_base.specs.declared.limits.TheConstants.{MOST_NODES}
use Rattle.mesh_base.specs.declared.mesh.MeshError.{MeshError}
use Rattle.mesh_base.specs.declared.mesh.MeshError.TheVariants as errors
use Rattle.mesh_base.specs.Meshes.{Nodes, IsMesh, addr_at, index_of, with_node}
use Rattle.mesh_base.proofs.MeshLaws.{IsIndexFor, index_of-absent, with_node-is}
use Rattle.mesh_restore.proofs.Listings.{all_weaker, all_push}

-- each address is below a number
abbrev pub AreAddressesBelow : ℕ → Nodes → Type 0
AreAddressesBelow low mesh = AllByRecursion (λ p. p.0 < low) mesh

address_below : (low : ℕ) (mesh : Nodes) → AreAddressesBelow low mesh → (i : ℕ) → i < length mesh → addr_at mesh i < low
address_below low [] below i lt = absurd (omega arith)
address_below low (p ∷ ps) below zero lt = below.0
address_below low (p ∷ ps) below (suc i) lt = address_below low ps below.1 i (omega (arith, lt))

at_end : (mesh : Nodes) (a : ℕ) → AreAddressesBelow a mesh → IsIndexFor mesh a (length mesh)
at_end mesh a below = record {
  within = omega arith;
  below = λ i lt. address_below a mesh below i lt;
  above = λ i up lt. absurd (omega (arith, up, lt));
}

new_last : (mesh : Nodes) (a first : ℕ) → AreAddressesBelow a mesh → with_node mesh a first ≡ mesh ++ (a, first) ∷ []
new_last mesh a first below = with_node-is mesh a first (length mesh) (at_end mesh a below) (λ lt. absurd (omega (arith, lt))) ∙ insert_end mesh (a, first)

is_new : (mesh : Nodes) (a : ℕ) → IsMesh mesh → AreAddressesBelow a mesh → index_of mesh a ≡ None
is_new mesh a is below = index_of-absent mesh a (length mesh) is (at_end mesh a below) (λ lt. absurd (omega (arith, lt)))

pub appended : (mesh after : Nodes) (a first : ℕ) (answer : Result (Unit {0}) MeshError) → IsMesh mesh → AreAddressesBelow a mesh → length mesh < MOST_NODES → OnOk answer (after ≡ with_node mesh a first) → (IsErrOf answer errors.Twice ↔ IsSome (index_of mesh a)) → (IsErrOf answer errors.TooMany ↔ ((index_of mesh a ≡ None) × (length mesh ≡ MOST_NODES)))
    → after ≡ mesh ++ (a, first) ∷ []
appended mesh after a first (Ok done) is below few added twice many = added ∙ new_last mesh a first below
appended mesh after a first (Err errors.Twice) is below few added twice many = absurd (never (sym (ap is_some (is_new mesh a is below)) ∙ twice.0 refl))
  where
    never : false ≡ true → ⊥
    never h = cc
appended mesh after a first (Err errors.TooMany) is below few added twice many = absurd (omega (arith, few, (many.0 refl).1))

pub addresses_rise : (mesh : Nodes) (low a first above : ℕ) → AreAddressesBelow low mesh → low ≤ a → above ≡ a + 1 → AreAddressesBelow above (mesh ++ (a, first) ∷ [])
addresses_rise mesh low a first above below up next = all_push (λ p. p.0 < above) mesh (a, first) (all_weaker (λ p. p.0 < low) (λ p. p.0 < above) (λ p lt. omega (arith, lt, up, next)) mesh below) (omega (arith, next))

pub addresses_before : (mesh : Nodes) (low a : ℕ) → AreAddressesBelow low mesh → low ≤ a → AreAddressesBelow a mesh
addresses_before mesh low a below up = all_weaker (λ p. p.0 < low) (λ p. p.0 < a) (λ p lt. omega (arith, lt, up)) mesh below
