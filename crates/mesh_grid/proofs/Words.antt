-- Words of a line about a place that are too many or too few.
use Rattle.std.proofs.Common.{◌≡◌, ℕ, ◌<◌, Bool, List, [], ◌∷◌, Err, length, refl, arith}
use Rattle.mesh_base.specs.Parts.{parts}
use Rattle.mesh_base.specs.Meshes.{Nodes}
use Rattle.mesh_base.proofs.Lemmas.Lists.{some_parts}
use Rattle.mesh_grammar.specs.declared.fault.LineFault.TheVariants.{Count}
use Rattle.mesh_grid.specs.Lines.{placing_at}

more : (mesh : Nodes) (first : Bool) (at : ℕ) (a x y : List ℕ) (ps : List (List ℕ)) → 0 < length ps
    → placing_at mesh first at (a ∷ x ∷ y ∷ ps) ≡ Err Count
more mesh first at a x y [] h = absurd (omega arith)
more mesh first at a x y (p ∷ ps) h = refl

-- a word too many
pub four_words : (mesh : Nodes) (first : Bool) (at : ℕ) (a x y rest : List ℕ)
    → placing_at mesh first at (a ∷ x ∷ y ∷ parts 32 rest) ≡ Err Count
four_words mesh first at a x y rest = more mesh first at a x y (parts 32 rest) (some_parts 32 rest)
