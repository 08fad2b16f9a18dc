-- The words of a line `pass`.
use Rattle.std.proofs.Common.{◌≡◌, ℕ, ◌<◌, List, [], ◌∷◌, Err, length, refl, arith}
use Rattle.mesh_base.specs.Parts.{parts}
use Rattle.mesh_base.specs.Meshes.{Nodes}
use Rattle.mesh_base.proofs.Lemmas.Lists.{some_parts}
use Rattle.mesh_grammar.specs.declared.fault.LineFault.TheVariants.{Count}
use Rattle.mesh_channel.specs.Lines.{passing_at}

more : (mesh : Nodes) (at : ℕ) (a : List ℕ) (ps : List (List ℕ)) → 0 < length ps → passing_at mesh at (a ∷ ps) ≡ Err Count
more mesh at a [] h = absurd (omega arith)
more mesh at a (p ∷ ps) h = refl

-- a word too many
pub two_words : (mesh : Nodes) (at : ℕ) (a rest : List ℕ) → passing_at mesh at (a ∷ parts 32 rest) ≡ Err Count
two_words mesh at a rest = more mesh at a (parts 32 rest) (some_parts 32 rest)
