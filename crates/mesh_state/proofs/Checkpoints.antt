-- A checkpoint's first bytes and its length.
use Rattle.std.proofs.Common.{◌≡◌, ◌∙◌, ℕ, ◌+◌, List, ◌++◌, length, take, drop, inl, inr, ap, sym, arith, length-append}
use Rattle.std.proofs.Math.Seq.{take-append_seam, drop-append_seam}
use Rattle.mesh_checkpoint.specs.Checkpoint.{Body}
use Rattle.mesh_checkpoint.specs.State.{stated_size, HasLength, IsCheckpoint}
use Rattle.mesh_state.specs.CheckpointParts.{checkpoint_part_size, checkpoint_part_of, rest_of, IsOtherHead}
use Rattle.mesh_checkpoint.specs.Points.{body_of}
use Rattle.mesh_checkpoint.proofs.State.{magic_of, length_of}
use Rattle.mesh_state.specs.Laws.{CheckpointIsItsPart}
use Rattle.mesh_state.proofs.CheckpointParts.{size_with, stated_in}

-- another head is that of no checkpoint
pub other_head : (head : List ℕ) (x : Body) → IsOtherHead head → ¬ (IsCheckpoint head x)
other_head head x other is =
    elim other.other [
      | inl first ↦ first (magic_of head x is)
      | inr long ↦ let most = (length_of head x is).0 in absurd (omega arith)
    ]

-- ---- a checkpoint and what follows it

seam_size : (b rest : List ℕ) → HasLength b → checkpoint_part_size (b ++ rest) ≡ length b
seam_size b rest has =
    let most = has.0 in
    let whole = has.1 in
    let says : stated_size b ≡ stated_size (b ++ rest) = ap stated_size (sym (take-append_seam b rest)) ∙ stated_in (length b) (b ++ rest) (omega arith) in
    let both = length-append b rest in
    size_with (b ++ rest) (omega arith) (omega arith) (omega arith) ∙ omega arith

pub seam_checkpoint_part : (b rest : List ℕ) → HasLength b → checkpoint_part_of (b ++ rest) ≡ b
unfolding checkpoint_part_of
seam_checkpoint_part b rest has = ap (λ k. take k (b ++ rest)) (seam_size b rest has) ∙ take-append_seam b rest

pub seam_rest : (b rest : List ℕ) → HasLength b → rest_of (b ++ rest) ≡ rest
unfolding rest_of
seam_rest b rest has = ap (λ k. drop k (b ++ rest)) (seam_size b rest has) ∙ drop-append_seam b rest

pub checkpoint_is_its_part : CheckpointIsItsPart
checkpoint_is_its_part m saved rest is =
    let has = length_of saved (body_of m) is in
    (seam_checkpoint_part saved rest has, seam_rest saved rest has)
